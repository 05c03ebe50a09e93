-- From what was looked at and written to the outcome of an operation in each world behind the view.
use Rattle.std.proofs.Common.{◌≡◌, ℕ, List, [], ◌∷◌, refl, sym, ap, subst, ◌∙◌, Some, None, Option, Result, Ok, Err, length, arith}
use Rattle.std.specs.Prelude.{IsErr, IsErrAnd, IsTrue, ◌≤◌, Bool, slice_set, get_or}
use Rattle.std.specs.Option.{option_map_or, option_and_then}
use Rattle.ident_rules.specs.declared.key.Key.{Key}
use Rattle.resource_schema.specs.declared.schema.Schema.{Schema}
use Rattle.resource_schema.specs.Kinds.{relationships_of}
use Rattle.world_cells.specs.declared.rows.Row.{Row}
use Rattle.world_cells.specs.declared.keys.CellKey.{CellKey}
use Rattle.world_cells.specs.declared.sets.ReadSet.{ReadSet}
use Rattle.world_cells.specs.declared.sets.Written.{Written}
use Rattle.world_cells.specs.declared.rows.Link.{Link}
use Rattle.task_forms.specs.declared.operations.Member.{Member}
use Rattle.world_cells.specs.World.{World, cell_at, row_at, no_link}
use Rattle.world_cells.specs.Reads.{Cells, Leads, covers}
use Rattle.error_objects.specs.declared.refusals.Refusal.{Refusal}
use Rattle.error_objects.specs.declared.refusals.Read.TheVariants as read
use Rattle.task_forms.specs.declared.operations.Operation.{Operation}
use Rattle.task_forms.specs.declared.operations.Who.{Who}
use Rattle.store_model.specs.Valid.{IsValid, IsLinkOf}
use Rattle.store_model.specs.Change.{Lids, Changed, apply, refused, done, outcome, on_row, named_row, key_of, with_row, first_of, refuse_links, set_links, link_of, append_new, member_ids}
use Rattle.store_model.specs.Reach.{reach_operation}
use Rattle.view_reads.specs.Recording.{Recording, Follows}
use Rattle.ident_rules.specs.declared.step_errors.StepError.{StepError}
use Rattle.ident_rules.specs.declared.step_errors.StepError.TheVariants.{Because, NoMemory}
use Rattle.row_change.specs.Trial.{IsOutcome, TellsChange, read_of, ReadsInReach}
use Rattle.trial_steps.specs.Steps.{StandsBehind}
use Rattle.trial_steps.specs.Steps.{LooksAt, Sees, RefusesOr, LeavesReads, LeadsOn}
use Rattle.row_change.specs.Rewrites.{IsRewrite}
use Rattle.std.proofs.lemmas.Slice.Zip.{AllZip-long}
use Rattle.std.proofs.lemmas.List.{length-set}
use Rattle.row_change.proofs.Judging.{err_passed}

-- ---- without a value

-- want of memory is always an answer
memory_outcome : {V : Type 0} (schema : Schema) (at : List ℕ) (o : Result Changed Refusal) (lids : Lids) (w : World) (after : Recording V) → IsOutcome schema at o read.NoMemory lids w after
memory_outcome schema at (Ok changed) lids w after = tt
memory_outcome schema at (Err r) lids w after = tt

stop_outcome : {T V : Type 0} (schema : Schema) (at : List ℕ) (expected : Option Refusal) (changed : Changed) (P : T → Type 0) (stop : StepError Refusal) (lids : Lids) (w : World) (after : Recording V)
    → RefusesOr at expected P (Err stop) → IsOutcome schema at (outcome expected changed) (read_of (Err stop)) lids w after
stop_outcome schema at expected changed P (Because r) lids w after told =
    subst (λ (e : Option Refusal). IsOutcome schema at (outcome e changed) (read.Refused r) lids w after) (sym told.1) told.2
stop_outcome schema at expected changed P NoMemory lids w after told = memory_outcome schema at (outcome expected changed) lids w after

-- the result of an operation that was not done
pub stopped : {T V : Type 0} (schema : Schema) (cells : V → Cells) (at : List ℕ) (operation : Operation) (old_lids new_lids : Lids) (a b : Recording V) (P : World → T → Type 0) (stop : StepError Refusal) (r : Result (Option Key) (StepError Refusal))
    → IsErr r → IsErrAnd r (λ e. e ≡ stop)
    → Sees schema cells a b (λ now. RefusesOr at (refused schema now old_lids operation) (P now) (Err stop))
    → TellsChange schema cells at operation old_lids new_lids a b (read_of r)
stopped schema cells at operation old_lids new_lids a b P stop r is passed sees = λ w now behind leads.
    subst (λ (x : Result (Option Key) (StepError Refusal)). IsOutcome schema at (apply schema now operation old_lids) (read_of x) new_lids w b) (sym (err_passed r stop is passed))
    (stop_outcome schema at (refused schema now old_lids operation) (done schema now old_lids operation) (P now) stop new_lids w b (sees w now behind leads))

pub out_of_memory : {V : Type 0} (schema : Schema) (cells : V → Cells) (at : List ℕ) (operation : Operation) (old_lids new_lids : Lids) (a b : Recording V) (stop : StepError Refusal) (r : Result (Option Key) (StepError Refusal))
    → stop ≡ NoMemory → IsErr r → IsErrAnd r (λ e. e ≡ stop) → TellsChange schema cells at operation old_lids new_lids a b (read_of r)
out_of_memory schema cells at operation old_lids new_lids a b stop r none is passed = λ w now behind leads.
    subst (λ (x : Result (Option Key) (StepError Refusal)). IsOutcome schema at (apply schema now operation old_lids) (read_of x) new_lids w b) (sym (err_passed r stop is passed ∙ ap Err none))
    (memory_outcome schema at (apply schema now operation old_lids) new_lids w b)

-- ---- reads

pub follows_written : {V : Type 0} (a b c : Recording V) → Follows a b → LeavesReads b c → Follows a c
follows_written a b c f leaves = record {
  store = leaves.store ∙ f.store;
  reads = λ k e. subst (λ (reads : ReadSet). IsTrue (covers reads k)) (sym leaves.reads) (f.reads k e);
}

pub in_reach : {V : Type 0} (schema : Schema) (cells : V → Cells) (operation : Operation) (lids : Lids) (test : CellKey → Bool) (a b : Recording V)
    → ((now : World) (k : CellKey) → IsTrue (test k) → IsTrue (reach_operation now lids operation k)) → LooksAt test a b → ReadsInReach schema cells operation lids a b
in_reach schema cells operation lids test a b within looks = λ w now valid same now_valid leads k new old. within now k (looks.within k new old)

pub in_reach_written : {V : Type 0} (schema : Schema) (cells : V → Cells) (operation : Operation) (lids : Lids) (a b c : Recording V)
    → LeavesReads b c → ReadsInReach schema cells operation lids a b → ReadsInReach schema cells operation lids a c
in_reach_written schema cells operation lids a b c leaves within = λ w now valid same now_valid leads k new old.
    within w now valid same now_valid leads k (subst (λ (reads : ReadSet). IsTrue (covers reads k)) leaves.reads new) old

-- ---- a row that is rewritten

-- the row of a name stands at its own key, and has a link for each relationship
pub record IsNamedRow (schema : Schema) (now : World) (lids : Lids) (who : Who) (row : Row) : Type 0 where
  pub key : key_of lids who.named ≡ Some row.key
  pub there : row_at now row.key ≡ Some row
  pub links : length row.links ≡ length (relationships_of schema row.key.kind)

pub named_rows : (schema : Schema) (now : World) (lids : Lids) (who : Who) (row : Row) → IsValid schema now → named_row now lids who ≡ Some row → IsNamedRow schema now lids who row
named_rows schema now lids who row valid is = by (key_of lids who.named) refl is
  where
    at_key : (key : Key) → key_of lids who.named ≡ Some key → row_at now key ≡ Some row → IsNamedRow schema now lids who row
    at_key key named there =
        let v = valid.rows key row there in
        record {
          key = named ∙ ap Some (sym v.own_key);
          there = ap (row_at now) v.own_key ∙ there;
          links = AllZip-long IsLinkOf (relationships_of schema key.kind) row.links v.links ∙ ap (λ (q : Key). length (relationships_of schema q.kind)) (sym v.own_key);
        }

    by : (o : Option Key) → key_of lids who.named ≡ o → option_and_then (row_at now) o ≡ Some row → IsNamedRow schema now lids who row
    by None named e = cc e
    by (Some key) named e = at_key key named e

-- an operation that changes one row is done
pub rewritten_outcome : {V : Type 0} (schema : Schema) (at : List ℕ) (operation : Operation) (lids : Lids) (who : Who) (change : Row → Row) (key : Option Key) (old new : Row) (w now : World) (after : Recording V)
    → refused schema now lids operation ≡ None
    → (done schema now lids operation).world ≡ on_row now lids who change → (done schema now lids operation).lids ≡ lids → (done schema now lids operation).key ≡ key
    → IsRewrite now lids who change old new
    → Leads (cell_at schema w) after.writes (cell_at schema (with_row now new))
    → IsOutcome schema at (apply schema now operation lids) (read.Good key) lids w after
rewritten_outcome {V} schema at operation lids who change key old new w now after none world same_lids same_key rewrite leads =
    let is : (done schema now lids operation).world ≡ with_row now new =
    world ∙ ap (λ o. option_map_or (λ row. with_row now (change row)) o now) rewrite.named ∙ ap (with_row now) (sym rewrite.changed) in
    subst (λ (e : Option Refusal). IsOutcome schema at (outcome e (done schema now lids operation)) (read.Good key) lids w after) (sym none)
    (sym same_key, sym same_lids, subst (λ (x : World). Leads (cell_at schema w) after.writes (cell_at schema x)) (sym is) leads)

-- one that changed a row, and wrote it
pub rewritten : {V : Type 0} (schema : Schema) (cells : V → Cells) (at : List ℕ) (operation : Operation) (lids : Lids) (who : Who) (change : Row → Row) (key : Option Key) (old new : Row) (test : CellKey → Bool) (a b c : Recording V)
    → ((now : World) → (done schema now lids operation).world ≡ on_row now lids who change) → ((now : World) → (done schema now lids operation).lids ≡ lids)
    → ((now : World) → IsNamedRow schema now lids who old → new.key ≡ old.key → (done schema now lids operation).key ≡ key)
    → ((row : Row) → (change row).key ≡ row.key) → ((row : Row) → length (change row).links ≡ length row.links)
    → LooksAt test a b → Sees schema cells a b (λ now. (refused schema now lids operation ≡ None) × IsRewrite now lids who change old new)
    → LeavesReads b c
    → LeadsOn schema (λ now. (row_at now new.key ≡ Some old) × (length new.links ≤ length (relationships_of schema new.key.kind))) (λ now. with_row now new) b.writes c.writes
    → TellsChange schema cells at operation lids lids a c (read.Good key)
rewritten {V} schema cells at operation lids who change key old new test a b c world same_lids same_key keeps_key keeps_links looks sees leaves leads_on = λ w now behind leads.
    let behind_b : StandsBehind schema (cells a.store) b.reads w now = subst (λ (reads : ReadSet). StandsBehind schema (cells a.store) reads w now) leaves.reads behind in
    let seen = sees w now behind_b leads in
    let named : IsNamedRow schema now lids who old = named_rows schema now lids who old behind.now_valid (seen.1).named in
    let own : new.key ≡ old.key = ap (λ (r : Row). r.key) (seen.1).changed ∙ keeps_key old in
    let count : length new.links ≡ length (relationships_of schema new.key.kind) =
    ap (λ (r : Row). length r.links) (seen.1).changed ∙ keeps_links old ∙ named.links ∙ ap (λ (q : Key). length (relationships_of schema q.kind)) (sym own) in
    let leads_b : Leads (cell_at schema w) b.writes (cell_at schema now) = subst (λ (ws : List Written). Leads (cell_at schema w) ws (cell_at schema now)) (sym looks.writes) leads in
    rewritten_outcome schema at operation lids who change key old new w now c seen.0 (world now) (same_lids now) (same_key now named own) seen.1
    (leads_on w now behind.now_valid (ap (row_at now) own ∙ named.there, at_most _ _ count) leads_b)
  where
    at_most : (n m : ℕ) → n ≡ m → n ≤ m
    at_most n m e = omega arith

-- ---- the first refusal

pub first_told : (o : Option Refusal) (rest : List (Option Refusal)) (r : Refusal) → o ≡ Some r → first_of (o ∷ rest) ≡ Some r
first_told o rest r is = ap (λ x. first_of (x ∷ rest)) is

pub then_told : (o : Option Refusal) (rest : List (Option Refusal)) (p : Option Refusal) → o ≡ None → first_of rest ≡ p → first_of (o ∷ rest) ≡ p
then_told o rest p none is = ap (λ x. first_of (x ∷ rest)) none ∙ is

pub first_alone : (o : Option Refusal) → first_of (o ∷ []) ≡ o
first_alone None = refl
first_alone (Some r) = refl

-- ---- links

-- the links that are read, by what was passed
pub judged_links : (schema : Schema) (at : List ℕ) (lids : Lids) (there : Key → Bool) (kind kind' : ℕ) (given given' : List (ℕ × List Member)) (old old' : List Link) (result : Result (List Link) (StepError Refusal))
    → kind ≡ kind' → given ≡ given' → old ≡ old'
    → RefusesOr at (refuse_links there lids (relationships_of schema kind) given) (λ new. new ≡ set_links lids old given) result
    → RefusesOr at (refuse_links there lids (relationships_of schema kind') given') (λ new. new ≡ set_links lids old' given') result
judged_links schema at lids there kind kind' given given' old old' result same_kind same_given same_old told =
    subst (λ (o : List Link). RefusesOr at (refuse_links there lids (relationships_of schema kind') given') (λ new. new ≡ set_links lids o given') result) same_old
    (subst (λ (g : List (ℕ × List Member)). RefusesOr at (refuse_links there lids (relationships_of schema kind') g) (λ new. new ≡ set_links lids old g) result) same_given
    (subst (λ (k : ℕ). RefusesOr at (refuse_links there lids (relationships_of schema k) given) (λ new. new ≡ set_links lids old given) result) same_kind told))

-- as many as before
pub set_links_length : (lids : Lids) (old : List Link) (links : List (ℕ × List Member)) → length (set_links lids old links) ≡ length old
set_links_length lids old [] = refl
set_links_length lids old (l ∷ links) = set_links_length lids (slice_set old l.0 (link_of (get_or old l.0 no_link) (append_new [] (member_ids lids l.1)))) links ∙ length-set old l.0 _
