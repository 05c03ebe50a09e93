-- From what was judged to the outcome of an operation, and from what was looked at to its reach.
use Rattle.std.proofs.Common.{◌≡◌, ℕ, ◌≤◌, List, [], ◌∷◌, Bool, true, false, refl, sym, ap, subst, ◌∙◌, Option, Some, None, Result, Ok, Err, length, rules}
use Rattle.std.specs.Prelude.{IsTrue, ◌+◌, is_some, if◌then◌else◌, slice_set, get_or, codes}
use Rattle.std.proofs.lemmas.List.{length-map}
use Rattle.std.proofs.lemmas.Bool.{or_left, or_right}
use Rattle.ident_rules.specs.declared.key.Key.{Key}
use Rattle.resource_schema.specs.declared.schema.Schema.{Schema}
use Rattle.resource_schema.specs.declared.kinds.Relationship.{Relationship}
use Rattle.resource_schema.specs.declared.values.AttrValue.{AttrValue}
use Rattle.resource_schema.specs.Kinds.{relationships_of}
use Rattle.world_cells.specs.declared.keys.CellKey.{CellKey}
use Rattle.world_cells.specs.declared.rows.Row.{Row}
use Rattle.world_cells.specs.declared.rows.Link.{Link}
use Rattle.world_cells.specs.declared.sets.Written.{Written}
use Rattle.world_cells.specs.Reads.{Cells, covers, Leads}
use Rattle.world_cells.specs.World.{World, cell_at, row_at, next_id, no_link}
use Rattle.task_forms.specs.declared.operations.Member.{Member}
use Rattle.task_forms.specs.declared.operations.Operation.{Operation}
use Rattle.task_forms.specs.declared.operations.Operation.TheVariants.{Create}
use Rattle.error_objects.specs.declared.codes.Code.TheVariants as code
use Rattle.error_objects.specs.declared.refusals.Refusal.{Refusal}
use Rattle.error_objects.specs.declared.refusals.Read.TheVariants as read
use Rattle.error_objects.specs.Refusals.{at_pointer}
use Rattle.store_model.specs.Valid.{IsValid}
use Rattle.store_model.specs.Change.{Lids, Changed, first_of, refused, done, outcome, apply, is_bound, bind, created_id, created_key, refuse_links, set_links, empty_links, with_row, with_next, link_of, append_new, member_ids}
use Rattle.store_model.specs.Run.{refusal_under}
use Rattle.store_model.specs.Reach.{is_row_in, linked_keys, reach_operation}
use Rattle.view_reads.specs.Recording.{Recording}
use Rattle.ident_rules.specs.declared.step_errors.StepError.{StepError}
use Rattle.ident_rules.specs.declared.step_errors.StepError.TheVariants.{Because, NoMemory}
use Rattle.row_change.specs.declared.places.MayLinkTo.TheVariants as there
use Rattle.row_change.specs.Trial.{IsOutcome, read_of, ReadsInReach}
use Rattle.trial_steps.specs.Steps.{StandsBehind}
use Rattle.trial_steps.specs.Steps.{LooksAt, Sees, RefusesOr, LeadsOn}
use Rattle.row_change.specs.Places.{may_link}
use Rattle.row_change.specs.Creating.{refuse_id, is_looked_for, next_after, with_counter}
use Rattle.trial_steps.specs.StepLaws.{row_in_left, row_in_right}
use Rattle.row_change.proofs.NewIds.{new_free}

-- ---- any operation

-- want of memory is an answer to each
pub no_memory : {V : Type 0} (schema : Schema) (at : List ℕ) (o : Result Changed Refusal) (lids : Lids) (w : World) (after : Recording V) → IsOutcome schema at o read.NoMemory lids w after
no_memory schema at (Ok changed) lids w after = tt
no_memory schema at (Err refusal) lids w after = tt

-- the refusal of the operation, seen from the request
pub told_refusal : {V : Type 0} (schema : Schema) (at : List ℕ) (operation : Operation) (lids new : Lids) (w now : World) (after : Recording V) (e r : Refusal)
    → refused schema now lids operation ≡ Some e → r ≡ refusal_under at e → IsOutcome schema at (apply schema now operation lids) (read.Refused r) new w after
told_refusal schema at operation lids new w now after e r is said =
    subst (λ (o : Option Refusal). IsOutcome schema at (outcome o (done schema now lids operation)) (read.Refused r) new w after) (sym is) said

-- a step without a value, whose refusal is that of the operation
pub told_stop : {V T : Type 0} (schema : Schema) (at : List ℕ) (operation : Operation) (lids new : Lids) (w now : World) (after : Recording V) (mine : Option Refusal) (P : T → Type 0) (stop : StepError Refusal)
    → ((e : Refusal) → mine ≡ Some e → refused schema now lids operation ≡ Some e) → RefusesOr at mine P (Err stop)
    → IsOutcome schema at (apply schema now operation lids) (read_of {T = Option Key} (Err stop)) new w after
told_stop schema at operation lids new w now after mine P (Because r) so told = told_refusal schema at operation lids new w now after told.0 r (so told.0 told.1) told.2
told_stop schema at operation lids new w now after mine P NoMemory so told = no_memory schema at (apply schema now operation lids) new w after

-- nothing new was read
pub reads_nothing : {V : Type 0} (schema : Schema) (cells : V → Cells) (operation : Operation) (lids : Lids) (a z : Recording V) → z.reads ≡ a.reads → ReadsInReach schema cells operation lids a z
reads_nothing schema cells operation lids a z is w now valid same now_valid leads k new old = cc (ap (λ r. covers r k) is, new, old)

-- ---- a create: its refusals, in order

three : (b c d : Option Refusal) → first_of (b ∷ c ∷ d ∷ []) ≡ first_of (first_of (b ∷ c ∷ []) ∷ d ∷ [])
three (Some b) c d = refl
three None (Some c) d = refl
three None None d = refl

last_one : (d : Option Refusal) → first_of (d ∷ []) ≡ d
last_one None = refl
last_one (Some d) = refl

module _ (schema : Schema) (now : World) (lids : Lids) (kind : ℕ) (id lid : Option (List ℕ)) (values : List AttrValue) (links : List (ℕ × List Member)) where
  -- the linkages, where the id of the new row is x
  abbrev links_refused : List ℕ → Lids → Option Refusal
  links_refused x bound = refuse_links (may_link (there.AtRowOr (record { kind = kind; id = x })) now) bound (relationships_of schema kind) links

  pub refused_lid : is_bound lids kind lid ≡ true → refused schema now lids (Create kind id lid values links) ≡ Some (at_pointer code.LidBound (codes "/data/lid"))
  refused_lid is = rw is refl

  after_lid : is_bound lids kind lid ≡ false
      → refused schema now lids (Create kind id lid values links) ≡ first_of (refuse_id now kind id ∷ links_refused (created_id now kind id) (bind lids kind lid (created_id now kind id)) ∷ [])
  after_lid is = rw is (three _ _ _)

  pub refused_id : is_bound lids kind lid ≡ false → (e : Refusal) → refuse_id now kind id ≡ Some e → refused schema now lids (Create kind id lid values links) ≡ Some e
  refused_id is e told = after_lid is ∙ ap (λ o. first_of (o ∷ links_refused (created_id now kind id) (bind lids kind lid (created_id now kind id)) ∷ [])) told

  pub by_links : (x : List ℕ) (bound : Lids) → is_bound lids kind lid ≡ false → refuse_id now kind id ≡ None → x ≡ created_id now kind id → bound ≡ bind lids kind lid x
      → refused schema now lids (Create kind id lid values links) ≡ refuse_links (may_link (there.AtRowOr (record { kind = kind; id = x })) now) bound (relationships_of schema kind) links
  by_links x bound is none x_is bound_is =
      after_lid is
      ∙ ap (λ o. first_of (o ∷ links_refused (created_id now kind id) (bind lids kind lid (created_id now kind id)) ∷ [])) none
      ∙ last_one (links_refused (created_id now kind id) (bind lids kind lid (created_id now kind id)))
      ∙ ap (λ y. links_refused y (bind lids kind lid y)) (sym x_is)
      ∙ ap (links_refused x) (sym bound_is)

-- ---- a create: its world

set_links_length : (lids : Lids) (old : List Link) (links : List (ℕ × List Member)) → length (set_links lids old links) ≡ length old
set_links_length lids old [] = refl
set_links_length lids old (l ∷ links) =
    set_links_length lids (slice_set old l.0 (link_of (get_or old l.0 no_link) (append_new [] (member_ids lids l.1)))) links
    ∙ search rules

empty_links_length : (rels : List Relationship) → length (empty_links rels) ≡ length rels
empty_links_length rels = length-map rels _

links_fit : (lids : Lids) (rels : List Relationship) (links : List (ℕ × List Member)) (n : ℕ) → length rels ≡ n → length (set_links lids (empty_links rels) links) ≤ n
links_fit lids rels links n is = subst (λ (m : ℕ). m ≤ n) (sym (set_links_length lids (empty_links rels) links ∙ empty_links_length rels ∙ is)) (at_most n)
  where
    at_most : (m : ℕ) → m ≤ m
    at_most m = search rules

same_world : (now : World) (kind : ℕ) (id : Option (List ℕ)) (row : Row)
    → with_counter (with_row now row) kind (next_after now kind id) ≡ with_row (if is_some id then now else with_next now kind (next_id now kind + 1)) row
same_world now kind None row = refl
same_world now kind (Some x) row = refl

-- a new row with this id
abbrev pub row_of_id : List Relationship → ℕ → List AttrValue → List (ℕ × List Member) → List ℕ → Lids → Row
row_of_id rels kind values links x bound = record { key = record { kind = kind; id = x }; values = values; links = set_links bound (empty_links rels) links }

-- writes that put a new row, and with it the next id
abbrev pub Puts : Schema → Option ℕ → Row → List Written → List Written → Type 0
Puts schema next row before after =
    LeadsOn schema (λ now. (row_at now row.key ≡ None) × (length row.links ≤ length (relationships_of schema row.key.kind))) (λ now. with_counter (with_row now row) row.key.kind next) before after

module _ {V : Type 0} (schema : Schema) (at : List ℕ) (lids : Lids) (kind : ℕ) (id lid : Option (List ℕ)) (values : List AttrValue) (links : List (ℕ × List Member)) (w now : World) where
  pub told_created : (before : List Written) (after : Recording V) (x : List ℕ) (next : Option ℕ) (bound : Lids) (row : Row)
      → IsValid schema now → is_bound lids kind lid ≡ false → refuse_id now kind id ≡ None → x ≡ created_id now kind id → next ≡ next_after now kind id → bound ≡ bind lids kind lid x
      → refuse_links (may_link (there.AtRowOr (record { kind = kind; id = x })) now) bound (relationships_of schema kind) links ≡ None
      → row ≡ record { key = record { kind = kind; id = x }; values = values; links = set_links bound (empty_links (relationships_of schema kind)) links }
      → Puts schema next row before after.writes → Leads (cell_at schema w) before (cell_at schema now)
      → IsOutcome schema at (apply schema now (Create kind id lid values links) lids) (read.Good (Some (record { kind = kind; id = x }))) bound w after
  told_created before after x next bound row valid is none x_is next_is bound_is good row_is puts leads =
      let y = created_id now kind id in
      let rels = relationships_of schema kind in
      let made : Row = row_of_id rels kind values links y (bind lids kind lid y) in
      let same_lids : bound ≡ bind lids kind lid y = bound_is ∙ ap (bind lids kind lid) x_is in
      let same_row : row ≡ made = row_is ∙ ap (λ z. row_of_id rels kind values links z bound) x_is ∙ ap (row_of_id rels kind values links y) same_lids in
      let puts_made : Puts schema (next_after now kind id) made before after.writes = subst (λ (r : Row). Puts schema (next_after now kind id) r before after.writes) same_row (subst (λ (n : Option ℕ). Puts schema n row before after.writes) next_is puts) in
      let led : Leads (cell_at schema w) after.writes (cell_at schema (with_counter (with_row now made) kind (next_after now kind id))) =
      puts_made w now valid (new_free schema now kind id valid none, links_fit (bind lids kind lid y) rels links (length rels) refl) leads in
      let led_on : Leads (cell_at schema w) after.writes (cell_at schema (done schema now lids (Create kind id lid values links)).world) =
      subst (λ (v : World). Leads (cell_at schema w) after.writes (cell_at schema v)) (same_world now kind id made) led in
      subst (λ (o : Option Refusal). IsOutcome schema at (outcome o (done schema now lids (Create kind id lid values links))) (read.Good (Some (record { kind = kind; id = x }))) bound w after)
      (sym (by_links schema now lids kind id lid values links x bound is none x_is bound_is ∙ good))
      (ap (λ z. Some (record { kind = kind; id = z })) x_is, same_lids, led_on)

-- ---- a create: its reach

module _ (lids : Lids) (kind : ℕ) (id lid : Option (List ℕ)) (values : List AttrValue) (links : List (ℕ × List Member)) where
  id_in_reach : (now : World) (k : CellKey) → IsTrue (is_looked_for kind id k) → IsTrue (reach_operation now lids (Create kind id lid values links) k)
  id_in_reach now k = by id
    where
      by : (o : Option (List ℕ)) → IsTrue (is_looked_for kind o k) → IsTrue (reach_operation now lids (Create kind o lid values links) k)
      by (Some x) e = or_left _ _ (row_in_left (record { kind = kind; id = x } ∷ []) (linked_keys (bind lids kind lid x) links) k e)
      by None e = or_right _ _ e

  links_in_reach : (now : World) (k : CellKey) → IsTrue (is_row_in (linked_keys (bind lids kind lid (created_id now kind id)) links) k) → IsTrue (reach_operation now lids (Create kind id lid values links) k)
  links_in_reach now k e = or_left _ _ (row_in_right (created_key now kind id ∷ []) (linked_keys (bind lids kind lid (created_id now kind id)) links) k e)

  -- only the id was looked for
  pub reads_id : {V : Type 0} (schema : Schema) (cells : V → Cells) (a b : Recording V) → LooksAt (is_looked_for kind id) a b → ReadsInReach schema cells (Create kind id lid values links) lids a b
  reads_id schema cells a b looked w now valid same now_valid leads k new old = id_in_reach now k (looked.within k new old)

  -- and then the linkages
  pub reads_links : {V : Type 0} (schema : Schema) (cells : V → Cells) (a b c z : Recording V) (x : List ℕ) (bound : Lids)
      → LooksAt (is_looked_for kind id) a b → Sees schema cells a b (λ now. x ≡ created_id now kind id) → bound ≡ bind lids kind lid x → LooksAt (is_row_in (linked_keys bound links)) b c → z.reads ≡ c.reads
      → ReadsInReach schema cells (Create kind id lid values links) lids a z
  reads_links schema cells a b c z x bound first seen bound_is second is w now valid same now_valid leads k new old = by (covers b.reads k) refl
    where
      behind : StandsBehind schema (cells a.store) b.reads w now
      behind = record { valid = valid; agrees = λ j e. same j; now_valid = now_valid }

      lids_are : bound ≡ bind lids kind lid (created_id now kind id)
      lids_are = bound_is ∙ ap (bind lids kind lid) (seen w now behind leads)

      by : (m : Bool) → covers b.reads k ≡ m → IsTrue (reach_operation now lids (Create kind id lid values links) k)
      by true e = id_in_reach now k (first.within k e old)
      by false e = links_in_reach now k (subst (λ (l : Lids). IsTrue (is_row_in (linked_keys l links) k)) lids_are (second.within k (ap (λ r. covers r k) (sym is) ∙ new) e))
