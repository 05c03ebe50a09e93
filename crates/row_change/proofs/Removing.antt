-- What the steps of a removal tell of it.
use Rattle.std.proofs.Common.{◌≡◌, ℕ, List, [], ◌∷◌, Bool, true, false, refl, sym, ap, subst, ◌∙◌, Some, None, Option, Result, Ok, Err}
use Rattle.std.specs.Prelude.{IsTrue, IsErr, IsErrAnd}
use Rattle.std.specs.Option.{option_map_or, option_and_then}
use Rattle.std.proofs.lemmas.Bool.{or_left, or_right}
use Rattle.ident_rules.specs.declared.key.Key.{Key}
use Rattle.resource_schema.specs.declared.schema.Schema.{Schema}
use Rattle.world_cells.specs.declared.rows.Row.{Row}
use Rattle.world_cells.specs.declared.sets.ReadSet.{ReadSet}
use Rattle.world_cells.specs.declared.sets.Written.{Written}
use Rattle.world_cells.specs.Reads.{Cells, covers, Leads}
use Rattle.world_cells.specs.World.{World, row_at, cell_at}
use Rattle.error_objects.specs.declared.codes.Code.TheVariants as code
use Rattle.error_objects.specs.declared.refusals.Refusal.{Refusal}
use Rattle.error_objects.specs.declared.refusals.Read.TheVariants as read
use Rattle.task_forms.specs.declared.operations.Who.{Who}
use Rattle.task_forms.specs.declared.operations.Operation.TheVariants as operation
use Rattle.store_model.specs.Valid.{IsValid}
use Rattle.store_model.specs.Change.{Lids, Changed, key_of, first_of, when, at_target, refuse_target, named_row, is_referenced, without_row, refused, done, outcome, apply}
use Rattle.store_model.specs.Run.{refusal_under}
use Rattle.store_model.specs.Reach.{is_row_in, is_back_to, target_keys, reach_operation}
use Rattle.view_reads.specs.Recording.{Recording}
use Rattle.ident_rules.specs.declared.step_errors.StepError.{StepError}
use Rattle.ident_rules.specs.declared.step_errors.StepError.TheVariants.{Because, NoMemory}
use Rattle.row_change.specs.Trial.{IsOutcome, TellsChange, read_of, ReadsInReach}
use Rattle.trial_steps.specs.Steps.{StandsBehind}
use Rattle.trial_steps.specs.Steps.{LooksAt, Sees, RefusesOr, LeavesReads, LeadsOn}
use Rattle.trial_steps.specs.StepLaws.{sees_before, sees_after}
use Rattle.row_change.proofs.Judging.{err_passed}

-- ---- the row that is named

-- it stands at the key that its name stands for
pub named_key : (schema : Schema) (now : World) (lids : Lids) (who : Who) (row : Row) → IsValid schema now → named_row now lids who ≡ Some row → (key_of lids who.named ≡ Some row.key) × (row_at now row.key ≡ Some row)
named_key schema now lids who row valid is = by (key_of lids who.named) refl is
  where
    by : (key : Option Key) → key_of lids who.named ≡ key → option_and_then (row_at now) key ≡ Some row → (key_of lids who.named ≡ Some row.key) × (row_at now row.key ≡ Some row)
    by None bound there = cc there
    by (Some key) bound there =
        let own : row.key ≡ key = (valid.rows key row there).own_key in
        (bound ∙ ap Some (sym own), ap (row_at now) own ∙ there)

pub target_is : (lids : Lids) (who : Who) (key : Key) → key_of lids who.named ≡ Some key → target_keys lids who ≡ key ∷ []
target_is lids who key is = ap (λ o. option_map_or (λ (k : Key). k ∷ []) o []) is

-- ---- what is told

pub want_told : {V : Type 0} (schema : Schema) (at : List ℕ) (o : Result Changed Refusal) (lids : Lids) (w : World) (after : Recording V) → IsOutcome schema at o read.NoMemory lids w after
want_told schema at (Ok changed) lids w after = tt
want_told schema at (Err refusal) lids w after = tt

-- a stop at the first check of an operation
pub stop_told : {V T : Type 0} (schema : Schema) (at : List ℕ) (expected : Option Refusal) (P : T → Type 0) (stop : StepError Refusal) (rest : List (Option Refusal)) (changed : Changed) (lids : Lids) (w : World) (after : Recording V)
    → RefusesOr at expected P (Err stop) → IsOutcome schema at (outcome (first_of (expected ∷ rest)) changed) (read_of (Err stop)) lids w after
stop_told schema at expected P (Because r) rest changed lids w after judged =
    subst (λ (o : Option Refusal). IsOutcome schema at (outcome (first_of (o ∷ rest)) changed) (read.Refused r) lids w after) (sym judged.1) judged.2
stop_told schema at expected P NoMemory rest changed lids w after judged = want_told schema at (outcome (first_of (expected ∷ rest)) changed) lids w after

-- a resource to which another one leads
pub remove_refused : {V : Type 0} (schema : Schema) (at : List ℕ) (now : World) (lids : Lids) (who : Who) (key : Key) (r : Refusal) (w : World) (after : Recording V)
    → refuse_target now lids who ≡ None → key_of lids who.named ≡ Some key → is_referenced schema now key ≡ true → r ≡ refusal_under at (at_target code.StillReferenced who [])
    → IsOutcome schema at (apply schema now (operation.Remove who) lids) (read.Refused r) lids w after
remove_refused schema at now lids who key r w after there named led is =
    let told : refused schema now lids (operation.Remove who) ≡ Some (at_target code.StillReferenced who []) =
    ap (λ o. first_of (o ∷ when (option_map_or (is_referenced schema now) (key_of lids who.named) false) (at_target code.StillReferenced who []) ∷ [])) there
    ∙ ap (λ o. first_of (when (option_map_or (is_referenced schema now) o false) (at_target code.StillReferenced who []) ∷ [])) named
    ∙ ap (λ b. first_of (when b (at_target code.StillReferenced who []) ∷ [])) led in
    subst (λ (o : Option Refusal). IsOutcome schema at (outcome o (done schema now lids (operation.Remove who))) (read.Refused r) lids w after) (sym told) is

-- a resource to which no other leads
pub remove_done : {V : Type 0} (schema : Schema) (at : List ℕ) (now : World) (lids : Lids) (who : Who) (key : Key) (w : World) (after : Recording V)
    → refuse_target now lids who ≡ None → key_of lids who.named ≡ Some key → is_referenced schema now key ≡ false → Leads (cell_at schema w) after.writes (cell_at schema (without_row now key))
    → IsOutcome schema at (apply schema now (operation.Remove who) lids) (read.Good None) lids w after
remove_done schema at now lids who key w after there named free leads =
    let told : refused schema now lids (operation.Remove who) ≡ None =
    ap (λ o. first_of (o ∷ when (option_map_or (is_referenced schema now) (key_of lids who.named) false) (at_target code.StillReferenced who []) ∷ [])) there
    ∙ ap (λ o. first_of (when (option_map_or (is_referenced schema now) o false) (at_target code.StillReferenced who []) ∷ [])) named
    ∙ ap (λ b. first_of (when b (at_target code.StillReferenced who []) ∷ [])) free in
    subst (λ (o : Option Refusal). IsOutcome schema at (outcome o (done schema now lids (operation.Remove who))) (read.Good None) lids w after) (sym told)
    (refl, refl, subst (λ (o : Option Key). Leads (cell_at schema w) after.writes (cell_at schema (option_map_or (without_row now) o now))) (sym named) leads)

-- ---- the steps

module _ {V : Type 0} (schema : Schema) (cells : V → Cells) (at : List ℕ) (lids : Lids) (who : Who) where
  -- what is seen of the row that is found
  abbrev IsTarget : Result Row (StepError Refusal) → World → Type 0
  IsTarget result now = RefusesOr at (refuse_target now lids who) (λ row. named_row now lids who ≡ Some row) result

  -- a stop where it is looked for
  tells_stop : (before after : Recording V) (stop : StepError Refusal) → Sees schema cells before after (IsTarget (Err stop))
      → TellsChange schema cells at (operation.Remove who) lids lids before after (read_of {T = Option Key} (Err stop))
  tells_stop before after stop seen w now behind leads =
      stop_told schema at (refuse_target now lids who) (λ row. named_row now lids who ≡ Some row) stop
      (when (option_map_or (is_referenced schema now) (key_of lids who.named) false) (at_target code.StillReferenced who []) ∷ [])
      (done schema now lids (operation.Remove who)) lids w after (seen w now behind leads)

  -- and is passed on
  pub tells_passed : (before after : Recording V) (stop : StepError Refusal) (result : Result (Option Key) (StepError Refusal)) → IsErr result → IsErrAnd result (λ e. e ≡ stop)
      → Sees schema cells before after (IsTarget (Err stop)) → TellsChange schema cells at (operation.Remove who) lids lids before after (read_of result)
  tells_passed before after stop result is passed seen w now behind leads =
      subst (λ (r : Result (Option Key) (StepError Refusal)). IsOutcome schema at (apply schema now (operation.Remove who) lids) (read_of r) lids w after)
      (sym (err_passed result stop is passed)) (tells_stop before after stop seen w now behind leads)

  pub tells_refused : (before mid after : Recording V) (row : Row) (b : Bool) (r : Refusal)
      → LooksAt (is_row_in (target_keys lids who)) before mid → Sees schema cells before mid (IsTarget (Ok row))
      → LooksAt (is_back_to (row.key ∷ [])) mid after → Sees schema cells mid after (λ now. b ≡ is_referenced schema now row.key) → b ≡ true
      → r ≡ refusal_under at (at_target code.StillReferenced who [])
      → TellsChange schema cells at (operation.Remove who) lids lids before after (read.Refused r)
  tells_refused before mid after row b r looks seen looks_back led is_led is w now behind leads =
      let target = sees_before schema cells (is_back_to (row.key ∷ [])) before mid after (IsTarget (Ok row)) looks_back seen w now behind leads in
      let referenced = sees_after schema cells (is_row_in (target_keys lids who)) before mid after (λ now. b ≡ is_referenced schema now row.key) looks led w now behind leads in
      remove_refused schema at now lids who row.key r w after target.0 (named_key schema now lids who row behind.now_valid target.1).0 (sym referenced ∙ is_led) is

  pub tells_done : (before mid after last : Recording V) (row : Row) (b : Bool)
      → LooksAt (is_row_in (target_keys lids who)) before mid → Sees schema cells before mid (IsTarget (Ok row))
      → LooksAt (is_back_to (row.key ∷ [])) mid after → Sees schema cells mid after (λ now. b ≡ is_referenced schema now row.key) → b ≡ false
      → LeavesReads after last → LeadsOn schema (λ now. row_at now row.key ≡ Some row) (λ now. without_row now row.key) after.writes last.writes
      → TellsChange schema cells at (operation.Remove who) lids lids before last (read.Good None)
  tells_done before mid after last row b looks seen looks_back led is_free leaves leads_on w now behind leads =
      let earlier = subst (λ (reads : ReadSet). StandsBehind schema (cells before.store) reads w now) leaves.reads behind in
      let target = sees_before schema cells (is_back_to (row.key ∷ [])) before mid after (IsTarget (Ok row)) looks_back seen w now earlier leads in
      let referenced = sees_after schema cells (is_row_in (target_keys lids who)) before mid after (λ now. b ≡ is_referenced schema now row.key) looks led w now earlier leads in
      let named = named_key schema now lids who row behind.now_valid target.1 in
      let same = subst (λ (ws : List Written). Leads (cell_at schema w) ws (cell_at schema now)) (sym (looks_back.writes ∙ looks.writes)) leads in
      remove_done schema at now lids who row.key w last target.0 named.0 (sym referenced ∙ is_free) (leads_on w now behind.now_valid named.1 same)

  pub reaches : (before mid after : Recording V) (row : Row)
      → LooksAt (is_row_in (target_keys lids who)) before mid → Sees schema cells before mid (IsTarget (Ok row)) → LooksAt (is_back_to (row.key ∷ [])) mid after
      → ReadsInReach schema cells (operation.Remove who) lids before after
  reaches before mid after row looks seen looks_back w now valid same now_valid leads k new old = by (covers mid.reads k) refl
    where
      keys : target_keys lids who ≡ row.key ∷ []
      keys =
          let target = seen w now (record { valid = valid; agrees = λ j e. same j; now_valid = now_valid }) leads in
          target_is lids who row.key (named_key schema now lids who row now_valid target.1).0

      by : (m : Bool) → covers mid.reads k ≡ m → IsTrue (reach_operation now lids (operation.Remove who) k)
      by true is = or_left (is_row_in (target_keys lids who) k) (is_back_to (target_keys lids who) k) (looks.within k is old)
      by false is = or_right (is_row_in (target_keys lids who) k) (is_back_to (target_keys lids who) k)
          (ap (λ (ks : List Key). is_back_to ks k) keys ∙ looks_back.within k new is)

  -- what is written reads nothing
  pub reaches_writing : (before mid after last : Recording V) (row : Row)
      → LooksAt (is_row_in (target_keys lids who)) before mid → Sees schema cells before mid (IsTarget (Ok row)) → LooksAt (is_back_to (row.key ∷ [])) mid after → LeavesReads after last
      → ReadsInReach schema cells (operation.Remove who) lids before last
  reaches_writing before mid after last row looks seen looks_back leaves w now valid same now_valid leads k new old =
      reaches before mid after row looks seen looks_back w now valid same now_valid leads k (subst (λ (reads : ReadSet). IsTrue (covers reads k)) leaves.reads new) old
