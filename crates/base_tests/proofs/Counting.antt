-- A meaning of tasks for examples: a change takes the next id of one type, a fetch asks for it, and both look at its counter alone.
use Rattle.std.specs.Prelude.{⊤, ◌≡◌, ◌≢◌, ℕ, ◌+◌, ◌<◌, ◌⊎◌, cond, option_map, unwrap_or, List, [], ◌∷◌, Some, None, Option, refl}
use Rattle.std.specs.Cmp.{nat_cmp_is}
use Rattle.std.specs.FinMap.Entries.{find}
use Rattle.std.specs.declared.cmp.Ordering.TheVariants.{Greater}
use Rattle.std.specs.Ordering.{is_eq, nat_cmp}
use Rattle.std.proofs.Common.{inl, inr, arith, subst, zero, suc, ap, sym, ◌∙◌}
use Rattle.http_messages.specs.declared.messages.Reply.{Reply}
use Rattle.http_messages.specs.declared.messages.Content.TheVariants as content
use Rattle.http_messages.specs.declared.messages.Allow.TheVariants as allow
use Rattle.world_cells.specs.declared.cells.Cell.{Cell}
use Rattle.world_cells.specs.declared.cells.Cell.TheVariants as cell
use Rattle.world_cells.specs.declared.keys.CellKey.{CellKey}
use Rattle.world_cells.specs.declared.keys.CellKey.TheVariants as cell_key
use Rattle.world_cells.specs.declared.sets.ReadSet.{ReadSet}
use Rattle.world_cells.specs.Lists.{IsIn}
use Rattle.world_cells.specs.Reads.{covers}
use Rattle.world_cells.specs.World.{World, empty_world, cell_at, next_id}
use Rattle.resource_schema.specs.declared.targets.Target.TheVariants as target
use Rattle.task_forms.specs.Queries.{no_query}
use Rattle.task_forms.specs.declared.tasks.Entry.{Entry}
use Rattle.task_forms.specs.declared.tasks.Task.{Task}
use Rattle.task_forms.specs.declared.tasks.Task.TheVariants as task
use Rattle.task_forms.specs.declared.tasks.ReplyForm.TheVariants as reply_form
use Rattle.task_forms.specs.Meaning.{Meaning}
use Rattle.history_model.specs.Histories.{Exactly, Noted, Writings}
use Rattle.history_model.specs.Trials.{IsTried}

-- the reply tells an id as its status
abbrev pub told : ℕ → Reply
told id = record { status = id; content = content.Nothing; location = None; allow = allow.Nothing; body = [] }

-- the world whose next id this is
abbrev pub at : ℕ → World
at id = record { rows = []; counters = (0, id) ∷ [] }

abbrev pub effect : World → Task → World
effect w (task.Fetch fetch) = w
effect w (task.Change operations form) = at (next_id w 0 + 1)

abbrev pub counter : CellKey
counter = cell_key.Counter 0

-- reads of these keys alone
abbrev pub reads_of : List CellKey → ReadSet
reads_of keys = record { keys = keys; parts = [] }

abbrev pub reads : ReadSet
reads = reads_of (counter ∷ [])

abbrev pub counting : Meaning
counting = record {
  cells = cell_at [];
  empty = empty_world;
  valid = λ w. w.rows ≡ [];
  fit = λ t. ⊤;
  answer = λ w t. told (next_id w 0);
  effect = effect;
  reach = λ w t k. covers reads k;
}

abbrev pub taking : Task
taking = task.Change [] reply_form.Empty

abbrev pub asking : Task
asking = task.Fetch (record { target = target.Operations; query = no_query })

abbrev pub took : ℕ → ℕ → Entry
took by id = record { by = by; task = taking; reply = told id }

abbrev pub asked : ℕ → ℕ → Entry
asked by id = record { by = by; task = asking; reply = told id }

-- entries 11 to 13 of a history whose first ten came before: 11 and 13 take an id
abbrev pub three : List Entry
three = took 1 1 ∷ asked 2 2 ∷ took 1 2 ∷ []

abbrev pub noted : ℕ → Noted
noted n = record { number = n; keys = counter ∷ [] }

-- ---- what the entries write

above_zero : (n : ℕ) → 0 < suc n
above_zero n = omega arith

later : (n : ℕ) → Greater ≡ nat_cmp (suc n) 0
later n = nat_cmp_is (suc n) 0 Greater (above_zero n)

no_other : (id n : ℕ) → None ≡ option_map cell.Counter (find nat_cmp (suc n) ((0, id) ∷ []))
no_other id n = ap (λ o. option_map cell.Counter (cond (is_eq o) (Some id) None)) (later n)

-- the first that is taken, and each later one, writes the counter alone
pub first_writes : Exactly (counter ∷ []) (cell_at [] empty_world) (cell_at [] (at 2))
first_writes = record { differ = differ; same = same }
  where
    differ : (k : CellKey) → IsIn (counter ∷ []) k → cell_at [] empty_world k ≢ cell_at [] (at 2) k
    differ k (inl is) = subst (λ k. cell_at [] empty_world k ≢ cell_at [] (at 2) k) is (λ e. cc e)
    differ k (inr more) = absurd more

    same : (k : CellKey) → IsIn (counter ∷ []) k ⊎ (cell_at [] empty_world k ≡ cell_at [] (at 2) k)
    same (cell_key.Row q) = inr refl
    same (cell_key.Back to from rel) = inr refl
    same (cell_key.Counter zero) = inl (inl refl)
    same (cell_key.Counter (suc n)) = inr (no_other 2 n)

pub later_writes : (id next : ℕ) → Some (cell.Counter id) ≢ Some (cell.Counter next) → Exactly (counter ∷ []) (cell_at [] (at id)) (cell_at [] (at next))
later_writes id next apart = record { differ = differ; same = same }
  where
    differ : (k : CellKey) → IsIn (counter ∷ []) k → cell_at [] (at id) k ≢ cell_at [] (at next) k
    differ k (inl is) = subst (λ k. cell_at [] (at id) k ≢ cell_at [] (at next) k) is apart
    differ k (inr more) = absurd more

    same : (k : CellKey) → IsIn (counter ∷ []) k ⊎ (cell_at [] (at id) k ≡ cell_at [] (at next) k)
    same (cell_key.Row q) = inr refl
    same (cell_key.Back to from rel) = inr refl
    same (cell_key.Counter zero) = inl (inl refl)
    same (cell_key.Counter (suc n)) = inr (sym (no_other id n) ∙ no_other next n)

-- entry 12 writes nothing, and is not noted
pub three_are_noted : Writings counting 10 empty_world three (noted 11 ∷ noted 13 ∷ [])
three_are_noted = inr (
  counter ∷ [],
  noted 13 ∷ [],
  refl,
  (λ e. cc e),
  first_writes,
  inl ((λ k. refl), inr (counter ∷ [], [], refl, (λ e. cc e), later_writes 2 3 (λ e. cc e), refl)),
)

-- entry 14 takes one more
abbrev pub four : List Entry
four = took 1 1 ∷ asked 2 2 ∷ took 1 2 ∷ took 2 3 ∷ []

pub four_are_noted : Writings counting 10 empty_world four (noted 11 ∷ noted 13 ∷ noted 14 ∷ [])
four_are_noted = inr (
  counter ∷ [],
  noted 13 ∷ noted 14 ∷ [],
  refl,
  (λ e. cc e),
  first_writes,
  inl (
    (λ k. refl),
    inr (counter ∷ [], noted 14 ∷ [], refl, (λ e. cc e), later_writes 2 3 (λ e. cc e), inr (counter ∷ [], [], refl, (λ e. cc e), later_writes 3 4 (λ e. cc e), refl)),
  ),
)

-- ---- a trial of asking

abbrev counter_told : Option Cell → ℕ
counter_told None = 1
counter_told (Some (cell.Row row)) = 1
counter_told (Some cell.Back) = 1
counter_told (Some (cell.Counter n)) = n

tells : (o : Option ℕ) → counter_told (option_map cell.Counter o) ≡ unwrap_or o 1
tells None = refl
tells (Some n) = refl

-- who asks looks at the counter and writes nothing
pub asks : (v : World) → IsTried counting (cell_at [] v) asking reads [] (told (next_id v 0))
asks v w valid agree =
    (ap told (sym (tells (find nat_cmp 0 v.counters)) ∙ ap counter_told (sym (agree counter refl)) ∙ tells (find nat_cmp 0 w.counters)), λ k. refl)
