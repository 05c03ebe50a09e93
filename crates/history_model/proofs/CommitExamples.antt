-- A trial that is refused for the entry of another, and what commits come to, in the histories of the toy meaning.
use Rattle.std.specs.Prelude.{◌≡◌, ◌≢◌, ℕ, ◌+◌, ◌<◌, ◌≤◌, ◌^◌, ◌⊎◌, cond, option_map, true, List, [], ◌∷◌, Some, None, refl}
use Rattle.std.specs.Cmp.{nat_cmp_is}
use Rattle.std.specs.declared.cmp.Ordering.TheVariants.{Greater}
use Rattle.std.specs.Ordering.{is_eq, nat_cmp}
use Rattle.std.proofs.Common.{inl, inr, arith, subst, zero, suc, ap}
use Rattle.world_cells.specs.declared.cells.Cell.TheVariants as cell
use Rattle.world_cells.specs.declared.keys.CellKey.{CellKey}
use Rattle.world_cells.specs.declared.keys.CellKey.TheVariants as cell_key
use Rattle.world_cells.specs.declared.sets.ReadSet.{ReadSet}
use Rattle.world_cells.specs.Lists.{IsIn}
use Rattle.world_cells.specs.World.{empty_world, cell_at}
use Rattle.world_cells.specs.Reads.{Cells}
use Rattle.task_forms.specs.declared.tasks.Entry.{Entry}
use Rattle.history_model.specs.declared.checks.Check.TheVariants as check
use Rattle.history_model.specs.Histories.{Noted, Writings, IsConflict, IsAged, MayRefuse, Writes}
use Rattle.history_model.specs.Standing.{Log, LogSays, IsSaid}
use Rattle.history_model.specs.Commits.{CommitCause, CommitLeaves, done, stale, no_memory, worn}
use Rattle.history_model.proofs.Examples.{toy, next, taking, entry, noted, log}

-- one entry, which writes the counter
abbrev one : List Entry
one = entry 1 1 ∷ []

abbrev written : List Noted
written = noted 1 ∷ []

-- a trial on the world before it read the counter
abbrev reads : ReadSet
reads = record { keys = cell_key.Counter 0 ∷ []; parts = [] }

writes_counter : Writes toy 0 empty_world one 1 (cell_key.Counter 0)
writes_counter e = cc e

lit_one : 0 < 1
lit_one = omega arith

lit_within : 1 ≤ 1
lit_within = omega arith

none_between : (i : ℕ) → 0 < i → i < 1 → ⊥
none_between i low high = omega arith

conflict : IsConflict toy 0 empty_world one reads 0 (Some 1)
conflict = (lit_one, ((lit_one, lit_within), (cell_key.Counter 0, writes_counter, refl)), λ i low high meets. none_between i low high)

-- a snapshot that has the entry conflicts with nothing
no_conflict : IsConflict toy 0 empty_world one reads 1 None
no_conflict n above meets = let within : n ≤ 1 = meets.0.1 in let no : ⊥ = omega arith in no

above_zero : (n : ℕ) → 0 < suc n
above_zero n = omega arith

later : (n : ℕ) → Greater ≡ nat_cmp (suc n) 0
later n = nat_cmp_is (suc n) 0 Greater (above_zero n)

writings : Writings toy 0 empty_world one written
writings = inr (cell_key.Counter 0 ∷ [], [], refl, (λ e. cc e), record { differ = differ; same = same }, refl)
  where
    differ : (k : CellKey) → IsIn (cell_key.Counter 0 ∷ []) k → cell_at [] empty_world k ≢ cell_at [] (next empty_world) k
    differ k (inl is) = subst (λ k. cell_at [] empty_world k ≢ cell_at [] (next empty_world) k) is (λ e. cc e)
    differ k (inr more) = absurd more

    same : (k : CellKey) → IsIn (cell_key.Counter 0 ∷ []) k ⊎ (cell_at [] empty_world k ≡ cell_at [] (next empty_world) k)
    same (cell_key.Row q) = inr refl
    same (cell_key.Back to from rel) = inr refl
    same (cell_key.Counter zero) = inl (inl refl)
    same (cell_key.Counter (suc n)) = inr (ap (λ o. option_map cell.Counter (cond (is_eq o) (Some 2) None)) (later n))

-- a log of one entry dropped none of one
nothing_aged : IsAged toy 0 empty_world one 0 1 None
nothing_aged = (written, writings, λ above. above)

said : IsSaid toy 0 empty_world one 1 reads 0 (check.Conflict 1)
said = (conflict, nothing_aged)

may_refuse : MayRefuse toy 0 empty_world one taking 0 1
may_refuse = inl (1, lit_one, (lit_one, lit_within), (cell_key.Counter 0, writes_counter, refl))

-- ---- causes of commits

below_last : 3 < 2 ^ 62
below_last = omega arith

few : 1 < 2
few = omega arith

-- the log of two entries, whose last is entry 3: a trial on the world after it takes its entry
clear : LogSays log reads 3 check.Clear
clear = (λ less. not_after_one less, ((λ less meets. not_after_two less), ((λ less meets. not_after_three less), tt)))
  where
    not_after_one : 3 < 1 → ⊥
    not_after_one less = omega arith

    not_after_two : 3 < 2 → ⊥
    not_after_two less = omega arith

    not_after_three : 3 < 3 → ⊥
    not_after_three less = omega arith

a_clear_trial_is_done : CommitCause 3 log reads 3 (done (entry 7 4))
a_clear_trial_is_done = (below_last, clear)

-- on an older world it is refused, by the entry that it should have read, or as too old
an_old_trial_is_refused : CommitCause 3 log reads 1 (stale (check.Conflict 2))
an_old_trial_is_refused = (below_last, (λ e. cc e), (λ less. no less, inl (refl, few, (cell_key.Counter 0, refl, inl refl))))
  where
    no : 1 < 1 → ⊥
    no less = omega arith

a_forgotten_trial_is_refused : CommitCause 3 log reads 0 (stale (check.Aged 1))
a_forgotten_trial_is_refused = (below_last, (λ e. cc e), (refl, lit_one))

-- a clear trial is no cause to refuse
clear_is_no_refusal : ¬ CommitCause 3 log reads 3 (stale check.Clear)
clear_is_no_refusal cause = cause.1 refl

-- a store is worn at the last number, and not before it
a_store_is_worn : CommitCause (2 ^ 62) log reads 3 worn
a_store_is_worn = refl

not_worn_yet : ¬ CommitCause 3 log reads 3 worn
not_worn_yet cause = cc cause

-- a refused commit leaves the store as it was, its count and its log too
abbrev store : Cells
store = cell_at [] empty_world

refused_leaves_all : CommitLeaves toy store store 3 3 log log 1 taking reads [] (entry 7 4).reply 7 (stale (check.Conflict 2))
refused_leaves_all = (refl, refl, refl)

want_of_memory_leaves_all : CommitLeaves toy store store 3 3 log log 3 taking reads [] (entry 7 4).reply 7 no_memory
want_of_memory_leaves_all = (refl, refl, refl)

refused_counts_nothing : ¬ CommitLeaves toy store store 3 4 log log 1 taking reads [] (entry 7 4).reply 7 (stale (check.Conflict 2))
refused_counts_nothing leaves = cc leaves.0

-- the entry that is made is of the trial's task and reply, by the one who asked
another_reply_is_not_committed : ¬ CommitLeaves toy store store 3 4 log log 3 taking reads [] (entry 7 4).reply 7 (done (entry 7 5))
another_reply_is_not_committed leaves = let same : 5 ≡ 4 = ap (λ (e : Entry). e.reply.status) leaves.0 in omega (arith, same)
