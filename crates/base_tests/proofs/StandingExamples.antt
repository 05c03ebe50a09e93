-- Worked: logs, what they say of reads and of a history, what stands for a history, and trials of it.
use Rattle.std.specs.Prelude.{◌≡◌, ℕ, ◌+◌, ◌<◌, ◌≤◌, ◌^◌, ◌++◌, ◌⊎◌, IsTrue, List, [], ◌∷◌, Some, None, Option, refl, drop}
use Rattle.std.proofs.Common.{inl, inr, arith, subst, ap, sym}
use Rattle.world_cells.specs.declared.keys.CellKey.TheVariants as cell_key
use Rattle.http_messages.specs.declared.messages.Reply.{Reply}
use Rattle.world_cells.specs.Reads.{Cells, covers}
use Rattle.world_cells.specs.World.{empty_world, cell_at}
use Rattle.history_model.specs.declared.checks.Check.TheVariants as check
use Rattle.history_model.specs.Commits.{IsTrialOf, CommitCause, CommitLeaves, done, stale, no_memory, worn}
use Rattle.history_model.specs.Histories.{Noted}
use Rattle.history_model.specs.Standing.{Log, Keeps, Pushes, Meets, LogSays, IsSaid, Stands}
use Rattle.base_tests.proofs.Counting.{told, at, counting, asking, asked, three, counter, reads_of, reads, noted, three_are_noted, asks}
use Rattle.base_tests.proofs.HistoryExamples.{first_conflict, no_conflict_at_the_end, nothing_dropped, too_old}

abbrev all : List Noted
all = noted 1 ∷ noted 2 ∷ noted 3 ∷ []

abbrev log_of : ℕ → List Noted → Option ℕ → Log
log_of window kept dropped = record { window = window; kept = kept; dropped = dropped }

-- ---- what a log keeps

keeps_nothing : Keeps (log_of 2 [] None) []
keeps_nothing = record { old = []; some = omega arith; all = refl; last = refl; size = omega arith; full = inl refl }

keeps_all : Keeps (log_of 3 all None) all
keeps_all = record { old = []; some = omega arith; all = refl; last = refl; size = omega arith; full = inl refl }

keeps_last : Keeps (log_of 1 (noted 3 ∷ []) (Some 2)) all
keeps_last = record { old = noted 1 ∷ noted 2 ∷ []; some = omega arith; all = refl; last = (noted 1 ∷ [], noted 2, refl, refl); size = omega arith; full = inr refl }

no_log_of_none : ¬ Keeps (log_of 0 [] None) []
no_log_of_none keeps = let some : 0 < 0 = keeps.some in omega arith

no_more_than_window : ¬ Keeps (log_of 2 all None) all
no_more_than_window keeps = let size : 3 ≤ 2 = keeps.size in omega arith

-- it drops none while there is room
none_dropped_early : ¬ Keeps (log_of 3 (noted 2 ∷ noted 3 ∷ []) (Some 1)) all
none_dropped_early keeps = early keeps.old keeps.all keeps.full
  where
    early : (old : List Noted) → all ≡ old ++ noted 2 ∷ noted 3 ∷ [] → (old ≡ []) ⊎ (◌≡◌ {A = ℕ} 2 3) → ⊥
    early old is (inl none) = cc (is, none)
    early old is (inr full) = cc full

-- what was dropped last is told
dropped_is_told : ¬ Keeps (log_of 2 (noted 2 ∷ noted 3 ∷ []) None) all
dropped_is_told keeps = cc (keeps.all, keeps.last)

-- ---- one entry more

pushed_in_room : Pushes (log_of 2 (noted 1 ∷ []) None) (noted 2) (log_of 2 (noted 1 ∷ noted 2 ∷ []) None)
pushed_in_room = record { window = refl; room = λ less. (refl, refl); full = λ y rest is size. cc size }

pushed_in_full : Pushes (log_of 2 (noted 1 ∷ noted 2 ∷ []) None) (noted 3) (log_of 2 (noted 2 ∷ noted 3 ∷ []) (Some 1))
pushed_in_full = record {
  window = refl;
  room = λ less. let no : 2 < 2 = less in absurd (omega arith);
  full = λ y rest is size. (ap (λ l. drop 1 l ++ noted 3 ∷ []) is, ap first_number is);
}
  where
    first_number : List Noted → Option ℕ
    first_number [] = None
    first_number (x ∷ xs) = Some x.number

full_lets_one_go : ¬ Pushes (log_of 2 (noted 1 ∷ noted 2 ∷ []) None) (noted 3) (log_of 2 all None)
full_lets_one_go pushes = cc (pushes.full (noted 1) (noted 2 ∷ []) refl refl).0

it_is_told_which : ¬ Pushes (log_of 2 (noted 1 ∷ noted 2 ∷ []) None) (noted 3) (log_of 2 (noted 2 ∷ noted 3 ∷ []) (Some 2))
it_is_told_which pushes = cc (pushes.full (noted 1) (noted 2 ∷ []) refl refl).1

room_lets_none_go : ¬ Pushes (log_of 2 (noted 1 ∷ []) None) (noted 2) (log_of 2 (noted 2 ∷ []) (Some 1))
room_lets_none_go pushes = let less : 1 < 2 = omega arith in cc (pushes.room less).0

window_stays : ¬ Pushes (log_of 2 (noted 1 ∷ []) None) (noted 2) (log_of 3 (noted 1 ∷ noted 2 ∷ []) None)
window_stays pushes = cc pushes.window

-- ---- what a log says

-- entry 2 writes another counter, and entry 3 the counter that was read
abbrev other : Noted
other = record { number = 2; keys = cell_key.Counter 1 ∷ [] }

abbrev two_counters : Log
two_counters = log_of 2 (other ∷ noted 3 ∷ []) (Some 1)

not_met : ¬ Meets reads (cell_key.Counter 1 ∷ [])
not_met (k, covered, inl is) = let at_one : IsTrue (covers reads (cell_key.Counter 1)) = subst (λ k. IsTrue (covers reads k)) (sym is) covered in cc at_one
not_met (k, covered, inr more) = more

not_after : ¬ (1 < 1)
not_after less = omega arith

the_second_conflicts : LogSays two_counters reads 1 (check.Conflict 3)
the_second_conflicts = (not_after, inr ((λ after. not_met), inl (refl, omega arith, (counter, refl, inl refl))))

the_other_does_not : ¬ LogSays two_counters reads 1 (check.Conflict 2)
the_other_does_not (old, inl (is, after, meets)) = not_met meets
the_other_does_not (old, inr (none, inl (is, after, meets))) = cc is
the_other_does_not (old, inr (none, inr (later, more))) = more

a_met_read_is_not_clear : ¬ LogSays two_counters reads 1 check.Clear
a_met_read_is_not_clear says = let after : 1 < 3 = omega arith in says.1.1.0 after (counter, refl, inl refl)

-- an entry up to the snapshot is no conflict
before_it_is_clear : LogSays (log_of 2 (noted 2 ∷ noted 3 ∷ []) (Some 1)) reads 3 check.Clear
before_it_is_clear = ((λ less. let no : 3 < 1 = less in omega arith), ((λ less. let no : 3 < 2 = less in absurd (omega arith)), ((λ less. let no : 3 < 3 = less in absurd (omega arith)), tt)))

-- what was dropped behind the snapshot makes it too old, for whatever reads
an_old_snapshot_is_not_clear : ¬ LogSays two_counters (reads_of []) 0 check.Clear
an_old_snapshot_is_not_clear says = let above : 0 < 1 = omega arith in says.0 above

an_old_snapshot_has_no_conflict : ¬ LogSays two_counters reads 0 (check.Conflict 3)
an_old_snapshot_has_no_conflict says = let above : 0 < 1 = omega arith in says.0 above

a_newer_snapshot_is_not_too_old : ¬ LogSays two_counters reads 1 (check.Aged 1)
a_newer_snapshot_is_not_too_old says = not_after says.1

-- what these answers mean of a history
said_clear : IsSaid counting 10 empty_world three 2 reads 13 check.Clear
said_clear = (no_conflict_at_the_end, (noted 11 ∷ noted 13 ∷ [], three_are_noted, λ above. above))

said_conflict : IsSaid counting 10 empty_world three 2 reads 10 (check.Conflict 11)
said_conflict = (first_conflict, nothing_dropped)

said_too_old : IsSaid counting 10 empty_world three 1 reads 10 (check.Aged 11)
said_too_old = too_old

-- ---- what stands for a history

-- three entries behind number 10: the count is 13
standing : Stands counting (cell_at [] (at 3)) 13 (log_of 1 (noted 13 ∷ []) (Some 11)) 10 empty_world three
standing = record {
  legal = record { valid = refl; answers = (tt, refl, (tt, refl, (tt, refl, tt))) };
  cells = λ k. refl;
  counted = refl;
  noted = (noted 11 ∷ noted 13 ∷ [], three_are_noted, record { old = noted 11 ∷ []; some = omega arith; all = refl; last = ([], noted 11, refl, refl); size = omega arith; full = inr refl });
}

another_count : ¬ Stands counting (cell_at [] (at 3)) 3 (log_of 1 (noted 13 ∷ []) (Some 11)) 10 empty_world three
another_count stands = cc stands.counted

cells_of_an_older_world : ¬ Stands counting (cell_at [] (at 2)) 13 (log_of 1 (noted 13 ∷ []) (Some 11)) 10 empty_world three
cells_of_an_older_world stands = cc (stands.cells counter)

-- ---- trials of a history

-- on the world after entry 11 or 12 the next id is 2
trial_on_a_snapshot : IsTrialOf counting 10 empty_world three 11 asking reads [] (told 2)
trial_on_a_snapshot = record { low = omega arith; high = omega arith; tried = asks (at 2) }

trial_on_the_first : IsTrialOf counting 10 empty_world three 10 asking reads [] (told 1)
trial_on_the_first = record { low = omega arith; high = omega arith; tried = asks empty_world }

trial_on_the_last : IsTrialOf counting 10 empty_world three 13 asking reads [] (told 3)
trial_on_the_last = record { low = omega arith; high = omega arith; tried = asks (at 3) }

no_trial_before_it : ¬ IsTrialOf counting 10 empty_world three 9 asking reads [] (told 1)
no_trial_before_it trial = let low : 10 ≤ 9 = trial.low in omega arith

no_trial_past_it : ¬ IsTrialOf counting 10 empty_world three 14 asking reads [] (told 3)
no_trial_past_it trial = let high : 14 ≤ 10 + 3 = trial.high in omega arith

no_trial_of_another_world : ¬ IsTrialOf counting 10 empty_world three 11 asking reads [] (told 1)
no_trial_of_another_world trial = let same : 1 ≡ 2 = ap (λ (r : Reply). r.status) (trial.tried (at 2) refl (λ k covered. refl)).0 in omega (arith, same)

-- ---- causes and ends of commits

abbrev last_log : Log
last_log = log_of 1 (noted 13 ∷ []) (Some 11)

-- an older trial whose reads nothing met is done
done_on_an_older_world : CommitCause 13 last_log (reads_of []) 11 (done (asked 5 2))
done_on_an_older_world = (omega arith, ((λ above. let no : 11 < 11 = above in omega arith), ((λ after meets. cc meets.1), tt)))

not_done_where_met : ¬ CommitCause 13 last_log reads 12 (done (asked 5 2))
not_done_where_met cause = let after : 12 < 13 = omega arith in cause.1.1.0 after (counter, refl, inl refl)

-- at the last number nothing but that is told
only_worn : (¬ CommitCause (2 ^ 62) last_log reads 13 (done (asked 5 3))) × (¬ CommitCause (2 ^ 62) last_log reads 12 (stale (check.Conflict 13))) × (¬ CommitCause (2 ^ 62) last_log reads 13 no_memory) × CommitCause (2 ^ 62) last_log reads 13 worn
only_worn = ((λ cause. not_less cause.0), (λ cause. not_less cause.0), (λ cause. not_less cause), refl)
  where
    not_less : ¬ (2 ^ 62 < 2 ^ 62)
    not_less less = omega arith

not_refused_where_clear : ¬ CommitCause 13 last_log reads 13 (stale (check.Conflict 13))
not_refused_where_clear (below, refusal, (old, inl (is, after, meets))) = let no : 13 < 13 = after in omega arith
not_refused_where_clear (below, refusal, (old, inr (none, more))) = more

-- what is done is counted and logged, for each history for which the store stood and of which the trial was
abbrev no_log : Log
no_log = log_of 2 [] None

done_is_counted : ¬ CommitLeaves counting (cell_at [] (at 3)) (cell_at [] (at 3)) 13 13 last_log last_log 13 asking reads [] (told 3) 5 (done (asked 5 3))
done_is_counted leaves = cc (leaves.1 10 empty_world three standing trial_on_the_last).counted

done_stays_written : ¬ CommitLeaves counting (cell_at [] (at 3)) (cell_at [] (at 2)) 13 14 last_log last_log 13 asking reads [] (told 3) 5 (done (asked 5 3))
done_stays_written leaves = cc ((leaves.1 10 empty_world three standing trial_on_the_last).cells counter)

done_stays_logged : ¬ CommitLeaves counting (cell_at [] (at 3)) (cell_at [] (at 3)) 13 14 last_log (log_of 0 [] None) 13 asking reads [] (told 3) 5 (done (asked 5 3))
done_stays_logged leaves = let some : 0 < 0 = (leaves.1 10 empty_world three standing trial_on_the_last).noted.2.some in omega arith

-- want of memory and a refusal leave each of them
others_leave_all : (¬ CommitLeaves counting (cell_at [] (at 3)) (cell_at [] (at 2)) 13 13 last_log last_log 13 asking reads [] (told 3) 5 no_memory) × (¬ CommitLeaves counting (cell_at [] (at 3)) (cell_at [] (at 3)) 13 14 last_log last_log 13 asking reads [] (told 3) 5 worn) × (¬ CommitLeaves counting (cell_at [] (at 3)) (cell_at [] (at 3)) 13 13 last_log no_log 13 asking reads [] (told 3) 5 (stale (check.Conflict 13)))
others_leave_all = ((λ leaves. cc (ap (λ (f : Cells). f counter) leaves.2)), (λ leaves. cc leaves.0), (λ leaves. cc (ap (λ (l : Log). l.window) leaves.1)))
