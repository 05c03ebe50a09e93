-- Worked: what a stream may do behind the entries 11 to 13 of a history, and what it may not.
use Rattle.std.specs.Prelude.{◌≡◌, ℕ, ◌==◌, if◌then◌else◌, List, [], ◌∷◌, refl}
use Rattle.std.proofs.Common.{inl, inr, arith, ap}
use Rattle.http_messages.specs.declared.ends.SessionEnd.TheVariants as end
use Rattle.world_cells.specs.declared.keys.CellKey.TheVariants as cell_key
use Rattle.world_cells.specs.World.{empty_world}
use Rattle.task_forms.specs.declared.tasks.Entry.{Entry}
use Rattle.task_forms.specs.declared.tasks.Task.{Task}
use Rattle.history_model.specs.declared.checks.Check.TheVariants as check
use Rattle.run_model.specs.Runs.{Act, Event, Stage, resting, waiting, snapped, tried, ended, passes, snaps, tries, refuses, joins, ends, IsRefusal, IsAnswered, Takes, history_of, refused_of, stage_of, rebuilt, Begins}
use Rattle.base_tests.proofs.Counting.{told, counting, taking, asking, took, asked, three, reads_of, reads, asks}
use Rattle.base_tests.proofs.HistoryExamples.{too_old}

-- a log of one entry: entry 11 was dropped
abbrev May : Stage → Act → Stage → Type 0
May stage act now = Takes counting 1 10 empty_world three 5 stage act now

-- ---- snapshots and trials

snapshot_of_the_last : May resting (snaps asking) (snapped asking 0 13)
snapshot_of_the_last = (tt, refl)

no_snapshot_of_an_older : ¬ May resting (snaps asking) (snapped asking 0 12)
no_snapshot_of_an_older takes = cc takes.1

snapshot_again : May (waiting asking 2) (snaps asking) (snapped asking 2 13)
snapshot_again = (refl, omega arith, refl)

no_snapshot_for_another : (now : Stage) → ¬ May (waiting asking 2) (snaps taking) now
no_snapshot_for_another now takes = cc takes.0

tried_on_it : May (snapped asking 2 12) tries (tried asking 2 12)
tried_on_it = refl

-- ---- refusals

refused_as_too_old : IsRefusal counting 1 10 empty_world three asking 10 reads (check.Aged 11)
refused_as_too_old = (record { writes = []; reply = told 1; enough = asks empty_world; within = λ k covered. covered }, too_old, λ e. cc e)

refused_once_more : May (tried asking 1 10) (refuses reads (check.Aged 11)) (waiting asking 2)
refused_once_more = (refused_as_too_old, refl)

never_refused_as_clear : (now : Stage) → ¬ May (tried asking 1 13) (refuses reads check.Clear) now
never_refused_as_clear now takes = takes.0.2 refl

-- a refusal for reads that the task may not look at
never_refused_for_others : (now : Stage) → ¬ May (tried asking 1 10) (refuses (reads_of (cell_key.Counter 1 ∷ [])) (check.Aged 11)) now
never_refused_for_others now takes = cc (takes.0.0.within (cell_key.Counter 1) refl)

-- ---- answers

-- the answer is that of the last world, where the trial was on an older one too
joined_with_its_answer : May (tried asking 1 13) (joins (asked 5 3)) resting
joined_with_its_answer = (refl, inl refl)

joined_and_closed : May (tried asking 1 13) (joins (asked 5 3)) (ended end.Closed)
joined_and_closed = (refl, inr refl)

settled : May (waiting asking 3) (joins (asked 5 3)) resting
settled = (refl, refl, inl refl)

joined_by_another : (now : Stage) → ¬ May (tried asking 1 13) (joins (asked 4 3)) now
joined_by_another now takes = cc (ap (λ (e : Entry). e.by) takes.0)

not_waiting_once_answered : ¬ IsAnswered (waiting asking 0)
not_waiting_once_answered (inl is) = cc is
not_waiting_once_answered (inr is) = cc is

no_other_end_once_answered : ¬ IsAnswered (ended end.WriteFault)
no_other_end_once_answered (inl is) = cc is
no_other_end_once_answered (inr is) = cc is

-- ---- ends

ends_at_rest : May resting (ends end.ReadFault) (ended end.ReadFault)
ends_at_rest = refl

-- want of memory alone ends a stream in the middle of a task
memory_ends_a_task : May (waiting asking 1) (ends end.NoMemory) (ended end.NoMemory) × May (snapped asking 1 12) (ends end.NoMemory) (ended end.NoMemory) × May (tried asking 1 12) (ends end.NoMemory) (ended end.NoMemory)
memory_ends_a_task = (refl, refl, refl)

no_other_end_of_a_task : (now : Stage) → ¬ May (waiting asking 1) (ends end.Closed) now
no_other_end_of_a_task now takes = takes

stays_ended : May (ended end.Closed) passes (ended end.Closed)
stays_ended = refl

no_way_back : ¬ May (ended end.Closed) passes resting
no_way_back takes = cc takes

nobody_else_passes : ¬ May resting passes resting
nobody_else_passes takes = takes

-- ---- what events made

abbrev step : ℕ → Act → Stage → Event
step by act now = record { by = by; act = act; now = now }

abbrev events : List Event
events =
    step 1 (snaps taking) (snapped taking 0 0) ∷ step 2 (snaps asking) (snapped asking 0 0)
    ∷ step 1 (joins (took 1 1)) resting ∷ step 2 (refuses reads (check.Conflict 1)) (waiting asking 1) ∷ []

each_stage : (stage_of 1 events ≡ resting) × (stage_of 2 events ≡ waiting asking 1) × (stage_of 3 events ≡ resting)
each_stage = (refl, refl, refl)

each_count : (refused_of 1 events ≡ 0) × (refused_of 2 events ≡ 1) × (refused_of 3 events ≡ 0)
each_count = (refl, refl, refl)

what_joined : history_of events ≡ took 1 1 ∷ []
what_joined = refl

-- ---- what numbers tell

-- stream 0 takes and then asks, and stream 1 takes
abbrev tasks : ℕ → List Task
tasks k = if k == 0 then taking ∷ asking ∷ [] else taking ∷ []

in_turn : rebuilt counting empty_world tasks (0 ∷ 1 ∷ 0 ∷ []) ≡ took 0 1 ∷ took 1 2 ∷ asked 0 3 ∷ []
in_turn = refl

one_by_one : rebuilt counting empty_world tasks (0 ∷ 0 ∷ 1 ∷ []) ≡ took 0 1 ∷ asked 0 2 ∷ took 1 2 ∷ []
one_by_one = refl

-- a stream without a further task ends the history
no_task_left : rebuilt counting empty_world tasks (1 ∷ 1 ∷ 0 ∷ []) ≡ took 1 1 ∷ []
no_task_left = refl

beginnings : Begins [] (asking ∷ []) × Begins (taking ∷ []) (taking ∷ asking ∷ []) × Begins (asking ∷ []) (asking ∷ [])
beginnings = ((asking ∷ [], refl), (asking ∷ [], refl), ([], refl))

no_beginning : (¬ Begins (asking ∷ []) (taking ∷ asking ∷ [])) × (¬ Begins (taking ∷ asking ∷ []) (taking ∷ []))
no_beginning = ((λ b. cc b.1), (λ b. cc b.1))
