-- Interleavings of two streams over a toy meaning: one asks for the next id, the other takes it.
use Rattle.std.specs.Prelude.{⊤, ◌≡◌, ◌≢◌, ℕ, ◌+◌, ◌<◌, ◌≤◌, ◌⊎◌, ◌==◌, cond, option_map, unwrap_or, if◌then◌else◌, true, List, [], ◌∷◌, Some, None, Option, refl, map}
use Rattle.std.specs.Cmp.{nat_cmp_is}
use Rattle.std.specs.FinMap.Entries.{find}
use Rattle.std.specs.declared.cmp.Ordering.TheVariants.{Greater}
use Rattle.std.specs.Ordering.{is_eq, nat_cmp}
use Rattle.std.proofs.Common.{inl, inr, arith, subst, zero, suc, ap, sym, ◌∙◌}
use Rattle.http_messages.specs.declared.ends.SessionEnd.TheVariants as end
use Rattle.http_messages.specs.declared.messages.Reply.{Reply}
use Rattle.http_messages.specs.declared.messages.Content.TheVariants as content
use Rattle.http_messages.specs.declared.messages.Allow.TheVariants as allow
use Rattle.world_cells.specs.declared.cells.Cell.{Cell}
use Rattle.world_cells.specs.declared.cells.Cell.TheVariants as cell
use Rattle.world_cells.specs.declared.keys.CellKey.{CellKey}
use Rattle.world_cells.specs.declared.keys.CellKey.TheVariants as cell_key
use Rattle.world_cells.specs.declared.sets.ReadSet.{ReadSet}
use Rattle.world_cells.specs.Lists.{IsIn}
use Rattle.world_cells.specs.World.{World, empty_world, cell_at, next_id}
use Rattle.task_forms.specs.declared.tasks.Entry.{Entry}
use Rattle.task_forms.specs.declared.tasks.Fetch.{Fetch}
use Rattle.task_forms.specs.declared.tasks.Task.{Task}
use Rattle.task_forms.specs.declared.tasks.Task.TheVariants as task
use Rattle.task_forms.specs.declared.tasks.ReplyForm.TheVariants as reply_form
use Rattle.task_forms.specs.Meaning.{Meaning}
use Rattle.history_model.specs.declared.checks.Check.TheVariants as check
use Rattle.history_model.specs.Histories.{Exactly, Noted, Writings, IsConflict}
use Rattle.history_model.specs.Trials.{IsTried}
use Rattle.run_model.specs.Runs.{Act, Event, Stage, resting, waiting, snapped, tried, ended, snaps, tries, refuses, joins, ends, IsRun, IsRefusal, Takes, history_of, refused_of, stage_of, rebuilt}

-- ---- the toy

abbrev told : ℕ → Reply
told id = record { status = id; content = content.Nothing; location = None; allow = allow.Nothing; body = [] }

-- the world whose next id this is
abbrev at : ℕ → World
at id = record { rows = []; counters = (0, id) ∷ [] }

abbrev effect : World → Task → World
effect w (task.Fetch fetch) = w
effect w (task.Change operations form) = at (next_id w 0 + 1)

abbrev toy : Meaning
toy = record {
  cells = cell_at [];
  empty = empty_world;
  valid = λ w. ⊤;
  fit = λ t. ⊤;
  answer = λ w t. told (next_id w 0);
  effect = effect;
  reach = λ w t k. true;
}

abbrev taking : Task
taking = task.Change [] reply_form.Empty

abbrev took : ℕ → ℕ → Entry
took by id = record { by = by; task = taking; reply = told id }

abbrev reads : ReadSet
reads = record { keys = cell_key.Counter 0 ∷ []; parts = [] }

abbrev noted : ℕ → Noted
noted n = record { number = n; keys = cell_key.Counter 0 ∷ [] }

abbrev step : ℕ → Act → Stage → Event
step by act now = record { by = by; act = act; now = now }

-- ---- what the entries write

above_zero : (n : ℕ) → 0 < suc n
above_zero n = omega arith

later : (n : ℕ) → Greater ≡ nat_cmp (suc n) 0
later n = nat_cmp_is (suc n) 0 Greater (above_zero n)

no_other : (id n : ℕ) → None ≡ option_map cell.Counter (find nat_cmp (suc n) ((0, id) ∷ []))
no_other id n = ap (λ o. option_map cell.Counter (cond (is_eq o) (Some id) None)) (later n)

-- the first that is taken, and each later one, writes the counter alone
first_writes : Exactly (cell_key.Counter 0 ∷ []) (cell_at [] empty_world) (cell_at [] (at 2))
first_writes = record { differ = differ; same = same }
  where
    differ : (k : CellKey) → IsIn (cell_key.Counter 0 ∷ []) k → cell_at [] empty_world k ≢ cell_at [] (at 2) k
    differ k (inl is) = subst (λ k. cell_at [] empty_world k ≢ cell_at [] (at 2) k) is (λ e. cc e)
    differ k (inr more) = absurd more

    same : (k : CellKey) → IsIn (cell_key.Counter 0 ∷ []) k ⊎ (cell_at [] empty_world k ≡ cell_at [] (at 2) k)
    same (cell_key.Row q) = inr refl
    same (cell_key.Back to from rel) = inr refl
    same (cell_key.Counter zero) = inl (inl refl)
    same (cell_key.Counter (suc n)) = inr (no_other 2 n)

later_writes : (id next : ℕ) → Some (cell.Counter id) ≢ Some (cell.Counter next) → Exactly (cell_key.Counter 0 ∷ []) (cell_at [] (at id)) (cell_at [] (at next))
later_writes id next apart = record { differ = differ; same = same }
  where
    differ : (k : CellKey) → IsIn (cell_key.Counter 0 ∷ []) k → cell_at [] (at id) k ≢ cell_at [] (at next) k
    differ k (inl is) = subst (λ k. cell_at [] (at id) k ≢ cell_at [] (at next) k) is apart
    differ k (inr more) = absurd more

    same : (k : CellKey) → IsIn (cell_key.Counter 0 ∷ []) k ⊎ (cell_at [] (at id) k ≡ cell_at [] (at next) k)
    same (cell_key.Row q) = inr refl
    same (cell_key.Back to from rel) = inr refl
    same (cell_key.Counter zero) = inl (inl refl)
    same (cell_key.Counter (suc n)) = inr (sym (no_other id n) ∙ no_other next n)

module _ (a b c : ℕ) where
  abbrev one : List Entry
  one = took a 1 ∷ []

  abbrev two : List Entry
  two = took a 1 ∷ took b 2 ∷ []

  abbrev three : List Entry
  three = took a 1 ∷ took b 2 ∷ took c 3 ∷ []

  one_is_noted : Writings toy 0 empty_world one (noted 1 ∷ [])
  one_is_noted = inr (cell_key.Counter 0 ∷ [], [], refl, (λ e. cc e), first_writes, refl)

  two_are_noted : Writings toy 0 empty_world two (noted 1 ∷ noted 2 ∷ [])
  two_are_noted = inr (cell_key.Counter 0 ∷ [], noted 2 ∷ [], refl, (λ e. cc e), first_writes, inr (cell_key.Counter 0 ∷ [], [], refl, (λ e. cc e), later_writes 2 3 (λ e. cc e), refl))

  three_are_noted : Writings toy 0 empty_world three (noted 1 ∷ noted 2 ∷ noted 3 ∷ [])
  three_are_noted = inr (
    cell_key.Counter 0 ∷ [],
    noted 2 ∷ noted 3 ∷ [],
    refl,
    (λ e. cc e),
    first_writes,
    inr (cell_key.Counter 0 ∷ [], noted 3 ∷ [], refl, (λ e. cc e), later_writes 2 3 (λ e. cc e), inr (cell_key.Counter 0 ∷ [], [], refl, (λ e. cc e), later_writes 3 4 (λ e. cc e), refl)),
  )

  none_between : (at i : ℕ) → at < i → i < at + 1 → ⊥
  none_between at i low high = omega arith

  first_meets : IsConflict toy 0 empty_world one reads 0 (Some 1)
  first_meets = (omega arith, ((omega arith, omega arith), (cell_key.Counter 0, (λ e. cc e), refl)), λ i low high meets. none_between 0 i low high)

  second_meets : IsConflict toy 0 empty_world two reads 1 (Some 2)
  second_meets = (omega arith, ((omega arith, omega arith), (cell_key.Counter 0, (λ e. cc e), refl)), λ i low high meets. none_between 1 i low high)

  third_meets : IsConflict toy 0 empty_world three reads 2 (Some 3)
  third_meets = (omega arith, ((omega arith, omega arith), (cell_key.Counter 0, (λ e. cc e), refl)), λ i low high meets. none_between 2 i low high)

-- ---- runs

abbrev counter_told : Option Cell → ℕ
counter_told None = 1
counter_told (Some (cell.Row row)) = 1
counter_told (Some cell.Back) = 1
counter_told (Some (cell.Counter n)) = n

tells : (o : Option ℕ) → counter_told (option_map cell.Counter o) ≡ unwrap_or o 1
tells None = refl
tells (Some n) = refl

-- a stream that asks with this fetch, another that takes
module _ (fetch : Fetch) where
  abbrev asking : Task
  asking = task.Fetch fetch

  abbrev asked : ℕ → ℕ → Entry
  asked by id = record { by = by; task = asking; reply = told id }

  -- asking looks at the counter
  asks : (v : World) → IsTried toy (cell_at [] v) asking reads [] (told (next_id v 0))
  asks v w valid agree =
      (ap told (sym (tells (find nat_cmp 0 v.counters)) ∙ ap counter_told (sym (agree (cell_key.Counter 0) refl)) ∙ tells (find nat_cmp 0 w.counters)), λ k. refl)

  -- while one asks, the other takes: the asking is refused once, and then told the new id
  abbrev refused_once : List Event
  refused_once =
      step 0 (snaps asking) (snapped asking 0 0) ∷ step 0 tries (tried asking 0 0)
      ∷ step 1 (snaps taking) (snapped taking 0 0) ∷ step 1 tries (tried taking 0 0) ∷ step 1 (joins (took 1 1)) resting
      ∷ step 0 (refuses reads (check.Conflict 1)) (waiting asking 1)
      ∷ step 0 (snaps asking) (snapped asking 1 1) ∷ step 0 tries (tried asking 1 1) ∷ step 0 (joins (asked 0 2)) resting ∷ step 0 (ends end.Closed) (ended end.Closed)
      ∷ step 1 (ends end.Closed) (ended end.Closed) ∷ []

  first_refusal : (by : ℕ) → IsRefusal toy 1024 0 empty_world (took by 1 ∷ []) asking 0 reads (check.Conflict 1)
  first_refusal by = (
    record { writes = []; reply = told 1; enough = asks empty_world; within = λ k h. refl },
    (first_meets by 0 0, (noted 1 ∷ [], one_is_noted by 0 0, λ above. above)),
    λ e. cc e,
  )

  refused_once_is_a_run : IsRun toy 1024 0 empty_world (0 ∷ 0 ∷ 1 ∷ 1 ∷ 1 ∷ 0 ∷ 0 ∷ 0 ∷ 0 ∷ 0 ∷ 1 ∷ []) refused_once
  refused_once_is_a_run = record {
    streams = refl;
    each = ((tt, refl), (refl, ((tt, refl), (refl, ((refl, inl refl), ((first_refusal 1, refl), ((refl, omega arith, refl), (refl, ((refl, inl refl), (refl, (refl, tt)))))))))));
  }

  its_history : history_of refused_once ≡ took 1 1 ∷ asked 0 2 ∷ []
  its_history = refl

  its_asking_was_refused : refused_of 0 refused_once ≡ 1
  its_asking_was_refused = refl

  its_taking_was_not : refused_of 1 refused_once ≡ 0
  its_taking_was_not = refl

  its_end : stage_of 0 refused_once ≡ ended end.Closed
  its_end = refl

  abbrev tasks : ℕ → List Task
  tasks k = if k == 0 then asking ∷ [] else taking ∷ taking ∷ taking ∷ []

  its_history_is_rebuilt : rebuilt toy empty_world tasks (1 ∷ 0 ∷ []) ≡ history_of refused_once
  its_history_is_rebuilt = refl

  -- a stream takes and then asks; another takes between the asking and its commit
  abbrev refused_behind_its_own : List Event
  refused_behind_its_own =
      step 0 (snaps taking) (snapped taking 0 0) ∷ step 0 tries (tried taking 0 0) ∷ step 0 (joins (took 0 1)) resting
      ∷ step 0 (snaps asking) (snapped asking 0 1) ∷ step 0 tries (tried asking 0 1)
      ∷ step 1 (snaps taking) (snapped taking 0 1) ∷ step 1 tries (tried taking 0 1) ∷ step 1 (joins (took 1 2)) resting
      ∷ step 0 (refuses reads (check.Conflict 2)) (waiting asking 1)
      ∷ step 0 (snaps asking) (snapped asking 1 2) ∷ step 0 tries (tried asking 1 2) ∷ step 0 (joins (asked 0 3)) resting ∷ step 0 (ends end.Closed) (ended end.Closed)
      ∷ step 1 (ends end.Closed) (ended end.Closed) ∷ []

  second_refusal : (by other : ℕ) → IsRefusal toy 1024 0 empty_world (took by 1 ∷ took other 2 ∷ []) asking 1 reads (check.Conflict 2)
  second_refusal by other = (
    record { writes = []; reply = told 2; enough = asks (at 2); within = λ k h. refl },
    (second_meets by other 0, (noted 1 ∷ noted 2 ∷ [], two_are_noted by other 0, λ above. above)),
    λ e. cc e,
  )

  refused_behind_its_own_is_a_run : IsRun toy 1024 0 empty_world (0 ∷ 0 ∷ 0 ∷ 0 ∷ 0 ∷ 1 ∷ 1 ∷ 1 ∷ 0 ∷ 0 ∷ 0 ∷ 0 ∷ 0 ∷ 1 ∷ []) refused_behind_its_own
  refused_behind_its_own_is_a_run = record {
    streams = refl;
    each = ((tt, refl), (refl, ((refl, inl refl), ((tt, refl), (refl, ((tt, refl), (refl, ((refl, inl refl), ((second_refusal 0 1, refl), ((refl, omega arith, refl), (refl, ((refl, inl refl), (refl, (refl, tt))))))))))))));
  }

  its_numbers : map (λ e. e.by) (history_of refused_behind_its_own) ≡ 0 ∷ 1 ∷ 0 ∷ []
  its_numbers = refl

  -- refused three times, it is settled
  abbrev settled : List Event
  settled =
      step 0 (snaps asking) (snapped asking 0 0) ∷ step 0 tries (tried asking 0 0)
      ∷ step 1 (snaps taking) (snapped taking 0 0) ∷ step 1 tries (tried taking 0 0) ∷ step 1 (joins (took 1 1)) resting
      ∷ step 0 (refuses reads (check.Conflict 1)) (waiting asking 1)
      ∷ step 0 (snaps asking) (snapped asking 1 1) ∷ step 0 tries (tried asking 1 1)
      ∷ step 1 (snaps taking) (snapped taking 0 1) ∷ step 1 tries (tried taking 0 1) ∷ step 1 (joins (took 1 2)) resting
      ∷ step 0 (refuses reads (check.Conflict 2)) (waiting asking 2)
      ∷ step 0 (snaps asking) (snapped asking 2 2) ∷ step 0 tries (tried asking 2 2)
      ∷ step 1 (snaps taking) (snapped taking 0 2) ∷ step 1 tries (tried taking 0 2) ∷ step 1 (joins (took 1 3)) resting
      ∷ step 0 (refuses reads (check.Conflict 3)) (waiting asking 3)
      ∷ step 0 (joins (asked 0 4)) resting ∷ step 0 (ends end.Closed) (ended end.Closed)
      ∷ step 1 (ends end.Closed) (ended end.Closed) ∷ []

  third_refusal : (by : ℕ) → IsRefusal toy 1024 0 empty_world (took by 1 ∷ took by 2 ∷ took by 3 ∷ []) asking 2 reads (check.Conflict 3)
  third_refusal by = (
    record { writes = []; reply = told 3; enough = asks (at 3); within = λ k h. refl },
    (third_meets by by by, (noted 1 ∷ noted 2 ∷ noted 3 ∷ [], three_are_noted by by by, λ above. above)),
    λ e. cc e,
  )

  settled_is_a_run : IsRun toy 1024 0 empty_world (0 ∷ 0 ∷ 1 ∷ 1 ∷ 1 ∷ 0 ∷ 0 ∷ 0 ∷ 1 ∷ 1 ∷ 1 ∷ 0 ∷ 0 ∷ 0 ∷ 1 ∷ 1 ∷ 1 ∷ 0 ∷ 0 ∷ 0 ∷ 1 ∷ []) settled
  settled_is_a_run = record {
    streams = refl;
    each = ((tt, refl), (refl, ((tt, refl), (refl, ((refl, inl refl), ((first_refusal 1, refl), ((refl, omega arith, refl), (refl, ((tt, refl), (refl, ((refl, inl refl), ((second_refusal 1 1, refl), ((refl, omega arith, refl), (refl, ((tt, refl), (refl, ((refl, inl refl), ((third_refusal 1, refl), ((refl, refl, inl refl), (refl, (refl, tt)))))))))))))))))))));
  }

  its_settled_history : history_of settled ≡ took 1 1 ∷ took 1 2 ∷ took 1 3 ∷ asked 0 4 ∷ []
  its_settled_history = refl

  refused_three_times : refused_of 0 settled ≡ 3
  refused_three_times = refl

  -- ---- what is no step

  not_settled_after_two : (now : Stage) → ¬ Takes toy 1024 0 empty_world [] 0 (waiting asking 2) (joins (asked 0 1)) now
  not_settled_after_two now takes = cc takes.0

  no_fourth_snapshot : (now : Stage) → ¬ Takes toy 1024 0 empty_world [] 0 (waiting asking 3) (snaps asking) now
  no_fourth_snapshot now takes = let low : 3 < 3 = takes.1 in let no : ⊥ = omega arith in no

  another_reply_does_not_join : (now : Stage) → ¬ Takes toy 1024 0 empty_world (took 1 1 ∷ []) 0 (tried asking 0 1) (joins (asked 0 1)) now
  another_reply_does_not_join now takes = cc (ap (λ (e : Entry). e.reply.status) takes.0)

  no_commit_without_a_trial : (now : Stage) → ¬ Takes toy 1024 0 empty_world [] 0 (snapped asking 0 0) (joins (asked 0 1)) now
  no_commit_without_a_trial now takes = takes

  no_refusal_without_a_later_entry : (n : ℕ) (now : Stage) → ¬ Takes toy 1024 0 empty_world [] 0 (tried asking 0 0) (refuses reads (check.Conflict n)) now
  no_refusal_without_a_later_entry n now takes =
      let low : 0 < n = takes.0.1.0.0 in let high : n ≤ 0 = takes.0.1.0.1.0.1 in let no : ⊥ = omega arith in no

  an_ended_stream_does_nothing : (now : Stage) → ¬ Takes toy 1024 0 empty_world [] 0 (ended end.Closed) (snaps asking) now
  an_ended_stream_does_nothing now takes = takes
