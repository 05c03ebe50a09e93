-- What a worker makes of its station (of this project).
use Rattle.std.specs.Prelude.{◌≡◌, ℕ, ◌*◌, ◌<◌, ◌≤◌, true, List, [], length, get_or, IsSome, Some}
use mathlib.Core.List.{IsPrefix}
use Rattle.outer_ends.specs.Told.{ListenerTold}
use Rattle.http_messages.specs.declared.limits.TheConstants.{MESSAGE_LIMIT}
use Rattle.http_messages.specs.declared.messages.Message.{Message}
use Rattle.ident_rules.specs.Owned.{entries_by, is_among}
use Rattle.task_forms.specs.declared.tasks.Entry.{Entry}
use Rattle.task_forms.specs.declared.tasks.Plan.{Plan}
use Rattle.task_forms.specs.declared.tasks.Task.{Task}
use Rattle.task_forms.specs.Meaning.{Meaning}
use Rattle.session_engine.specs.Plans.{plans_of}
use Rattle.atomic_table.specs.Seated.{TableId}
use Rattle.history_lock.specs.declared.rule.Start.{Start}
use Rattle.history_lock.specs.Views.{PassState}
use Rattle.history_lock.specs.Making.{new_pass}
use Rattle.commit_core.specs.Serving.{IsPassOf, ServiceState}
use Rattle.connection_workers.specs.declared.workers.TheConstants.{QUOTA_LIMIT}
use Rattle.connection_workers.specs.declared.workers.WorkerEnd.{WorkerEnd}
use Rattle.connection_workers.specs.Works.{HasEnded, Works}
use Rattle.worker_stations.specs.declared.stations.Station.{Station}

-- what contracts see of workers
pub record WorkersState (S P : Type 0) : Type 0 where
  pub service : ServiceState S
  pub planner : P
  pub quota : ℕ

-- a pass of a store's lock, from the lock's first number on
pub record IsOfStore {S K : Type 0} (kind : S → K) (service : ServiceState S) (p : PassState Entry K) : Type 0 where
  pub own : IsPassOf kind service p
  pub first : p.view.first ≡ service.lock.start.first

-- a pass has the numbers of another, and what that has seen begins what it has seen
pub record IsWithin {K : Type 0} (p q : PassState Entry K) : Type 0 where
  pub numbers : (n : ℕ) → is_among n p.view.numbers ≡ true → is_among n q.view.numbers ≡ true
  pub seen : IsPrefix p.view.seen q.view.seen

-- before its worker runs a station has a gate and a pass of the store that has seen nothing
pub record IsReady {S P L G K E : Type 0} (kind : S → K) (meaning : K → Meaning) (fit : P → Task → Type 0) (w : WorkersState S P) (s : Station L G (PassState Entry K) E) : Type 0 where
  pub quota : w.quota ≤ QUOTA_LIMIT
  pub fits : (t : Task) → fit w.planner t → (meaning (kind w.service.subject)).fit t
  pub gate : IsSome s.gate
  pub pass : PassState Entry K
  pub has : s.pass ≡ Some pass
  pub own : IsOfStore kind w.service pass
  pub unseen : pass.view.seen ≡ []
  pub unowned : pass.view.mine ≡ []

-- the bounds of what a worker told
pub record IsCountedEnd (end : WorkerEnd) : Type 0 where
  pub requests : end.requests ≤ MESSAGE_LIMIT * end.sessions
  pub entries : end.entries ≤ MESSAGE_LIMIT * end.sessions

-- A worker has served the connections of its listener, and its pass has seen what they did. The pass's own entries are those of what it has
-- seen with its numbers.
pub record HasWorked {L G K : Type 0} (planned : Message → Plan) (told : L → ListenerTold) (quota : ℕ) (before now : Station L G (PassState Entry K) WorkerEnd) : Type 0 where
  pub old : PassState Entry K
  pub had : before.pass ≡ Some old
  pub pass : PassState Entry K
  pub has : now.pass ≡ Some pass
  pub numbers : pass.view.numbers ≡ old.view.numbers
  pub own : entries_by (λ e. e.by) pass.view.numbers pass.view.seen ≡ pass.view.mine
  pub gate : IsSome now.gate
  pub end : WorkerEnd
  pub ended : now.end ≡ Some end
  pub counted : IsCountedEnd end
  pub live : (told now.listener).live ≡ (told before.listener).live
  pub cause : HasEnded (told before.listener).faults (told now.listener).faults quota end
  pub works : Works (plans_of planned) (λ seen mine. (seen ≡ pass.view.seen) × (mine ≡ pass.view.mine)) old.view.first [] [] (told before.listener) (told now.listener) end

-- each station has the new pass of its place, counted from 0
abbrev pub HavePasses : {L G K E : Type 0} → TableId → Start → K → List (Station L G (PassState Entry K) E) → Type 0
HavePasses {L} {G} {K} {E} name start kind stations =
    (i : ℕ) (d : Station L G (PassState Entry K) E) → i < length stations → (get_or stations i d).pass ≡ Some (new_pass name start kind i)
