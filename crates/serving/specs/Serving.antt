-- What the workers of one store come to together (of this project).
use Rattle.std.specs.Prelude.{◌≡◌, ◌≢◌, ℕ, ◌<◌, All, List, [], ◌∷◌, length, get_or, sum_by, IsNone, IsSome, Some}
use mathlib.Core.List.{IsPrefix}
use Rattle.outer_ends.specs.Told.{ListenerTold}
use Rattle.ident_rules.specs.Owned.{entries_by}
use Rattle.task_forms.specs.declared.tasks.Entry.{Entry}
use Rattle.task_forms.specs.Meaning.{Meaning, IsLegal}
use Rattle.session_engine.specs.Plans.{TaskPlans}
use Rattle.connection_workers.specs.declared.workers.Cause.TheVariants as cause
use Rattle.connection_workers.specs.declared.workers.WorkerEnd.{WorkerEnd}
use Rattle.connection_workers.specs.Works.{HasEnded, Works}
use Rattle.worker_stations.specs.declared.stations.Station.{Station}
use Rattle.serve_lines.specs.declared.served.Served.{Served}
use Rattle.serving.specs.Counts.{entries_at, requests_at, sessions_at}
use Rattle.serving.specs.Working.{IsCountedEnd}

-- The station of a number: its worker has served the connections that its listener gave back, by the entries of that number, each of which
-- stands in the history, and has seen a beginning of that.
pub record IsServedAt {L G P : Type 0} (plans : TaskPlans) (told : L → ListenerTold) (quota : ℕ) (history : List Entry) (number : ℕ) (before now : Station L G P WorkerEnd) : Type 0 where
  pub gate : IsSome now.gate
  pub pass : IsNone now.pass
  pub end : WorkerEnd
  pub ended : now.end ≡ Some end
  pub counted : IsCountedEnd end
  pub unworn : end.cause ≢ cause.Worn
  pub live : (told now.listener).live ≡ (told before.listener).live
  pub cause_is : HasEnded (told before.listener).faults (told now.listener).faults quota end
  pub seen : List Entry
  pub prefix : IsPrefix seen history
  pub own : entries_by (λ e. e.by) (number ∷ []) seen ≡ entries_by (λ e. e.by) (number ∷ []) history
  pub works : Works plans (λ s mine. (s ≡ seen) × (mine ≡ entries_by (λ e. e.by) (number ∷ []) history)) 0 [] [] (told before.listener) (told now.listener) end

-- There is one legal history from the empty world, of whose entries each is one of a station's worker; what was told are the sums over
-- the workers, and the history's length.
pub record ServesStore {L G P : Type 0} (m : Meaning) (plans : TaskPlans) (told : L → ListenerTold) (quota : ℕ) (before now : List (Station L G P WorkerEnd)) (served : Served) : Type 0 where
  pub history : List Entry
  pub legal : IsLegal m m.empty history
  pub known : All (λ e. e.by < length before) history
  pub len : length now ≡ length before
  pub each : (i : ℕ) (d : Station L G P WorkerEnd) → i < length before → IsServedAt plans told quota history i (get_or before i d) (get_or now i d)
  pub sessions_are : served.sessions ≡ sum_by (λ s. sessions_at s.end) now
  pub requests_are : served.requests ≡ sum_by (λ s. requests_at s.end) now
  pub entries_are : served.entries ≡ length history
  pub entries_sum : served.entries ≡ sum_by (λ s. entries_at s.end) now
