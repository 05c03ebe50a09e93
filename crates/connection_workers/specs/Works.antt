-- What a worker did.
use Rattle.std.specs.Prelude.{◌≡◌, ℕ, ◌<◌, ◌≤◌, List, ◌++◌, length, IfSome, Some}
use Rattle.outer_ends.specs.Causes.{Rose}
use Rattle.outer_ends.specs.Told.{ListenerTold}
use Rattle.http_messages.specs.declared.messages.Message.{Message}
use Rattle.world_cells.specs.World.{World}
use Rattle.task_forms.specs.declared.tasks.Entry.{Entry}
use Rattle.task_forms.specs.declared.tasks.Plan.{Plan}
use Rattle.session_engine.specs.Plans.{TaskPlans, plans_of}
use Rattle.session_engine.specs.Seen.{Standing}
use Rattle.connection_workers.specs.declared.workers.Cause.{Cause}
use Rattle.connection_workers.specs.declared.workers.Cause.TheVariants as cause
use Rattle.connection_workers.specs.declared.workers.WorkerEnd.{WorkerEnd}
use Rattle.connection_workers.specs.Visits.{Visit, items_of, made_by, joined_by, answered_by, AreVisits, NoneWorn, LastWorn}

-- how the sessions ended, for each cause
abbrev pub EndsAre : ℕ → List Entry → Cause → List Visit → Type 0
EndsAre first seen cause.Quota visits = NoneWorn visits
EndsAre first seen cause.AcceptFault visits = NoneWorn visits
EndsAre first seen cause.Worn visits = LastWorn first seen visits

-- behind the call the desk stands for lists that begin with the old ones and go on by what joined at these connections, and
-- where the listener tells them, they are those that were given back, each served as it should be
pub record Works (plans : TaskPlans) (stands : List Entry → List Entry → Type 0) (first : ℕ) (seen mine : List Entry) (before now : ListenerTold) (end : WorkerEnd) : Type 0 where
  pub visits : List Visit
  pub stood : stands (seen ++ joined_by visits) (mine ++ made_by visits)
  pub sessions_are : length visits ≡ end.sessions
  pub requests_are : answered_by visits ≡ end.requests
  pub entries_are : length (made_by visits) ≡ end.entries
  pub ends : EndsAre first seen end.cause visits
  pub told : IfSome before.closed (λ items. (now.closed ≡ Some (items ++ items_of visits)) × AreVisits plans first seen visits)

-- so it is for any lists for which the desk stood
abbrev pub WorksAll : (Message → Plan) → Standing → Standing → ListenerTold → ListenerTold → WorkerEnd → Type 0
WorksAll planned old new before now end =
    (first : ℕ) (w : World) (seen mine : List Entry) → old first w seen mine → Works (plans_of planned) (new first w) first seen mine before now end

-- which cause it is, by the counts of the listener's faults before and behind the call
abbrev pub EndsBy : (faults faults_now quota sessions : ℕ) → Cause → Type 0
EndsBy faults faults_now quota sessions cause.Quota = (sessions ≡ quota) × (faults_now ≡ faults)
EndsBy faults faults_now quota sessions cause.AcceptFault = (sessions < quota) × Rose faults faults_now
EndsBy faults faults_now quota sessions cause.Worn = (0 < sessions) × (sessions ≤ quota) × (faults_now ≡ faults)

abbrev pub HasEnded : (faults faults_now quota : ℕ) → WorkerEnd → Type 0
HasEnded faults faults_now quota end = EndsBy faults faults_now quota end.sessions end.cause
