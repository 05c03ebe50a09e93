-- The connections that a worker served, one after another.
use Rattle.std.specs.Prelude.{◌≡◌, ℕ, ◌+◌, ◌<◌, Bool, true, false, List, [], ◌∷◌, ◌++◌, length, IsTrue, IsFalse, ⊤}
use Rattle.outer_ends.specs.Told.{Ended}
use Rattle.http_messages.specs.declared.ends.SessionEnd.{SessionEnd}
use Rattle.http_messages.specs.declared.ends.SessionEnd.TheVariants.{Closed, Refused, CutShort, ReadFault, WriteFault, NoMemory, Worn}
use Rattle.http_model.specs.Served.{Served}
use Rattle.task_forms.specs.declared.tasks.Entry.{Entry}
use Rattle.task_forms.specs.Desks.{last_number}
use Rattle.session_engine.specs.Plans.{TaskPlans}

-- what became of one connection
pub record Visit : Type 0 where
  -- as it was given back
  pub item : Ended
  -- the entries that joined the desk's own list
  pub made : List Entry
  -- the entries that joined what the desk has seen: these and others'
  pub joined : List Entry
  -- how many messages were answered
  pub answered : ℕ
  -- the desk took no further entry
  pub worn : Bool
  pub end : SessionEnd

abbrev pub is_worn : SessionEnd → Bool
is_worn Worn = true
is_worn Closed = false
is_worn (Refused s) = false
is_worn CutShort = false
is_worn ReadFault = false
is_worn WriteFault = false
is_worn NoMemory = false

-- the connections as they were given back
abbrev pub items_of : List Visit → List Ended
items_of [] = []
items_of (v ∷ vs) = v.item ∷ items_of vs

-- what joined the desk's own list at them, one behind another
abbrev pub made_by : List Visit → List Entry
made_by [] = []
made_by (v ∷ vs) = v.made ++ made_by vs

-- what joined what the desk has seen
abbrev pub joined_by : List Visit → List Entry
joined_by [] = []
joined_by (v ∷ vs) = v.joined ++ joined_by vs

-- how many messages were answered on all of them
abbrev pub answered_by : List Visit → ℕ
answered_by [] = 0
answered_by (v ∷ vs) = v.answered + answered_by vs

-- the bytes of the connection were served as they should be, by these entries, up to this end; `seen` is what the desk had
-- seen behind it
pub record IsVisit (plans : TaskPlans) (first : ℕ) (seen : List Entry) (v : Visit) : Type 0 where
  pub served : Served plans 0 (v.item.taken ++ v.item.left) v.item.taken v.worn v.answered v.made v.item.written v.end
  pub worn_at : IsTrue v.worn → first + length seen ≡ last_number
  pub read_fault : v.end ≡ ReadFault → 0 < v.item.reads
  pub write_fault : v.end ≡ WriteFault → 0 < v.item.writes

-- each of them, in their order; `seen` is what the desk had seen before the first
abbrev pub AreVisits : TaskPlans → ℕ → List Entry → List Visit → Type 0
AreVisits plans first seen [] = ⊤
AreVisits plans first seen (v ∷ vs) = IsVisit plans first (seen ++ v.joined) v × AreVisits plans first (seen ++ v.joined) vs

-- none of them ended with a worn desk
abbrev pub NoneWorn : List Visit → Type 0
NoneWorn [] = ⊤
NoneWorn (v ∷ vs) = IsFalse (is_worn v.end) × NoneWorn vs

-- the last of them did, behind which the desk had seen all that it can, and no other
pub record LastWorn (first : ℕ) (seen : List Entry) (visits : List Visit) : Type 0 where
  pub front : List Visit
  pub last : Visit
  pub whole : visits ≡ front ++ last ∷ []
  pub front_open : NoneWorn front
  pub last_worn : IsTrue (is_worn last.end)
  pub at_last : first + length (seen ++ joined_by visits) ≡ last_number
