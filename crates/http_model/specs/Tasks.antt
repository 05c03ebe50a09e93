-- The tasks that messages are, and those of the entries that a connection made (of this project).
use Rattle.std.specs.Prelude.{⊤, ◌≡◌, List, [], ◌∷◌, ◌++◌}
use Rattle.std.specs.List.{flat_map}
use Rattle.http_messages.specs.declared.messages.Message.{Message}
use Rattle.http_messages.specs.declared.ends.SessionEnd.{SessionEnd}
use Rattle.http_messages.specs.declared.ends.SessionEnd.TheVariants.{Closed, Refused, CutShort, ReadFault, WriteFault, NoMemory, Worn}
use Rattle.http_model.specs.Exchanges.{Planned, planned_reply, planned_task, Plans}

-- the task of a plan, where it is one
abbrev pub task_or_none : {T : Type 0} → Planned T → List T
task_or_none (planned_reply r) = []
task_or_none (planned_task t) = t ∷ []

-- the tasks that these messages are, in their order
abbrev pub tasks_of : {T E : Type 0} → Plans T E → List Message → List T
tasks_of plans ms = flat_map (λ m. task_or_none (plans.plan m)) ms

-- a list begins with these elements
abbrev pub Begins : {A : Type 0} → List A → List A → Type 0
Begins {A} front all = (rest : List A) × (all ≡ front ++ rest)

-- an end of a session between ends that do not fail, over a store that is not worn
abbrev pub IsMemoryEnd : SessionEnd → Type 0
IsMemoryEnd Closed = ⊤
IsMemoryEnd (Refused status) = ⊤
IsMemoryEnd CutShort = ⊤
IsMemoryEnd NoMemory = ⊤
IsMemoryEnd ReadFault = ⊥
IsMemoryEnd WriteFault = ⊥
IsMemoryEnd Worn = ⊥
