-- What a desk stands for after a call.
use Rattle.std.specs.Prelude.{◌≡◌, ℕ, ◌+◌, ◌^◌, Bool, List, [], ◌∷◌, ◌++◌, filter, length, ⊤}
use Rattle.http_messages.specs.declared.messages.Reply.{Reply}
use Rattle.task_forms.specs.declared.tasks.Entry.{Entry}
use Rattle.task_forms.specs.declared.tasks.Task.{Task}
use Rattle.task_forms.specs.declared.desk.DeskEnd.{DeskEnd}
use Rattle.task_forms.specs.declared.desk.DeskEnd.TheVariants.{NoMemory, Worn}

-- the number of the last entry that a history can have
abbrev pub last_number : ℕ
last_number = 2 ^ 62

-- a desk's own entries are exactly those of what it has seen that pass its test
abbrev pub IsOwn : (Entry → Bool) → List Entry → List Entry → Type 0
IsOwn is_own seen mine = mine ≡ filter is_own seen

abbrev pub IsWornEnd : DeskEnd → Type 0
IsWornEnd Worn = ⊤
IsWornEnd NoMemory = ⊥

-- one entry of this task and reply joined both lists, after others' entries
pub record Joins (stands : List Entry → List Entry → Type 0) (seen mine : List Entry) (task : Task) (reply : Reply) : Type 0 where
  pub by : ℕ
  pub others : List Entry
  pub now : stands (seen ++ others ++ record { by = by; task = task; reply = reply } ∷ []) (mine ++ record { by = by; task = task; reply = reply } ∷ [])

-- no entry was made for the task; a worn desk has seen the last number
pub record Refuses (stands : List Entry → List Entry → Type 0) (first : ℕ) (seen mine : List Entry) (end : DeskEnd) : Type 0 where
  pub others : List Entry
  pub now : stands (seen ++ others) mine
  pub worn : IsWornEnd end → first + length (seen ++ others) ≡ last_number
