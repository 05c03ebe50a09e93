-- Reading as long as there is a value: what `do` means for options (of this project).
use Rattle.std.specs.Prelude.{Option, Some, None}

-- the value goes on
abbrev pub ◌>>=◌ : {A B : Type 0} → Option A → (A → Option B) → Option B
◌>>=◌ None f = None
◌>>=◌ (Some x) f = f x
