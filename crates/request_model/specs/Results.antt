-- Reading up to the first error: what `do` means for results (of this project).
use Rattle.std.specs.Prelude.{Bool, if◌then◌else◌, Result, Ok, Err, ⊤}

-- the value goes on, and an error ends
abbrev pub ◌>>=◌ : {A B E : Type 0} → Result A E → (A → Result B E) → Result B E
◌>>=◌ (Ok x) f = f x
◌>>=◌ (Err e) f = Err e

-- the same, where the value is of no use
abbrev pub ◌>>◌ : {A B E : Type 0} → Result A E → Result B E → Result B E
◌>>◌ (Ok x) s = s
◌>>◌ (Err e) s = Err e

-- the error, where the test holds
abbrev pub err_if : {E : Type 0} → Bool → E → Result ⊤ E
err_if b e = if b then Err e else Ok tt
