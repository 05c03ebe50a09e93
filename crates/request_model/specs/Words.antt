-- Words for texts and lists (of this project).
use Rattle.std.specs.Prelude.{ℕ, ◌==◌, Bool, nat_eq, nat_lt, if◌then◌else◌, List, [], ◌∷◌, length, take, Option, Some, None, Result, Ok, Err, option_map}
use Rattle.std.specs.List.{starts_with, slice_split, before_first, after_first}
use Rattle.std.specs.Str.{str_eq_ignore_ascii_case}

-- `b'/'`
abbrev pub slash : ℕ
slash = 47

-- `b'?'`
abbrev pub question_mark : ℕ
question_mark = 63

-- `b','`
abbrev pub comma : ℕ
comma = 44

-- `b'.'`
abbrev pub dot : ℕ
dot = 46

-- `b';'`
abbrev pub semicolon : ℕ
semicolon = 59

-- `b'='`
abbrev pub equals_sign : ℕ
equals_sign = 61

-- `b' '`
abbrev pub space : ℕ
space = 32

-- the parts of a text between the separators
abbrev pub parts_at : ℕ → List ℕ → List (List ℕ)
parts_at separator text = slice_split (λ b. b == separator) text

-- what stands before the first separator, or all, and what stands behind it, or nothing
abbrev pub halves_at : ℕ → List ℕ → List ℕ × List ℕ
halves_at separator text = (before_first (λ b. b == separator) text, after_first (λ b. b == separator) text)

-- the text begins so
abbrev pub begins : List ℕ → List ℕ → Bool
begins front text = starts_with nat_eq text front

-- the text begins so, in any case
abbrev pub begins_in_any_case : List ℕ → List ℕ → Bool
begins_in_any_case front text = str_eq_ignore_ascii_case front (take (length front) text)

-- there is something in the list
abbrev pub is_any : {A : Type 0} → List A → Bool
is_any xs = nat_lt 0 (length xs)

-- the value, where the test holds
abbrev pub some_if : {A : Type 0} → Bool → A → Option A
some_if b x = if b then Some x else None

-- the values, where each is there
abbrev pub all_some : {A : Type 0} → List (Option A) → Option (List A)
all_some [] = Some []
all_some (None ∷ xs) = None
all_some (Some x ∷ xs) = option_map (λ ys. x ∷ ys) (all_some xs)

-- the value, changed
abbrev pub result_map : {A B E : Type 0} → (A → B) → Result A E → Result B E
result_map f (Ok x) = Ok (f x)
result_map f (Err e) = Err e

-- the values, or the first error
abbrev pub all_ok : {A E : Type 0} → List (Result A E) → Result (List A) E
all_ok [] = Ok []
all_ok (Err e ∷ rs) = Err e
all_ok (Ok x ∷ rs) = result_map (λ xs. x ∷ xs) (all_ok rs)
