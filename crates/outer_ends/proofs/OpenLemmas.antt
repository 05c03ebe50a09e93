-- Lemmas on look-ups of files by their names.
use Rattle.std.proofs.Common.{◌≡◌, ℕ, List, [], ◌∷◌, Bool, true, false, None, Some, refl, ap, ◌∙◌, map}
use Rattle.std.specs.List.{find}
use Rattle.std.specs.Option.{option_map}
use Rattle.std.specs.Str.{bytes_eq}
use Rattle.std.specs.Prelude.{cond}
use Rattle.std.specs.declared.option.Option.{Option}
use Rattle.outer_ends.specs.Memory.{FileState, named_bytes, file_named}
use Rattle.outer_ends.specs.Opens.{bytes_of}

pick_mapped : {A B : Type 0} (g : A → B) (passes : Bool) (x : A) (rest : Option B) (before : Option A) → rest ≡ option_map g before → cond passes (Some (g x)) rest ≡ option_map g (cond passes (Some x) before)
pick_mapped g true x rest before e = refl
pick_mapped g false x rest before e = e

-- the first that passes, in a mapped list
pub find_mapped : {A B : Type 0} (test : B → Bool) (g : A → B) (xs : List A) → find test (map g xs) ≡ option_map g (find (λ x. test (g x)) xs)
find_mapped test g [] = refl
find_mapped test g (x ∷ xs) = pick_mapped g (test (g x)) x _ _ (find_mapped test g xs)

bytes_mapped : (found : Option FileState) → option_map (λ file. file.1) (option_map named_bytes found) ≡ option_map (λ file. file.bytes) found
bytes_mapped None = refl
bytes_mapped (Some file) = refl

-- the bytes of a name are those of the first file of that name
pub bytes_of_named : (name : List ℕ) (files : List FileState) → bytes_of name (map named_bytes files) ≡ option_map (λ file. file.bytes) (file_named name files)
bytes_of_named name files =
    ap (option_map (λ file. file.1)) (find_mapped (λ file. bytes_eq file.0 name) named_bytes files) ∙ bytes_mapped (file_named name files)
