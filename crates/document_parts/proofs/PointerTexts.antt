-- A name that stands in a pointer as it is.
use Rattle.std.proofs.Common.{◌≡◌, ℕ, Bool, true, false, not, ◌&&◌, ◌==◌, cond, List, [], ◌∷◌, ◌++◌, refl}
use Rattle.std.proofs.lemmas.Bool.{and_parts}
use Rattle.json_forms.specs.Pointer.{escape}
use Rattle.document_parts.specs.Pointers.{is_plain}

pub plain_byte : (a b : Bool) (xs ys zs : List ℕ) → (not a && not b) ≡ true → cond a xs (cond b ys zs) ≡ zs
plain_byte true b xs ys zs e = cc e
plain_byte false true xs ys zs e = cc e
plain_byte false false xs ys zs e = refl

pub escape-is_plain : (name : List ℕ) → is_plain name ≡ true → escape name ≡ name
unfolding escape
escape-is_plain [] e = refl
escape-is_plain (b ∷ name) e =
    let parts = and_parts (not (b == 126) && not (b == 47)) (is_plain name) e in
    λ i. plain_byte (b == 126) (b == 47) (126 ∷ 48 ∷ []) (126 ∷ 49 ∷ []) (b ∷ []) parts.0 i ++ escape-is_plain name parts.1 i
