-- The parts of a text between commas, from its first byte on.
use Rattle.std.proofs.Common.{◌≡◌, ◌≢◌, ℕ, suc, ◌+◌, ◌<◌, Bool, true, false, List, [], ◌∷◌, ◌++◌, length, take, drop, get_or, refl, sym, ap, ◌∙◌, eqb, arith, append-nil, append_assoc, add-one, drop-cons, take_all, drop_of_length-le}
use Rattle.std.proofs.lemmas.Bool.{eqb-true}
use Rattle.std.proofs.Math.Seq.{take-suc}
use Rattle.http_model.specs.Framings.{comma_parts, or_text, last_part}
use Rattle.httparse.specs.Grammar.{trim_ows}

-- a text before the first of some parts
abbrev pub joined : List ℕ → List (List ℕ) → List (List ℕ)
joined xs [] = xs ∷ []
joined xs (p ∷ parts) = (xs ++ p) ∷ parts

pub parts_none : comma_parts [] ≡ [] ∷ []
unfolding comma_parts
parts_none = refl

pub parts_comma : (ys : List ℕ) → comma_parts (44 ∷ ys) ≡ [] ∷ comma_parts ys
unfolding comma_parts
parts_comma ys = refl

onto_is : (b : ℕ) (parts : List (List ℕ))
    → elim parts as (λ x. List (List ℕ)) [ [] ↦ (b ∷ []) ∷ [] | ◌∷◌ p more ↦ (b ∷ p) ∷ more ] ≡ joined (b ∷ []) parts
onto_is b [] = refl
onto_is b (p ∷ parts) = refl

pub parts_other : (b : ℕ) (ys : List ℕ) → eqb b 44 ≡ false → comma_parts (b ∷ ys) ≡ joined (b ∷ []) (comma_parts ys)
unfolding comma_parts
parts_other b ys h = rw h (onto_is b (comma_parts ys))

other_byte : (b : ℕ) → b ≢ 44 → eqb b 44 ≡ false
other_byte b h = at (eqb b 44) refl
  where
    at : (t : Bool) → eqb b 44 ≡ t → eqb b 44 ≡ false
    at true e = absurd (h (eqb-true b 44 e))
    at false e = e

pub joined_then : (xs ys : List ℕ) (parts : List (List ℕ)) → joined xs (joined ys parts) ≡ joined (xs ++ ys) parts
joined_then xs ys [] = refl
joined_then xs ys (p ∷ parts) = ap (λ (l : List ℕ). l ∷ parts) (sym (append_assoc xs ys p))

-- there is a part
pub parts_some : (bytes : List ℕ) → comma_parts bytes ≡ joined [] (comma_parts bytes)
parts_some [] = parts_none ∙ sym (ap (joined []) parts_none)
parts_some (b ∷ ys) = at (eqb b 44) refl
  where
    at : (t : Bool) → eqb b 44 ≡ t → comma_parts (b ∷ ys) ≡ joined [] (comma_parts (b ∷ ys))
    at true e =
        let same : comma_parts (b ∷ ys) ≡ [] ∷ comma_parts ys = ap (λ (x : ℕ). comma_parts (x ∷ ys)) (eqb-true b 44 e) ∙ parts_comma ys in
        same ∙ sym (ap (joined []) same)
    at false e =
        let same = parts_other b ys e in
        same ∙ sym (ap (joined []) same ∙ joined_then [] (b ∷ []) (comma_parts ys))

-- one more byte that is no comma
pub parts_on : (bytes : List ℕ) (at : ℕ) → at < length bytes → get_or bytes at 0 ≢ 44
    → comma_parts bytes ≡ joined (take at bytes) (comma_parts (drop at bytes)) → comma_parts bytes ≡ joined (take (at + 1) bytes) (comma_parts (drop (at + 1) bytes))
parts_on bytes at within other h =
    let b = get_or bytes at 0 in
    rw add-one (
    h ∙ ap (λ (l : List ℕ). joined (take at bytes) (comma_parts l)) (drop-cons bytes at 0 within)
    ∙ ap (joined (take at bytes)) (parts_other b (drop (suc at) bytes) (other_byte b other))
    ∙ joined_then (take at bytes) (b ∷ []) (comma_parts (drop (suc at) bytes))
    ∙ ap (λ (l : List ℕ). joined l (comma_parts (drop (suc at) bytes))) (sym (take-suc bytes at 0 within))
    )

-- the first comma
pub parts_at : (bytes : List ℕ) (at : ℕ) → at < length bytes → get_or bytes at 0 ≡ 44
    → comma_parts bytes ≡ joined (take at bytes) (comma_parts (drop at bytes)) → comma_parts bytes ≡ take at bytes ∷ comma_parts (drop (at + 1) bytes)
parts_at bytes at within comma h =
    rw add-one (
    h ∙ ap (λ (l : List ℕ). joined (take at bytes) (comma_parts l)) (drop-cons bytes at 0 within)
    ∙ ap (λ (b : ℕ). joined (take at bytes) (comma_parts (b ∷ drop (suc at) bytes))) comma
    ∙ ap (joined (take at bytes)) (parts_comma (drop (suc at) bytes))
    ∙ ap (λ (l : List ℕ). l ∷ comma_parts (drop (suc at) bytes)) (append-nil (take at bytes))
    )

-- no comma
pub parts_end : (bytes : List ℕ) (at : ℕ) → length bytes ≡ at → comma_parts bytes ≡ joined (take at bytes) (comma_parts (drop at bytes)) → comma_parts bytes ≡ bytes ∷ []
parts_end bytes at e h =
    h ∙ ap (λ (l : List ℕ). joined l (comma_parts (drop at bytes))) (take_all at bytes (omega arith))
    ∙ ap (λ (l : List ℕ). joined bytes (comma_parts l)) (drop_of_length-le bytes (omega arith))
    ∙ ap (joined bytes) parts_none ∙ ap (λ (l : List ℕ). l ∷ []) (append-nil bytes)

-- ---- the last part

pub or_text_then : (a b c : List ℕ) → or_text (or_text a b) c ≡ or_text a (or_text b c)
or_text_then [] b c = refl
or_text_then (x ∷ a) b c = refl

pub or_text_none : (a : List ℕ) → or_text a [] ≡ a
or_text_none [] = refl
or_text_none (x ∷ a) = refl

pub last_of_both : (ps qs : List (List ℕ)) → last_part (ps ++ qs) ≡ or_text (last_part qs) (last_part ps)
last_of_both [] qs = sym (or_text_none (last_part qs))
last_of_both (p ∷ ps) qs = ap (λ (l : List ℕ). or_text l (trim_ows p)) (last_of_both ps qs) ∙ or_text_then (last_part qs) (last_part ps) (trim_ows p)
