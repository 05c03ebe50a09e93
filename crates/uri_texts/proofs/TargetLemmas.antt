-- What stands behind a scheme and behind an authority.
use Rattle.std.proofs.Common.{length-take, ◌≡◌, ℕ, zero, suc, ◌+◌, ◌<◌, ◌≤◌, List, Bool, true, false, Some, [], ◌∷◌, ◌||◌, ◌==◌, not, nat_lt, length, take, drop, map, refl, sym, ap, ◌∙◌, cond, subst, IsUtf8, arith}
use Rattle.std.specs.List.{position, position_or_len, before_first}
use Rattle.std.specs.Char.{to_ascii_lowercase}
use Rattle.std.specs.Str.{IsAscii, IsCharBoundary}
use Rattle.std.proofs.lemmas.Bool.{and_parts}
use Rattle.std.proofs.lemmas.Bool.Decides.{nat_tests}
use Rattle.std.proofs.lemmas.Str.{IsUtf8-from_ascii, IsCharBoundary-from_take, IsCharBoundary-before_ascii}
use Rattle.std.proofs.lemmas.List.Quantifiers.{position-Some}
use Rattle.std.proofs.lemmas.List.{length-map}
use Rattle.request_model.specs.Words.{slash, question_mark}
use Rattle.request_model.specs.Targets.{behind_authority, rooted}
use Rattle.uri_texts.specs.Texts.{is_ascii_text}

-- ---- the scheme

same_case : (x y : ℕ) → to_ascii_lowercase x ≡ to_ascii_lowercase y → nat_lt x 128 ≡ true → y < 128
same_case x y e h = grind (arith, nat_tests, e, h)

ascii_in_case : (xs ys : List ℕ) → map to_ascii_lowercase xs ≡ map to_ascii_lowercase ys → is_ascii_text xs ≡ true → IsAscii ys
ascii_in_case xs [] e h i = omega arith
ascii_in_case [] (y ∷ ys) e h i = cc e
ascii_in_case (x ∷ xs) (y ∷ ys) e h zero = same_case x y (cc e) (and_parts _ _ h).0
ascii_in_case (x ∷ xs) (y ∷ ys) e h (suc i) = ascii_in_case xs ys (cc e) (and_parts _ _ h).1 i

-- a text that begins with an ASCII text in any case may be cut behind it
pub boundary_behind : (scheme text : List ℕ) → IsUtf8 text → is_ascii_text scheme ≡ true
    → map to_ascii_lowercase scheme ≡ map to_ascii_lowercase (take (length scheme) text) → IsCharBoundary text (length scheme)
boundary_behind scheme text utf8 ascii e =
    let same : length scheme ≡ length (take (length scheme) text) = sym (length-map scheme to_ascii_lowercase) ∙ ap length e ∙ length-map (take (length scheme) text) to_ascii_lowercase in
    let fits : length scheme ≤ length text = grind (arith, length-take, same) in
    IsCharBoundary-from_take text (length scheme) utf8 fits (IsUtf8-from_ascii _ (ascii_in_case scheme (take (length scheme) text) e ascii))

-- ---- the authority

-- this byte ends an authority
abbrev ends_authority : ℕ → Bool
ends_authority b = b == slash || b == question_mark

ascii_end : (b : ℕ) → ends_authority b ≡ true → b < 128
ascii_end b e = grind (arith, nat_tests, e)

-- a text may be cut before the byte that ends its authority
pub boundary_at_end : (text : List ℕ) (place : ℕ) → position (λ b. b == slash || b == question_mark) text ≡ Some place → IsCharBoundary text place
boundary_at_end text place e =
    let there = position-Some ends_authority text place 0 e in
    IsCharBoundary-before_ascii text place there.0 (ascii_end _ there.1)

-- the list is empty, or begins with what ends an authority
abbrev StartsWell : List ℕ → Type 0
StartsWell [] = Unit {0}
StartsWell (b ∷ bs) = ends_authority b ≡ true

starts_by : (b : ℕ) (text : List ℕ) (v : Bool) → ends_authority b ≡ v → StartsWell (behind_authority text)
    → StartsWell (drop (cond (not v) (1 + position_or_len ends_authority text) 0) (b ∷ text))
starts_by b text true e more = e
starts_by b text false e more =
    let one : 1 + position_or_len ends_authority text ≡ suc (position_or_len ends_authority text) = omega arith in
    rw one more

starts_well : (text : List ℕ) → StartsWell (behind_authority text)
starts_well [] = tt
starts_well (b ∷ text) = starts_by b text (ends_authority b) refl (starts_well text)

equal_bytes : (b c : ℕ) → (b == c) ≡ true → b ≡ c
equal_bytes b c e = grind (arith, nat_tests, e)

rooted_by : (b : ℕ) (bs : List ℕ) (slashed asked : Bool) → (b == slash) ≡ slashed → (b == question_mark) ≡ asked → (slashed || asked) ≡ true
    → 0 < length (take (cond (not asked) (1 + position_or_len (λ d. d == question_mark) bs) 0) (b ∷ bs)) → rooted (b ∷ bs) ≡ b ∷ bs
rooted_by b bs true asked s q e some = subst (λ (d : ℕ). rooted (d ∷ bs) ≡ d ∷ bs) (sym (equal_bytes b slash s)) refl
rooted_by b bs false true s q e some = absurd (omega arith)
rooted_by b bs false false s q e some = cc e

rooted_from : (rest : List ℕ) → StartsWell rest → 0 < length (before_first (λ b. b == question_mark) rest) → rooted rest ≡ rest
rooted_from [] well some = absurd (omega arith)
rooted_from (b ∷ bs) well some = rooted_by b bs (b == slash) (b == question_mark) refl refl well some

some_bytes : (path : List ℕ) → (length path == 0) ≡ false → 0 < length path
some_bytes path e = grind (arith, nat_tests, e)

-- where there is a path behind an authority, it begins with its slash
pub rooted_behind : (text path : List ℕ) → (length path == 0) ≡ false → path ≡ before_first (λ b. b == question_mark) (behind_authority text) → rooted (behind_authority text) ≡ behind_authority text
rooted_behind text path some e = rooted_from (behind_authority text) (starts_well text) (subst (λ (p : List ℕ). 0 < length p) e (some_bytes path some))
