-- The content of a quoted string, as a walk over the bytes makes it.
use Rattle.std.proofs.Common.{◌≡◌, ℕ, suc, ◌+◌, ◌<◌, ◌||◌, ◌==◌, Bool, true, false, List, [], ◌∷◌, ◌++◌, length, drop, get_or, refl, sym, ap, ◌∙◌, append_assoc, add-one, drop-cons}
use Rattle.std.specs.Prelude.{Option, Some, None, option_map, not, if◌then◌else◌}
use Rattle.std.proofs.lemmas.Bool.{false≢true}
use Rattle.request_model.specs.declared.forms.Quoting.{Quoting}
use Rattle.request_model.specs.declared.forms.Quoting.TheVariants.{Outside, Within, Escaped}
use Rattle.request_model.specs.MediaTypes.{content_from, with_content, after_byte, is_outside}
use Rattle.media_types.specs.ParamPieces.{is_content}

chosen-skip : {A : Type 0} (t : Bool) (x y : A) → not t ≡ false → (if t then x else y) ≡ x
chosen-skip true x y h = refl
chosen-skip false x y h = absurd (false≢true (sym h))

chosen-push : {A : Type 0} (t : Bool) (x y : A) → not t ≡ true → (if t then x else y) ≡ y
chosen-push true x y h = absurd (false≢true h)
chosen-push false x y h = refl

with-skip : (at : Quoting) (b : ℕ) (rest : Option (List ℕ)) → is_outside at ≡ false → is_content at b ≡ false → with_content at b rest ≡ rest
with-skip Outside b rest h k = absurd (false≢true (sym h))
with-skip Within b rest h k = chosen-skip (b == 34 || b == 92) rest (option_map (λ bytes. b ∷ bytes) rest) k
with-skip Escaped b rest h k = absurd (false≢true (sym k))

with-push : (at : Quoting) (b : ℕ) (rest : Option (List ℕ)) → is_outside at ≡ false → is_content at b ≡ true → with_content at b rest ≡ option_map (λ bytes. b ∷ bytes) rest
with-push Outside b rest h k = absurd (false≢true (sym h))
with-push Within b rest h k = chosen-push (b == 34 || b == 92) rest (option_map (λ bytes. b ∷ bytes) rest) k
with-push Escaped b rest h k = refl

with-stop : (at : Quoting) (b : ℕ) (rest : Option (List ℕ)) → is_outside at ≡ true → with_content at b rest ≡ None
with-stop Outside b rest h = refl
with-stop Within b rest h = absurd (false≢true h)
with-stop Escaped b rest h = absurd (false≢true h)

pub map-push : {A : Type 0} (made : List A) (b : A) (rest : Option (List A))
    → option_map (λ r. made ++ r) (option_map (λ bytes. b ∷ bytes) rest) ≡ option_map (λ r. (made ++ b ∷ []) ++ r) rest
map-push made b None = refl
map-push made b (Some r) = ap Some (sym (append_assoc made (b ∷ []) r))

module _ (text : List ℕ) (at : Quoting) (i : ℕ) (made : List ℕ)
    (so_far : content_from Within text ≡ option_map (λ r. made ++ r) (content_from at (drop i text))) where
  -- a next byte
  next : (more : i < length text) → content_from Within text ≡ option_map (λ r. made ++ r) (with_content at (get_or text i 0) (content_from (after_byte at (get_or text i 0)) (drop (suc i) text)))
  next more = so_far ∙ ap (λ l. option_map (λ r. made ++ r) (content_from at l)) (drop-cons text i 0 more)

  -- the string has ended before
  pub content-stop : i < length text → is_outside at ≡ true → content_from Within text ≡ None
  content-stop more outside =
      next more ∙ ap (λ o. option_map (λ r. made ++ r) o) (with-stop at (get_or text i 0) (content_from (after_byte at (get_or text i 0)) (drop (suc i) text)) outside)

  -- a byte of the quoting
  pub content-skip : i < length text → is_outside at ≡ false → is_content at (get_or text i 0) ≡ false
      → content_from Within text ≡ option_map (λ r. made ++ r) (content_from (after_byte at (get_or text i 0)) (drop (i + 1) text))
  content-skip more inside quoting =
      rw add-one (
      next more ∙ ap (λ o. option_map (λ r. made ++ r) o) (with-skip at (get_or text i 0) (content_from (after_byte at (get_or text i 0)) (drop (suc i) text)) inside quoting)
      )

  -- a byte of the content
  pub content-push : i < length text → is_outside at ≡ false → is_content at (get_or text i 0) ≡ true
      → content_from Within text ≡ option_map (λ r. (made ++ get_or text i 0 ∷ []) ++ r) (content_from (after_byte at (get_or text i 0)) (drop (i + 1) text))
  content-push more inside content =
      rw add-one (
      next more
      ∙ ap (λ o. option_map (λ r. made ++ r) o) (with-push at (get_or text i 0) (content_from (after_byte at (get_or text i 0)) (drop (suc i) text)) inside content)
      ∙ map-push made (get_or text i 0) (content_from (after_byte at (get_or text i 0)) (drop (suc i) text))
      )
