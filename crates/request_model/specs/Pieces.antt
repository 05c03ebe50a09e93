-- Pieces outside of quoted strings, as a walk over the bytes makes them.
use Rattle.std.specs.Prelude.{◌≡◌, ◌<◌, ◌+◌, ◌&&◌, ◌==◌, ℕ, suc, Bool, true, false, List, [], ◌∷◌, ◌++◌, drop, length, get_or, refl}
use Rattle.std.specs.List.{onto_first}
use Rattle.std.proofs.Common.{ap, sym, ◌∙◌, arith}
use Rattle.std.proofs.lemmas.List.{append_assoc, append-nil}
use Rattle.std.proofs.Math.Seq.{drop-cons}
use Rattle.request_model.specs.declared.forms.Quoting.TheVariants.{Outside}
use Rattle.request_model.specs.declared.forms.Quoting.{Quoting}
use Rattle.request_model.specs.MediaTypes.{pieces_from, after_byte, is_outside, cut_if}

-- a piece that has begun, before the pieces of what is left
abbrev pub ahead : List ℕ → List (List ℕ) → List (List ℕ)
ahead piece [] = piece ∷ []
ahead piece (q ∷ pieces) = (piece ++ q) ∷ pieces

ahead-cut : (c : Bool) (b : ℕ) (ps : List (List ℕ)) → ahead [] (cut_if c b ps) ≡ cut_if c b ps
ahead-cut true b ps = refl
ahead-cut false b [] = refl
ahead-cut false b (q ∷ qs) = refl

ahead-nil : (at : Quoting) (separator : ℕ) (bytes : List ℕ) → ahead [] (pieces_from at separator bytes) ≡ pieces_from at separator bytes
ahead-nil at separator [] = refl
ahead-nil at separator (b ∷ bytes) = ahead-cut (is_outside at && b == separator) b (pieces_from (after_byte at b) separator bytes)

ahead-onto : (b : ℕ) (piece : List ℕ) (ps : List (List ℕ)) → ahead piece (onto_first b ps) ≡ ahead (piece ++ b ∷ []) ps
ahead-onto b piece [] = refl
ahead-onto b piece (q ∷ qs) = ap (λ p. p ∷ qs) (sym (append_assoc piece (b ∷ []) q))

-- a walk begins
pub pieces-start : (separator : ℕ) (text : List ℕ) → pieces_from Outside separator text ≡ [] ++ ahead [] (pieces_from Outside separator (drop 0 text))
pieces-start separator text = sym (ahead-nil Outside separator text)

module _ (separator : ℕ) (text : List ℕ) (at : Quoting) (i b : ℕ) (piece : List ℕ) (pieces : List (List ℕ))
    (more : i < length text) (item : b ≡ get_or text i 0)
    (so_far : pieces_from Outside separator text ≡ pieces ++ ahead piece (pieces_from at separator (drop i text))) where
  next : suc i ≡ i + 1
  next = omega arith

  left : drop i text ≡ b ∷ drop (i + 1) text
  left = drop-cons text i 0 more ∙ ap (λ x. x ∷ drop (suc i) text) (sym item) ∙ ap (λ k. b ∷ drop k text) next

  -- a separator ends a piece
  pub pieces-cut : (is_outside at && b == separator) ≡ true → pieces_from Outside separator text ≡ (pieces ++ piece ∷ []) ++ ahead [] (pieces_from (after_byte at b) separator (drop (i + 1) text))
  pieces-cut cut =
      so_far
      ∙ ap (λ l. pieces ++ ahead piece (pieces_from at separator l)) left
      ∙ ap (λ c. pieces ++ ahead piece (cut_if c b (pieces_from (after_byte at b) separator (drop (i + 1) text)))) cut
      ∙ ap (λ p. pieces ++ p ∷ pieces_from (after_byte at b) separator (drop (i + 1) text)) (append-nil piece)
      ∙ ap (λ ps. pieces ++ piece ∷ ps) (sym (ahead-nil (after_byte at b) separator (drop (i + 1) text)))
      ∙ sym (append_assoc pieces (piece ∷ []) _)

  -- any other byte joins the piece
  pub pieces-push : (is_outside at && b == separator) ≡ false → pieces_from Outside separator text ≡ pieces ++ ahead (piece ++ b ∷ []) (pieces_from (after_byte at b) separator (drop (i + 1) text))
  pieces-push kept =
      so_far
      ∙ ap (λ l. pieces ++ ahead piece (pieces_from at separator l)) left
      ∙ ap (λ c. pieces ++ ahead piece (cut_if c b (pieces_from (after_byte at b) separator (drop (i + 1) text)))) kept
      ∙ ap (λ ps. pieces ++ ps) (ahead-onto b piece _)
