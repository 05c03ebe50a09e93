-- The first piece of a text, as a walk over the bytes finds it.
use Rattle.std.proofs.Common.{◌≡◌, ℕ, suc, ◌+◌, ◌<◌, ◌≤◌, ◌&&◌, ◌==◌, Bool, true, false, List, [], ◌∷◌, ◌++◌, length, take, drop, get_or, refl, sym, ap, ◌∙◌, append-nil, append_assoc, add-one, drop-cons, take_all, drop_of_length-le}
use Rattle.std.specs.List.{onto_first}
use Rattle.std.proofs.lemmas.Bool.{and_parts, eqb-true}
use Rattle.std.proofs.Math.Seq.{take-suc}
use Rattle.request_model.specs.declared.forms.Quoting.{Quoting}
use Rattle.request_model.specs.declared.forms.Quoting.TheVariants.{Outside, Within, Escaped}
use Rattle.request_model.specs.MediaTypes.{pieces_from, after_byte, is_outside, cut_if}
use Rattle.request_model.specs.Pieces.{ahead}

ahead-cut : (c : Bool) (b : ℕ) (ps : List (List ℕ)) → ahead [] (cut_if c b ps) ≡ cut_if c b ps
ahead-cut true b ps = refl
ahead-cut false b [] = refl
ahead-cut false b (q ∷ qs) = refl

ahead-onto : (b : ℕ) (piece : List ℕ) (ps : List (List ℕ)) → ahead piece (onto_first b ps) ≡ ahead (piece ++ b ∷ []) ps
ahead-onto b piece [] = refl
ahead-onto b piece (q ∷ qs) = ap (λ p. p ∷ qs) (sym (append_assoc piece (b ∷ []) q))

-- nothing is read yet
pub cut-start : (at : Quoting) (separator : ℕ) (text : List ℕ) → pieces_from at separator text ≡ ahead [] (pieces_from at separator text)
cut-start at separator [] = refl
cut-start at separator (b ∷ bytes) = sym (ahead-cut (is_outside at && b == separator) b (pieces_from (after_byte at b) separator bytes))

-- outside of quoted strings alone there is a cut
outside_is : (at : Quoting) → is_outside at ≡ true → at ≡ Outside
outside_is Outside h = refl
outside_is Within h = cc
outside_is Escaped h = cc

module _ (first : Quoting) (separator : ℕ) (text : List ℕ) (at : Quoting) (i : ℕ) (more : i < length text)
    (so_far : pieces_from first separator text ≡ ahead (take i text) (pieces_from at separator (drop i text))) where
  b : ℕ
  b = get_or text i 0

  left : drop i text ≡ get_or text i 0 ∷ drop (suc i) text
  left = drop-cons text i 0 more

  -- a separator ends the piece
  pub cut-here : (is_outside at && get_or text i 0 == separator) ≡ true
      → pieces_from first separator text ≡ take i text ∷ pieces_from (after_byte Outside separator) separator (drop (i + 1) text)
  cut-here cut =
      let both = and_parts (is_outside at) (get_or text i 0 == separator) cut in
      rw add-one (
      so_far
      ∙ ap (λ l. ahead (take i text) (pieces_from at separator l)) left
      ∙ ap (λ c. ahead (take i text) (cut_if c (get_or text i 0) (pieces_from (after_byte at (get_or text i 0)) separator (drop (suc i) text)))) cut
      ∙ ap (λ p. p ∷ pieces_from (after_byte at (get_or text i 0)) separator (drop (suc i) text)) (append-nil (take i text))
      ∙ ap (λ q. take i text ∷ pieces_from (after_byte q (get_or text i 0)) separator (drop (suc i) text)) (outside_is at both.0)
      ∙ ap (λ n. take i text ∷ pieces_from (after_byte Outside n) separator (drop (suc i) text)) (eqb-true (get_or text i 0) separator both.1)
      )

  -- any other byte joins the piece
  pub cut-later : (is_outside at && get_or text i 0 == separator) ≡ false
      → pieces_from first separator text ≡ ahead (take (i + 1) text) (pieces_from (after_byte at (get_or text i 0)) separator (drop (i + 1) text))
  cut-later kept =
      rw add-one (
      so_far
      ∙ ap (λ l. ahead (take i text) (pieces_from at separator l)) left
      ∙ ap (λ c. ahead (take i text) (cut_if c (get_or text i 0) (pieces_from (after_byte at (get_or text i 0)) separator (drop (suc i) text)))) kept
      ∙ ahead-onto (get_or text i 0) (take i text) (pieces_from (after_byte at (get_or text i 0)) separator (drop (suc i) text))
      ∙ ap (λ l. ahead l (pieces_from (after_byte at (get_or text i 0)) separator (drop (suc i) text))) (sym (take-suc text i 0 more))
      )

-- no cut
pub cut-never : (first : Quoting) (separator : ℕ) (text : List ℕ) (at : Quoting) (i : ℕ) → length text ≤ i
    → pieces_from first separator text ≡ ahead (take i text) (pieces_from at separator (drop i text)) → pieces_from first separator text ≡ text ∷ []
cut-never first separator text at i done so_far =
    so_far
    ∙ ap (λ l. ahead (take i text) (pieces_from at separator l)) (drop_of_length-le text done)
    ∙ ap (λ l. l ∷ []) (append-nil (take i text) ∙ take_all i text done)
