-- Laws on drafts: piece after piece, in other words, and in a loop.
use Rattle.std.proofs.Common.{◌≡◌, ℕ, List, [], ◌++◌, None, Some, refl, sym, ap, subst, ◌∙◌, append_assoc, append-nil}
use Rattle.std.proofs.lemmas.Bool.{false≢true}
use Rattle.std.specs.Prelude.{is_some}
use Rattle.std.specs.Option.{option_map}
use Rattle.std.specs.declared.option.Option.{Option}
use Rattle.json_texts.specs.Drafts.{Adds, Leaves}

-- nothing is added
pub adds_none : {a : Option (List ℕ)} → Adds a a []
adds_none {a = None} = record { grown = λ h. absurd (false≢true h) }
adds_none {a = Some x} = record { grown = λ _. ap Some (sym (append-nil x)) }

-- a piece, and another behind it
pub adds_then : {a b c : Option (List ℕ)} {p q : List ℕ} → Adds a b p → Adds b c q → Adds a c (p ++ q)
adds_then {c = None} h k = record { grown = λ i. absurd (false≢true i) }
adds_then {b = None} {c = Some z} h k = record { grown = λ i. absurd (false≢true (ap is_some (sym (k.grown i)))) }
adds_then {a = None} {b = Some y} {c = Some z} h k = record { grown = λ i. absurd (false≢true (ap is_some (sym (h.grown refl)))) }
adds_then {a = Some x} {b = Some y} {c = Some z} {p = p} {q = q} h k = record { grown = λ i. k.grown i ∙ ap (option_map (λ text. text ++ q)) (h.grown refl) ∙ ap Some (append_assoc x p q) }

-- the piece in other words
pub adds_as : {a b : Option (List ℕ)} {p q : List ℕ} → q ≡ p → Adds a b p → Adds a b q
adds_as {a = a} {b = b} e h = subst (Adds a b) (sym e) h

-- ---- loops

pub leaves_all : {a : Option (List ℕ)} {whole : List ℕ} → Leaves a a whole whole
leaves_all = record { rest = λ _. refl }

-- the next piece of what is left
pub leaves_less : {a b c : Option (List ℕ)} {piece left rest whole : List ℕ} → Leaves a b left whole → Adds b c piece → left ≡ piece ++ rest → Leaves a c rest whole
leaves_less {c = None} h k e = record { rest = λ i. absurd (false≢true i) }
leaves_less {b = None} {c = Some z} h k e = record { rest = λ i. absurd (false≢true (ap is_some (sym (k.grown i)))) }
leaves_less {b = Some y} {c = Some z} {piece = piece} {rest = rest} h k e =
    record { rest = λ i. ap (option_map (λ text. text ++ rest)) (k.grown i) ∙ ap Some (append_assoc y piece rest ∙ ap (λ l. y ++ l) (sym e)) ∙ h.rest refl }

-- nothing is left
pub leaves_none : {a b : Option (List ℕ)} {left whole : List ℕ} → Leaves a b left whole → left ≡ [] → Adds a b whole
leaves_none {b = None} h e = record { grown = λ i. absurd (false≢true i) }
leaves_none {b = Some y} h e = record { grown = λ i. ap Some (sym (append-nil y) ∙ ap (λ l. y ++ l) (sym e)) ∙ h.rest i }
