-- Bytes that move to a body, over several reads.
use Rattle.std.proofs.Common.{◌≡◌, ℕ, ◌<◌, ◌≤◌, List, [], ◌∷◌, ◌++◌, length, true, false, Result, Ok, Err, refl, sym, ap, subst, ◌∙◌, arith, append_assoc, append-nil, length-append}
use Rattle.std.specs.Prelude.{OnOk, OnErr, ⊤}
use Rattle.std.specs.Result.{is_err}
use Rattle.std.proofs.lemmas.Bool.{false≢true}
use Rattle.outer_ends.specs.Told.{SourceTold}
use Rattle.http_framing.specs.Fills.{Adds}
use Rattle.http_framing.specs.FillLaws.{adds_none, adds_then, adds_behind}
use Rattle.http_bodies.specs.Parts.{Moves, Moved}

empty_of : (xs : List ℕ) → length xs ≡ 0 → xs ≡ []
empty_of [] h = refl
empty_of (x ∷ xs) h = absurd (omega arith)

pub at_ok : {E P : Type 0} (r : Result ⊤ E) → is_err r ≡ false → OnOk r P → P
at_ok (Ok x) e h = h
at_ok (Err y) e h = absurd (false≢true (sym e))

pub at_err : {E P : Type 0} (r : Result ⊤ E) → is_err r ≡ true → OnErr r P → P
at_err (Ok x) e h = absurd (false≢true e)
at_err (Err y) e h = h

pub moves_within : (n : ℕ) (b c x y : List ℕ) → Moves n b c x y → length x ≤ n → length y ≤ n
moves_within n b c x y h within = omega (arith, ap length h.added, length-append x h.part, h.size)

pub moves_used : (n : ℕ) (b c x y : List ℕ) → Moves n b c x y → length x ≤ n → length y < n → c ≡ []
moves_used n b c x y h within short =
    empty_of c (omega (arith, ap length h.added, length-append x h.part, h.size, ap length h.dropped, length-append h.part c))

pub moves_on : (n : ℕ) (b c x y : List ℕ) → Moves n b c x y → length x < n → 0 < length b → length x < length y
moves_on n b c x y h short some = omega (arith, ap length h.added, length-append x h.part, h.size)

pub moved_none : (x b : List ℕ) (t : SourceTold) → Moved x x b b t t
moved_none x b t = record { part = []; added = sym (append-nil x); adds = adds_none b t }

-- a read
pub moved_fill : (x y a b c : List ℕ) (t u v : SourceTold) → Moved x y a b t u → Adds b c u v → Moved x y a c t v
moved_fill x y a b c t u v p q = record {
  part = p.part;
  added = p.added;
  adds = adds_then a (p.part ++ b) (p.part ++ c) t u v p.adds (adds_behind p.part b c u v q);
}

-- a move
pub moved_move : (k : ℕ) (x y z a b c : List ℕ) (t u : SourceTold) → Moved x y a b t u → Moves k b c y z → Moved x z a c t u
moved_move k x y z a b c t u p h = record {
  part = p.part ++ h.part;
  added = h.added ∙ ap (λ (v : List ℕ). v ++ h.part) p.added ∙ append_assoc x p.part h.part;
  adds = subst (λ (v : List ℕ). Adds a v t u) (ap (λ (v : List ℕ). p.part ++ v) h.dropped ∙ sym (append_assoc p.part h.part c)) p.adds;
}

-- no move
pub moved_kept : (x y z a b c : List ℕ) (t u : SourceTold) → Moved x y a b t u → (c ≡ b) × (z ≡ y) → Moved x z a c t u
moved_kept x y z a b c t u p e = record {
  part = p.part;
  added = e.1 ∙ p.added;
  adds = subst (λ (v : List ℕ). Adds a (p.part ++ v) t u) (sym e.0) p.adds;
}
