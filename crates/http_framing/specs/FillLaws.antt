-- Laws on reads into a buffer, and on what stands at the front of its first bytes.
use Rattle.std.proofs.Common.{◌≡◌, ℕ, List, [], ◌++◌, length, take, drop, sym, ap, subst, ◌∙◌, append_assoc, append-nil, take-append-drop}
use Rattle.std.proofs.Math.Seq.{drop-append_seam}
use Rattle.outer_ends.specs.Told.{SourceTold}
use Rattle.outer_ends.specs.StreamLaws.{appends_none, appends_then, consumes_none, consumes_then}
use Rattle.http_framing.specs.Fills.{Adds}

pub adds_none : (old : List ℕ) (t : SourceTold) → Adds old old t t
adds_none old t = record { bytes = []; kept = sym (append-nil old); taken_more = appends_none t.taken; left_less = consumes_none t.left }

pub adds_then : (a b c : List ℕ) (t u v : SourceTold) → Adds a b t u → Adds b c u v → Adds a c t v
adds_then a b c t u v p q = record {
  bytes = p.bytes ++ q.bytes;
  kept = q.kept ∙ ap (λ (x : List ℕ). x ++ q.bytes) p.kept ∙ append_assoc a p.bytes q.bytes;
  taken_more = appends_then t.taken u.taken v.taken p.bytes q.bytes p.taken_more q.taken_more;
  left_less = consumes_then t.left u.left v.left p.bytes q.bytes p.left_less q.left_less;
}

-- the same where the second call began with an equal buffer
pub adds_on : (a b c d : List ℕ) (t u v : SourceTold) → Adds a b t u → c ≡ b → Adds c d u v → Adds a d t v
adds_on a b c d t u v p e q = adds_then a b d t u v p (subst (λ (x : List ℕ). Adds x d u v) e q)

-- the same of a buffer whose first bytes were used
pub adds_behind : (x b c : List ℕ) (t u : SourceTold) → Adds b c t u → Adds (x ++ b) (x ++ c) t u
adds_behind x b c t u p = record {
  bytes = p.bytes;
  kept = ap (λ (v : List ℕ). x ++ v) p.kept ∙ sym (append_assoc x b p.bytes);
  taken_more = p.taken_more;
  left_less = p.left_less;
}

-- a text at the front of the first bytes is at the front of all of them
pub whole_front : (limit : ℕ) (buffer text : List ℕ) (len : ℕ) → take limit buffer ≡ text ++ drop len (take limit buffer) → len ≡ length text → buffer ≡ text ++ drop len buffer
whole_front limit buffer text len e size =
    let rest = drop len (take limit buffer) ++ drop limit buffer in
    let whole : buffer ≡ text ++ rest =
    sym (take-append-drop limit buffer) ∙ ap (λ (x : List ℕ). x ++ drop limit buffer) e ∙ append_assoc text (drop len (take limit buffer)) (drop limit buffer) in
    let behind : rest ≡ drop len buffer =
    sym (drop-append_seam text rest) ∙ ap (drop (length text)) (sym whole) ∙ ap (λ (n : ℕ). drop n buffer) (sym size) in
    whole ∙ ap (λ (x : List ℕ). text ++ x) behind
