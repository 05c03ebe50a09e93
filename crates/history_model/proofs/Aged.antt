-- What is too old for a log is one entry, or none.
use Rattle.std.proofs.Common.{◌≡◌, ℕ, ◌+◌, List, [], ◌∷◌, Some, None, Option, refl, sym, ap, subst, ◌∙◌, inl, inr, length}
use Rattle.std.specs.Prelude.{map, ◌==◌, if◌then◌else◌, ◌≢◌}
use Rattle.std.proofs.lemmas.List.{length-map}
use Rattle.world_cells.specs.declared.keys.CellKey.{CellKey}
use Rattle.world_cells.specs.World.{World}
use Rattle.world_cells.specs.Reads.{Cells}
use Rattle.task_forms.specs.declared.tasks.Entry.{Entry}
use Rattle.task_forms.specs.Meaning.{Meaning}
use Rattle.history_model.specs.Histories.{IsAged, IsAbove, OnlyAbove, Noted, Writings, Exactly, last_dropped}
use Rattle.history_model.specs.Laws.{AgedIsOne}

abbrev numbers : List Noted → List ℕ
numbers noted = map (λ x. x.number) noted

none_differ : (keys : List CellKey) (f g : Cells) → keys ≢ [] → Exactly keys f g → ((k : CellKey) → f k ≡ g k) → ⊥
none_differ [] f g some exact same = some refl
none_differ (k ∷ keys) f g some exact same = exact.differ k (inl refl) (same k)

same_numbers : (m : Meaning) (n : ℕ) (w : World) (entries : List Entry) (a b : List Noted) → Writings m n w entries a → Writings m n w entries b → numbers a ≡ numbers b
same_numbers m n w [] a b p q = ap numbers p ∙ sym (ap numbers q)
same_numbers m n w (e ∷ entries) a b (inl p) (inl q) = same_numbers m (n + 1) (m.effect w e.task) entries a b p.1 q.1
same_numbers m n w (e ∷ entries) a b (inl p) (inr q) = absurd (none_differ q.0 (m.cells w) (m.cells (m.effect w e.task)) q.3 q.4 p.0)
same_numbers m n w (e ∷ entries) a b (inr p) (inl q) = absurd (none_differ p.0 (m.cells w) (m.cells (m.effect w e.task)) p.3 p.4 q.0)
same_numbers m n w (e ∷ entries) a b (inr p) (inr q) = ap numbers p.2 ∙ ap (λ l. (n + 1) ∷ l) (same_numbers m (n + 1) (m.effect w e.task) entries p.1 q.1 p.5 q.5) ∙ sym (ap numbers q.2)

dropped_of : ℕ → List ℕ → Option ℕ
dropped_of window [] = None
dropped_of window (i ∷ more) = if length more == window then Some i else dropped_of window more

by_numbers : (window : ℕ) (noted : List Noted) → last_dropped window noted ≡ dropped_of window (numbers noted)
unfolding dropped_of
by_numbers window [] = refl
by_numbers window (x ∷ noted) = let p : length noted ≡ length (numbers noted) = sym (length-map noted (λ (x : Noted). x.number)) in λ i. if p i == window then Some x.number else by_numbers window noted i

only_one : (at : ℕ) (found one other : Option ℕ) → OnlyAbove at found one → OnlyAbove at found other → one ≡ other
only_one at found None None p q = refl
only_one at found None (Some n) p q = absurd (p (subst (IsAbove at) (sym q.0) q.1))
only_one at found (Some n) None p q = absurd (q (subst (IsAbove at) (sym p.0) p.1))
only_one at found (Some n) (Some i) p q = sym p.0 ∙ q.0

pub aged_is_one : (m : Meaning) → AgedIsOne m
aged_is_one m first w entries at window one other p q =
    let same = by_numbers window p.0 ∙ ap (dropped_of window) (same_numbers m first w entries p.0 q.0 p.1 q.1) ∙ sym (by_numbers window q.0) in
    only_one at (last_dropped window q.0) one other (subst (λ o. OnlyAbove at o one) same p.2) q.2
