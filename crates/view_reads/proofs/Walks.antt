-- A walk over the ways back to the last cell that nothing hides.
use Rattle.std.proofs.Common.{◌≡◌, inl, inr, List, refl, sym, ap, subst, ◌∙◌, true, false, Option, Some, None}
use Rattle.std.specs.Prelude.{◌&&◌}
use Rattle.std.specs.declared.cmp.Ordering.{Ordering}
use Rattle.std.specs.declared.cmp.Ordering.TheVariants.{Less, Equal, Greater}
use Rattle.std.specs.Ordering.{is_lt, ordering_reverse}
use Rattle.std.specs.FinMap.Entries.{find}
use Rattle.world_cells.specs.declared.keys.CellKey.{CellKey}
use Rattle.world_cells.specs.declared.cells.Cell.{Cell}
use Rattle.world_cells.specs.declared.spans.Span.{Span}
use Rattle.world_cells.specs.declared.sets.Written.{Written}
use Rattle.world_cells.specs.CellOrder.{cell_key_cmp, cell_key_cmp_total}
use Rattle.world_cells.specs.Reads.{Cells, entries_of, in_span}
use Rattle.view_reads.specs.Narrowing.{IsMet, is_met, narrowed}
use Rattle.view_reads.specs.Merging.{hidden, unwritten, unless_written, is_met_before, IsFirstUnwritten}
use Rattle.view_reads.specs.SpanLaws.{and_true, narrowed_is}
use Rattle.view_reads.specs.SpanLaws.{less_trans}
use Rattle.view_reads.proofs.Merges.{by_left, unwritten_none, hidden_here, met_or_same, itself, before_far}

not_both : (o : Ordering) → is_lt o ≡ true → is_lt (ordering_reverse o) ≡ true → ⊥
not_both Less p q = cc q
not_both Equal p q = cc p
not_both Greater p q = cc p

less_both : (j k : CellKey) → is_lt (cell_key_cmp j k) ≡ true → is_lt (cell_key_cmp k j) ≡ true → ⊥
less_both j k p q = not_both (cell_key_cmp j k) p (ap is_lt (sym (cell_key_cmp_total.antisymm k j)) ∙ q)

-- the last cell among the keys that were passed
abbrev pub IsLastPassed : Cells → Span → Span → Option (CellKey × Cell) → Type 0
IsLastPassed g span rest None = (j : CellKey) → in_span span j ≡ true → in_span rest j ≡ false → g j ≡ None
IsLastPassed g span rest (Some p) =
    (in_span span p.0 ≡ true) × (in_span rest p.0 ≡ false) × (g p.0 ≡ Some p.1)
    × ((j : CellKey) → in_span span j ≡ true → in_span rest j ≡ false → is_lt (cell_key_cmp p.0 j) ≡ true → g j ≡ None)

-- what a walk from the low end has left, and what it found
pub record IsWalked (g : Cells) (span rest : Span) (last : Option (CellKey × Cell)) : Type 0 where
  pub within : (j : CellKey) → in_span rest j ≡ true → in_span span j ≡ true
  pub behind : (j k : CellKey) → in_span span j ≡ true → in_span rest j ≡ false → in_span rest k ≡ true → is_lt (cell_key_cmp j k) ≡ true
  pub found : IsLastPassed g span rest last

pub walk_start : (g : Cells) (span : Span) → IsWalked g span span None
walk_start g span = record {
  within = λ j here. here;
  behind = λ j k inside outside here. cc (inside, outside);
  found = λ j inside outside. cc (inside, outside);
}

-- a key that was passed
by_passed : {P : Type 0} (rest : Span) (k j : CellKey) → in_span rest k ≡ true → in_span (narrowed false rest k) j ≡ false
    → (in_span rest j ≡ false → P) → (in_span rest j ≡ true → is_lt (cell_key_cmp j k) ≡ true → P) → (j ≡ k → P) → P
by_passed rest k j at outside gone before same = by_left (in_span rest j)
    (λ here.
    let not_behind : is_met false k j ≡ false = sym (ap (λ b. b && is_met false k j) here) ∙ sym (narrowed_is false rest k j tt at) ∙ outside in
    elim (met_or_same false j k not_behind) [ inl less ↦ before here less | inr is ↦ same is ])
    gone

step_found : (f : Cells) (ws : List Written) (span rest : Span) (last : Option (CellKey × Cell)) (p : CellKey × Cell) → IsWalked (unwritten f ws) span rest last → IsMet false f rest (Some p)
    → (w : Option (Option Cell)) → find cell_key_cmp p.0 (entries_of ws) ≡ w → IsLastPassed (unwritten f ws) span (narrowed false rest p.0) (unless_written w last p)
step_found f ws span rest last p walked met None free = (
  walked.within p.0 met.0,
  narrowed_is false rest p.0 p.0 tt met.0 ∙ ap (λ b. b && is_met false p.0 p.0) met.0 ∙ itself false p.0,
  ap (λ w. hidden w (f p.0)) free ∙ met.1,
  λ j inside outside above. by_passed rest p.0 j met.0 outside
      (λ gone. absurd (less_both j p.0 (walked.behind j p.0 inside gone met.0) above))
      (λ here less. absurd (less_both j p.0 less above))
      (λ same. absurd (less_both p.0 p.0 (at_itself j same above) (at_itself j same above))),
)
  where
    at_itself : (j : CellKey) → j ≡ p.0 → is_lt (cell_key_cmp p.0 j) ≡ true → is_lt (cell_key_cmp p.0 p.0) ≡ true
    at_itself j same above = ap (λ k. is_lt (cell_key_cmp p.0 k)) (sym same) ∙ above
step_found f ws span rest None p walked met (Some c) written = λ j inside outside. by_passed rest p.0 j met.0 outside
    (λ gone. walked.found j inside gone)
    (λ here less. unwritten_none f ws j (met.2 j here less))
    (λ same. ap (unwritten f ws) same ∙ hidden_here (find cell_key_cmp p.0 (entries_of ws)) (f p.0) c written)
step_found f ws span rest (Some q) p walked met (Some c) written = (
  walked.found.0,
  narrowed_is false rest p.0 q.0 tt met.0 ∙ ap (λ b. b && is_met false p.0 q.0) walked.found.1,
  walked.found.2,
  λ j inside outside above. by_passed rest p.0 j met.0 outside
      (λ gone. walked.found.3 j inside gone above)
      (λ here less. unwritten_none f ws j (met.2 j here less))
      (λ same. ap (unwritten f ws) same ∙ hidden_here (find cell_key_cmp p.0 (entries_of ws)) (f p.0) c written),
)

pub walk_step : (f : Cells) (ws : List Written) (span rest : Span) (last : Option (CellKey × Cell)) (p : CellKey × Cell) → IsWalked (unwritten f ws) span rest last → IsMet false f rest (Some p)
    → IsWalked (unwritten f ws) span (narrowed false rest p.0) (unless_written (find cell_key_cmp p.0 (entries_of ws)) last p)
walk_step f ws span rest last p walked met = record {
  within = λ j here. walked.within j (and_true _ _ (sym (narrowed_is false rest p.0 j tt met.0) ∙ here)).0;
  behind = λ j k inside outside here.
      let further = and_true _ _ (sym (narrowed_is false rest p.0 k tt met.0) ∙ here) in
      by_passed rest p.0 j met.0 outside
      (λ gone. walked.behind j k inside gone further.0)
      (λ at less. less_trans j p.0 k less further.1)
      (λ same. ap (λ i. is_lt (cell_key_cmp i k)) same ∙ further.1);
  found = step_found f ws span rest last p walked met (find cell_key_cmp p.0 (entries_of ws)) refl;
}

-- the same, of the span and the cell that the code then has
pub walk_on : (f : Cells) (ws : List Written) (span rest : Span) (last : Option (CellKey × Cell)) (p : CellKey × Cell) (left : Span) (found : Option (CellKey × Cell)) → left ≡ narrowed false rest p.0
    → found ≡ unless_written (find cell_key_cmp p.0 (entries_of ws)) last p → IsWalked (unwritten f ws) span rest last → IsMet false f rest (Some p) → IsWalked (unwritten f ws) span left found
walk_on f ws span rest last p left found narrow keep walked met =
    subst (λ (s : Span). IsWalked (unwritten f ws) span s found) (sym narrow)
    (subst (λ (o : Option (CellKey × Cell)). IsWalked (unwritten f ws) span (narrowed false rest p.0) o) (sym keep) (walk_step f ws span rest last p walked met))

pub walk_end : (f : Cells) (ws : List Written) (span rest : Span) (last : Option (CellKey × Cell)) → IsWalked (unwritten f ws) span rest last → IsMet false f rest None → IsMet true (unwritten f ws) span last
walk_end f ws span rest None walked none = λ j inside. by_left (in_span rest j) (λ here. unwritten_none f ws j (none j here)) (λ gone. walked.found j inside gone)
walk_end f ws span rest (Some p) walked none = (
  walked.found.0,
  walked.found.2,
  λ j inside above. by_left (in_span rest j) (λ here. unwritten_none f ws j (none j here)) (λ gone. walked.found.3 j inside gone above),
)

-- ---- without a walk

pub top_free : (f : Cells) (ws : List Written) (span : Span) (p : CellKey × Cell) → IsMet true f span (Some p) → find cell_key_cmp p.0 (entries_of ws) ≡ None → IsMet true (unwritten f ws) span (Some p)
top_free f ws span p met free = (met.0, ap (λ w. hidden w (f p.0)) free ∙ met.1, λ j inside above. unwritten_none f ws j (met.2 j inside above))

pub top_none : (f : Cells) (ws : List Written) (span : Span) → IsMet true f span None → IsMet true (unwritten f ws) span None
top_none f ws span met = λ j inside. unwritten_none f ws j (met j inside)

-- ---- the last that is kept, before what was put

pub top_kept : (f : Cells) (ws : List Written) (span : Span) (put : Option (CellKey × Cell)) (p : CellKey × Cell) → IsMet true (unwritten f ws) span (Some p) → is_met_before true put p.0 ≡ true → IsFirstUnwritten true f ws span put (Some p)
top_kept f ws span put p met early = (met.0, met.1, early, met.2)

pub top_late : (f : Cells) (ws : List Written) (span : Span) (put : Option (CellKey × Cell)) (p : CellKey × Cell) → IsMet true (unwritten f ws) span (Some p) → is_met_before true put p.0 ≡ false → IsFirstUnwritten true f ws span put None
top_late f ws span put p met late = λ j inside before. met.2 j inside (before_far true put j p.0 late before)

pub top_empty : (f : Cells) (ws : List Written) (span : Span) (put : Option (CellKey × Cell)) → IsMet true (unwritten f ws) span None → IsFirstUnwritten true f ws span put None
top_empty f ws span put met = λ j inside before. met j inside
