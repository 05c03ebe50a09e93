-- The rows of a page in the order of ids lie within what a page of their type looks at.
use Rattle.std.proofs.Common.{◌≡◌, ℕ, List, [], ◌∷◌, Bool, true, false, Option, Some, None, refl, sym, ap, subst, ◌∙◌, inl, inr}
use Rattle.std.specs.Prelude.{not, IfSome}
use Rattle.std.specs.Option.{option_map_or}
use Rattle.std.specs.List.{filter, last_or}
use Rattle.std.specs.Cmp.{tied_itself}
use Rattle.std.specs.declared.cmp.Ordering.{Ordering}
use Rattle.std.specs.declared.cmp.Ordering.TheVariants.{Less, Equal, Greater}
use Rattle.std.specs.Ordering.{is_lt}
use Rattle.ident_rules.specs.IdOrder.{id_cmp, id_cmp_total}
use Rattle.world_cells.specs.declared.rows.Row.{Row}
use Rattle.world_cells.specs.Lists.{IsIn}
use Rattle.task_forms.specs.declared.queries.Page.{Page}
use Rattle.store_model.specs.Laws.{Pairwise, StandsBefore}
use Rattle.store_model.specs.Pages.{first_item, last_item}
use Rattle.store_model.specs.Reach.{id_before, id_after, not_below, not_above, in_page_range}
use Rattle.compound_document.proofs.Lists.{by_bool, both, last_in, all_in, first_passes, last_passes}

abbrev lt : List ℕ → List ℕ → Bool
lt x y = is_lt (id_cmp x y)

is_less : (o : Ordering) → is_lt o ≡ true → o ≡ Less
is_less Less e = refl
is_less Equal e = cc e
is_less Greater e = cc e

not_itself : (x : List ℕ) → lt x x ≡ false
not_itself x = ap is_lt (tied_itself id_cmp_total x)

lt_trans : (x y z : List ℕ) → lt x y ≡ true → lt y z ≡ true → lt x z ≡ true
lt_trans x y z e f = ap is_lt (id_cmp_total.trans x y z (is_less _ e) (is_less _ f))

not_back : (x y : List ℕ) → lt x y ≡ true → lt y x ≡ false
not_back x y e = by_bool (lt y x) (λ f. cc (lt_trans x y x e f, not_itself x)) (λ f. f)

not_false : (b : Bool) → b ≡ false → not b ≡ true
not_false true e = cc e
not_false false e = refl

-- ---- not below the row before, and not above the row behind

module _ (all : List Row) (at x : List ℕ) where
  low_ok : lt x at ≡ false → not_below (id_before all at) x ≡ true
  low_ok not_less = by_last (last_item (filter (λ row. lt row.key.id at) all)) (last_passes (λ row. lt row.key.id at) all)
    where
      by_last : (o : Option Row) → IfSome o (λ row. lt row.key.id at ≡ true) → not_below (option_map_or (λ row. Some row.key.id) o None) x ≡ true
      by_last None passes = refl
      by_last (Some row) passes = not_false _ (by_bool (lt x row.key.id) (λ e. cc (lt_trans x row.key.id at e passes, not_less)) (λ e. e))

  high_ok : lt at x ≡ false → not_above (id_after all at) x ≡ true
  high_ok not_less = by_first (first_item (filter (λ row. lt at row.key.id) all)) (first_passes (λ row. lt at row.key.id) all)
    where
      by_first : (o : Option Row) → IfSome o (λ row. lt at row.key.id ≡ true) → not_above (option_map_or (λ row. Some row.key.id) o None) x ≡ true
      by_first None passes = refl
      by_first (Some row) passes = not_false _ (by_bool (lt row.key.id x) (λ e. cc (lt_trans at row.key.id x passes e, not_less)) (λ e. e))

-- ---- rows in order

not_before_first : (first : Row) (items : List Row) (row : Row) → Pairwise (StandsBefore []) (first ∷ items) → IsIn (first ∷ items) row → lt row.key.id first.key.id ≡ false
not_before_first first items row order (inl is) = ap (λ (r : Row). lt r.key.id first.key.id) (sym is) ∙ not_itself first.key.id
not_before_first first items row order (inr h) = not_back first.key.id row.key.id (all_in (StandsBefore [] first) items row order.0 h)

not_behind_last : (first : Row) (items : List Row) (last row : Row) → Pairwise (StandsBefore []) (first ∷ items) → last_or (Some first) items ≡ Some last → IsIn (first ∷ items) row → lt last.key.id row.key.id ≡ false
not_behind_last first [] last row order at (inl is) =
    let one : last ≡ row = cc (at, is) in
    ap (λ (r : Row). lt r.key.id row.key.id) one ∙ not_itself row.key.id
not_behind_last first [] last row order at (inr h) = absurd h
not_behind_last first (y ∷ items) last row order at (inl is) =
    not_back row.key.id last.key.id (subst (λ (r : Row). lt r.key.id last.key.id ≡ true) is (all_in (StandsBefore [] first) (y ∷ items) last order.0 (last_in y items last at)))
not_behind_last first (y ∷ items) last row order at (inr h) = not_behind_last y items last row order.1 at h

-- a row of the page
pub in_range : (all : List Row) (page : Page) (items : List Row) (row : Row) → Pairwise (StandsBefore []) items → IsIn items row → in_page_range all page items row.key.id ≡ true
in_range all page [] row order h = absurd h
in_range all page (first ∷ items) row order h = both _ _
    (low_ok all first.key.id row.key.id (not_before_first first items row order h))
    (by_last (last_or (Some first) items) refl)
  where
    by_last : (o : Option Row) → last_or (Some first) items ≡ o → not_above (option_map_or (λ last. id_after all last.key.id) o None) row.key.id ≡ true
    by_last None at = refl
    by_last (Some last) at = high_ok all last.key.id row.key.id (not_behind_last first items last row order at h)
