-- Rows in the order of their places: by index, and after a sort.
use Rattle.std.proofs.Common.{◌≡◌, ℕ, zero, suc, ◌+◌, ◌<◌, ◌≤◌, List, [], ◌∷◌, Bool, true, false, length, get_or, refl, sym, ap, subst, ◌∙◌, arith, inl, inr, ◌⊎◌}
use Rattle.std.specs.Prelude.{not}
use Rattle.std.specs.List.{IsDistinct}
use Rattle.std.specs.List.Sorted.{IsPartitionedBy, IsSortedBy}
use Rattle.std.proofs.lemmas.Bool.{false≢true}
use Rattle.std.specs.declared.cmp.Ordering.{Ordering}
use Rattle.std.specs.declared.cmp.Ordering.TheVariants.{Less, Equal, Greater}
use Rattle.std.specs.Ordering.{is_lt, is_eq, ordering_reverse}
use Rattle.std.specs.Cmp.{tied_itself, eq_by_cmp_equiv}
use Rattle.ident_rules.specs.IdOrder.{id_cmp, id_cmp_total, second_equal}
use Rattle.resource_schema.specs.declared.values.Place.{Place}
use Rattle.world_cells.specs.declared.rows.Row.{Row}
use Rattle.task_forms.specs.declared.queries.SortKey.{SortKey}
use Rattle.store_model.specs.Pages.{place_cmp, place_of, place_cmp_total, values_cmp}
use Rattle.page_select.specs.Orders.{AreInOrder, same_row}

abbrev pub before : List SortKey → Row → Row → Bool
before sort a b = is_lt (place_cmp sort (place_of sort a) (place_of sort b))

is_less : (o : Ordering) → is_lt o ≡ true → o ≡ Less
is_less Less e = refl
is_less Equal e = cc e
is_less Greater e = cc e

strict : (o : Ordering) → is_lt (ordering_reverse o) ≡ false → (o ≡ Equal → ⊥) → o ≡ Less
strict Less e f = refl
strict Equal e f = absurd (f refl)
strict Greater e f = cc e

back_false : (o : Ordering) → o ≡ Less → is_lt (ordering_reverse o) ≡ false
back_false Less e = refl
back_false Equal e = cc e
back_false Greater e = cc e

same_or : (i j : ℕ) → i ≤ j → (i ≡ j) ⊎ (i < j)
same_or zero zero le = inl refl
same_or zero (suc j) le = inr (omega arith)
same_or (suc i) zero le = absurd (omega arith)
same_or (suc i) (suc j) le = elim (same_or i j (omega arith)) [ inl e ↦ inl (ap suc e) | inr l ↦ inr (omega arith) ]

module _ (sort : List SortKey) where
  next_less : (x y : Row) → same_row x y ≡ false → before sort y x ≡ false → place_cmp sort (place_of sort x) (place_of sort y) ≡ Less
  next_less x y apart not_before =
      strict (place_cmp sort (place_of sort x) (place_of sort y)) (sym (ap is_lt ((place_cmp_total sort).antisymm (place_of sort y) (place_of sort x))) ∙ not_before)
      (λ equal. false≢true (sym apart ∙ ap is_eq (second_equal (values_cmp sort (place_of sort x).values (place_of sort y).values) (id_cmp x.key.id y.key.id) equal)))

  in_order_of : (xs : List Row) → IsDistinct same_row xs → ((k : ℕ) (d : Row) → suc k < length xs → before sort (get_or xs (suc k) d) (get_or xs k d) ≡ false) → AreInOrder sort xs
  unfolding IsDistinct
  in_order_of [] distinct sorted = tt
  in_order_of (x ∷ []) distinct sorted = tt
  in_order_of (x ∷ y ∷ xs) distinct sorted = (
    next_less x y distinct.0.0 (sorted 0 x (omega arith)),
    in_order_of (y ∷ xs) distinct.1 (λ k d lt. sorted (suc k) d (omega arith)),
  )

  pub in_order_from : (xs : List Row) → IsDistinct same_row xs → IsSortedBy (before sort) xs → AreInOrder sort xs
  in_order_from xs distinct sorted = in_order_of xs distinct (λ k d lt.
      let next : k + 1 ≡ suc k = omega arith in
      subst (λ (n : ℕ). before sort (get_or xs n d) (get_or xs k d) ≡ false) next (sorted k d (omega arith) (omega arith)))

  -- ---- by index

  from_first : (x : Row) (ys : List Row) (j : ℕ) (d : Row) → AreInOrder sort (x ∷ ys) → j < length ys → place_cmp sort (place_of sort x) (place_of sort (get_or ys j d)) ≡ Less
  from_first x [] j d h lt = absurd (omega arith)
  from_first x (y ∷ ys) zero d h lt = h.0
  from_first x (y ∷ ys) (suc j) d h lt = (place_cmp_total sort).trans (place_of sort x) (place_of sort y) (place_of sort (get_or ys j d)) h.0 (from_first y ys j d h.1 (omega arith))

  tail : (x : Row) (xs : List Row) → AreInOrder sort (x ∷ xs) → AreInOrder sort xs
  tail x [] h = tt
  tail x (y ∷ xs) h = h.1

  pub far : (xs : List Row) (i j : ℕ) (d : Row) → AreInOrder sort xs → i < j → j < length xs → place_cmp sort (place_of sort (get_or xs i d)) (place_of sort (get_or xs j d)) ≡ Less
  far [] i j d h less lt = absurd (omega arith)
  far (x ∷ xs) i zero d h less lt = absurd (omega arith)
  far (x ∷ xs) zero (suc j) d h less lt = from_first x xs j d h (omega arith)
  far (x ∷ xs) (suc i) (suc j) d h less lt = far xs i j d (tail x xs h) (omega arith) (omega arith)

  pub far_before : (xs : List Row) (i j : ℕ) (d : Row) → AreInOrder sort xs → i < j → j < length xs → before sort (get_or xs i d) (get_or xs j d) ≡ true
  far_before xs i j d h less lt = ap is_lt (far xs i j d h less lt)

  pub not_before : (xs : List Row) (i j : ℕ) (d : Row) → AreInOrder sort xs → i ≤ j → j < length xs → before sort (get_or xs j d) (get_or xs i d) ≡ false
  not_before xs i j d h le lt = elim (same_or i j le) [
    | inl same ↦ ap (λ n. before sort (get_or xs j d) (get_or xs n d)) same ∙ ap is_lt (tied_itself (place_cmp_total sort) (place_of sort (get_or xs j d)))
    | inr less ↦ ap is_lt ((place_cmp_total sort).antisymm (place_of sort (get_or xs j d)) (place_of sort (get_or xs i d))) ∙ back_false _ (far xs i j d h less lt)
  ]

  -- ---- cursors

  later : (c : Place) (xs : List Row) (i j : ℕ) (d : Row) → AreInOrder sort xs → i ≤ j → j < length xs → is_lt (place_cmp sort c (place_of sort (get_or xs i d))) ≡ true → is_lt (place_cmp sort c (place_of sort (get_or xs j d))) ≡ true
  later c xs i j d h le lt e = by_order (same_or i j le)
    where
      by_order : (i ≡ j) ⊎ (i < j) → is_lt (place_cmp sort c (place_of sort (get_or xs j d))) ≡ true
      by_order (inl same) = sym (ap (λ n. is_lt (place_cmp sort c (place_of sort (get_or xs n d)))) same) ∙ e
      by_order (inr less) = ap is_lt ((place_cmp_total sort).trans c (place_of sort (get_or xs i d)) (place_of sort (get_or xs j d)) (is_less _ e) (far xs i j d h less lt))

  earlier : (c : Place) (xs : List Row) (i j : ℕ) (d : Row) → AreInOrder sort xs → i ≤ j → j < length xs → is_lt (place_cmp sort (place_of sort (get_or xs j d)) c) ≡ true → is_lt (place_cmp sort (place_of sort (get_or xs i d)) c) ≡ true
  earlier c xs i j d h le lt e = by_order (same_or i j le)
    where
      by_order : (i ≡ j) ⊎ (i < j) → is_lt (place_cmp sort (place_of sort (get_or xs i d)) c) ≡ true
      by_order (inl same) = ap (λ n. is_lt (place_cmp sort (place_of sort (get_or xs n d)) c)) same ∙ e
      by_order (inr less) = ap is_lt ((place_cmp_total sort).trans (place_of sort (get_or xs i d)) (place_of sort (get_or xs j d)) c (far xs i j d h less lt) (is_less _ e))

  no_sooner : (a b : Bool) → (a ≡ true → b ≡ true) → not b ≡ true → not a ≡ true
  no_sooner true b f e = cc (f refl, e)
  no_sooner false b f e = refl

  -- what `partition_point` asks
  pub parted_behind : (c : Place) (xs : List Row) → AreInOrder sort xs → IsPartitionedBy (λ r. not (is_lt (place_cmp sort c (place_of sort r)))) xs
  parted_behind c xs h i j d le lt e = no_sooner _ _ (later c xs i j d h le lt) e

  pub parted_ahead : (c : Place) (xs : List Row) → AreInOrder sort xs → IsPartitionedBy (λ r. is_lt (place_cmp sort (place_of sort r) c)) xs
  parted_ahead c xs h i j d le lt e = earlier c xs i j d h le lt e

pub same_flips : (x y : Row) → same_row x y ≡ same_row y x
same_flips x y = (eq_by_cmp_equiv id_cmp_total).symm x.key.id y.key.id

pub not_is_true : (b : Bool) → not b ≡ true → b ≡ false
not_is_true true e = cc e
not_is_true false e = refl

pub not_is_false : (b : Bool) → not b ≡ false → b ≡ true
not_is_false true e = refl
not_is_false false e = cc e
