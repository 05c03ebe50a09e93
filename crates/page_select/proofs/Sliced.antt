-- A page of rows in order is a slice of them.
use Rattle.std.proofs.Common.{◌≡◌, ℕ, zero, suc, ◌+◌, ◌-◌, ◌<◌, ◌≤◌, List, [], ◌∷◌, Bool, true, false, cond, length, get_or, take, drop, Some, refl, sym, ap, ◌∙◌, arith, inl, inr, ◌⊎◌}
use Rattle.std.specs.Prelude.{◌&&◌, ◌||◌, nat_lt, min, if◌then◌else◌}
use Rattle.std.specs.Option.{option_map_or}
use Rattle.std.specs.List.{filter, list_any}
use Rattle.std.specs.List.Sorted.{IsPartitionPoint}
use Rattle.std.proofs.Math.Seq.{drop-nil, take-nil}
use Rattle.std.proofs.lemmas.List.{drop-take, get_or-drop, get_or-take, length-take-le, length-drop, take_all, take-take}
use Rattle.std.proofs.lemmas.List.Folds.{list_any_at}
use Rattle.std.proofs.lemmas.Bool.Decides.{nat_tests}
use Rattle.world_cells.specs.declared.rows.Row.{Row}
use Rattle.task_forms.specs.declared.queries.Page.{Page}
use Rattle.task_forms.specs.declared.queries.SortKey.{SortKey}
use Rattle.store_model.specs.declared.pages.Selected.{Selected}
use Rattle.store_model.specs.Pages.{place_of, cut_to, is_behind_cursor, is_ahead_of_cursor, ends_at_cursor, is_range, first_item, last_item, page_of}
use Rattle.page_select.specs.Orders.{AreInOrder}
use Rattle.page_select.proofs.Tests.{by_bool}
use Rattle.page_select.proofs.Beside.{first_is, last_is}
use Rattle.page_select.proofs.InOrder.{before, far_before, not_before}
use Rattle.page_select.proofs.Paged.{asked, any_below, any_above, page_in_order}

-- ---- filters

filter_slice : (p : Row → Bool) (xs : List Row) (s e : ℕ) → ((k : ℕ) (d : Row) → k < length xs → k < s → p (get_or xs k d) ≡ false) → ((k : ℕ) (d : Row) → k < length xs → s ≤ k → k < e → p (get_or xs k d) ≡ true)
    → ((k : ℕ) (d : Row) → k < length xs → e ≤ k → p (get_or xs k d) ≡ false) → filter p xs ≡ take (e - s) (drop s xs)
filter_slice p [] s e low mid high = sym (ap (take (e - s)) (drop-nil s) ∙ take-nil (e - s))
filter_slice p (x ∷ xs) zero zero low mid high =
    let none : zero - zero ≡ zero = omega arith in
    let rest = filter_slice p xs zero zero (λ k d lt l. absurd (omega arith)) (λ k d lt l m. absurd (omega arith)) (λ k d lt l. high (suc k) d (omega arith) (omega arith)) in
    ap (λ b. cond b (x ∷ filter p xs) (filter p xs)) (high zero x (omega arith) (omega arith)) ∙ rest ∙ ap (λ n. take n xs) none ∙ sym (ap (λ n. take n (x ∷ xs)) none)
filter_slice p (x ∷ xs) zero (suc e) low mid high =
    let here : suc e - zero ≡ suc e = omega arith in
    let there : e - zero ≡ e = omega arith in
    let rest = filter_slice p xs zero e (λ k d lt l. absurd (omega arith)) (λ k d lt l m. mid (suc k) d (omega arith) (omega arith) (omega arith)) (λ k d lt l. high (suc k) d (omega arith) (omega arith)) in
    ap (λ b. cond b (x ∷ filter p xs) (filter p xs)) (mid zero x (omega arith) (omega arith) (omega arith)) ∙ ap (λ ys. x ∷ ys) (rest ∙ ap (λ n. take n xs) there) ∙ sym (ap (λ n. take n (x ∷ xs)) here)
filter_slice p (x ∷ xs) (suc s) zero low mid high =
    let none : zero - suc s ≡ zero - s = omega arith in
    let rest = filter_slice p xs s zero (λ k d lt l. low (suc k) d (omega arith) (omega arith)) (λ k d lt l m. absurd (omega arith)) (λ k d lt l. high (suc k) d (omega arith) (omega arith)) in
    ap (λ b. cond b (x ∷ filter p xs) (filter p xs)) (low zero x (omega arith) (omega arith)) ∙ rest ∙ sym (ap (λ n. take n (drop s xs)) none)
filter_slice p (x ∷ xs) (suc s) (suc e) low mid high =
    let less : suc e - suc s ≡ e - s = omega arith in
    let rest = filter_slice p xs s e (λ k d lt l. low (suc k) d (omega arith) (omega arith)) (λ k d lt l m. mid (suc k) d (omega arith) (omega arith) (omega arith)) (λ k d lt l. high (suc k) d (omega arith) (omega arith)) in
    ap (λ b. cond b (x ∷ filter p xs) (filter p xs)) (low zero x (omega arith) (omega arith)) ∙ rest ∙ sym (ap (λ n. take n (drop s xs)) less)

none_at : (p : Row → Bool) (xs : List Row) → ((k : ℕ) (d : Row) → k < length xs → p (get_or xs k d) ≡ false) → list_any p xs ≡ false
none_at p [] none = refl
none_at p (x ∷ xs) none = ap (λ b. b || list_any p xs) (none zero x (omega arith)) ∙ none_at p xs (λ k d lt. none (suc k) d (omega arith))

-- ---- slices

drop_on : (a b : ℕ) (xs : List Row) → drop b (drop a xs) ≡ drop (a + b) xs
drop_on zero b xs = let e : zero + b ≡ b = omega arith in ap (λ n. drop n xs) (sym e)
drop_on (suc a) b [] = drop-nil b ∙ sym (drop-nil (suc a + b))
drop_on (suc a) b (x ∷ xs) = let e : suc a + b ≡ suc (a + b) = omega arith in drop_on a b xs ∙ ap (λ n. drop n (x ∷ xs)) (sym e)

-- of a slice, the last so many or the first so many
cut_slice : (ends : Bool) (size start n count low : ℕ) (xs : List Row) → start + n ≤ length xs → count ≡ min n size → low ≡ (if ends then start + (n - count) else start)
    → cut_to ends size (take n (drop start xs)) ≡ take count (drop low xs)
cut_slice true size start n count low xs fits counted at =
    let len : length (take n (drop start xs)) ≡ n = length-take-le n (drop start xs) (omega (arith, length-drop start xs)) in
    let split : (n - size) + count ≡ n = omega (arith, counted) in
    let off : start + (n - size) ≡ low = omega (arith, counted, at) in
    ap (λ m. drop (m - size) (take n (drop start xs))) len
    ∙ ap (λ m. drop (n - size) (take m (drop start xs))) (sym split)
    ∙ drop-take (n - size) count (drop start xs)
    ∙ ap (take count) (drop_on start (n - size) xs ∙ ap (λ m. drop m xs) off)
cut_slice false size start n count low xs fits counted at = elim (le_or n size) [
  | inl le ↦ let same : count ≡ n = omega (arith, counted, le) in
      take_all size (take n (drop start xs)) (omega (arith, length-take-le n (drop start xs) (omega (arith, length-drop start xs)), le)) ∙ ap (λ m. take m (drop start xs)) (sym same) ∙ ap (λ m. take count (drop m xs)) (sym at)
  | inr le ↦ let same : count ≡ size = omega (arith, counted, le) in
      take-take size n (drop start xs) le ∙ ap (λ m. take m (drop start xs)) (sym same) ∙ ap (λ m. take count (drop m xs)) (sym at)
]
  where
    le_or : (a b : ℕ) → (a ≤ b) ⊎ (b ≤ a)
    le_or zero b = inl (omega arith)
    le_or (suc a) zero = inr (omega arith)
    le_or (suc a) (suc b) = elim (le_or a b) [ inl l ↦ inl (omega (arith, l)) | inr l ↦ inr (omega (arith, l)) ]

module _ (sort : List SortKey) (xs : List Row) (ordered : AreInOrder sort xs) where
  any_below_at : (m : ℕ) (d : Row) → m < length xs → any_below sort xs (get_or xs m d) ≡ nat_lt 0 m
  any_below_at zero d lt = none_at (λ r. before sort r (get_or xs zero d)) xs (λ k e l. ap (λ (x : Row). before sort (get_or xs k e) x) (same_default xs zero d e lt) ∙ not_before sort xs zero k e ordered (omega arith) l)
    where
      same_default : (ys : List Row) (i : ℕ) (d e : Row) → i < length ys → get_or ys i d ≡ get_or ys i e
      same_default [] i d e l = absurd (omega arith)
      same_default (y ∷ ys) zero d e l = refl
      same_default (y ∷ ys) (suc i) d e l = same_default ys i d e (omega arith)
  any_below_at (suc m) d lt = list_any_at (λ r. before sort r (get_or xs (suc m) d)) xs 0 d (omega arith) (far_before sort xs 0 (suc m) d ordered (omega arith) lt) ∙ sym more
    where
      more : nat_lt 0 (suc m) ≡ true
      more = grind (arith, nat_tests)

  any_above_at : (m : ℕ) (d : Row) → m < length xs → any_above sort xs (get_or xs m d) ≡ nat_lt (m + 1) (length xs)
  any_above_at m d lt = by_bool (nat_lt (m + 1) (length xs))
      (λ more.
      let l : m + 1 < length xs = grind (arith, nat_tests, more) in
      list_any_at (λ r. before sort (get_or xs m d) r) xs (m + 1) d l (far_before sort xs m (m + 1) d ordered (omega arith) l) ∙ sym more)
      (λ no_more.
      let l : length xs ≤ m + 1 = grind (arith, nat_tests, no_more) in
      none_at (λ r. before sort (get_or xs m d) r) xs (λ k e lk. ap (λ (x : Row). before sort x (get_or xs k e)) (same_default xs m d e lt) ∙ not_before sort xs k m e ordered (omega (arith, l, lk)) lt) ∙ sym no_more)
    where
      same_default : (ys : List Row) (i : ℕ) (d e : Row) → i < length ys → get_or ys i d ≡ get_or ys i e
      same_default [] i d e l = absurd (omega arith)
      same_default (y ∷ ys) zero d e l = refl
      same_default (y ∷ ys) (suc i) d e l = same_default ys i d e (omega arith)

  row_of : (ys : List Row) → 0 < length ys → Row
  row_of [] lt = absurd (omega arith)
  row_of (y ∷ ys) lt = y

  -- the first and the last of a slice
  first_at : (low count : ℕ) (d : Row) → 0 < count → low + count ≤ length xs → first_item (take count (drop low xs)) ≡ Some (get_or xs low d)
  first_at low count d some fits =
      let len : length (take count (drop low xs)) ≡ count = length-take-le count (drop low xs) (omega (arith, length-drop low xs)) in
      let here : low + 0 ≡ low = omega arith in
      let at : get_or (take count (drop low xs)) 0 (get_or xs low d) ≡ get_or xs low d =
      get_or-take count (drop low xs) 0 (get_or xs low d) some ∙ get_or-drop low xs 0 (get_or xs low d) ∙ ap (λ n. get_or xs n (get_or xs low d)) here ∙ itself xs low d in
      first_is (take count (drop low xs)) (get_or xs low d) (omega (arith, len)) (sym at)
    where
      itself : (ys : List Row) (i : ℕ) (d : Row) → get_or ys i (get_or ys i d) ≡ get_or ys i d
      itself [] i d = refl
      itself (y ∷ ys) zero d = refl
      itself (y ∷ ys) (suc i) d = itself ys i d

  last_at : (low count : ℕ) (d : Row) → 0 < count → low + count ≤ length xs → last_item (take count (drop low xs)) ≡ Some (get_or xs (low + (count - 1)) d)
  last_at low count d some fits =
      let len : length (take count (drop low xs)) ≡ count = length-take-le count (drop low xs) (omega (arith, length-drop low xs)) in
      let at : get_or (take count (drop low xs)) (count - 1) (get_or xs (low + (count - 1)) d) ≡ get_or xs (low + (count - 1)) d =
      get_or-take count (drop low xs) (count - 1) (get_or xs (low + (count - 1)) d) (omega arith) ∙ get_or-drop low xs (count - 1) (get_or xs (low + (count - 1)) d) ∙ itself xs (low + (count - 1)) d in
      last_is (take count (drop low xs)) (get_or xs (low + (count - 1)) d) count some (sym len) (sym at)
    where
      itself : (ys : List Row) (i : ℕ) (d : Row) → get_or ys i (get_or ys i d) ≡ get_or ys i d
      itself [] i d = refl
      itself (y ∷ ys) zero d = refl
      itself (y ∷ ys) (suc i) d = itself ys i d

  flag_before : (low count : ℕ) → low + count ≤ length xs → option_map_or (any_below sort xs) (first_item (take count (drop low xs))) false ≡ (nat_lt 0 count && nat_lt 0 low)
  flag_before low zero fits = refl
  flag_before low (suc c) fits =
      let d : Row = row_of xs (omega arith) in
      ap (λ o. option_map_or (any_below sort xs) o false) (first_at low (suc c) d (omega arith) fits) ∙ any_below_at low d (omega arith) ∙ sym (ap (λ b. b && nat_lt 0 low) some)
    where
      some : nat_lt 0 (suc c) ≡ true
      some = grind (arith, nat_tests)

  flag_after : (low count : ℕ) → low + count ≤ length xs → option_map_or (any_above sort xs) (last_item (take count (drop low xs))) false ≡ (nat_lt 0 count && nat_lt (low + count) (length xs))
  flag_after low zero fits = refl
  flag_after low (suc c) fits =
      let d : Row = row_of xs (omega arith) in
      let end : low + (suc c - 1) + 1 ≡ low + suc c = omega arith in
      ap (λ o. option_map_or (any_above sort xs) o false) (last_at low (suc c) d (omega arith) fits) ∙ any_above_at (low + (suc c - 1)) d (omega arith)
      ∙ ap (λ n. nat_lt n (length xs)) end ∙ sym (ap (λ b. b && nat_lt (low + suc c) (length xs)) some)
    where
      some : nat_lt 0 (suc c) ≡ true
      some = grind (arith, nat_tests)

  -- the slice that a page shows, from the places of the first row that it asks for and of the first behind them
  pub sliced : (page : Page) (start end count low : ℕ) (s : Selected)
      → IsPartitionPoint (λ r. is_behind_cursor sort page.after (place_of sort r) ≡ false) (λ r. is_behind_cursor sort page.after (place_of sort r) ≡ true) xs start
      → IsPartitionPoint (λ r. is_ahead_of_cursor sort page.before (place_of sort r) ≡ true) (λ r. is_ahead_of_cursor sort page.before (place_of sort r) ≡ false) xs end
      → start ≤ length xs → end ≤ length xs → count ≡ min (end - start) page.size → low ≡ (if ends_at_cursor page then start + ((end - start) - count) else start)
      → s.rows ≡ take count (drop low xs) → s.before ≡ (nat_lt 0 count && nat_lt 0 low) → s.after ≡ (nat_lt 0 count && nat_lt (low + count) (length xs)) → s.truncated ≡ (is_range page && nat_lt page.size (end - start))
      → s ≡ page_of sort page xs
  sliced page start end count low s behind ahead start_in end_in counted at rows before after truncated =
      let n : ℕ = end - start in
      let fits : start + (end - start) ≤ length xs = omega arith in
      let chosen : filter (asked sort page) xs ≡ take (end - start) (drop start xs) = filter_slice (asked sort page) xs start end
      (λ k d lt l. ap (λ b. b && is_ahead_of_cursor sort page.before (place_of sort (get_or xs k d))) (behind.0 k d (omega arith) l))
      (λ k d lt l m. ap (λ b. b && is_ahead_of_cursor sort page.before (place_of sort (get_or xs k d))) (behind.1 k d l lt) ∙ ahead.0 k d (omega arith) m)
      (λ k d lt l. ap (λ b. is_behind_cursor sort page.after (place_of sort (get_or xs k d)) && b) (ahead.1 k d l lt) ∙ no_more (is_behind_cursor sort page.after (place_of sort (get_or xs k d)))) in
      let len : length (take (end - start) (drop start xs)) ≡ end - start = length-take-le (end - start) (drop start xs) (omega (arith, length-drop start xs)) in
      let shown : cut_to (ends_at_cursor page) page.size (take (end - start) (drop start xs)) ≡ take count (drop low xs) = cut_slice (ends_at_cursor page) page.size start (end - start) count low xs fits counted at in
      let low_fits : low + count ≤ length xs = fits_low (ends_at_cursor page) start (end - start) count low at (omega (arith, counted)) fits in
      sym (page_in_order sort page xs (take (end - start) (drop start xs)) ordered chosen
      ∙ (λ i. record {
        rows = (shown ∙ sym rows) i;
        before = (ap (λ ys. option_map_or (any_below sort xs) (first_item ys) false) shown ∙ flag_before low count low_fits ∙ sym before) i;
        after = (ap (λ ys. option_map_or (any_above sort xs) (last_item ys) false) shown ∙ flag_after low count low_fits ∙ sym after) i;
        truncated = (ap (λ m. is_range page && nat_lt page.size m) len ∙ sym truncated) i;
      }))
    where
      no_more : (b : Bool) → (b && false) ≡ false
      no_more true = refl
      no_more false = refl

      fits_low : (ends : Bool) (start n count low : ℕ) → low ≡ (if ends then start + (n - count) else start) → count ≤ n → start + n ≤ length xs → low + count ≤ length xs
      fits_low true start n count low at few fits = omega (arith, at)
      fits_low false start n count low at few fits = omega (arith, at)
