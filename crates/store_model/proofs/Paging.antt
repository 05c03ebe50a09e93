-- A computed page is one page of its rows, and rows of a type and rows at keys are those of the world.
use Rattle.std.proofs.Common.{◌≡◌, ℕ, ◌-◌, ◌≤◌, List, [], ◌∷◌, true, false, length, take, drop, refl, sym, ap, subst, ◌∙◌, Some, None, Option, inl, inr, zero, suc, arith}
use Rattle.std.specs.Prelude.{T, ◌⊎◌, ◌↔◌, ◌<◌, ◌&&◌, nat_lt, Bool, IsTrue, IfSome, is_some, is_none, map, option_map}
use Rattle.std.specs.Option.{option_map_or}
use Rattle.std.specs.declared.cmp.Ordering.{Ordering}
use Rattle.std.specs.declared.cmp.Ordering.TheVariants.{Less, Equal, Greater}
use Rattle.std.specs.Ordering.{is_lt}
use Rattle.std.specs.List.{AllByRecursion, list_any, last_or}
use Rattle.std.specs.FinMap.Entries.{by_order, put, is_sorted, is_sorted-put, is_sorted-where_key}
use Rattle.std.proofs.lemmas.List.{take_all, take-append-drop, length-take-le, length-drop, length-map}
use Rattle.std.proofs.lemmas.Bool.{and_parts, and_from, cases_lt}
use Rattle.std.proofs.lemmas.Bool.Decides.{nat_tests}
use borrow.Author.Tests.{ltb-true}
use Rattle.store_model.proofs.Strict.{never_itself}
use Rattle.ident_rules.specs.IdOrder.{id_cmp-IsAntisymmetric, second_equal}
use Rattle.resource_schema.specs.declared.values.Place.{Place}
use Rattle.world_cells.specs.declared.rows.Row.{Row}
use Rattle.world_cells.specs.Lists.{IsIn}
use Rattle.task_forms.specs.declared.queries.Page.{Page}
use Rattle.task_forms.specs.declared.queries.SortKey.{SortKey}
use Rattle.store_model.specs.Pages.{values_cmp, place_cmp, place_cmp_total, place_of, by_place, last_items, first_item, last_item, is_behind_cursor, is_ahead_of_cursor, asked_for, ends_at_cursor, is_range, cut_to, slice_of, any_before, any_after, is_truncated, page_of, sorted}
use Rattle.store_model.specs.Laws.{AreApart, StandsBefore, IsAskedFor, StandsOutside, HasNoRoom, IsCutShort, HasEarlier, HasLater, IsPage, AreSorted}
use Rattle.store_model.proofs.Basics.{same_Some, one_passes, in_left, in_right, in_append, in_map, from_map, in_filter, from_filter, all_in, in_all, pairwise_values, sorted_split}
use Rattle.store_model.specs.LinkLaws.{passes}

is_less : (m n : ℕ) → m < n → nat_lt m n ≡ true
is_less m n h = grind (arith, nat_tests, h)

-- ---- one entry more

module _ {K X : Type 0} (R : K → K → Ordering) where
  -- an entry after one is put: the new one, one of the old, or an old key with the new value
  abbrev FromPut : K → X → List (K × X) → K × X → Type 0
  FromPut k v es e = (e ≡ (k, v)) ⊎ (IsIn es e ⊎ ((old : K × X) × IsIn es old × (R k old.0 ≡ Equal) × (e ≡ (old.0, v))))

  from_put : (k : K) (v : X) (es : List (K × X)) (e : K × X) → IsIn (put R k v es) e → FromPut k v es e
  from_put k v [] e (inl is) = inl (sym is)
  from_put k v [] e (inr among) = elim among [ ]
  from_put k v (d ∷ es) e among =
      elim (R k d.0) as (λ o. R k d.0 ≡ o → IsIn (by_order o ((k, v) ∷ d ∷ es) ((d.0, v) ∷ es) (d ∷ put R k v es)) e → FromPut k v (d ∷ es) e) [
        | Less ↦ λ p among. elim among [ inl is ↦ inl (sym is) | inr later ↦ inr (inl later) ]
        | Equal ↦ λ p among. elim among [ inl is ↦ inr (inr (d, inl refl, p, sym is)) | inr later ↦ inr (inl (inr later)) ]
        | Greater ↦ λ p among. elim among [
          | inl is ↦ inr (inl (inl is))
          | inr later ↦ elim (from_put k v es e later) [
            | inl new ↦ inl new
            | inr more ↦ elim more [
              | inl old ↦ inr (inl (inr old))
              | inr tied ↦ inr (inr (tied.0, inr tied.1, tied.2, tied.3))
            ]
          ]
        ]
      ] refl among

  -- the new value is there, at its key or at one that ties
  put_new : (k : K) (v : X) (es : List (K × X)) → (at : K) × IsIn (put R k v es) (at, v)
  put_new k v [] = (k, inl refl)
  put_new k v (d ∷ es) =
      elim (R k d.0) as (λ o. (at : K) × IsIn (by_order o ((k, v) ∷ d ∷ es) ((d.0, v) ∷ es) (d ∷ put R k v es)) (at, v)) [
        | Less ↦ (k, inl refl)
        | Equal ↦ (d.0, inl refl)
        | Greater ↦ let rest = put_new k v es in (rest.0, inr rest.1)
      ]

  -- an old entry is there, or its key ties with the new one
  put_old : (k : K) (v : X) (es : List (K × X)) (e : K × X) → IsIn es e → IsIn (put R k v es) e ⊎ (R k e.0 ≡ Equal)
  put_old k v [] e among = elim among [ ]
  put_old k v (d ∷ es) e among =
      elim (R k d.0) as (λ o. R k d.0 ≡ o → IsIn (by_order o ((k, v) ∷ d ∷ es) ((d.0, v) ∷ es) (d ∷ put R k v es)) e ⊎ (R k e.0 ≡ Equal)) [
        | Less ↦ λ p. inl (inr among)
        | Equal ↦ λ p. elim among [ inl is ↦ inr (ap (λ (c : K × X). R k c.0) (sym is) ∙ p) | inr later ↦ inl (inr later) ]
        | Greater ↦ λ p. elim among [
          | inl is ↦ inl (inl is)
          | inr later ↦ elim (put_old k v es e later) [ inl there ↦ inl (inr there) | inr tied ↦ inr tied ]
        ]
      ] refl

-- ---- rows by their places

-- rows whose places tie have one id
same_place : (sort : List SortKey) (a b : Row) → place_cmp sort (place_of sort a) (place_of sort b) ≡ Equal → a.key.id ≡ b.key.id
same_place sort a b e = id_cmp-IsAntisymmetric a.key.id b.key.id (second_equal (values_cmp sort ((place_of sort a).values) ((place_of sort b).values)) _ e)

module _ (sort : List SortKey) where
  by_place_sorted : (rows : List Row) → T (is_sorted (place_cmp sort) (by_place sort rows))
  by_place_sorted [] = tt
  by_place_sorted (row ∷ rows) = is_sorted-put (place_cmp sort) (place_cmp_total sort) (place_of sort row) row (by_place sort rows) (by_place_sorted rows)

  -- an entry is one of the rows, at its place
  abbrev IsPlaced : List Row → Place × Row → Type 0
  IsPlaced rows e = (e.0 ≡ place_of sort e.1) × IsIn rows e.1

  tail_apart : (row : Row) (rows : List Row) → AreApart (row ∷ rows) → AreApart rows
  tail_apart row rows apart a b p q = apart a b (inr p) (inr q)

  from_place : (rows : List Row) (e : Place × Row) → AreApart rows → IsIn (by_place sort rows) e → IsPlaced rows e
  from_place [] e apart among = elim among [ ]
  from_place (row ∷ rows) e apart among = elim (from_put (place_cmp sort) (place_of sort row) row (by_place sort rows) e among) [
    | inl new ↦ subst (λ (c : Place × Row). IsPlaced (row ∷ rows) c) (sym new) (refl, inl refl)
    | inr more ↦ elim more [
      | inl old ↦ let rest = from_place rows e (tail_apart row rows apart) old in (rest.0, inr rest.1)
      | inr tied ↦
          let rest = from_place rows tied.0 (tail_apart row rows apart) tied.1 in
          let ties : place_cmp sort (place_of sort row) (place_of sort tied.0.1) ≡ Equal = ap (place_cmp sort (place_of sort row)) (sym rest.0) ∙ tied.2 in
          let same : row ≡ tied.0.1 = apart row tied.0.1 (inl refl) (inr rest.1) (same_place sort row tied.0.1 ties) in
          subst (λ (c : Place × Row). IsPlaced (row ∷ rows) c) (sym tied.3) (rest.0 ∙ ap (place_of sort) (sym same), inl refl)
    ]
  ]

  new_place : (row : Row) (rows : List Row) → AreApart (row ∷ rows) → IsIn (by_place sort (row ∷ rows)) (place_of sort row, row)
  new_place row rows apart =
      let one = put_new (place_cmp sort) (place_of sort row) row (by_place sort rows) in
      let at : one.0 ≡ place_of sort row = (from_place (row ∷ rows) (one.0, row) apart one.1).0 in
      subst (λ (p : Place). IsIn (by_place sort (row ∷ rows)) (p, row)) at one.1

  in_place : (rows : List Row) (row : Row) → AreApart rows → IsIn rows row → IsIn (by_place sort rows) (place_of sort row, row)
  in_place [] row apart among = elim among [ ]
  in_place (first ∷ rows) row apart (inl is) = subst (λ (r : Row). IsIn (by_place sort (first ∷ rows)) (place_of sort r, r)) is (new_place first rows apart)
  in_place (first ∷ rows) row apart (inr among) =
      elim (put_old (place_cmp sort) (place_of sort first) first (by_place sort rows) (place_of sort row, row) (in_place rows row (tail_apart first rows apart) among)) [
        | inl there ↦ there
        | inr tied ↦
            let same : first ≡ row = apart first row (inl refl) (inr among) (same_place sort first row tied) in
            subst (λ (r : Row). IsIn (by_place sort (first ∷ rows)) (place_of sort r, r)) same (new_place first rows apart)
      ]

  -- ---- one slice

  -- an entry stands before all of these, or behind them all
  abbrev IsOutside : Bool → Place → List (Place × Row) → Type 0
  IsOutside true p items = AllByRecursion (λ (d : Place × Row). is_lt (place_cmp sort p d.0) ≡ true) items
  IsOutside false p items = AllByRecursion (λ (d : Place × Row). is_lt (place_cmp sort d.0 p) ≡ true) items

  -- a slice of all entries, in the words of the law
  record IsSlice (page : Page) (all items : List (Place × Row)) : Type 0 where
    in_order : T (is_sorted (place_cmp sort) items)
    short : length items ≤ page.size
    asked : (e : Place × Row) → IsIn items e → IsIn all e × IsAskedFor sort page.after page.before e.0
    whole : (e : Place × Row) → IsIn all e → IsAskedFor sort page.after page.before e.0 → IsIn items e ⊎ ((length items ≡ page.size) × IsOutside (ends_at_cursor page) e.0 items)

  some_there : {A : Type 0} (xs : List A) (x : A) → IsIn xs x → 1 ≤ length xs
  some_there [] x among = elim among [ ]
  some_there (y ∷ xs) x among = omega arith

  -- what stands behind the first n stands behind each of them, and they are n
  behind_first : (n : ℕ) (all : List (Place × Row)) (e : Place × Row) → T (is_sorted (place_cmp sort) all) → IsIn (drop n all) e
      → (length (take n all) ≡ n) × AllByRecursion (λ (d : Place × Row). is_lt (place_cmp sort d.0 e.0) ≡ true) (take n all)
  behind_first n all e h later =
      let split = sorted_split (place_cmp sort) (take n all) (drop n all) (subst (λ (es : List (Place × Row)). T (is_sorted (place_cmp sort) es)) (sym (take-append-drop n all)) h) in
      let some : 1 ≤ length all - n = subst (λ i. 1 ≤ i) (length-drop n all) (some_there (drop n all) e later) in
      let fits : n ≤ length all = omega arith in
      (length-take-le n all fits, all_in (λ (d : Place × Row). is_lt (place_cmp sort d.0 e.0) ≡ true) (take n all) (λ d p. split.2 d e p later))

  -- what does not stand in the first n stands behind each of them, and they are n
  first_of_all : (n : ℕ) (all : List (Place × Row)) (e : Place × Row) → T (is_sorted (place_cmp sort) all) → IsIn all e
      → IsIn (take n all) e ⊎ ((length (take n all) ≡ n) × AllByRecursion (λ (d : Place × Row). is_lt (place_cmp sort d.0 e.0) ≡ true) (take n all))
  first_of_all n all e h among =
      let cut = take-append-drop n all in
      elim (in_append (take n all) (drop n all) e (subst (λ (es : List (Place × Row)). IsIn es e) (sym cut) among)) [
        | inl here ↦ inl here
        | inr later ↦ inr (behind_first n all e h later)
      ]

  -- what does not stand in the last n stands before each of them, and they are n
  last_of_all : (n : ℕ) (all : List (Place × Row)) (e : Place × Row) → T (is_sorted (place_cmp sort) all) → IsIn all e
      → IsIn (last_items n all) e ⊎ ((length (last_items n all) ≡ n) × AllByRecursion (λ (d : Place × Row). is_lt (place_cmp sort e.0 d.0) ≡ true) (last_items n all))
  last_of_all n all e h among =
      let k = length all - n in
      let cut = take-append-drop (length all - n) all in
      elim (in_append (take (length all - n) all) (drop (length all - n) all) e (subst (λ (es : List (Place × Row)). IsIn es e) (sym cut) among)) [
        | inr here ↦ inl here
        | inl earlier ↦
            let split = sorted_split (place_cmp sort) (take (length all - n) all) (drop (length all - n) all) (subst (λ (es : List (Place × Row)). T (is_sorted (place_cmp sort) es)) (sym cut) h) in
            let lower : length all - n ≤ length all = omega arith in
            let some : 1 ≤ length all - n = subst (λ i. 1 ≤ i) (length-take-le (length all - n) all lower) (some_there (take (length all - n) all) e earlier) in
            let left : length all - (length all - n) ≡ n = omega arith in
            inr (length-drop (length all - n) all ∙ left, all_in (λ (d : Place × Row). is_lt (place_cmp sort e.0 d.0) ≡ true) (drop (length all - n) all) (λ d p. split.2 e d earlier p))
      ]

  from_take : {A : Type 0} (n : ℕ) (xs : List A) (x : A) → IsIn (take n xs) x → IsIn xs x
  from_take n xs x among = subst (λ ys. IsIn ys x) (take-append-drop n xs) (in_left (take n xs) (drop n xs) x among)

  from_drop : {A : Type 0} (n : ℕ) (xs : List A) (x : A) → IsIn (drop n xs) x → IsIn xs x
  from_drop n xs x among = subst (λ ys. IsIn ys x) (take-append-drop n xs) (in_right (take n xs) (drop n xs) x among)

  take_sorted : (n : ℕ) (all : List (Place × Row)) → T (is_sorted (place_cmp sort) all) → T (is_sorted (place_cmp sort) (take n all))
  take_sorted n all h = (sorted_split (place_cmp sort) (take n all) (drop n all) (subst (λ (es : List (Place × Row)). T (is_sorted (place_cmp sort) es)) (sym (take-append-drop n all)) h)).0

  drop_sorted : (n : ℕ) (all : List (Place × Row)) → T (is_sorted (place_cmp sort) all) → T (is_sorted (place_cmp sort) (drop n all))
  drop_sorted n all h = (sorted_split (place_cmp sort) (take n all) (drop n all) (subst (λ (es : List (Place × Row)). T (is_sorted (place_cmp sort) es)) (sym (take-append-drop n all)) h)).1

  take_short : {A : Type 0} (n : ℕ) (xs : List A) → length (take n xs) ≤ n
  take_short zero xs = omega arith
  take_short (suc n) [] = omega arith
  take_short (suc n) (x ∷ xs) = let rest = take_short n xs in omega arith

  last_short : {A : Type 0} (n : ℕ) (xs : List A) → length (last_items n xs) ≤ n
  last_short n xs = let left : length xs - (length xs - n) ≤ n = omega arith in subst (λ i. i ≤ n) (sym (length-drop (length xs - n) xs)) left

  -- ---- the items that are asked for

  behind_if : (o : Option Place) (p : Place) → is_behind_cursor sort o p ≡ true → IfSome o (λ cursor. IsTrue (is_lt (place_cmp sort cursor p)))
  behind_if None p e = tt
  behind_if (Some cursor) p e = e

  behind_from : (o : Option Place) (p : Place) → IfSome o (λ cursor. IsTrue (is_lt (place_cmp sort cursor p))) → is_behind_cursor sort o p ≡ true
  behind_from None p e = refl
  behind_from (Some cursor) p e = e

  ahead_if : (o : Option Place) (p : Place) → is_ahead_of_cursor sort o p ≡ true → IfSome o (λ cursor. IsTrue (is_lt (place_cmp sort p cursor)))
  ahead_if None p e = tt
  ahead_if (Some cursor) p e = e

  ahead_from : (o : Option Place) (p : Place) → IfSome o (λ cursor. IsTrue (is_lt (place_cmp sort p cursor))) → is_ahead_of_cursor sort o p ≡ true
  ahead_from None p e = refl
  ahead_from (Some cursor) p e = e

  module _ (page : Page) (all : List (Place × Row)) where
    abbrev asked : List (Place × Row)
    asked = asked_for sort page all

    asked_is : (e : Place × Row) → IsIn asked e → IsIn all e × IsAskedFor sort page.after page.before e.0
    asked_is e among =
        let found = from_filter (λ (e : Place × Row). is_behind_cursor sort page.after e.0 && is_ahead_of_cursor sort page.before e.0) all e among in
        let parts = and_parts (is_behind_cursor sort page.after e.0) (is_ahead_of_cursor sort page.before e.0) found.1 in
        (found.0, (behind_if page.after e.0 parts.0, ahead_if page.before e.0 parts.1))

    is_asked : (e : Place × Row) → IsIn all e → IsAskedFor sort page.after page.before e.0 → IsIn asked e
    is_asked e among between =
        in_filter (λ (e : Place × Row). is_behind_cursor sort page.after e.0 && is_ahead_of_cursor sort page.before e.0) all e among
        (and_from (is_behind_cursor sort page.after e.0) (is_ahead_of_cursor sort page.before e.0) (behind_from page.after e.0 between.0) (ahead_from page.before e.0 between.1))

    asked_sorted : T (is_sorted (place_cmp sort) all) → T (is_sorted (place_cmp sort) asked)
    asked_sorted h = is_sorted-where_key (place_cmp sort) (λ p. is_behind_cursor sort page.after p && is_ahead_of_cursor sort page.before p) all h

  -- ---- cutting them

  cut_sorted : (b : Bool) (n : ℕ) (all : List (Place × Row)) → T (is_sorted (place_cmp sort) all) → T (is_sorted (place_cmp sort) (cut_to b n all))
  cut_sorted true n all h = drop_sorted (length all - n) all h
  cut_sorted false n all h = take_sorted n all h

  cut_short : (b : Bool) (n : ℕ) (all : List (Place × Row)) → length (cut_to b n all) ≤ n
  cut_short true n all = last_short n all
  cut_short false n all = take_short n all

  from_cut : (b : Bool) (n : ℕ) (all : List (Place × Row)) (e : Place × Row) → IsIn (cut_to b n all) e → IsIn all e
  from_cut true n all e among = from_drop (length all - n) all e among
  from_cut false n all e among = from_take n all e among

  cut_whole : (b : Bool) (n : ℕ) (all : List (Place × Row)) (e : Place × Row) → T (is_sorted (place_cmp sort) all) → IsIn all e
      → IsIn (cut_to b n all) e ⊎ ((length (cut_to b n all) ≡ n) × IsOutside b e.0 (cut_to b n all))
  cut_whole true n all e h among = last_of_all n all e h among
  cut_whole false n all e h among = first_of_all n all e h among

  -- a longer list has an item for which the first ones leave no room
  cut_rest : (b : Bool) (n : ℕ) (all : List (Place × Row)) → b ≡ false → T (is_sorted (place_cmp sort) all) → n < length all
      → (e : Place × Row) × IsIn all e × (length (cut_to b n all) ≡ n) × IsOutside b e.0 (cut_to b n all)
  cut_rest true n all is h more = cc is
  cut_rest false n all is h more = by (drop n all) refl
    where
      by : (rest : List (Place × Row)) → drop n all ≡ rest → (e : Place × Row) × IsIn all e × (length (take n all) ≡ n) × IsOutside false e.0 (take n all)
      by [] none = let no : length all - n ≡ 0 = sym (length-drop n all) ∙ ap length none in absurd (omega (arith, no, more))
      by (e ∷ rest) some =
          let later : IsIn (drop n all) e = subst (λ (es : List (Place × Row)). IsIn es e) (sym some) (inl refl) in
          let out = behind_first n all e h later in
          (e, from_drop n all e later, out.0, out.1)

  cut_all : (b : Bool) (n : ℕ) (all : List (Place × Row)) → b ≡ false → length all ≤ n → cut_to b n all ≡ all
  cut_all true n all is few = cc is
  cut_all false n all is few = take_all n all few

  slice_is : (page : Page) (all : List (Place × Row)) → T (is_sorted (place_cmp sort) all) → IsSlice page all (slice_of sort page all)
  slice_is page all h = record {
    in_order = cut_sorted (ends_at_cursor page) page.size (asked page all) (asked_sorted page all h);
    short = cut_short (ends_at_cursor page) page.size (asked page all);
    asked = λ e among. asked_is page all e (from_cut (ends_at_cursor page) page.size (asked page all) e among);
    whole = λ e among between. cut_whole (ends_at_cursor page) page.size (asked page all) e (asked_sorted page all h) (is_asked page all e among between);
  }

  -- ---- what stands before and behind

  -- an item that is last is an item
  last_among : {A : Type 0} (o : Option A) (xs : List A) (x : A) → last_or o xs ≡ Some x → (o ≡ Some x) ⊎ IsIn xs x
  last_among o [] x e = inl e
  last_among o (y ∷ xs) x e = elim (last_among (Some y) xs x e) [ inl is ↦ inr (inl (same_Some y x is)) | inr later ↦ inr (inr later) ]

  last_map : {A B : Type 0} (f : A → B) (o : Option A) (xs : List A) → last_or (option_map f o) (map f xs) ≡ option_map f (last_or o xs)
  last_map f o [] = refl
  last_map f o (x ∷ xs) = last_map f (Some x) xs

  first_map : {A B : Type 0} (f : A → B) (xs : List A) → first_item (map f xs) ≡ option_map f (first_item xs)
  first_map f [] = refl
  first_map f (x ∷ xs) = refl

  module _ (rows : List Row) (apart : AreApart rows) where
    abbrev everyone : List (Place × Row)
    everyone = by_place sort rows

    -- an entry at its place
    placed : (e : Place × Row) → IsIn everyone e → e.0 ≡ place_of sort e.1
    placed e among = (from_place rows e apart among).0

    -- some entry stands before, or behind, an entry: so does some row its row
    earlier_row : (e : Place × Row) → IsIn everyone e → list_any (λ (other : Place × Row). is_lt (place_cmp sort other.0 e.0)) everyone ≡ true → (row : Row) × IsIn rows row × StandsBefore sort row e.1
    earlier_row e among any =
        let one = one_passes (λ (other : Place × Row). is_lt (place_cmp sort other.0 e.0)) everyone any in
        let from = from_place rows one.0 apart one.1 in
        (one.0.1, from.1, subst (λ (p : Place). is_lt (place_cmp sort p (place_of sort e.1)) ≡ true) from.0 (subst (λ (p : Place). is_lt (place_cmp sort one.0.0 p) ≡ true) (placed e among) one.2))

    earlier_any : (e : Place × Row) → IsIn everyone e → (row : Row) → IsIn rows row → StandsBefore sort row e.1 → list_any (λ (other : Place × Row). is_lt (place_cmp sort other.0 e.0)) everyone ≡ true
    earlier_any e among row here less = passes (λ (other : Place × Row). is_lt (place_cmp sort other.0 e.0)) everyone (place_of sort row, row) (in_place rows row apart here)
        (subst (λ (p : Place). is_lt (place_cmp sort (place_of sort row) p) ≡ true) (sym (placed e among)) less)

    later_row : (e : Place × Row) → IsIn everyone e → list_any (λ (other : Place × Row). is_lt (place_cmp sort e.0 other.0)) everyone ≡ true → (row : Row) × IsIn rows row × StandsBefore sort e.1 row
    later_row e among any =
        let one = one_passes (λ (other : Place × Row). is_lt (place_cmp sort e.0 other.0)) everyone any in
        let from = from_place rows one.0 apart one.1 in
        (one.0.1, from.1, subst (λ (p : Place). is_lt (place_cmp sort (place_of sort e.1) p) ≡ true) from.0 (subst (λ (p : Place). is_lt (place_cmp sort p one.0.0) ≡ true) (placed e among) one.2))

    later_any : (e : Place × Row) → IsIn everyone e → (row : Row) → IsIn rows row → StandsBefore sort e.1 row → list_any (λ (other : Place × Row). is_lt (place_cmp sort e.0 other.0)) everyone ≡ true
    later_any e among row here less = passes (λ (other : Place × Row). is_lt (place_cmp sort e.0 other.0)) everyone (place_of sort row, row) (in_place rows row apart here)
        (subst (λ (p : Place). is_lt (place_cmp sort p (place_of sort row)) ≡ true) (sym (placed e among)) less)

    earlier_is : (items : List (Place × Row)) → ((e : Place × Row) → IsIn items e → IsIn everyone e) → IsTrue (any_before sort items everyone) ↔ HasEarlier sort rows (map (λ (e : Place × Row). e.1) items)
    earlier_is [] within = (λ e. cc e, λ has. cc has.is_first)
    earlier_is (e ∷ items) within = (
      λ any. let one = earlier_row e (within e (inl refl)) any in record { first = e.1; is_first = refl; row = one.0; among = one.1; earlier = one.2 },
      λ has. earlier_any e (within e (inl refl)) has.row has.among (subst (λ (r : Row). StandsBefore sort has.row r) (sym (same_Some e.1 has.first has.is_first)) has.earlier),
    )

    -- by the last item, if there is one
    later_by : (items : List (Place × Row)) (o : Option (Place × Row)) → ((e : Place × Row) → o ≡ Some e → IsIn everyone e) → last_item (map (λ (e : Place × Row). e.1) items) ≡ option_map (λ (e : Place × Row). e.1) o
        → IsTrue (option_map_or (λ (e : Place × Row). list_any (λ (other : Place × Row). is_lt (place_cmp sort e.0 other.0)) everyone) o false) ↔ HasLater sort rows (map (λ (e : Place × Row). e.1) items)
    later_by items None within is = (λ e. cc e, λ has. cc (sym is ∙ has.is_last))
    later_by items (Some e) within is = (
      λ any. let one = later_row e (within e refl) any in record { last = e.1; is_last = is; row = one.0; among = one.1; later = one.2 },
      λ has. later_any e (within e refl) has.row has.among (subst (λ (r : Row). StandsBefore sort r has.row) (sym (same_Some e.1 has.last (sym is ∙ has.is_last))) has.later),
    )

    later_is : (items : List (Place × Row)) → ((e : Place × Row) → IsIn items e → IsIn everyone e) → IsTrue (any_after sort items everyone) ↔ HasLater sort rows (map (λ (e : Place × Row). e.1) items)
    later_is items within = later_by items (last_item items) (λ e is. elim (last_among None items e is) [ inl never ↦ cc never | inr among ↦ within e among ]) (last_map (λ (e : Place × Row). e.1) None items)

    -- ---- one page

    rows_before : (items : List (Place × Row)) (row : Row) → ((e : Place × Row) → IsIn items e → IsIn everyone e) → AllByRecursion (λ (d : Place × Row). is_lt (place_cmp sort d.0 (place_of sort row)) ≡ true) items
        → AllByRecursion (λ other. StandsBefore sort other row) (map (λ (e : Place × Row). e.1) items)
    rows_before items row within all = all_in (λ other. StandsBefore sort other row) (map (λ (e : Place × Row). e.1) items) (λ other among.
        let one = from_map (λ (e : Place × Row). e.1) items other among in
        let less = in_all (λ (d : Place × Row). is_lt (place_cmp sort d.0 (place_of sort row)) ≡ true) items one.0 all one.1 in
        subst (λ (r : Row). StandsBefore sort r row) one.2 (subst (λ (p : Place). is_lt (place_cmp sort p (place_of sort row)) ≡ true) (placed one.0 (within one.0 one.1)) less))

    rows_behind : (items : List (Place × Row)) (row : Row) → ((e : Place × Row) → IsIn items e → IsIn everyone e) → AllByRecursion (λ (d : Place × Row). is_lt (place_cmp sort (place_of sort row) d.0) ≡ true) items
        → AllByRecursion (StandsBefore sort row) (map (λ (e : Place × Row). e.1) items)
    rows_behind items row within all = all_in (StandsBefore sort row) (map (λ (e : Place × Row). e.1) items) (λ other among.
        let one = from_map (λ (e : Place × Row). e.1) items other among in
        let less = in_all (λ (d : Place × Row). is_lt (place_cmp sort (place_of sort row) d.0) ≡ true) items one.0 all one.1 in
        subst (λ (r : Row). StandsBefore sort row r) one.2 (subst (λ (p : Place). is_lt (place_cmp sort (place_of sort row) p) ≡ true) (placed one.0 (within one.0 one.1)) less))

    outside : (b : Bool) (items : List (Place × Row)) (row : Row) → ((e : Place × Row) → IsIn items e → IsIn everyone e) → IsOutside b (place_of sort row) items
        → StandsOutside sort b (map (λ (e : Place × Row). e.1) items) row
    outside true items row within all = rows_behind items row within all
    outside false items row within all = rows_before items row within all

    no_room : (page : Page) (items : List (Place × Row)) (row : Row) → ((e : Place × Row) → IsIn items e → IsIn everyone e) → length items ≡ page.size → IsOutside (ends_at_cursor page) (place_of sort row) items
        → HasNoRoom sort page (map (λ (e : Place × Row). e.1) items) row
    no_room page items row within full all = (length-map items (λ (e : Place × Row). e.1) ∙ full, outside (ends_at_cursor page) items row within all)

    -- a range starts at its first cursor
    range_starts : (after before : Option Place) → (is_some after && is_some before) ≡ true → (is_none after && is_some before) ≡ false
    range_starts None before e = cc e
    range_starts (Some cursor) before e = refl

    abbrev shown : Page → List Row
    shown page = map (λ (e : Place × Row). e.1) (slice_of sort page everyone)

    cut_short_is : (page : Page) → IsTrue (is_truncated sort page everyone) ↔ IsCutShort sort page rows (shown page)
    cut_short_is page = (forth, back)
      where
        items_in : (e : Place × Row) → IsIn (slice_of sort page everyone) e → IsIn everyone e
        items_in e among = (asked_is page everyone e (from_cut (ends_at_cursor page) page.size (asked_for sort page everyone) e among)).0

        forth : IsTrue (is_truncated sort page everyone) → IsCutShort sort page rows (shown page)
        forth e =
            let parts = and_parts (is_range page) (nat_lt page.size (length (asked_for sort page everyone))) e in
            let starts : ends_at_cursor page ≡ false = range_starts page.after page.before parts.0 in
            let rest = cut_rest (ends_at_cursor page) page.size (asked_for sort page everyone) starts (asked_sorted page everyone (by_place_sorted rows)) (ltb-true page.size (length (asked_for sort page everyone)) parts.1) in
            let is = asked_is page everyone rest.0 rest.1 in
            let at = from_place rows rest.0 apart is.0 in
            record {
              range = parts.0;
              row = rest.0.1;
              among = at.1;
              between = subst (λ (p : Place). IsAskedFor sort page.after page.before p) at.0 is.1;
              no_room = no_room page (slice_of sort page everyone) rest.0.1 items_in rest.2 (subst (λ (p : Place). IsOutside (ends_at_cursor page) p (slice_of sort page everyone)) at.0 rest.3);
            }

        back : IsCutShort sort page rows (shown page) → IsTrue (is_truncated sort page everyone)
        back cut = and_from (is_range page) (nat_lt page.size (length (asked_for sort page everyone))) cut.range (by (cases_lt page.size (length (asked_for sort page everyone))))
          where
            starts : ends_at_cursor page ≡ false
            starts = range_starts page.after page.before cut.range

            by : (page.size < length (asked_for sort page everyone)) ⊎ (length (asked_for sort page everyone) ≤ page.size) → nat_lt page.size (length (asked_for sort page everyone)) ≡ true
            by (inl more) = is_less page.size (length (asked_for sort page everyone)) more
            by (inr few) =
                let among = is_asked page everyone (place_of sort cut.row, cut.row) (in_place rows cut.row apart cut.among) cut.between in
                let here : IsIn (slice_of sort page everyone) (place_of sort cut.row, cut.row) = subst (λ (es : List (Place × Row)). IsIn es (place_of sort cut.row, cut.row)) (sym (cut_all (ends_at_cursor page) page.size (asked_for sort page everyone) starts few)) among in
                let behind : AllByRecursion (λ other. StandsBefore sort other cut.row) (shown page) = subst (λ (b : Bool). StandsOutside sort b (shown page) cut.row) starts cut.no_room.1 in
                absurd (never_itself (place_cmp sort) (place_cmp_total sort) (place_of sort cut.row)
                (in_all (λ other. StandsBefore sort other cut.row) (shown page) cut.row behind (in_map (λ (e : Place × Row). e.1) (slice_of sort page everyone) (place_of sort cut.row, cut.row) here)))

    page_is : (page : Page) (items : List (Place × Row)) (truncated : Bool) → IsSlice page everyone items → IsTrue truncated ↔ IsCutShort sort page rows (map (λ (e : Place × Row). e.1) items)
        → IsPage sort page rows (record { rows = map (λ (e : Place × Row). e.1) items; before = any_before sort items everyone; after = any_after sort items everyone; truncated = truncated })
    page_is page items truncated slice cut =
        let within : (e : Place × Row) → IsIn items e → IsIn everyone e = λ e among. (slice.asked e among).0 in
        record {
          in_order = pairwise_values (place_cmp sort) (StandsBefore sort) items (λ d e p q less.
              subst (λ (a : Place). is_lt (place_cmp sort a (place_of sort e.1)) ≡ true) (placed d (within d p)) (subst (λ (a : Place). is_lt (place_cmp sort d.0 a) ≡ true) (placed e (within e q)) less)) slice.in_order;
          short = subst (λ n. n ≤ page.size) (sym (length-map items (λ (e : Place × Row). e.1))) slice.short;
          asked = λ row among.
              let one = from_map (λ (e : Place × Row). e.1) items row among in
              let asked = slice.asked one.0 one.1 in
              let from = from_place rows one.0 apart asked.0 in
              (subst (λ (r : Row). IsIn rows r) one.2 from.1, subst (λ (r : Row). IsAskedFor sort page.after page.before (place_of sort r)) one.2 (subst (λ (p : Place). IsAskedFor sort page.after page.before p) from.0 asked.1));
          whole = λ row among asked.
              elim (slice.whole (place_of sort row, row) (in_place rows row apart among) asked) [
                | inl here ↦ inl (in_map (λ (e : Place × Row). e.1) items (place_of sort row, row) here)
                | inr out ↦ inr (no_room page items row within out.0 out.1)
              ];
          has_earlier = earlier_is items within;
          has_later = later_is items within;
          is_cut_short = cut;
        }

    pub page_exact : (page : Page) → IsPage sort page rows (page_of sort page rows)
    page_exact page = page_is page (slice_of sort page everyone) (is_truncated sort page everyone) (slice_is page everyone (by_place_sorted rows)) (cut_short_is page)

    pub sorted_exact : AreSorted sort rows (sorted sort rows)
    sorted_exact = record {
      in_order = pairwise_values (place_cmp sort) (StandsBefore sort) everyone (λ d e p q less.
          subst (λ (a : Place). is_lt (place_cmp sort a (place_of sort e.1)) ≡ true) (placed d p) (subst (λ (a : Place). is_lt (place_cmp sort d.0 a) ≡ true) (placed e q) less)) (by_place_sorted rows);
      same_rows = λ row. (
        λ among.
            let one = from_map (λ (e : Place × Row). e.1) everyone row among in
            subst (λ (r : Row). IsIn rows r) one.2 (from_place rows one.0 apart one.1).1,
        λ among. in_map (λ (e : Place × Row). e.1) everyone (place_of sort row, row) (in_place rows row apart among),
      );
    }
