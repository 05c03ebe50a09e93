-- One change among entries in order.
use Rattle.std.proofs.Common.{◌≡◌, ℕ, zero, suc, ◌<◌, ◌≤◌, ◌+◌, ◌-◌, List, [], ◌∷◌, ◌++◌, Bool, true, false, cond, refl, sym, ap, subst, ◌∙◌, length, get_or, take, drop, Some, None, Option, T, arith, length-append, length-drop}
use Rattle.std.proofs.lemmas.List.{length-take-le, get_or_default}
use Rattle.std.specs.Prelude.{⊤, not, ◌&&◌, IfOk, Result, Ok, Err}
use Rattle.std.specs.List.{flat_map}
use Rattle.std.specs.declared.cmp.Ordering.{Ordering}
use Rattle.std.specs.declared.cmp.Ordering.TheVariants.{Less, Equal, Greater}
use Rattle.std.specs.Ordering.{is_lt, is_gt, is_eq, ordering_reverse}
use Rattle.std.specs.FinMap.Entries.{put, where_key, by_order, below_all}
use Rattle.world_cells.specs.declared.keys.CellKey.{CellKey}
use Rattle.world_cells.specs.declared.cells.Cell.{Cell}
use Rattle.world_cells.specs.CellOrder.{cell_key_cmp, cell_key_cmp_total, same_cell_key, cell_key_cmp-IsAntisymmetric}
use Rattle.view_reads.specs.SpanLaws.{is_less}
use Rattle.ordered_pages.proofs.Basics.{both_T, true_T}
use Rattle.view_reads.specs.SpanLaws.{less_trans}
use Rattle.ordered_pages.specs.declared.stops.Stop.TheVariants as stop
use Rattle.std.specs.Borrow.{Bor}
use Rattle.ordered_pages.specs.declared.changes.Change.{Change}
use Rattle.ordered_pages.specs.declared.changes.Change.TheVariants as change
use Rattle.ordered_pages.specs.Entries.{Entry, AreRising, passes, AllLeft, AreParted, Each, HasFirst, IsNode, begins_passed, IsBegun}
use Rattle.ordered_pages.specs.Changes.{written, IsReplaced}
use Rattle.ordered_pages.specs.Changed.{key_of, put_of, put_entries, after, IsChanged, IsChangedIn, IsHalved}
use Rattle.ordered_pages.proofs.Blocks.{parted_back}
use Rattle.ordered_pages.proofs.Sorts.{by_keys, above_other, below_other, parted_sorted, stop_stays}
use Rattle.ordered_pages.proofs.Trees.{flat_flat, flat_append, singles, split_list}

abbrev pub AllBelow : CellKey → List Entry → Type 0
AllBelow k [] = ⊤
AllBelow k (e ∷ es) = (is_lt (cell_key_cmp e.0 k) ≡ true) × AllBelow k es

abbrev pub AllAbove : CellKey → List Entry → Type 0
AllAbove k [] = ⊤
AllAbove k (e ∷ es) = (is_lt (cell_key_cmp k e.0) ≡ true) × AllAbove k es

less_back : (j k : CellKey) → is_lt (cell_key_cmp j k) ≡ true → cell_key_cmp k j ≡ Greater
less_back j k h = cell_key_cmp_total.antisymm k j ∙ ap ordering_reverse (is_less _ h)

-- ---- what stands before and behind stays

pub written_front : (k : CellKey) (c : Option Cell) (es fs : List Entry) → AllBelow k es → written k c (es ++ fs) ≡ es ++ written k c fs
written_front k (Some c) [] fs h = refl
written_front k (Some c) (e ∷ es) fs h =
    ap (λ o. by_order o ((k, c) ∷ e ∷ (es ++ fs)) ((e.0, c) ∷ (es ++ fs)) (e ∷ put cell_key_cmp k c (es ++ fs))) (less_back e.0 k h.0)
    ∙ ap (λ xs. e ∷ xs) (written_front k (Some c) es fs h.1)
written_front k None [] fs h = refl
written_front k None (e ∷ es) fs h =
    ap (λ b. cond (not b) (e ∷ where_key cell_key_cmp (λ x. not (same_cell_key k x)) (es ++ fs)) (where_key cell_key_cmp (λ x. not (same_cell_key k x)) (es ++ fs))) (above_other k e.0 h.0)
    ∙ ap (λ xs. e ∷ xs) (written_front k None es fs h.1)

pub put_before : (k : CellKey) (c : Cell) (fs : List Entry) → AllAbove k fs → put cell_key_cmp k c fs ≡ (k, c) ∷ fs
put_before k c [] h = refl
put_before k c (f ∷ fs) h = ap (λ o. by_order o ((k, c) ∷ f ∷ fs) ((f.0, c) ∷ fs) (f ∷ put cell_key_cmp k c fs)) (is_less _ h.0)

by_order_append : (o : Ordering) (xs ys zs ws fs : List Entry) → ws ≡ zs ++ fs → by_order o (xs ++ fs) (ys ++ fs) ws ≡ by_order o xs ys zs ++ fs
by_order_append Less xs ys zs ws fs is = refl
by_order_append Equal xs ys zs ws fs is = refl
by_order_append Greater xs ys zs ws fs is = is

none_removed : (k : CellKey) (fs : List Entry) → AllAbove k fs → where_key cell_key_cmp (λ x. not (same_cell_key k x)) fs ≡ fs
none_removed k [] h = refl
none_removed k (f ∷ fs) h =
    ap (λ b. cond (not b) (f ∷ where_key cell_key_cmp (λ x. not (same_cell_key k x)) fs) (where_key cell_key_cmp (λ x. not (same_cell_key k x)) fs)) (below_other k f.0 h.0)
    ∙ ap (λ xs. f ∷ xs) (none_removed k fs h.1)

cond_append : (b : Bool) (e : Entry) (xs ys fs : List Entry) → ys ≡ xs ++ fs → cond b (e ∷ ys) ys ≡ cond b (e ∷ xs) xs ++ fs
cond_append true e xs ys fs is = ap (λ zs. e ∷ zs) is
cond_append false e xs ys fs is = is

pub written_back : (k : CellKey) (c : Option Cell) (es fs : List Entry) → AllAbove k fs → written k c (es ++ fs) ≡ written k c es ++ fs
written_back k (Some c) [] fs h = put_before k c fs h
written_back k (Some c) (e ∷ es) fs h =
    by_order_append (cell_key_cmp k e.0) ((k, c) ∷ e ∷ es) ((e.0, c) ∷ es) (e ∷ put cell_key_cmp k c es) (e ∷ put cell_key_cmp k c (es ++ fs)) fs (ap (λ xs. e ∷ xs) (written_back k (Some c) es fs h))
written_back k None [] fs h = none_removed k fs h
written_back k None (e ∷ es) fs h =
    cond_append (not (same_cell_key k e.0)) e (where_key cell_key_cmp (λ x. not (same_cell_key k x)) es) (where_key cell_key_cmp (λ x. not (same_cell_key k x)) (es ++ fs)) fs (written_back k None es fs h)

-- ---- lists in order

pub rising_back : (es fs : List Entry) → AreRising (es ++ fs) → AreRising fs
rising_back [] fs h = h
rising_back (e ∷ es) fs h = rising_back es fs (both_T _ _ h).1

with_T : (a b : Bool) → T a → T b → T (a && b)
with_T true b p q = q
with_T false b p q = absurd p

below_front : (k : CellKey) (es fs : List Entry) → T (below_all cell_key_cmp k (es ++ fs)) → T (below_all cell_key_cmp k es)
below_front k [] fs h = tt
below_front k (e ∷ es) fs h = let parts = both_T _ _ h in with_T _ _ parts.0 (below_front k es fs parts.1)

pub rising_front : (es fs : List Entry) → AreRising (es ++ fs) → AreRising es
rising_front [] fs h = tt
rising_front (e ∷ es) fs h = let parts = both_T _ _ h in with_T _ _ (below_front e.0 es fs parts.0) (rising_front es fs parts.1)

below_there : (k : CellKey) (es fs : List Entry) (e : Entry) → T (below_all cell_key_cmp k (es ++ e ∷ fs)) → is_lt (cell_key_cmp k e.0) ≡ true
below_there k [] fs e h = true_T _ (both_T _ _ h).0
below_there k (x ∷ es) fs e h = below_there k es fs e (both_T _ _ h).1

not_gt : (o : Ordering) → is_lt (ordering_reverse o) ≡ true → not (is_gt o) ≡ false
not_gt Less e = cc e
not_gt Equal e = cc e
not_gt Greater e = refl

less_up_to : (a b k : CellKey) → is_lt (cell_key_cmp a b) ≡ true → not (is_gt (cell_key_cmp b k)) ≡ true → is_lt (cell_key_cmp a k) ≡ true
less_up_to a b k less up = by_keys b k (λ lt. less_trans a b k less lt) (λ same. ap (λ x. is_lt (cell_key_cmp a x)) (sym same) ∙ less)
    (λ more. cc (up, not_gt (cell_key_cmp b k) (ap is_lt (sym (cell_key_cmp_total.antisymm k b)) ∙ more)))

pub all_below : (es fs : List Entry) (e : Entry) (k : CellKey) → AreRising (es ++ e ∷ fs) → not (is_gt (cell_key_cmp e.0 k)) ≡ true → AllBelow k es
all_below [] fs e k h up = tt
all_below (x ∷ es) fs e k h up = let parts = both_T _ _ h in (less_up_to x.0 e.0 k (below_there x.0 es fs e parts.0) up, all_below es fs e k parts.1 up)

gt_less : (o : Ordering) → not (is_gt o) ≡ false → is_lt (ordering_reverse o) ≡ true
gt_less Less e = cc e
gt_less Equal e = cc e
gt_less Greater e = refl

pub all_above : (b : Bor CellKey) (es : List Entry) → AllLeft (passes (stop.UpTo b)) es → AllAbove b.now es
all_above b [] h = tt
all_above b (e ∷ es) h = (ap is_lt (cell_key_cmp_total.antisymm b.now e.0) ∙ gt_less (cell_key_cmp e.0 b.now) h.0, all_above b es h.1)

-- ---- one cell

pub each_any : {A : Type 0} (xs : List A) → Each (λ x. ⊤) xs
each_any [] = tt
each_any (x ∷ xs) = (tt, each_any xs)

few_put : (c : Change) → length (put_entries c) ≤ 1
few_put (change.Put held) = omega arith
few_put (change.Remove k) = omega arith

after_less : (c : Change) (x : Entry) → cell_key_cmp x.0 (key_of c) ≡ Less → x ∷ put_entries c ≡ after c (x ∷ [])
after_less (change.Put held) x h = sym (written_front _ (put_of (change.Put held)) (x ∷ []) [] (ap is_lt h, tt))
after_less (change.Remove k) x h = sym (written_front _ (put_of (change.Remove k)) (x ∷ []) [] (ap is_lt h, tt))

put_over : (k : CellKey) (c : Cell) (x : Entry) → cell_key_cmp x.0 k ≡ Equal → (k, c) ∷ [] ≡ put cell_key_cmp k c (x ∷ [])
put_over k c x h =
    ap (λ (j : CellKey). let es : List Entry = (j, c) ∷ [] in es) (sym (cell_key_cmp-IsAntisymmetric x.0 k h))
    ∙ sym (ap (λ o. by_order o ((k, c) ∷ x ∷ []) ((x.0, c) ∷ []) (x ∷ (k, c) ∷ [])) (cell_key_cmp_total.antisymm k x.0 ∙ ap ordering_reverse h))

removed_over : (k : CellKey) (x : Entry) → cell_key_cmp x.0 k ≡ Equal → [] ≡ where_key cell_key_cmp (λ j. not (same_cell_key k j)) (x ∷ [])
removed_over k x h = sym (ap (λ o. cond (not (is_eq o)) (x ∷ []) []) (cell_key_cmp_total.antisymm k x.0 ∙ ap ordering_reverse h))

after_equal : (c : Change) (x : Entry) → cell_key_cmp x.0 (key_of c) ≡ Equal → put_entries c ≡ after c (x ∷ [])
after_equal (change.Put held) x h = put_over _ _ x h
after_equal (change.Remove k) x h = removed_over k.now x h

after_greater : (c : Change) (x : Entry) → cell_key_cmp x.0 (key_of c) ≡ Greater → put_entries c ++ x ∷ [] ≡ after c (x ∷ [])
after_greater (change.Put held) x h = sym (written_back _ (put_of (change.Put held)) [] (x ∷ []) (ap is_lt (cell_key_cmp_total.antisymm _ x.0 ∙ ap ordering_reverse h), tt))
after_greater (change.Remove k) x h = sym (written_back _ (put_of (change.Remove k)) [] (x ∷ []) (ap is_lt (cell_key_cmp_total.antisymm _ x.0 ∙ ap ordering_reverse h), tt))

-- what the three cases leave of one cell
pub record IsCase (c : Change) (x : Entry) (new : List Entry) : Type 0 where
  pub is : new ≡ after c (x ∷ [])
  pub few : length new ≤ 2

case_of : (c : Change) (x : Entry) (new made : List Entry) → new ≡ made → length made ≤ 2 → made ≡ after c (x ∷ []) → IsCase c x new
case_of c x new made e few is = record { is = e ∙ is; few = subst (λ (xs : List Entry). length xs ≤ 2) (sym e) few }

pub case_less : (c : Change) (x : Entry) (new : List Entry) → cell_key_cmp x.0 (key_of c) ≡ Less → new ≡ x ∷ put_entries c → IsCase c x new
case_less c x new h e = case_of c x new (x ∷ put_entries c) e (let p = few_put c in omega arith) (after_less c x h)

pub case_equal : (c : Change) (x : Entry) (new : List Entry) → cell_key_cmp x.0 (key_of c) ≡ Equal → new ≡ put_entries c → IsCase c x new
case_equal c x new h e = case_of c x new (put_entries c) e (let p = few_put c in omega arith) (after_equal c x h)

pub case_greater : (c : Change) (x : Entry) (new : List Entry) → cell_key_cmp x.0 (key_of c) ≡ Greater → new ≡ put_entries c ++ x ∷ [] → IsCase c x new
case_greater c x new h e = case_of c x new (put_entries c ++ x ∷ []) e (let p = few_put c in omega (arith, length-append (put_entries c) (x ∷ []))) (after_greater c x h)

pub changed_one : (c : Change) (x : Entry) (new : List Entry) → IsCase c x new → IsChanged (λ e. e ∷ []) (λ e. ⊤) (λ e es. ⊤) c x new
changed_one c x new h = record { entries = singles new ∙ h.is; sound = each_any new; few = h.few; keeps = tt }

pub map_ok : {A E : Type 0} (P Q : A → Type 0) (r : Result A E) → ((x : A) → P x → Q x) → IfOk r P → IfOk r Q
map_ok P Q (Ok x) f h = f x h
map_ok P Q (Err e) f h = tt

-- ---- one of many nodes

module _ {A : Type 0} (f : A → List Entry) (P : A → Type 0) (has_first : (x : A) → P x → HasFirst (f x)) where
  pub each_append : (xs ys : List A) → Each P xs → Each P ys → Each P (xs ++ ys)
  each_append [] ys h i = i
  each_append (x ∷ xs) ys h i = (h.0, each_append xs ys h.1 i)

  pub each_take : (n : ℕ) (xs : List A) → Each P xs → Each P (take n xs)
  each_take zero xs h = tt
  each_take (suc n) [] h = tt
  each_take (suc n) (x ∷ xs) h = (h.0, each_take n xs h.1)

  pub each_drop : (n : ℕ) (xs : List A) → Each P xs → Each P (drop n xs)
  each_drop zero xs h = h
  each_drop (suc n) [] h = tt
  each_drop (suc n) (x ∷ xs) h = each_drop n xs h.1

  split_at : (xs : List A) (i : ℕ) (d : A) → i < length xs → flat_map f xs ≡ flat_map f (take i xs) ++ (f (get_or xs i d) ++ flat_map f (drop (i + 1) xs))
  split_at = split_list f

  pub rising_at : (xs : List A) (i : ℕ) (x : A) → AreRising (flat_map f xs) → i < length xs → x ≡ get_or xs i x → AreRising (f x)
  rising_at xs i x h lt is =
      let whole : AreRising (flat_map f (take i xs) ++ (f (get_or xs i x) ++ flat_map f (drop (i + 1) xs))) = subst AreRising (split_at xs i x lt) h in
      subst (λ (y : A). AreRising (f y)) (sym is) (rising_front (f (get_or xs i x)) (flat_map f (drop (i + 1) xs)) (rising_back (flat_map f (take i xs)) _ whole))

  parted_drop : (p : CellKey → Bool) (xs : List A) (m : ℕ) → AreParted p (flat_map f xs) → AreParted p (flat_map f (drop m xs))
  parted_drop p xs zero h = h
  parted_drop p [] (suc m) h = tt
  parted_drop p (x ∷ xs) (suc m) h = parted_drop p xs m (parted_back p (f x) (flat_map f xs) h)

  left_first : (p : CellKey → Bool) (ys : List A) (d : A) → Each P ys → AreParted p (flat_map f ys) → (0 < length ys → begins_passed p (f (get_or ys 0 d)) ≡ false) → AllLeft p (flat_map f ys)
  left_first p [] d h parted out = tt
  left_first p (y ∷ ys) d h parted out =
      let e = has_first y h.0 in
      let start : AreParted p ((e.first ∷ e.rest) ++ flat_map f ys) = subst (λ (es : List Entry). AreParted p (es ++ flat_map f ys)) e.is parted in
      let here : p e.first.0 ≡ false = sym (ap (begins_passed p) e.is) ∙ out (omega arith) in
      subst (λ (es : List Entry). AllLeft p (es ++ flat_map f ys)) (sym e.is) (here, start.0 here)

  get_drop : (xs : List A) (m : ℕ) (d : A) → get_or (drop m xs) 0 d ≡ get_or xs m d
  get_drop xs zero d = refl
  get_drop [] (suc m) d = refl
  get_drop (x ∷ xs) (suc m) d = get_drop xs m d

  left_from : (p : CellKey → Bool) (xs : List A) (n m : ℕ) (d : A) → Each P xs → AreParted p (flat_map f xs) → IsBegun f p xs n → n ≤ m → AllLeft p (flat_map f (drop m xs))
  left_from p xs n m d h parted b le =
      left_first p (drop m xs) d (each_drop m xs h) (parted_drop p xs m parted)
      (λ lt. ap (λ y. begins_passed p (f y)) (get_drop xs m d) ∙ b.left m d le (let e = length-drop m xs in omega arith))

  below_taken : (b : Bor CellKey) (xs : List A) (n at : ℕ) (x : A) → Each P xs → AreRising (flat_map f xs) → IsBegun f (passes (stop.UpTo b)) xs n → at ≡ n - 1 → at < length xs → x ≡ get_or xs at x
      → P x → AllBelow b.now (flat_map f (take at xs))
  below_taken b xs zero at x h rising begun same lt is px =
      let none : at ≡ 0 = omega arith in subst (λ (i : ℕ). AllBelow b.now (flat_map f (take i xs))) (sym none) tt
  below_taken b xs (suc m) at x h rising begun same lt is px =
      let e = has_first x px in
      let whole : AreRising (flat_map f (take at xs) ++ (f (get_or xs at x) ++ flat_map f (drop (at + 1) xs))) = subst AreRising (split_at xs at x lt) rising in
      let here : AreRising (flat_map f (take at xs) ++ e.first ∷ (e.rest ++ flat_map f (drop (at + 1) xs))) =
      subst (λ (es : List Entry). AreRising (flat_map f (take at xs) ++ (es ++ flat_map f (drop (at + 1) xs)))) (ap f (sym is) ∙ e.is) whole in
      all_below (flat_map f (take at xs)) (e.rest ++ flat_map f (drop (at + 1) xs)) e.first b.now here
      (sym (ap (begins_passed (passes (stop.UpTo b))) e.is) ∙ ap (λ y. begins_passed (passes (stop.UpTo b)) (f y)) is ∙ begun.passed at x (omega arith))

  pub written_at : (b : Bor CellKey) (c : Option Cell) (xs : List A) (n at : ℕ) (x : A) → Each P xs → AreRising (flat_map f xs) → IsBegun f (passes (stop.UpTo b)) xs n
      → at ≡ n - 1 → at < length xs → x ≡ get_or xs at x → P x
      → written b.now c (flat_map f xs) ≡ flat_map f (take at xs) ++ (written b.now c (f x) ++ flat_map f (drop (at + 1) xs))
  written_at b c xs n at x h rising begun same lt is px =
      let p = passes (stop.UpTo b) in
      ap (written b.now c) (split_at xs at x lt)
      ∙ written_front b.now c (flat_map f (take at xs)) (f (get_or xs at x) ++ flat_map f (drop (at + 1) xs)) (below_taken b xs n at x h rising begun same lt is px)
      ∙ ap (λ es. flat_map f (take at xs) ++ es)
      (written_back b.now c (f (get_or xs at x)) (flat_map f (drop (at + 1) xs))
      (all_above b _ (left_from p xs n (at + 1) x h (parted_sorted p (stop_stays (stop.UpTo b)) (flat_map f xs) rising) begun (omega arith))))
      ∙ ap (λ y. flat_map f (take at xs) ++ (written b.now c (f y) ++ flat_map f (drop (at + 1) xs))) (sym is)

  pub changed_at : (R : A → List A → Type 0) (b : Bor CellKey) (c : Change) (xs : List A) (n at : ℕ) (x : A) (made new : List A) → Each P xs → AreRising (flat_map f xs) → IsBegun f (passes (stop.UpTo b)) xs n
      → b.now ≡ key_of c → at ≡ n - 1 → at < length xs → x ≡ get_or xs at x → P x → IsChanged f P R c x made → new ≡ take at xs ++ (made ++ drop (at + 1) xs) → IsChangedIn f P R c xs new
  changed_at R b c xs n at x made new h rising begun key same lt is px one e = record {
    entries =
        ap (flat_map f) e ∙ flat_append f (take at xs) (made ++ drop (at + 1) xs) ∙ ap (λ es. flat_map f (take at xs) ++ es) (flat_append f made (drop (at + 1) xs))
        ∙ ap (λ es. flat_map f (take at xs) ++ (es ++ flat_map f (drop (at + 1) xs))) (one.entries ∙ ap (λ k. written k (put_of c) (f x)) (sym key))
        ∙ sym (written_at b (put_of c) xs n at x h rising begun same lt is px)
        ∙ ap (λ k. written k (put_of c) (flat_map f xs)) key;
    sound = subst (Each P) (sym e) (each_append (take at xs) (made ++ drop (at + 1) xs) (each_take at xs h) (each_append made (drop (at + 1) xs) one.sound (each_drop (at + 1) xs h)));
    few = subst (λ (ys : List A). length ys ≤ length xs + 1) (sym e)
        (let few = one.few in
        let short : length (take at xs) ≡ at = length-take-le at xs (omega arith) in
        omega (arith, length-append (take at xs) (made ++ drop (at + 1) xs), length-append made (drop (at + 1) xs), length-drop (at + 1) xs));
    at = at;
    made = made;
    few_made = one.few;
    there = λ some. lt;
    is = e;
    keeps = λ y lt' is'. subst (λ (z : A). R z made) (is ∙ get_or_default xs at x y lt ∙ sym is') one.keeps;
  }

-- a node of which an item was changed
pub node_changed : {A : Type 0} (f : A → List Entry) (P : A → Type 0) (R : A → List A → Type 0) (c : Change) (old items : List A) (new : List (List A)) → IsChangedIn f P R c old items → IsHalved P items new
    → IsChanged (λ s. flat_map f s) (IsNode P) (λ s ss. IsReplaced R s ss) c old new
node_changed f P R c old items new one halved = record {
  entries = flat_flat f new ∙ ap (flat_map f) halved.same ∙ one.entries;
  sound = halved.sound;
  few = halved.few;
  keeps = record { at = one.at; made = one.made; few = one.few_made; there = one.there; is = halved.same ∙ one.is; keeps = one.keeps };
}
