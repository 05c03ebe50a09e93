-- Searching entries in ascending order of keys.
use Rattle.std.proofs.Common.{◌≡◌, List, [], ◌∷◌, Bool, true, false, cond, refl, sym, ap, subst, ◌∙◌, Some, None, Option, T, ◌⊎◌, inl, inr}
use Rattle.std.specs.Prelude.{not}
use Rattle.std.specs.declared.cmp.Ordering.{Ordering}
use Rattle.std.specs.declared.cmp.Ordering.TheVariants.{Less, Equal, Greater}
use Rattle.std.specs.Ordering.{is_lt, is_gt, is_eq, ordering_reverse}
use Rattle.std.specs.Cmp.{tied_itself}
use Rattle.std.specs.FinMap.Entries.{find, below_all, is_sorted}
use Rattle.world_cells.specs.declared.keys.CellKey.{CellKey}
use Rattle.world_cells.specs.declared.cells.Cell.{Cell}
use Rattle.world_cells.specs.declared.spans.Span.{Span}
use Rattle.world_cells.specs.CellOrder.{cell_key_cmp, cell_key_cmp_total, same_cell_key}
use Rattle.world_cells.specs.Reads.{Cells, in_span, IsFirstIn, IsLastIn}
use Rattle.view_reads.specs.Sides.{is_passed, side}
use Rattle.view_reads.specs.SpanLaws.{is_less}
use Rattle.ordered_pages.proofs.Basics.{both_T, true_T}
use Rattle.world_cells.specs.CellLaws.{cell_key_is}
use Rattle.view_reads.specs.SpanLaws.{less_trans}
use Rattle.view_reads.specs.SideLaws.{none_passed, then_behind, then_before, eq_side}
use Rattle.ordered_pages.specs.declared.stops.Stop.{Stop}
use Rattle.ordered_pages.specs.declared.stops.Stop.TheVariants as stop
use Rattle.ordered_pages.specs.Entries.{Entry, cells_of, passes, first_left, or_this, last_passed, AllLeft, AreParted, IsLastPassed, IsFirstLeft}
use Rattle.ordered_pages.specs.Finding.{at_key, within}
use Rattle.ordered_pages.proofs.Blocks.{by_bool}

-- ---- keys that rise

not_both : (o : Ordering) → is_lt o ≡ true → is_eq o ≡ false
not_both Less e = refl
not_both Equal e = cc e
not_both Greater e = cc e

pub turned : (o : Ordering) → is_eq (ordering_reverse o) ≡ is_eq o
turned Less = refl
turned Equal = refl
turned Greater = refl

-- a lesser key is another one
pub below_other : (j k : CellKey) → is_lt (cell_key_cmp j k) ≡ true → same_cell_key j k ≡ false
below_other j k h = not_both (cell_key_cmp j k) h

pub above_other : (j k : CellKey) → is_lt (cell_key_cmp k j) ≡ true → same_cell_key j k ≡ false
above_other j k h = ap is_eq (cell_key_cmp_total.antisymm j k) ∙ turned (cell_key_cmp k j) ∙ not_both (cell_key_cmp k j) h

step : (j : CellKey) (e : Entry) (es : List Entry) → same_cell_key j e.0 ≡ false → find cell_key_cmp j (e ∷ es) ≡ find cell_key_cmp j es
step j e es h = ap (λ b. cond b (Some e.1) (find cell_key_cmp j es)) h

met : (e : Entry) (es : List Entry) → find cell_key_cmp e.0 (e ∷ es) ≡ Some e.1
met e es = ap (λ o. cond (is_eq o) (Some e.1) (find cell_key_cmp e.0 es)) (tied_itself cell_key_cmp_total e.0)

-- below all keys nothing is found
pub none_below : (k j : CellKey) (es : List Entry) → T (below_all cell_key_cmp k es) → (is_lt (cell_key_cmp j k) ≡ true) ⊎ (j ≡ k) → find cell_key_cmp j es ≡ None
none_below k j [] h le = refl
none_below k j (e ∷ es) h le =
    let parts = both_T _ _ h in
    let up : is_lt (cell_key_cmp k e.0) ≡ true = true_T _ parts.0 in
    let less : is_lt (cell_key_cmp j e.0) ≡ true = elim le [ inl l ↦ less_trans j k e.0 l up | inr is ↦ ap (λ x. is_lt (cell_key_cmp x e.0)) is ∙ up ] in
    step j e es (below_other j e.0 less) ∙ none_below k j es parts.1 le

-- what is found lies above a key that is below all
found_above : (k j : CellKey) (es : List Entry) (c : Cell) → T (below_all cell_key_cmp k es) → find cell_key_cmp j es ≡ Some c → is_lt (cell_key_cmp k j) ≡ true
found_above k j [] c h is = cc is
found_above k j (e ∷ es) c h is =
    let parts = both_T _ _ h in
    by_bool (same_cell_key j e.0)
    (λ same. ap (λ x. is_lt (cell_key_cmp k x)) (cell_key_is j e.0 same) ∙ true_T _ parts.0)
    (λ other. found_above k j es c parts.1 (sym (step j e es other) ∙ is))

-- ---- searches

module _ (p : CellKey → Bool) where
  apart : (j k : CellKey) → p j ≡ true → p k ≡ false → same_cell_key j k ≡ false
  apart j k e f = by_bool (same_cell_key j k) (λ same. cc (e, f, ap p (cell_key_is j k same))) (λ h. h)

  left_unfound : (j : CellKey) (es : List Entry) → p j ≡ true → AllLeft p es → find cell_key_cmp j es ≡ None
  left_unfound j [] h out = refl
  left_unfound j (e ∷ es) h out = step j e es (apart j e.0 h out.0) ∙ left_unfound j es h out.1

  last_of_more : (e : Entry) (es : List Entry) (o : Option Entry) → p e.0 ≡ true → T (is_sorted cell_key_cmp (e ∷ es)) → IsLastPassed p (cells_of es) o → IsLastPassed p (cells_of (e ∷ es)) (or_this o (Some e))
  last_of_more e es None here sorted last = (here, met e es, λ j h up. step j e es (above_other j e.0 up) ∙ last j h)
  last_of_more e es (Some x) here sorted last =
      let parts = both_T _ _ sorted in
      let up : is_lt (cell_key_cmp e.0 x.0) ≡ true = found_above e.0 x.0 es x.1 parts.0 last.1 in
      (last.0, step x.0 e es (above_other x.0 e.0 up) ∙ last.1, λ j h past. step j e es (above_other j e.0 (less_trans e.0 x.0 j up past)) ∙ last.2 j h past)

  pub last_is : (es : List Entry) → T (is_sorted cell_key_cmp es) → AreParted p es → IsLastPassed p (cells_of es) (last_passed p es)
  last_is [] sorted parted = λ j h. refl
  last_is (e ∷ es) sorted parted = by_bool (p e.0)
      (λ here. subst (λ (b : Bool). IsLastPassed p (cells_of (e ∷ es)) (cond b (or_this (last_passed p es) (Some e)) None)) (sym here)
      (last_of_more e es (last_passed p es) here sorted (last_is es (both_T _ _ sorted).1 parted.1)))
      (λ out. subst (λ (b : Bool). IsLastPassed p (cells_of (e ∷ es)) (cond b (or_this (last_passed p es) (Some e)) None)) (sym out)
      (λ j h. left_unfound j (e ∷ es) h (out, parted.0 out)))

  first_of_more : (e : Entry) (es : List Entry) (o : Option Entry) → p e.0 ≡ true → IsFirstLeft p (cells_of es) o → IsFirstLeft p (cells_of (e ∷ es)) o
  first_of_more e es None here first = λ j out. step j e es (away j out) ∙ first j out
    where
      away : (j : CellKey) → p j ≡ false → same_cell_key j e.0 ≡ false
      away j out = by_bool (same_cell_key j e.0) (λ same. cc (here, out, ap p (cell_key_is j e.0 same))) (λ h. h)
  first_of_more e es (Some x) here first = (first.0, step x.0 e es (away x.0 first.0) ∙ first.1, λ j out down. step j e es (away j out) ∙ first.2 j out down)
    where
      away : (j : CellKey) → p j ≡ false → same_cell_key j e.0 ≡ false
      away j out = by_bool (same_cell_key j e.0) (λ same. cc (here, out, ap p (cell_key_is j e.0 same))) (λ h. h)

  pub first_is : (es : List Entry) → T (is_sorted cell_key_cmp es) → IsFirstLeft p (cells_of es) (first_left p es)
  first_is [] sorted = λ j h. refl
  first_is (e ∷ es) sorted = by_bool (p e.0)
      (λ here. subst (λ (b : Bool). IsFirstLeft p (cells_of (e ∷ es)) (cond b (first_left p es) (Some e))) (sym here) (first_of_more e es (first_left p es) here (first_is es (both_T _ _ sorted).1)))
      (λ out. subst (λ (b : Bool). IsFirstLeft p (cells_of (e ∷ es)) (cond b (first_left p es) (Some e))) (sym out)
      (out, met e es, λ j h down. step j e es (below_other j e.0 down) ∙ none_below e.0 j es (both_T _ _ sorted).0 (inl down)))

  -- a search that never passes again what lies above a key that it does not pass
  abbrev pub StaysLeft : Type 0
  StaysLeft = (k j : CellKey) → cell_key_cmp k j ≡ Less → p k ≡ false → p j ≡ false

  rest_left : StaysLeft → (k : CellKey) (es : List Entry) → p k ≡ false → T (below_all cell_key_cmp k es) → AllLeft p es
  rest_left stays k [] out h = tt
  rest_left stays k (e ∷ es) out h = let parts = both_T _ _ h in (stays k e.0 (is_less _ (true_T _ parts.0)) out, rest_left stays k es out parts.1)

  pub parted_sorted : StaysLeft → (es : List Entry) → T (is_sorted cell_key_cmp es) → AreParted p es
  parted_sorted stays [] h = tt
  parted_sorted stays (e ∷ es) h = let parts = both_T _ _ h in (λ out. rest_left stays e.0 es out parts.0, parted_sorted stays es parts.1)

not_flag : (b : Bool) → not b ≡ false → b ≡ true
not_flag true e = refl
not_flag false e = cc e

greater : (o : Ordering) → is_gt o ≡ true → o ≡ Greater
greater Less e = cc e
greater Equal e = cc e
greater Greater e = refl

pub stop_stays : (s : Stop) → StaysLeft (passes s)
stop_stays (stop.UpTo b) k j less out =
    let above : cell_key_cmp k b.now ≡ Greater = greater _ (not_flag _ out) in
    let up : cell_key_cmp b.now j ≡ Less = cell_key_cmp_total.trans b.now k j (cell_key_cmp_total.antisymm b.now k ∙ ap ordering_reverse above) less in
    ap (λ o. not (is_gt o)) (cell_key_cmp_total.antisymm j b.now ∙ ap ordering_reverse up)
stop_stays (stop.Past whole s) k j less out = none_passed whole s.now k j less out

-- ---- at a key, and in a span

up_or_same : (o : Ordering) → not (is_gt o) ≡ true → is_eq o ≡ false → is_lt o ≡ true
up_or_same Less e f = refl
up_or_same Equal e f = cc f
up_or_same Greater e f = cc e

not_above_itself : (k : CellKey) → not (is_gt (cell_key_cmp k k)) ≡ true
not_above_itself k = ap (λ o. not (is_gt o)) (tied_itself cell_key_cmp_total k)

pub found_at : (f : Cells) (b : Stop) (k : CellKey) (o : Option Entry) → ((j : CellKey) → passes b j ≡ not (is_gt (cell_key_cmp j k))) → IsLastPassed (passes b) f o → at_key o k ≡ f k
found_at f b k None up last = sym (last k (up k ∙ not_above_itself k))
found_at f b k (Some e) up last = by_bool (same_cell_key e.0 k)
    (λ same. ap (λ b. cond b (Some e.1) None) same ∙ sym last.1 ∙ ap f (cell_key_is e.0 k same))
    (λ other. ap (λ b. cond b (Some e.1) None) other ∙ sym (last.2 k (up k ∙ not_above_itself k) (up_or_same (cell_key_cmp e.0 k) (sym (up e.0) ∙ last.0) other)))

eq_not_less : (o : Ordering) → is_eq o ≡ true → is_lt o ≡ false
eq_not_less Less e = cc e
eq_not_less Equal e = refl
eq_not_less Greater e = cc e

eq_not_greater : (o : Ordering) → is_eq o ≡ true → not (is_gt o) ≡ true
eq_not_greater Less e = cc e
eq_not_greater Equal e = refl
eq_not_greater Greater e = cc e

in_not_before : (s : Span) (j : CellKey) → in_span s j ≡ true → is_passed false s j ≡ false
in_not_before s j h = eq_not_less (side s j) (sym (eq_side s j) ∙ h)

in_passed : (s : Span) (j : CellKey) → in_span s j ≡ true → is_passed true s j ≡ true
in_passed s j h = eq_not_greater (side s j) (sym (eq_side s j) ∙ h)

-- of two keys one is below the other, or they are one
pub by_keys : {P : Type 0} (j k : CellKey) → (is_lt (cell_key_cmp j k) ≡ true → P) → (j ≡ k → P) → (is_lt (cell_key_cmp k j) ≡ true → P) → P
by_keys j k less same more = by_bool (is_lt (cell_key_cmp j k)) less
    (λ not_less. by_bool (same_cell_key j k) (λ is. same (cell_key_is j k is))
    (λ other. more (ap is_lt (cell_key_cmp_total.antisymm k j) ∙ back (cell_key_cmp j k) not_less other)))
  where
    back : (o : Ordering) → is_lt o ≡ false → is_eq o ≡ false → is_lt (ordering_reverse o) ≡ true
    back Less e f = cc e
    back Equal e f = cc f
    back Greater e f = refl

first_within : (f : Cells) (b : Stop) (s : Span) (o : Option Entry) → ((j : CellKey) → passes b j ≡ is_passed false s j) → IsFirstLeft (passes b) f o → IsFirstIn f s (within s o)
first_within f b s None is first = λ j inside. first j (is j ∙ in_not_before s j inside)
first_within f b s (Some e) is first = by_bool (in_span s e.0)
    (λ inside. subst (λ (b : Bool). IsFirstIn f s (cond b (Some e) None)) (sym inside) (inside, first.1, λ j here below. first.2 j (is j ∙ in_not_before s j here) below))
    (λ outside. subst (λ (b : Bool). IsFirstIn f s (cond b (Some e) None)) (sym outside)
    (λ j here.
    let behind : is_passed true s e.0 ≡ false = then_behind s e.0 (sym (is e.0) ∙ first.0) outside in
    by_keys j e.0 (λ less. first.2 j (is j ∙ in_not_before s j here) less)
    (λ same. cc (here, outside, ap (in_span s) same))
    (λ more. cc (in_passed s j here, none_passed true s e.0 j (is_less _ more) behind))))

last_within : (f : Cells) (b : Stop) (s : Span) (o : Option Entry) → ((j : CellKey) → passes b j ≡ is_passed true s j) → IsLastPassed (passes b) f o → IsLastIn f s (within s o)
last_within f b s None is last = λ j inside. last j (is j ∙ in_passed s j inside)
last_within f b s (Some e) is last = by_bool (in_span s e.0)
    (λ inside. subst (λ (b : Bool). IsLastIn f s (cond b (Some e) None)) (sym inside) (inside, last.1, λ j here above. last.2 j (is j ∙ in_passed s j here) above))
    (λ outside. subst (λ (b : Bool). IsLastIn f s (cond b (Some e) None)) (sym outside)
    (λ j here.
    let before : is_passed false s e.0 ≡ true = then_before s e.0 (sym (is e.0) ∙ last.0) outside in
    by_keys j e.0 (λ less. by_bool (is_passed false s j) (λ out. cc (out, in_not_before s j here)) (λ in_or_behind. cc (before, none_passed false s j e.0 (is_less _ less) in_or_behind)))
    (λ same. cc (here, outside, ap (in_span s) same))
    (λ more. last.2 j (is j ∙ in_passed s j here) more)))

pub first_found : (f : Cells) (b : Stop) (s : Span) (o found : Option Entry) → ((j : CellKey) → passes b j ≡ is_passed false s j) → found ≡ within s o → IsFirstLeft (passes b) f o → IsFirstIn f s found
first_found f b s o found is same first = subst (λ (x : Option Entry). IsFirstIn f s x) (sym same) (first_within f b s o is first)

pub last_found : (f : Cells) (b : Stop) (s : Span) (o found : Option Entry) → ((j : CellKey) → passes b j ≡ is_passed true s j) → found ≡ within s o → IsLastPassed (passes b) f o → IsLastIn f s found
last_found f b s o found is same last = subst (λ (x : Option Entry). IsLastIn f s x) (sym same) (last_within f b s o is last)

pub same_itself : (k : CellKey) → same_cell_key k k ≡ true
same_itself k = ap is_eq (tied_itself cell_key_cmp_total k)
