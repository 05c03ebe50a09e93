-- Keys rise past a span: before it, in it, behind it.
use Rattle.std.proofs.Common.{◌≡◌, ℕ, refl, sym, ap, subst, ◌∙◌, Bool, true, false, Option}
use Rattle.std.specs.Prelude.{◌&&◌, ◌==◌, not}
use Rattle.std.specs.declared.cmp.Ordering.{Ordering}
use Rattle.std.specs.declared.cmp.Ordering.TheVariants.{Less, Equal, Greater}
use Rattle.std.specs.Ordering.{is_lt, is_gt, is_eq, ordering_then, nat_cmp, ordering_reverse}
use Rattle.std.specs.Cmp.{IsTotalOrder, nat_cmp_total, unsigned_ties}
use Rattle.std.specs.FinMap.{nat_cmp-IsAntisymmetric}
use Rattle.ident_rules.specs.declared.key.Key.{Key}
use Rattle.ident_rules.specs.IdOrder.{id_cmp}
use Rattle.ident_rules.specs.Key.{key_cmp, key_cmp_total, key_cmp-IsAntisymmetric}
use Rattle.world_cells.specs.declared.keys.CellKey.{CellKey}
use Rattle.world_cells.specs.declared.keys.CellKey.TheVariants as cell_key
use Rattle.world_cells.specs.declared.spans.Edge.{Edge}
use Rattle.world_cells.specs.declared.spans.Span.{Span}
use Rattle.world_cells.specs.declared.spans.Span.TheVariants as span
use Rattle.world_cells.specs.CellOrder.{cell_key_cmp}
use Rattle.world_cells.specs.Reads.{is_above, is_below, link_cmp, in_span}
use Rattle.view_reads.specs.Narrowing.{is_behind}
use Rattle.view_reads.specs.Sides.{between_edges, side, is_passed}
use Rattle.view_reads.specs.SpanLaws.{above_more, below_more, behind_more}

-- ---- in a span

eq_then : (o p : Ordering) → is_eq (ordering_then o p) ≡ (is_eq o && is_eq p)
eq_then Less p = refl
eq_then Equal p = refl
eq_then Greater p = refl

eq_between : (a b : Bool) → is_eq (between_edges a b) ≡ (a && b)
eq_between true true = refl
eq_between true false = refl
eq_between false b = refl

eq_back : (o : Ordering) → is_eq (ordering_reverse o) ≡ is_eq o
eq_back Less = refl
eq_back Equal = refl
eq_back Greater = refl

and_assoc : (a b c : Bool) → ((a && b) && c) ≡ (a && (b && c))
and_assoc true b c = refl
and_assoc false b c = refl

and_right : (a : Bool) → (a && true) ≡ a
and_right true = refl
and_right false = refl

eq_number : (m n : ℕ) → (m == n) ≡ is_eq (nat_cmp m n)
eq_number m n = unsigned_ties m n

pub eq_side : (s : Span) (k : CellKey) → in_span s k ≡ is_eq (side s k)
eq_side (span.Rows kind low high) (cell_key.Row k) =
    and_assoc (k.kind == kind) (is_above low k.id) (is_below high k.id)
    ∙ ap (λ b. b && (is_above low k.id && is_below high k.id)) (eq_number k.kind kind)
    ∙ ap (λ b. is_eq (nat_cmp k.kind kind) && b) (sym (eq_between (is_above low k.id) (is_below high k.id)))
    ∙ sym (eq_then (nat_cmp k.kind kind) (between_edges (is_above low k.id) (is_below high k.id)))
eq_side (span.Rows kind low high) (cell_key.Back to from rel) = refl
eq_side (span.Rows kind low high) (cell_key.Counter n) = refl
eq_side (span.Backs to after) (cell_key.Row k) = refl
eq_side (span.Backs to after) (cell_key.Back t from rel) =
    ap (λ b. b && is_behind after (from, rel)) (sym (eq_back (key_cmp to t)) ∙ ap is_eq (sym (key_cmp_total.antisymm t to)))
    ∙ ap (λ b. is_eq (key_cmp t to) && b) (sym (and_right (is_behind after (from, rel))) ∙ sym (eq_between (is_behind after (from, rel)) true))
    ∙ sym (eq_then (key_cmp t to) (between_edges (is_behind after (from, rel)) true))
eq_side (span.Backs to after) (cell_key.Counter n) = refl

-- ---- sides rise

abbrev IsRising : Ordering → Ordering → Type 0
IsRising a b = (is_lt a ≡ false → is_lt b ≡ false) × (is_gt a ≡ true → is_gt b ≡ true)

to_greater : (a : Ordering) → IsRising a Greater
to_greater a = (λ h. refl, λ h. refl)

from_less : (b : Ordering) → IsRising Less b
from_less b = (λ h. cc h, λ h. cc h)

rising_then : (o a b : Ordering) → IsRising a b → IsRising (ordering_then o a) (ordering_then o b)
rising_then Less a b r = from_less Less
rising_then Equal a b r = r
rising_then Greater a b r = to_greater Greater

rising_between : (a b c d : Bool) → (a ≡ true → c ≡ true) → (d ≡ true → b ≡ true) → IsRising (between_edges a b) (between_edges c d)
rising_between false b c d f g = from_less (between_edges c d)
rising_between true b false d f g = cc (f refl)
rising_between true true true true f g = (λ h. refl, λ h. cc h)
rising_between true true true false f g = to_greater Equal
rising_between true false true true f g = cc (g refl)
rising_between true false true false f g = to_greater Greater

-- what is above something that is not below z
past_on : {A : Type 0} {R : A → A → Ordering} → IsTotalOrder R → (x y z : A) (o : Ordering) → R x z ≡ o → is_lt o ≡ false → R x y ≡ Less → R y z ≡ Greater
past_on t x y z Less is down less = cc down
past_on t x y z Equal is down less = t.antisymm y z ∙ ap ordering_reverse (sym (t.congr x z y is) ∙ less)
past_on t x y z Greater is down less = t.antisymm y z ∙ ap ordering_reverse (t.trans z x y (t.antisymm z x ∙ ap ordering_reverse is) less)

-- a greater first part
rising_first : {A : Type 0} {R : A → A → Ordering} → IsTotalOrder R → (x y z : A) (a b : Ordering) (o : Ordering) → R x z ≡ o → R x y ≡ Less → IsRising (ordering_then o a) (ordering_then (R y z) b)
rising_first {A} {R} t x y z a b Less is less = from_less (ordering_then (R y z) b)
rising_first {A} {R} t x y z a b Equal is less = subst (λ (o : Ordering). IsRising a (ordering_then o b)) (sym (past_on t x y z Equal is refl less)) (to_greater a)
rising_first {A} {R} t x y z a b Greater is less = subst (λ (o : Ordering). IsRising Greater (ordering_then o b)) (sym (past_on t x y z Greater is refl less)) (to_greater Greater)

rows_rise : (kind : ℕ) (low high : Edge) (k j : Key) (o : Ordering) → nat_cmp k.kind j.kind ≡ o → ordering_then o (id_cmp k.id j.id) ≡ Less
    → IsRising (side (span.Rows kind low high) (cell_key.Row k)) (side (span.Rows kind low high) (cell_key.Row j))
rows_rise kind low high k j Less is less = rising_first nat_cmp_total k.kind j.kind kind (between_edges (is_above low k.id) (is_below high k.id)) (between_edges (is_above low j.id) (is_below high j.id)) (nat_cmp k.kind kind) refl is
rows_rise kind low high k j Equal is less =
    subst (λ (n : ℕ). IsRising (side (span.Rows kind low high) (cell_key.Row k)) (ordering_then (nat_cmp n kind) (between_edges (is_above low j.id) (is_below high j.id)))) (nat_cmp-IsAntisymmetric k.kind j.kind is)
    (rising_then (nat_cmp k.kind kind) (between_edges (is_above low k.id) (is_below high k.id)) (between_edges (is_above low j.id) (is_below high j.id))
    (rising_between (is_above low k.id) (is_below high k.id) (is_above low j.id) (is_below high j.id) (λ h. above_more low k.id j.id h less) (λ h. below_more high j.id k.id h less)))
rows_rise kind low high k j Greater is less = cc less

backs_rise : (to : Key) (after : Option (Key × ℕ)) (t from u next : Key) (rel late : ℕ) (o : Ordering) → key_cmp t u ≡ o → ordering_then o (link_cmp (from, rel) (next, late)) ≡ Less
    → IsRising (side (span.Backs to after) (cell_key.Back t from rel)) (side (span.Backs to after) (cell_key.Back u next late))
backs_rise to after t from u next rel late Less is less =
    rising_first key_cmp_total t u to (between_edges (is_behind after (from, rel)) true) (between_edges (is_behind after (next, late)) true) (key_cmp t to) refl is
backs_rise to after t from u next rel late Equal is less =
    subst (λ (k : Key). IsRising (side (span.Backs to after) (cell_key.Back t from rel)) (ordering_then (key_cmp k to) (between_edges (is_behind after (next, late)) true))) (key_cmp-IsAntisymmetric t u is)
    (rising_then (key_cmp t to) (between_edges (is_behind after (from, rel)) true) (between_edges (is_behind after (next, late)) true)
    (rising_between (is_behind after (from, rel)) true (is_behind after (next, late)) true (λ h. behind_more after (from, rel) (next, late) h less) (λ h. refl)))
backs_rise to after t from u next rel late Greater is less = cc less

then_less_is : (o : Ordering) → ordering_then o Equal ≡ Less → o ≡ Less
then_less_is Less e = refl
then_less_is Equal e = cc e
then_less_is Greater e = cc e

side_rises : (s : Span) (k j : CellKey) → cell_key_cmp k j ≡ Less → IsRising (side s k) (side s j)
side_rises (span.Rows kind low high) (cell_key.Row k) (cell_key.Row j) less = rows_rise kind low high k j (nat_cmp k.kind j.kind) refl (then_less_is (key_cmp k j) less)
side_rises (span.Rows kind low high) (cell_key.Row k) (cell_key.Back u next late) less = to_greater (side (span.Rows kind low high) (cell_key.Row k))
side_rises (span.Rows kind low high) (cell_key.Row k) (cell_key.Counter n) less = to_greater (side (span.Rows kind low high) (cell_key.Row k))
side_rises (span.Rows kind low high) (cell_key.Back t from rel) (cell_key.Row j) less = cc less
side_rises (span.Rows kind low high) (cell_key.Back t from rel) (cell_key.Back u next late) less = to_greater Greater
side_rises (span.Rows kind low high) (cell_key.Back t from rel) (cell_key.Counter n) less = to_greater Greater
side_rises (span.Rows kind low high) (cell_key.Counter m) (cell_key.Row j) less = cc less
side_rises (span.Rows kind low high) (cell_key.Counter m) (cell_key.Back u next late) less = cc less
side_rises (span.Rows kind low high) (cell_key.Counter m) (cell_key.Counter n) less = to_greater Greater
side_rises (span.Backs to after) (cell_key.Row k) j less = from_less (side (span.Backs to after) j)
side_rises (span.Backs to after) (cell_key.Back t from rel) (cell_key.Row j) less = cc less
side_rises (span.Backs to after) (cell_key.Back t from rel) (cell_key.Back u next late) less = backs_rise to after t from u next rel late (key_cmp t u) refl less
side_rises (span.Backs to after) (cell_key.Back t from rel) (cell_key.Counter n) less = to_greater (side (span.Backs to after) (cell_key.Back t from rel))
side_rises (span.Backs to after) (cell_key.Counter m) (cell_key.Row j) less = cc less
side_rises (span.Backs to after) (cell_key.Counter m) (cell_key.Back u next late) less = cc less
side_rises (span.Backs to after) (cell_key.Counter m) (cell_key.Counter n) less = to_greater Greater

not_flag : (b : Bool) → not b ≡ false → b ≡ true
not_flag true e = refl
not_flag false e = cc e

-- behind a key that is not passed none is passed
pub none_passed : (whole : Bool) (s : Span) (k j : CellKey) → cell_key_cmp k j ≡ Less → is_passed whole s k ≡ false → is_passed whole s j ≡ false
none_passed false s k j less h = (side_rises s k j less).0 h
none_passed true s k j less h = ap not ((side_rises s k j less).1 (not_flag _ h))

-- ---- out of a span

lt_out : (o : Ordering) → is_lt o ≡ true → is_eq o ≡ false
lt_out Less e = refl
lt_out Equal e = cc
lt_out Greater e = cc e

gt_out : (o : Ordering) → not (is_gt o) ≡ false → is_eq o ≡ false
gt_out Less e = refl
gt_out Equal e = cc
gt_out Greater e = refl

pub before_out : (s : Span) (k : CellKey) → is_passed false s k ≡ true → in_span s k ≡ false
before_out s k h = eq_side s k ∙ lt_out (side s k) h

pub behind_out : (s : Span) (k : CellKey) → is_passed true s k ≡ false → in_span s k ≡ false
behind_out s k h = eq_side s k ∙ gt_out (side s k) h

out_behind : (o : Ordering) → is_lt o ≡ false → is_eq o ≡ false → not (is_gt o) ≡ false
out_behind Less e f = cc e
out_behind Equal e f = cc f
out_behind Greater e f = refl

out_before : (o : Ordering) → not (is_gt o) ≡ true → is_eq o ≡ false → is_lt o ≡ true
out_before Less e f = refl
out_before Equal e f = cc f
out_before Greater e f = cc e

-- a key out of a span, and not before it, is behind it
pub then_behind : (s : Span) (k : CellKey) → is_passed false s k ≡ false → in_span s k ≡ false → is_passed true s k ≡ false
then_behind s k e f = out_behind (side s k) e (sym (eq_side s k) ∙ f)

pub then_before : (s : Span) (k : CellKey) → is_passed true s k ≡ true → in_span s k ≡ false → is_passed false s k ≡ true
then_before s k e f = out_before (side s k) e (sym (eq_side s k) ∙ f)
