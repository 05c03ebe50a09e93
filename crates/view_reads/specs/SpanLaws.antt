-- Laws of spans: what follows of keys above and below one of a span, and what is left of the span behind it.
use Rattle.std.proofs.Common.{inl, inr, ◌≡◌, ℕ, List, refl, sym, ap, ◌∙◌, Bool, true, false, Option, Some, None}
use Rattle.std.specs.Prelude.{◌==◌, ◌&&◌, not, IsTrue}
use Rattle.std.specs.declared.cmp.Ordering.{Ordering}
use Rattle.std.specs.declared.cmp.Ordering.TheVariants.{Less, Equal, Greater}
use Rattle.std.specs.Ordering.{is_lt, is_gt, ordering_then, nat_cmp, ordering_reverse}
use Rattle.std.specs.Cmp.{IsTotalOrder, nat_cmp_total, then_total, on_total, tied_itself}
use Rattle.ident_rules.specs.declared.key.Key.{Key}
use Rattle.ident_rules.specs.IdOrder.{id_cmp, id_cmp_total}
use Rattle.ident_rules.specs.IdOrder.{is_equal}
use Rattle.ident_rules.specs.Key.{key_cmp, key_cmp_total, key_cmp-IsAntisymmetric, same_key}
use Rattle.world_cells.specs.declared.keys.CellKey.{CellKey}
use Rattle.world_cells.specs.declared.keys.CellKey.TheVariants as cell_key
use Rattle.world_cells.specs.declared.spans.Edge.{Edge}
use Rattle.world_cells.specs.declared.spans.Edge.TheVariants as edge
use Rattle.world_cells.specs.declared.spans.Span.{Span}
use Rattle.world_cells.specs.declared.spans.Span.TheVariants as span
use Rattle.world_cells.specs.CellOrder.{cell_key_cmp, cell_key_cmp_total}
use Rattle.world_cells.specs.Reads.{is_above, is_below, link_cmp, in_span}
use Rattle.std.proofs.lemmas.Bool.Decides.{eqb_tells}
use Rattle.view_reads.specs.Narrowing.{is_behind, is_met, narrowed, CanNarrow}

pub is_less : (o : Ordering) → is_lt o ≡ true → o ≡ Less
is_less Less e = refl
is_less Equal e = cc e
is_less Greater e = cc e

pub less_trans : (i j k : CellKey) → is_lt (cell_key_cmp i j) ≡ true → is_lt (cell_key_cmp j k) ≡ true → is_lt (cell_key_cmp i k) ≡ true
less_trans i j k p q = ap is_lt (cell_key_cmp_total.trans i j k (is_less _ p) (is_less _ q))

pub and_true : (a b : Bool) → (a && b) ≡ true → (a ≡ true) × (b ≡ true)
and_true true b h = (refl, h)
and_true false b h = cc h

and_false : (a : Bool) → (a && false) ≡ false
and_false true = refl
and_false false = refl

and_yes : (a : Bool) → (a && true) ≡ a
and_yes true = refl
and_yes false = refl

then_less : (o : Ordering) → is_lt (ordering_then o Equal) ≡ is_lt o
then_less Less = refl
then_less Equal = refl
then_less Greater = refl

-- ---- edges

not_greater : {A : Type 0} {R : A → A → Ordering} → IsTotalOrder R → (x y z : A) (o : Ordering) → R x y ≡ o → not (is_gt o) ≡ true → R y z ≡ Less → R x z ≡ Less
not_greater t x y z Less is up less = t.trans x y z is less
not_greater t x y z Equal is up less = t.congr x y z is ∙ less
not_greater t x y z Greater is up less = cc up

-- what an equal last term says of the middle one
tied_right : {A : Type 0} {R : A → A → Ordering} → IsTotalOrder R → (x y z : A) → R y z ≡ Equal → R x y ≡ R x z
tied_right t x y z e = t.antisymm x y ∙ ap ordering_reverse (t.congr y z x e) ∙ sym (t.antisymm x z)

less_then : {A : Type 0} {R : A → A → Ordering} → IsTotalOrder R → (x y z : A) (o : Ordering) → R x y ≡ Less → R y z ≡ o → not (is_gt o) ≡ true → R x z ≡ Less
less_then t x y z Less less is up = t.trans x y z less is
less_then t x y z Equal less is up = sym (tied_right t x y z is) ∙ less
less_then t x y z Greater less is up = cc up

pub above_more : (low : Edge) (x y : List ℕ) → is_above low x ≡ true → id_cmp x y ≡ Less → is_above low y ≡ true
above_more edge.End x y h less = refl
above_more (edge.Open low) x y h less = ap is_lt (id_cmp_total.trans low x y (is_less _ h) less)
above_more (edge.Closed low) x y h less = ap (λ o. not (is_gt o)) (not_greater id_cmp_total low x y (id_cmp low x) refl h less)

pub below_more : (high : Edge) (x y : List ℕ) → is_below high x ≡ true → id_cmp y x ≡ Less → is_below high y ≡ true
below_more edge.End x y h less = refl
below_more (edge.Open high) x y h less = ap is_lt (id_cmp_total.trans y x high less (is_less _ h))
below_more (edge.Closed high) x y h less = ap (λ o. not (is_gt o)) (less_then id_cmp_total y x high (id_cmp x high) less refl h)

-- ---- rows

pub same_number : (m n : ℕ) → (m == n) ≡ true → m ≡ n
same_number m n e = elim (eqb_tells m n) [ inl h ↦ h.1 | inr h ↦ cc (e, h.0) ]

pub tied : (m n : ℕ) → m ≡ n → nat_cmp m n ≡ Equal
tied m n e = ap (nat_cmp m) (sym e) ∙ tied_itself nat_cmp_total m

pub row_less : (k j : Key) → k.kind ≡ j.kind → is_lt (cell_key_cmp (cell_key.Row k) (cell_key.Row j)) ≡ is_lt (id_cmp k.id j.id)
row_less k j e = then_less (key_cmp k j) ∙ ap (λ o. is_lt (ordering_then o (id_cmp k.id j.id))) (tied k.kind j.kind e)

-- a test of each key passed, and one that follows from the last
first_follows : (same less above below : Bool) → (less ≡ true → above ≡ true) → ((same && less) && below) ≡ (((same && above) && below) && less)
first_follows false less above below f = refl
first_follows true false above below f = sym (and_false (above && below))
first_follows true true above below f = sym (ap (λ b. (b && below) && true) (f refl) ∙ and_yes below)

last_follows : (rest less below : Bool) → (less ≡ true → below ≡ true) → (rest && less) ≡ ((rest && below) && less)
last_follows false less below f = refl
last_follows true false below f = sym (and_false below)
last_follows true true below f = sym (ap (λ b. b && true) (f refl))

rows_up : (kind : ℕ) (low high : Edge) (k j : Key) → in_span (span.Rows kind low high) (cell_key.Row k) ≡ true → (same : Bool) → (j.kind == kind) ≡ same
    → ((j.kind == kind && is_lt (id_cmp k.id j.id)) && is_below high j.id) ≡ (((j.kind == kind && is_above low j.id) && is_below high j.id) && is_lt (cell_key_cmp (cell_key.Row k) (cell_key.Row j)))
rows_up kind low high k j h true s =
    let inside = and_true _ _ (and_true _ _ h).0 in
    let kinds : k.kind ≡ j.kind = same_number _ _ inside.0 ∙ sym (same_number _ _ s) in
    first_follows (j.kind == kind) (is_lt (id_cmp k.id j.id)) (is_above low j.id) (is_below high j.id) (λ less. above_more low k.id j.id inside.1 (is_less _ less))
    ∙ ap (λ b. ((j.kind == kind && is_above low j.id) && is_below high j.id) && b) (sym (row_less k j kinds))
rows_up kind low high k j h false s =
    ap (λ b. (b && is_lt (id_cmp k.id j.id)) && is_below high j.id) s
    ∙ sym (ap (λ b. ((b && is_above low j.id) && is_below high j.id) && is_lt (cell_key_cmp (cell_key.Row k) (cell_key.Row j))) s)

rows_down : (kind : ℕ) (low high : Edge) (k j : Key) → in_span (span.Rows kind low high) (cell_key.Row k) ≡ true → (same : Bool) → (j.kind == kind) ≡ same
    → ((j.kind == kind && is_above low j.id) && is_lt (id_cmp j.id k.id)) ≡ (((j.kind == kind && is_above low j.id) && is_below high j.id) && is_lt (cell_key_cmp (cell_key.Row j) (cell_key.Row k)))
rows_down kind low high k j h true s =
    let parts = and_true _ _ h in
    let kinds : j.kind ≡ k.kind = same_number _ _ s ∙ sym (same_number _ _ (and_true _ _ parts.0).0) in
    last_follows (j.kind == kind && is_above low j.id) (is_lt (id_cmp j.id k.id)) (is_below high j.id) (λ less. below_more high k.id j.id parts.1 (is_less _ less))
    ∙ ap (λ b. ((j.kind == kind && is_above low j.id) && is_below high j.id) && b) (sym (row_less j k kinds))
rows_down kind low high k j h false s =
    ap (λ b. (b && is_above low j.id) && is_lt (id_cmp j.id k.id)) s
    ∙ sym (ap (λ b. ((b && is_above low j.id) && is_below high j.id) && is_lt (cell_key_cmp (cell_key.Row j) (cell_key.Row k))) s)

-- ---- ways back

link_cmp_total : IsTotalOrder link_cmp
link_cmp_total = then_total (on_total (λ l. l.0) key_cmp_total) (on_total (λ l. l.1) nat_cmp_total)

pub behind_more : (after : Option (Key × ℕ)) (x y : Key × ℕ) → is_behind after x ≡ true → link_cmp x y ≡ Less → is_behind after y ≡ true
behind_more None x y h less = refl
behind_more (Some l) x y h less = ap is_lt (link_cmp_total.trans l x y (is_less _ h) less)

same_key_is : (q r : Key) → same_key q r ≡ true → q ≡ r
same_key_is q r e = key_cmp-IsAntisymmetric q r (is_equal _ e)

back_less : (t u from after : Key) (rel late : ℕ) → t ≡ u → is_lt (cell_key_cmp (cell_key.Back t from rel) (cell_key.Back u after late)) ≡ is_lt (link_cmp (from, rel) (after, late))
back_less t u from after rel late e = ap (λ o. is_lt (ordering_then o (link_cmp (from, rel) (after, late)))) (ap (key_cmp t) (sym e) ∙ tied_itself key_cmp_total t)

backs_up : (to : Key) (after : Option (Key × ℕ)) (t from u next : Key) (rel late : ℕ) → in_span (span.Backs to after) (cell_key.Back t from rel) ≡ true → (same : Bool) → same_key to u ≡ same
    → (same_key to u && is_lt (link_cmp (from, rel) (next, late))) ≡ ((same_key to u && is_behind after (next, late)) && is_lt (cell_key_cmp (cell_key.Back t from rel) (cell_key.Back u next late)))
backs_up to after t from u next rel late h true s =
    let parts = and_true _ _ h in
    let ends : t ≡ u = sym (same_key_is to t parts.0) ∙ same_key_is to u s in
    last_follows (same_key to u) (is_lt (link_cmp (from, rel) (next, late))) (is_behind after (next, late)) (λ less. behind_more after (from, rel) (next, late) parts.1 (is_less _ less))
    ∙ ap (λ b. (same_key to u && is_behind after (next, late)) && b) (sym (back_less t u from next rel late ends))
backs_up to after t from u next rel late h false s =
    ap (λ b. b && is_lt (link_cmp (from, rel) (next, late))) s
    ∙ sym (ap (λ b. (b && is_behind after (next, late)) && is_lt (cell_key_cmp (cell_key.Back t from rel) (cell_key.Back u next late))) s)

-- behind a key of a span, a search still has the keys of the span that it meets behind that one
pub narrowed_is : (from_top : Bool) (s : Span) (k j : CellKey) → CanNarrow from_top s → IsTrue (in_span s k) → in_span (narrowed from_top s k) j ≡ (in_span s j && is_met from_top k j)
narrowed_is false (span.Rows kind low high) (cell_key.Row k) (cell_key.Row j) can h = rows_up kind low high k j h (j.kind == kind) refl
narrowed_is false (span.Rows kind low high) (cell_key.Row k) (cell_key.Back t from rel) can h = refl
narrowed_is false (span.Rows kind low high) (cell_key.Row k) (cell_key.Counter n) can h = refl
narrowed_is false (span.Rows kind low high) (cell_key.Back t from rel) j can h = cc h
narrowed_is false (span.Rows kind low high) (cell_key.Counter n) j can h = cc h
narrowed_is true (span.Rows kind low high) (cell_key.Row k) (cell_key.Row j) can h = rows_down kind low high k j h (j.kind == kind) refl
narrowed_is true (span.Rows kind low high) (cell_key.Row k) (cell_key.Back t from rel) can h = refl
narrowed_is true (span.Rows kind low high) (cell_key.Row k) (cell_key.Counter n) can h = refl
narrowed_is true (span.Rows kind low high) (cell_key.Back t from rel) j can h = cc h
narrowed_is true (span.Rows kind low high) (cell_key.Counter n) j can h = cc h
narrowed_is false (span.Backs to after) (cell_key.Row k) j can h = cc h
narrowed_is false (span.Backs to after) (cell_key.Counter n) j can h = cc h
narrowed_is false (span.Backs to after) (cell_key.Back t from rel) (cell_key.Row j) can h = refl
narrowed_is false (span.Backs to after) (cell_key.Back t from rel) (cell_key.Counter n) can h = refl
narrowed_is false (span.Backs to after) (cell_key.Back t from rel) (cell_key.Back u next late) can h = backs_up to after t from u next rel late h (same_key to u) refl
narrowed_is true (span.Backs to after) k j can h = absurd can

-- what is left is narrowed again
pub narrowed_can : (from_top : Bool) (s : Span) (k : CellKey) → CanNarrow from_top s → CanNarrow from_top (narrowed from_top s k)
narrowed_can false s k can = tt
narrowed_can true (span.Rows kind low high) (cell_key.Row k) can = tt
narrowed_can true (span.Rows kind low high) (cell_key.Back t from rel) can = tt
narrowed_can true (span.Rows kind low high) (cell_key.Counter n) can = tt
narrowed_can true (span.Backs to after) k can = absurd can
