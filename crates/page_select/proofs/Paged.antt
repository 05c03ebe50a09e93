-- A page of rows that stand in order, and of a type's rows in the order of their ids.
use Rattle.std.proofs.Common.{◌≡◌, ℕ, ◌+◌, ◌<◌, ◌-◌, List, [], ◌∷◌, ◌++◌, Bool, true, false, cond, refl, sym, ap, subst, ◌∙◌, length, map, take, drop, Some, None, Option, T, arith, inl, inr, length-append}
use Rattle.std.specs.Prelude.{⊤, Result, Ok, Err, IfOk, ◌&&◌, ◌||◌, ◌==◌, nat_lt, nat_le, is_some, is_none, option_map}
use Rattle.std.specs.Option.{option_map_or}
use Rattle.std.specs.List.{filter, list_any, take-map, drop-map, last_or}
use Rattle.std.proofs.lemmas.List.{length-map, append-nil, take_all, take_at, drop_at}
use Rattle.std.proofs.lemmas.Bool.Decides.{nat_tests}
use Rattle.std.specs.declared.cmp.Ordering.{Ordering}
use Rattle.std.specs.declared.cmp.Ordering.TheVariants.{Less, Equal, Greater}
use Rattle.std.specs.Ordering.{is_lt, ordering_then, nat_cmp}
use Rattle.std.specs.FinMap.Entries.{put, where_key, by_order, is_sorted, is_sorted-where_key}
use Rattle.ident_rules.specs.declared.key.Key.{Key}
use Rattle.ident_rules.specs.IdOrder.{id_cmp}
use Rattle.ident_rules.specs.Key.{key_cmp}
use Rattle.resource_schema.specs.declared.schema.Schema.{Schema}
use Rattle.resource_schema.specs.declared.values.Place.{Place}
use Rattle.world_cells.specs.declared.keys.CellKey.TheVariants as cell_key
use Rattle.world_cells.specs.declared.rows.Row.{Row}
use Rattle.world_cells.specs.declared.spans.Edge.TheVariants as edge
use Rattle.world_cells.specs.declared.spans.Span.TheVariants as span
use Rattle.world_cells.specs.Reads.{in_span, is_above, is_below}
use Rattle.world_cells.specs.World.{World}
use Rattle.task_forms.specs.declared.queries.Page.{Page}
use Rattle.task_forms.specs.declared.queries.SortKey.{SortKey}
use Rattle.store_model.specs.Valid.{IsValid}
use Rattle.store_model.specs.declared.pages.Selected.{Selected}
use Rattle.store_model.specs.Pages.{place_cmp, place_of, by_place, slice_of, cut_to, asked_for, is_behind_cursor, is_ahead_of_cursor, ends_at_cursor, is_range, first_item, last_item, last_items, any_before, any_after, page_of, rows_of}
use Rattle.view_reads.specs.SpanLaws.{is_less, tied}
use Rattle.page_select.specs.Ranges.{range}
use Rattle.page_select.specs.Edges.{at_place, low_edge, high_edge}
use Rattle.page_select.specs.Scans.{IsEnough, IsScannedUp, IsScannedDown}
use Rattle.page_select.specs.Flanks.{row_before, row_after, IsFlanked, is_cut_short}
use Rattle.page_select.specs.Orders.{AreInOrder}
use Rattle.page_select.proofs.Tests.{by_bool, both_T, true_T, kind_of}
use Rattle.page_select.proofs.Firsts.{same_where}
use Rattle.page_select.proofs.Own.{OwnKeys, own_where, own_of}

-- ---- rows in order

abbrev pub asked : List SortKey → Page → Row → Bool
asked sort page row = is_behind_cursor sort page.after (place_of sort row) && is_ahead_of_cursor sort page.before (place_of sort row)

-- whether some of the rows stand before one, and behind it
abbrev pub any_below : List SortKey → List Row → Row → Bool
any_below sort rows x = list_any (λ r. is_lt (place_cmp sort (place_of sort r) (place_of sort x))) rows

abbrev pub any_above : List SortKey → List Row → Row → Bool
any_above sort rows x = list_any (λ r. is_lt (place_cmp sort (place_of sort x) (place_of sort r))) rows

module _ (sort : List SortKey) where
  abbrev entry : Row → Place × Row
  entry row = (place_of sort row, row)

  by_place_is : (rows : List Row) → AreInOrder sort rows → by_place sort rows ≡ map entry rows
  by_place_is [] h = refl
  by_place_is (r ∷ []) h = refl
  by_place_is (r ∷ s ∷ rows) h =
      ap (put (place_cmp sort) (place_of sort r) r) (by_place_is (s ∷ rows) h.1)
      ∙ ap (λ o. by_order o (entry r ∷ entry s ∷ map entry rows) ((place_of sort s, r) ∷ map entry rows) (entry s ∷ put (place_cmp sort) (place_of sort r) r (map entry rows))) h.0

  filter_entries : (q : Place → Bool) (rows : List Row) → where_key (place_cmp sort) q (map entry rows) ≡ map entry (filter (λ r. q (place_of sort r)) rows)
  filter_entries q [] = refl
  filter_entries q (r ∷ rows) =
      ap (λ es. cond (q (place_of sort r)) (entry r ∷ es) es) (filter_entries q rows)
      ∙ either (q (place_of sort r)) (filter (λ r. q (place_of sort r)) rows)
    where
      either : (b : Bool) (xs : List Row) → cond b (entry r ∷ map entry xs) (map entry xs) ≡ map entry (cond b (r ∷ xs) xs)
      either true xs = refl
      either false xs = refl

  any_is : (q : Place → Bool) (rows : List Row) → list_any (λ (e : Place × Row). q e.0) (map entry rows) ≡ list_any (λ r. q (place_of sort r)) rows
  any_is q [] = refl
  any_is q (r ∷ rows) = ap (λ b. q (place_of sort r) || b) (any_is q rows)

  rows_back : (rows : List Row) → map (λ (e : Place × Row). e.1) (map entry rows) ≡ rows
  rows_back [] = refl
  rows_back (r ∷ rows) = ap (λ xs. r ∷ xs) (rows_back rows)

  cut_entries : (b : Bool) (n : ℕ) (xs : List Row) → cut_to b n (map entry xs) ≡ map entry (cut_to b n xs)
  cut_entries true n xs = ap (λ m. drop (m - n) (map entry xs)) (length-map xs entry) ∙ drop-map entry (length xs - n) xs
  cut_entries false n xs = take-map entry n xs

  last_entry : (o : Option Row) (xs : List Row) → last_or (option_map entry o) (map entry xs) ≡ option_map entry (last_or o xs)
  last_entry o [] = refl
  last_entry o (x ∷ xs) = last_entry (Some x) xs

  before_is : (rows xs : List Row) → any_before sort (map entry xs) (map entry rows) ≡ option_map_or (any_below sort rows) (first_item xs) false
  before_is rows [] = refl
  before_is rows (x ∷ xs) = any_is (λ p. is_lt (place_cmp sort p (place_of sort x))) rows

  after_of : (o : Option Row) (rows : List Row)
      → option_map_or (λ (e : Place × Row). list_any (λ (other : Place × Row). is_lt (place_cmp sort e.0 other.0)) (map entry rows)) (option_map entry o) false ≡ option_map_or (any_above sort rows) o false
  after_of None rows = refl
  after_of (Some x) rows = any_is (λ p. is_lt (place_cmp sort (place_of sort x) p)) rows

  after_is : (rows xs : List Row) → any_after sort (map entry xs) (map entry rows) ≡ option_map_or (any_above sort rows) (last_item xs) false
  after_is rows xs =
      ap (λ o. option_map_or (λ (e : Place × Row). list_any (λ (other : Place × Row). is_lt (place_cmp sort e.0 other.0)) (map entry rows)) o false) (last_entry None xs)
      ∙ after_of (last_item xs) rows

  -- a page of rows in order, from those that are asked for
  pub page_in_order : (page : Page) (rows ys : List Row) → AreInOrder sort rows → filter (asked sort page) rows ≡ ys
      → page_of sort page rows ≡ record {
        rows = cut_to (ends_at_cursor page) page.size ys;
        before = option_map_or (any_below sort rows) (first_item (cut_to (ends_at_cursor page) page.size ys)) false;
        after = option_map_or (any_above sort rows) (last_item (cut_to (ends_at_cursor page) page.size ys)) false;
        truncated = is_range page && nat_lt page.size (length ys);
      }
  page_in_order page rows ys ordered chosen =
      let xs : List Row = cut_to (ends_at_cursor page) page.size ys in
      let all_is : by_place sort rows ≡ map entry rows = by_place_is rows ordered in
      let asked_is : asked_for sort page (by_place sort rows) ≡ map entry ys =
      ap (asked_for sort page) all_is ∙ filter_entries (λ p. is_behind_cursor sort page.after p && is_ahead_of_cursor sort page.before p) rows ∙ ap (map entry) chosen in
      let items_is : slice_of sort page (by_place sort rows) ≡ map entry xs = ap (cut_to (ends_at_cursor page) page.size) asked_is ∙ cut_entries (ends_at_cursor page) page.size ys in
      λ i. record {
        rows = (ap (map (λ (e : Place × Row). e.1)) items_is ∙ rows_back xs) i;
        before = (ap (λ es. any_before sort es (by_place sort rows)) items_is ∙ ap (any_before sort (map entry xs)) all_is ∙ before_is rows xs) i;
        after = (ap (λ es. any_after sort es (by_place sort rows)) items_is ∙ ap (any_after sort (map entry xs)) all_is ∙ after_is rows xs) i;
        truncated = (ap (λ es. is_range page && nat_lt page.size (length es)) asked_is ∙ ap (λ n. is_range page && nat_lt page.size n) (length-map ys entry)) i;
      }

-- ---- the rows of a type

filter_range : (p q : Key → Bool) (es : List (Key × Row)) → OwnKeys es → filter (λ (r : Row). q r.key) (map (λ (e : Key × Row). e.1) (where_key key_cmp p es)) ≡ map (λ (e : Key × Row). e.1) (where_key key_cmp (λ k. p k && q k) es)
filter_range p q [] own = refl
filter_range p q (e ∷ es) own = either (p e.0) (q e.0) (ap q own.0) (where_key key_cmp p es) (where_key key_cmp (λ k. p k && q k) es) (filter_range p q es own.1)
  where
    push : (b : Bool) (ys : List (Key × Row)) → cond b (e.1 ∷ map (λ (e : Key × Row). e.1) ys) (map (λ (e : Key × Row). e.1) ys) ≡ map (λ (e : Key × Row). e.1) (cond b (e ∷ ys) ys)
    push true ys = refl
    push false ys = refl

    either : (a b : Bool) → q e.1.key ≡ b → (xs ys : List (Key × Row)) → filter (λ (r : Row). q r.key) (map (λ (e : Key × Row). e.1) xs) ≡ map (λ (e : Key × Row). e.1) ys
        → filter (λ (r : Row). q r.key) (map (λ (e : Key × Row). e.1) (cond a (e ∷ xs) xs)) ≡ map (λ (e : Key × Row). e.1) (cond (a && b) (e ∷ ys) ys)
    either false b is xs ys rest = rest
    either true b is xs ys rest = ap (λ (zs : List Row). cond (q e.1.key) (e.1 ∷ zs) zs) rest ∙ ap (λ b. cond b (e.1 ∷ map (λ (e : Key × Row). e.1) ys) (map (λ (e : Key × Row). e.1) ys)) is ∙ push b ys

and_true : (b : Bool) → (b && true) ≡ b
and_true true = refl
and_true false = refl

regroup : (c a b x y : Bool) → a ≡ x → b ≡ y → (c && (a && b)) ≡ ((c && x) && y)
regroup false a b x y e f = refl
regroup true a b x y e f = cc (e, f)

abbrev place : Key → Place
place k = record { values = []; id = k.id }

behind_is : (cursor : Option Place) (k : Key) → is_behind_cursor [] cursor (place k) ≡ is_above (at_place cursor) k.id
behind_is None k = refl
behind_is (Some c) k = refl

ahead_is : (cursor : Option Place) (k : Key) → is_ahead_of_cursor [] cursor (place k) ≡ is_below (at_place cursor) k.id
ahead_is None k = refl
ahead_is (Some c) k = refl

module _ (w : World) (kind : ℕ) (own : OwnKeys w.rows) where
  rows_asked : (page : Page) → filter (asked [] page) (rows_of w kind) ≡ range w (span.Rows kind (low_edge page) (high_edge page))
  rows_asked page =
      filter_range (λ k. k.kind == kind) (λ k. is_behind_cursor [] page.after (place k) && is_ahead_of_cursor [] page.before (place k)) w.rows own
      ∙ ap (map (λ (e : Key × Row). e.1))
      (same_where (λ k. k.kind == kind && (is_behind_cursor [] page.after (place k) && is_ahead_of_cursor [] page.before (place k)))
      (λ k. in_span (span.Rows kind (low_edge page) (high_edge page)) (cell_key.Row k)) w.rows
      (λ k. regroup (k.kind == kind) (is_behind_cursor [] page.after (place k)) (is_ahead_of_cursor [] page.before (place k)) (is_above (low_edge page) k.id) (is_below (high_edge page) k.id) (behind_is page.after k) (ahead_is page.before k)))

  pub rows_above : (c : List ℕ) → filter (λ r. is_lt (id_cmp c r.key.id)) (rows_of w kind) ≡ range w (span.Rows kind (edge.Open c) edge.End)
  rows_above c =
      filter_range (λ k. k.kind == kind) (λ k. is_lt (id_cmp c k.id)) w.rows own
      ∙ ap (map (λ (e : Key × Row). e.1)) (same_where (λ k. k.kind == kind && is_lt (id_cmp c k.id)) (λ k. in_span (span.Rows kind (edge.Open c) edge.End) (cell_key.Row k)) w.rows (λ k. sym (and_true ((k.kind == kind) && is_lt (id_cmp c k.id)))))

  pub rows_below : (c : List ℕ) → filter (λ r. is_lt (id_cmp r.key.id c)) (rows_of w kind) ≡ range w (span.Rows kind edge.End (edge.Open c))
  rows_below c =
      filter_range (λ k. k.kind == kind) (λ k. is_lt (id_cmp k.id c)) w.rows own
      ∙ ap (map (λ (e : Key × Row). e.1)) (same_where (λ k. k.kind == kind && is_lt (id_cmp k.id c)) (λ k. in_span (span.Rows kind edge.End (edge.Open c)) (cell_key.Row k)) w.rows (λ k. ap (λ b. b && is_lt (id_cmp k.id c)) (sym (and_true (k.kind == kind)))))

  -- all of them
  pub rows_all : rows_of w kind ≡ range w (span.Rows kind edge.End edge.End)
  rows_all = ap (map (λ (e : Key × Row). e.1)) (same_where (λ k. k.kind == kind) (λ k. in_span (span.Rows kind edge.End edge.End) (cell_key.Row k)) w.rows (λ k. sym (and_true ((k.kind == kind) && true) ∙ and_true (k.kind == kind))))

-- ---- ids rise

abbrev AllOf : ℕ → List (Key × Row) → Type 0
AllOf kind [] = ⊤
AllOf kind (e ∷ es) = (e.0.kind ≡ kind) × AllOf kind es

all_of : (kind : ℕ) (es : List (Key × Row)) → AllOf kind (where_key key_cmp (λ k. k.kind == kind) es)
all_of kind [] = tt
all_of kind (e ∷ es) = by_bool (e.0.kind == kind)
    (λ here. subst (λ (b : Bool). AllOf kind (cond b (e ∷ where_key key_cmp (λ k. k.kind == kind) es) (where_key key_cmp (λ k. k.kind == kind) es))) (sym here) (kind_of e.0.kind kind here, all_of kind es))
    (λ out. subst (λ (b : Bool). AllOf kind (cond b (e ∷ where_key key_cmp (λ k. k.kind == kind) es) (where_key key_cmp (λ k. k.kind == kind) es))) (sym out) (all_of kind es))

then_less : (o : Ordering) (p : Ordering) → o ≡ Equal → ordering_then o p ≡ Less → p ≡ Less
then_less Less p e f = cc e
then_less Equal p e f = f
then_less Greater p e f = cc e

ids_rise : (kind : ℕ) (es : List (Key × Row)) → T (is_sorted key_cmp es) → AllOf kind es → OwnKeys es → AreInOrder [] (map (λ (e : Key × Row). e.1) es)
ids_rise kind [] sorted all own = tt
ids_rise kind (e ∷ []) sorted all own = tt
ids_rise kind (e ∷ f ∷ es) sorted all own =
    let parts = both_T _ _ sorted in
    let less : key_cmp e.0 f.0 ≡ Less = is_less _ (true_T _ (both_T _ _ parts.0).0) in
    let kinds : nat_cmp e.0.kind f.0.kind ≡ Equal = tied e.0.kind f.0.kind (all.0 ∙ sym all.1.0) in
    let ids : id_cmp e.0.id f.0.id ≡ Less = then_less (nat_cmp e.0.kind f.0.kind) (id_cmp e.0.id f.0.id) kinds less in
    (ap (λ (k : Key). id_cmp k.id f.1.key.id) own.0 ∙ ap (λ (k : Key). id_cmp e.0.id k.id) own.1.0 ∙ ids, ids_rise kind (f ∷ es) parts.1 all.1 own.1)

pub rows_in_order : (schema : Schema) (w : World) (kind : ℕ) → IsValid schema w → AreInOrder [] (rows_of w kind)
rows_in_order schema w kind valid =
    ids_rise kind (where_key key_cmp (λ k. k.kind == kind) w.rows) (is_sorted-where_key key_cmp (λ k. k.kind == kind) w.rows valid.rows_sorted) (all_of kind w.rows) (own_where (λ k. k.kind == kind) w.rows (own_of schema w valid))

-- ---- one page

any_some : (q : Row → Bool) (rows : List Row) → list_any q rows ≡ is_some (first_item (filter q rows))
any_some q [] = refl
any_some q (r ∷ rows) = ap (λ b. q r || b) (any_some q rows) ∙ either (q r) (filter q rows)
  where
    either : (b : Bool) (xs : List Row) → (b || is_some (first_item xs)) ≡ is_some (first_item (cond b (r ∷ xs) xs))
    either true xs = refl
    either false xs = refl

below_of : (w : World) (kind : ℕ) → OwnKeys w.rows → (o : Option Row)
    → option_map_or (any_below [] (rows_of w kind)) o false ≡ option_map_or (λ (row : Row). is_some (first_item (range w (span.Rows kind edge.End (edge.Open row.key.id))))) o false
below_of w kind own None = refl
below_of w kind own (Some x) = any_some (λ r. is_lt (id_cmp r.key.id x.key.id)) (rows_of w kind) ∙ ap (λ (ys : List Row). is_some (first_item ys)) (rows_below w kind own x.key.id)

above_of : (w : World) (kind : ℕ) → OwnKeys w.rows → (o : Option Row)
    → option_map_or (any_above [] (rows_of w kind)) o false ≡ option_map_or (λ (row : Row). is_some (first_item (range w (span.Rows kind (edge.Open row.key.id) edge.End)))) o false
above_of w kind own None = refl
above_of w kind own (Some x) = any_some (λ r. is_lt (id_cmp x.key.id r.key.id)) (rows_of w kind) ∙ ap (λ (ys : List Row). is_some (first_item ys)) (rows_above w kind own x.key.id)

-- what a page asks for
abbrev pub asked_range : World → ℕ → Page → List Row
asked_range w kind page = range w (span.Rows kind (low_edge page) (high_edge page))

-- A page in the order of ids is a range of the type's rows, and whether there are rows before it and behind it.
pub page_is : (schema : Schema) (w : World) (kind : ℕ) (page : Page) (xs : List Row) → IsValid schema w → cut_to (ends_at_cursor page) page.size (asked_range w kind page) ≡ xs
    → page_of [] page (rows_of w kind) ≡ record { rows = xs; before = row_before w kind xs; after = row_after w kind xs; truncated = is_range page && nat_lt page.size (length (asked_range w kind page)) }
page_is schema w kind page xs valid cut =
    let own : OwnKeys w.rows = own_of schema w valid in
    page_in_order [] page (rows_of w kind) (asked_range w kind page) (rows_in_order schema w kind valid) (rows_asked w kind own page)
    ∙ (λ i. record {
      rows = cut i;
      before = (below_of w kind own (first_item (cut_to (ends_at_cursor page) page.size (asked_range w kind page))) ∙ ap (row_before w kind) cut) i;
      after = (above_of w kind own (last_item (cut_to (ends_at_cursor page) page.size (asked_range w kind page))) ∙ ap (row_after w kind) cut) i;
      truncated = is_range page && nat_lt page.size (length (asked_range w kind page));
    })

-- ---- as it is scanned

up_is : (size : ℕ) (whole rows rest : List Row) → whole ≡ rows ++ rest → IsEnough size rows rest → take size whole ≡ rows
up_is size whole rows rest is (inl full) = ap (take size) is ∙ take_at rows rest size full
up_is size whole rows rest is (inr none) = ap (take size) (is ∙ ap (λ xs. rows ++ xs) none.1 ∙ append-nil rows) ∙ take_all size rows (omega (arith, none.0))

down_is : (size : ℕ) (whole rows rest : List Row) → whole ≡ rest ++ rows → IsEnough size rows rest → last_items size whole ≡ rows
down_is size whole rows rest is (inl full) = ap (last_items size) is ∙ drop_at rest rows (length (rest ++ rows) - size) (omega (arith, length-append rest rows, full))
down_is size whole rows rest is (inr none) =
    let all : whole ≡ rows = is ∙ ap (λ xs. xs ++ rows) none.1 in
    let zero_off : length rows - size ≡ 0 = omega (arith, none.0) in
    ap (last_items size) all ∙ ap (λ n. drop n rows) zero_off

pub cut_up : (w : World) (kind : ℕ) (page : Page) (rows : List Row) → ends_at_cursor page ≡ false → IsScannedUp w kind (low_edge page) (high_edge page) page.size rows → cut_to (ends_at_cursor page) page.size (asked_range w kind page) ≡ rows
cut_up w kind page rows from_start scan = ap (λ b. cut_to b page.size (asked_range w kind page)) from_start ∙ up_is page.size (asked_range w kind page) rows _ scan.split scan.enough

pub cut_down : (w : World) (kind : ℕ) (page : Page) (rows : List Row) → ends_at_cursor page ≡ true → IsScannedDown w kind (low_edge page) (high_edge page) page.size rows → cut_to (ends_at_cursor page) page.size (asked_range w kind page) ≡ rows
cut_down w kind page rows from_end scan = ap (λ b. cut_to b page.size (asked_range w kind page)) from_end ∙ down_is page.size (asked_range w kind page) rows _ scan.split scan.enough

more_than : (size : ℕ) (rows rest : List Row) → IsEnough size rows rest → (nat_le size (length rows) && is_some (first_item rest)) ≡ nat_lt size (length (rows ++ rest))
more_than size rows [] (inl full) = ap (λ n. nat_le size n && false) full ∙ no_more (nat_le size size) ∙ sym (ap (λ (xs : List Row). nat_lt size (length xs)) (append-nil rows) ∙ ap (nat_lt size) full ∙ itself)
  where
    no_more : (b : Bool) → (b && false) ≡ false
    no_more true = refl
    no_more false = refl

    itself : nat_lt size size ≡ false
    itself = grind (arith, nat_tests)
more_than size rows (y ∷ ys) (inl full) =
    ap (λ b. b && true) full_enough ∙ sym longer
  where
    full_enough : nat_le size (length rows) ≡ true
    full_enough = grind (arith, nat_tests, full)

    longer : nat_lt size (length (rows ++ y ∷ ys)) ≡ true
    longer = let len : length (rows ++ y ∷ ys) ≡ length rows + length (y ∷ ys) = length-append rows (y ∷ ys) in let more : size < length (rows ++ y ∷ ys) = omega (arith, len, full) in grind (arith, nat_tests, more)
more_than size rows rest (inr none) =
    ap (λ b. b && is_some (first_item rest)) too_few ∙ sym (ap (λ (xs : List Row). nat_lt size (length (rows ++ xs))) none.1 ∙ ap (λ (xs : List Row). nat_lt size (length xs)) (append-nil rows) ∙ shorter)
  where
    too_few : nat_le size (length rows) ≡ false
    too_few = let few = none.0 in grind (arith, nat_tests, few)

    shorter : nat_lt size (length rows) ≡ false
    shorter = let few = none.0 in grind (arith, nat_tests, few)

-- what is scanned from the low edge on, and what stands beside it, is the page
pub shown_up : (schema : Schema) (w : World) (kind : ℕ) (page : Page) (rows : List Row) (truncated : Bool) (s : Selected) → IsValid schema w → ends_at_cursor page ≡ false
    → IsScannedUp w kind (low_edge page) (high_edge page) page.size rows → truncated ≡ is_cut_short w kind page rows (low_edge page) (high_edge page) → IsFlanked w kind rows truncated s → s ≡ page_of [] page (rows_of w kind)
shown_up schema w kind page rows truncated s valid from_start scan cut flanked =
    let whole = page_is schema w kind page rows valid (cut_up w kind page rows from_start scan) in
    let more : truncated ≡ (is_range page && nat_lt page.size (length (asked_range w kind page))) =
    cut ∙ ap (λ b. is_range page && b) (more_than page.size rows _ scan.enough ∙ sym (ap (λ (xs : List Row). nat_lt page.size (length xs)) scan.split)) in
    (λ i. record { rows = flanked.same i; before = flanked.before i; after = flanked.after i; truncated = (flanked.truncated ∙ more) i }) ∙ sym whole

no_range : (after before : Option Place) → (is_none after && is_some before) ≡ true → (is_some after && is_some before) ≡ false
no_range None before e = refl
no_range (Some c) before e = cc e

pub shown_down : (schema : Schema) (w : World) (kind : ℕ) (page : Page) (rows : List Row) (s : Selected) → IsValid schema w → ends_at_cursor page ≡ true
    → IsScannedDown w kind (low_edge page) (high_edge page) page.size rows → IsFlanked w kind rows false s → s ≡ page_of [] page (rows_of w kind)
shown_down schema w kind page rows s valid from_end scan flanked =
    let whole = page_is schema w kind page rows valid (cut_down w kind page rows from_end scan) in
    let more : false ≡ (is_range page && nat_lt page.size (length (asked_range w kind page))) =
    sym (ap (λ b. b && nat_lt page.size (length (asked_range w kind page))) (no_range page.after page.before from_end)) in
    (λ i. record { rows = flanked.same i; before = flanked.before i; after = flanked.after i; truncated = (flanked.truncated ∙ more) i }) ∙ sym whole

pub map_ok : {A E : Type 0} (P Q : A → Type 0) (r : Result A E) → ((x : A) → P x → Q x) → IfOk r P → IfOk r Q
map_ok P Q (Ok x) f h = f x h
map_ok P Q (Err e) f h = tt
