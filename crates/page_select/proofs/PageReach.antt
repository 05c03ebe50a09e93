-- What a page in the order of ids reads lies from the row before it to the row behind it.
use Rattle.std.proofs.Common.{◌≡◌, ℕ, List, [], ◌∷◌, ◌++◌, Bool, true, false, refl, sym, ap, ◌∙◌, length, Some, None, Option, arith, inl, inr}
use Rattle.std.specs.Prelude.{◌&&◌, ◌||◌, not, nat_lt}
use Rattle.std.specs.Option.{option_map_or}
use Rattle.std.specs.List.{last_or}
use Rattle.std.proofs.lemmas.List.{append-nil}
use Rattle.std.proofs.lemmas.Bool.Decides.{nat_tests}
use Rattle.std.specs.declared.cmp.Ordering.{Ordering}
use Rattle.std.specs.declared.cmp.Ordering.TheVariants.{Less, Equal, Greater}
use Rattle.std.specs.Ordering.{is_lt, ordering_then, nat_cmp}
use Rattle.ident_rules.specs.declared.key.Key.{Key}
use Rattle.ident_rules.specs.IdOrder.{id_cmp, id_cmp_total}
use Rattle.ident_rules.specs.Key.{key_cmp}
use Rattle.resource_schema.specs.declared.schema.Schema.{Schema}
use Rattle.resource_schema.specs.declared.values.Place.{Place}
use Rattle.world_cells.specs.declared.keys.CellKey.{CellKey}
use Rattle.world_cells.specs.declared.keys.CellKey.TheVariants as cell_key
use Rattle.world_cells.specs.declared.rows.Row.{Row}
use Rattle.world_cells.specs.declared.spans.Edge.{Edge}
use Rattle.world_cells.specs.declared.spans.Edge.TheVariants as edge
use Rattle.world_cells.specs.declared.spans.Span.TheVariants as span
use Rattle.world_cells.specs.CellOrder.{cell_key_cmp}
use Rattle.world_cells.specs.Lists.{IsIn}
use Rattle.world_cells.specs.Reads.{in_span, is_above, is_below}
use Rattle.world_cells.specs.World.{World, row_at}
use Rattle.task_forms.specs.declared.queries.Page.{Page}
use Rattle.store_model.specs.Valid.{IsValid}
use Rattle.store_model.specs.declared.pages.Selected.{Selected}
use Rattle.store_model.specs.Pages.{first_item, last_item, page_of, rows_of, ends_at_cursor}
use Rattle.store_model.specs.Reach.{id_after, not_below, not_above, in_page_range, reach_sorted, is_row_of}
use Rattle.view_reads.specs.SpanLaws.{is_less, and_true, above_more, below_more, tied}
use Rattle.page_select.specs.Ranges.{range}
use Rattle.page_select.specs.Edges.{at_place, low_edge, high_edge}
use Rattle.page_select.specs.Looks.{up_to, down_to, first_part, last_part}
use Rattle.page_select.specs.Scans.{IsScannedUp, IsScannedDown, IsEnough, edge_past, edge_before, read_up, read_down}
use Rattle.page_select.specs.Flanks.{flank_part}
use Rattle.page_select.proofs.Tests.{by_either, both_true, not_true, unless, kind_of, kind_back}
use Rattle.page_select.proofs.Firsts.{by_keys, same_is, lt_row}
use Rattle.page_select.proofs.Own.{OwnKeys, own_of}
use Rattle.page_select.proofs.RangeRows.{first_in, last_in, some_last, in_left, in_right, in_range, to_range, first_least, last_greatest}
use Rattle.page_select.proofs.Paged.{page_is, cut_up, cut_down, rows_above, rows_below}

-- ---- keys of one type

abbrev pub idlt : List ℕ → List ℕ → Bool
idlt x y = is_lt (id_cmp x y)

idlt_trans : (x y z : List ℕ) → idlt x y ≡ true → idlt y z ≡ true → idlt x z ≡ true
idlt_trans x y z e f = ap is_lt (id_cmp_total.trans x y z (is_less _ e) (is_less _ f))

then_lt : (o p : Ordering) → o ≡ Equal → is_lt (ordering_then o p) ≡ is_lt p
then_lt Less p e = cc e
then_lt Equal p e = refl
then_lt Greater p e = cc e

key_lt : (j k : Key) → j.kind ≡ k.kind → is_lt (key_cmp j k) ≡ idlt j.id k.id
key_lt j k same = then_lt (nat_cmp j.kind k.kind) (id_cmp j.id k.id) (tied j.kind k.kind same)

cell_lt : (j k : Key) → j.kind ≡ k.kind → is_lt (cell_key_cmp (cell_key.Row j) (cell_key.Row k)) ≡ idlt j.id k.id
cell_lt j k same = lt_row (key_cmp j k) ∙ key_lt j k same

-- what stands before a key that is not above another stands before that one
lt_le : (j r l : Key) → j.kind ≡ r.kind → l.kind ≡ r.kind → idlt j.id r.id ≡ true → is_lt (key_cmp l r) ≡ false → idlt j.id l.id ≡ true
lt_le j r l kinds same less not_less = by_keys l r
    (λ e. cc (e, not_less))
    (λ e. ap (λ (k : Key). idlt j.id k.id) (same_is l r e) ∙ less)
    (λ e. idlt_trans j.id r.id l.id less (sym (key_lt r l (sym same)) ∙ e))

le_lt : (f r j : Key) → f.kind ≡ r.kind → idlt r.id j.id ≡ true → is_lt (key_cmp r f) ≡ false → idlt f.id j.id ≡ true
le_lt f r j same less not_less = by_keys f r
    (λ e. idlt_trans f.id r.id j.id (sym (key_lt f r same) ∙ e) less)
    (λ e. ap (λ (k : Key). idlt k.id j.id) (same_is f r e) ∙ less)
    (λ e. cc (e, not_less))

-- the parts of being in a span
pub record InRows (kind : ℕ) (low high : Edge) (j : Key) : Type 0 where
  pub of_kind : j.kind ≡ kind
  pub above : is_above low j.id ≡ true
  pub below : is_below high j.id ≡ true

pub in_rows : (kind : ℕ) (low high : Edge) (j : Key) → in_span (span.Rows kind low high) (cell_key.Row j) ≡ true → InRows kind low high j
in_rows kind low high j e =
    let outer = and_true _ _ e in
    let inner = and_true _ _ outer.0 in
    record { of_kind = kind_of j.kind kind inner.0; above = inner.1; below = outer.1 }

to_rows : (kind : ℕ) (low high : Edge) (j : Key) → InRows kind low high j → in_span (span.Rows kind low high) (cell_key.Row j) ≡ true
to_rows kind low high j h = both_true _ _ (both_true _ _ (kind_back j.kind kind h.of_kind) h.above) h.below

-- ---- the first and the last of some rows

first_left : (xs ys : List Row) (x : Row) → first_item xs ≡ Some x → first_item (xs ++ ys) ≡ Some x
first_left [] ys x e = cc e
first_left (z ∷ xs) ys x e = e

last_any : (o : Option Row) (ys : List Row) (x : Row) → last_item ys ≡ Some x → last_or o ys ≡ Some x
last_any o [] x e = cc e
last_any o (y ∷ ys) x e = e

last_right : (o : Option Row) (xs ys : List Row) (x : Row) → last_item ys ≡ Some x → last_or o (xs ++ ys) ≡ Some x
last_right o [] ys x e = last_any o ys x e
last_right o (z ∷ xs) ys x e = last_right (Some z) xs ys x e

some_first : (xs : List Row) (x : Row) → IsIn xs x → (f : Row) × (first_item xs ≡ Some f)
some_first [] x h = absurd h
some_first (y ∷ xs) x h = (y, refl)

-- ---- a page that is not empty

-- The key stands before no row before the first of the page, and behind no row behind the last.
pub record IsNear (w : World) (kind : ℕ) (first last : Row) (j : Key) : Type 0 where
  pub of_kind : j.kind ≡ kind
  pub low : (r : Row) → row_at w r.key ≡ Some r → r.key.kind ≡ kind → idlt r.key.id first.key.id ≡ true → idlt j.id r.key.id ≡ false
  pub high : (r : Row) → row_at w r.key ≡ Some r → r.key.kind ≡ kind → idlt last.key.id r.key.id ≡ true → idlt r.key.id j.id ≡ false

not_enough : (size : ℕ) (rows left : List Row) → IsEnough size rows left → nat_lt (length rows) size ≡ true → left ≡ []
not_enough size rows left (inl full) few = absurd (never full few)
  where
    never : length rows ≡ size → nat_lt (length rows) size ≡ true → ⊥
    never e f = grind (arith, nat_tests, e, f)
not_enough size rows left (inr none) few = none.1

module _ (schema : Schema) (w : World) (valid : IsValid schema w) (kind : ℕ) where
  among : (low high : Edge) (r : Row) → InRows kind low high r.key → row_at w r.key ≡ Some r → IsIn (range w (span.Rows kind low high)) r
  among low high r rows found = to_range schema w valid (span.Rows kind low high) r.key r (to_rows kind low high r.key rows) found

  inside : (low high : Edge) (r : Row) → IsIn (range w (span.Rows kind low high)) r → InRows kind low high r.key
  inside low high r h = in_rows kind low high r.key (in_range schema w valid (span.Rows kind low high) r h).0

  least : (low high : Edge) (first r : Row) → first_item (range w (span.Rows kind low high)) ≡ Some first → IsIn (range w (span.Rows kind low high)) r → idlt r.key.id first.key.id ≡ false
  least low high first r at h =
      sym (key_lt r.key first.key ((inside low high r h).of_kind ∙ sym (inside low high first (first_in (range w (span.Rows kind low high)) first at)).of_kind))
      ∙ first_least schema w valid (span.Rows kind low high) first r at h

  greatest : (low high : Edge) (last r : Row) → last_item (range w (span.Rows kind low high)) ≡ Some last → IsIn (range w (span.Rows kind low high)) r → idlt last.key.id r.key.id ≡ false
  greatest low high last r at h =
      sym (key_lt last.key r.key ((inside low high last (last_in (range w (span.Rows kind low high)) last at)).of_kind ∙ sym (inside low high r h).of_kind))
      ∙ last_greatest schema w valid (span.Rows kind low high) last r at h

  module _ (low high : Edge) (size : ℕ) (rows : List Row) (first last : Row) (first_is : first_item rows ≡ Some first) (last_is : last_item rows ≡ Some last) where
    module _ (scan : IsScannedUp w kind low high size rows) where
      up_first : first_item (range w (span.Rows kind low high)) ≡ Some first
      up_first = ap first_item scan.split ∙ first_left rows (range w (span.Rows kind (edge_past low rows) high)) first first_is

      up_last : IsIn (range w (span.Rows kind low high)) last
      up_last = ap_in (sym scan.split) (in_left rows (range w (span.Rows kind (edge_past low rows) high)) last (last_in rows last last_is))
        where
          ap_in : {xs ys : List Row} → xs ≡ ys → IsIn xs last → IsIn ys last
          ap_in e h = rw (← e) h

      pub up_ordered : idlt last.key.id first.key.id ≡ false
      up_ordered = least low high first last up_first up_last

      pub up_near : (j : Key) → read_up kind low high size rows (cell_key.Row j) ≡ true → IsNear w kind first last j
      up_near j read =
          let parts = and_true _ _ read in
          let here = in_rows kind low high j parts.0 in
          record {
            of_kind = here.of_kind;
            low = λ r found of_kind less. unless (idlt j.id r.key.id) (λ behind.
                let rows_in : InRows kind low high r.key = record {
                  of_kind = of_kind;
                  above = above_more low j.id r.key.id here.above (is_less _ behind);
                  below = below_more high first.key.id r.key.id (inside low high first (first_in (range w (span.Rows kind low high)) first up_first)).below (is_less _ less);
                } in
                cc (less, least low high first r up_first (among low high r rows_in found)));
            high = λ r found of_kind more. unless (idlt r.key.id j.id) (λ behind.
                let rows_in : InRows kind low high r.key = record {
                  of_kind = of_kind;
                  above = above_more low last.key.id r.key.id (inside low high last up_last).above (is_less _ more);
                  below = below_more high j.id r.key.id here.below (is_less _ behind);
                } in
                by_either (nat_lt (length rows) size) _ parts.1
                (λ few.
                let all : range w (span.Rows kind low high) ≡ rows = scan.split ∙ ap (λ xs. rows ++ xs) (not_enough size rows _ scan.enough few) ∙ append-nil rows in
                cc (more, greatest low high last r (ap last_item all ∙ last_is) (among low high r rows_in found)))
                (λ out.
                let past : InRows kind (edge.Open last.key.id) high j = record { of_kind = here.of_kind; above = idlt_trans last.key.id r.key.id j.id more behind; below = here.below } in
                let edge_is : edge_past low rows ≡ edge.Open last.key.id = ap (λ o. option_map_or (λ (x : Row). edge.Open x.key.id) o low) last_is in
                cc (to_rows kind (edge.Open last.key.id) high j past, ap (λ (x : Edge). in_span (span.Rows kind x high) (cell_key.Row j)) edge_is, not_true _ out)));
          }

    module _ (scan : IsScannedDown w kind low high size rows) where
      down_last : last_item (range w (span.Rows kind low high)) ≡ Some last
      down_last = ap last_item scan.split ∙ last_right None (range w (span.Rows kind low (edge_before high rows))) rows last last_is

      down_first : IsIn (range w (span.Rows kind low high)) first
      down_first = ap_in (sym scan.split) (in_right (range w (span.Rows kind low (edge_before high rows))) rows first (first_in rows first first_is))
        where
          ap_in : {xs ys : List Row} → xs ≡ ys → IsIn xs first → IsIn ys first
          ap_in e h = rw (← e) h

      pub down_ordered : idlt last.key.id first.key.id ≡ false
      down_ordered = greatest low high last first down_last down_first

      pub down_near : (j : Key) → read_down kind low high size rows (cell_key.Row j) ≡ true → IsNear w kind first last j
      down_near j read =
          let parts = and_true _ _ read in
          let here = in_rows kind low high j parts.0 in
          record {
            of_kind = here.of_kind;
            low = λ r found of_kind less. unless (idlt j.id r.key.id) (λ behind.
                let rows_in : InRows kind low high r.key = record {
                  of_kind = of_kind;
                  above = above_more low j.id r.key.id here.above (is_less _ behind);
                  below = below_more high first.key.id r.key.id (inside low high first down_first).below (is_less _ less);
                } in
                by_either (nat_lt (length rows) size) _ parts.1
                (λ few.
                let all : range w (span.Rows kind low high) ≡ rows = scan.split ∙ ap (λ xs. xs ++ rows) (not_enough size rows _ scan.enough few) in
                cc (less, least low high first r (ap first_item all ∙ first_is) (among low high r rows_in found)))
                (λ out.
                let past : InRows kind low (edge.Open first.key.id) j = record { of_kind = here.of_kind; above = here.above; below = idlt_trans j.id r.key.id first.key.id behind less } in
                let edge_is : edge_before high rows ≡ edge.Open first.key.id = ap (λ o. option_map_or (λ (x : Row). edge.Open x.key.id) o high) first_is in
                cc (to_rows kind low (edge.Open first.key.id) j past, ap (λ (x : Edge). in_span (span.Rows kind low x) (cell_key.Row j)) edge_is, not_true _ out)));
            high = λ r found of_kind more. unless (idlt r.key.id j.id) (λ behind.
                let rows_in : InRows kind low high r.key = record {
                  of_kind = of_kind;
                  above = above_more low last.key.id r.key.id (inside low high last (last_in (range w (span.Rows kind low high)) last down_last)).above (is_less _ more);
                  below = below_more high j.id r.key.id here.below (is_less _ behind);
                } in
                cc (more, greatest low high last r down_last (among low high r rows_in found)));
          }

  module _ (first last : Row) (ordered : idlt last.key.id first.key.id ≡ false) where
    pub below_near : (j : Key) → last_part kind edge.End (edge.Open first.key.id) w (cell_key.Row j) ≡ true → IsNear w kind first last j
    below_near j read =
        let parts = and_true _ _ read in
        let here = in_rows kind edge.End (edge.Open first.key.id) j parts.0 in
        record {
          of_kind = here.of_kind;
          low = λ r found of_kind less. unless (idlt j.id r.key.id) (λ behind.
              let r_in : IsIn (range w (span.Rows kind edge.End (edge.Open first.key.id))) r = among edge.End (edge.Open first.key.id) r (record { of_kind = of_kind; above = refl; below = less }) found in
              let l = some_last (range w (span.Rows kind edge.End (edge.Open first.key.id))) r r_in in
              let l_in = inside edge.End (edge.Open first.key.id) l.0 (last_in (range w (span.Rows kind edge.End (edge.Open first.key.id))) l.0 l.1) in
              let before : idlt j.id l.0.key.id ≡ true = lt_le j r.key l.0.key (here.of_kind ∙ sym of_kind) (l_in.of_kind ∙ sym of_kind) behind (last_greatest schema w valid (span.Rows kind edge.End (edge.Open first.key.id)) l.0 r l.1 r_in) in
              cc (cell_lt j l.0.key (here.of_kind ∙ sym l_in.of_kind) ∙ before, not_true _ (sym (ap (λ o. down_to o (cell_key.Row j)) l.1) ∙ parts.1)));
          high = λ r found of_kind more. unless (idlt r.key.id j.id) (λ behind.
              cc (ordered, idlt_trans last.key.id r.key.id first.key.id more (idlt_trans r.key.id j.id first.key.id behind here.below)));
        }

    pub above_near : (to : Edge) (j : Key) → first_part kind (edge.Open last.key.id) to w (cell_key.Row j) ≡ true → IsNear w kind first last j
    above_near to j read =
        let parts = and_true _ _ read in
        let here = in_rows kind (edge.Open last.key.id) to j parts.0 in
        record {
          of_kind = here.of_kind;
          low = λ r found of_kind less. unless (idlt j.id r.key.id) (λ behind.
              cc (ordered, idlt_trans last.key.id j.id first.key.id here.above (idlt_trans j.id r.key.id first.key.id behind less)));
          high = λ r found of_kind more. unless (idlt r.key.id j.id) (λ behind.
              let r_in : IsIn (range w (span.Rows kind (edge.Open last.key.id) to)) r =
              among (edge.Open last.key.id) to r (record { of_kind = of_kind; above = more; below = below_more to j.id r.key.id here.below (is_less _ behind) }) found in
              let f = some_first (range w (span.Rows kind (edge.Open last.key.id) to)) r r_in in
              let f_in = inside (edge.Open last.key.id) to f.0 (first_in (range w (span.Rows kind (edge.Open last.key.id) to)) f.0 f.1) in
              let past : idlt f.0.key.id j.id ≡ true = le_lt f.0.key r.key j (f_in.of_kind ∙ sym of_kind) behind (first_least schema w valid (span.Rows kind (edge.Open last.key.id) to) f.0 r f.1 r_in) in
              cc (cell_lt f.0.key j (f_in.of_kind ∙ sym here.of_kind) ∙ past, not_true _ (sym (ap (λ o. up_to o (cell_key.Row j)) f.1) ∙ parts.1)));
        }

-- ---- as the definition says it

module _ (schema : Schema) (w : World) (valid : IsValid schema w) (kind : ℕ) (page : Page) where
  own : OwnKeys w.rows
  own = own_of schema w valid

  near_range : (first : Row) (items : List Row) (last : Row) (j : Key) → last_item (first ∷ items) ≡ Some last → IsNear w kind first last j → in_page_range (rows_of w kind) page (first ∷ items) j.id ≡ true
  near_range first items last j at near =
      both_true _ _
      (ap (λ xs. not_below (option_map_or (λ (row : Row). Some row.key.id) (last_item xs) None) j.id) (rows_below w kind own first.key.id) ∙ lows (last_item (range w (span.Rows kind edge.End (edge.Open first.key.id)))) refl)
      (ap (λ o. not_above (option_map_or (λ (row : Row). id_after (rows_of w kind) row.key.id) o None) j.id) at
      ∙ ap (λ xs. not_above (option_map_or (λ (row : Row). Some row.key.id) (first_item xs) None) j.id) (rows_above w kind own last.key.id) ∙ highs (first_item (range w (span.Rows kind (edge.Open last.key.id) edge.End))) refl)
    where
      lows : (o : Option Row) → last_item (range w (span.Rows kind edge.End (edge.Open first.key.id))) ≡ o → not_below (option_map_or (λ (row : Row). Some row.key.id) o None) j.id ≡ true
      lows None e = refl
      lows (Some prev) e =
          let there = in_range schema w valid (span.Rows kind edge.End (edge.Open first.key.id)) prev (last_in (range w (span.Rows kind edge.End (edge.Open first.key.id))) prev e) in
          let rows = in_rows kind edge.End (edge.Open first.key.id) prev.key there.0 in
          ap not (near.low prev there.1 rows.of_kind rows.below)

      highs : (o : Option Row) → first_item (range w (span.Rows kind (edge.Open last.key.id) edge.End)) ≡ o → not_above (option_map_or (λ (row : Row). Some row.key.id) o None) j.id ≡ true
      highs None e = refl
      highs (Some next) e =
          let there = in_range schema w valid (span.Rows kind (edge.Open last.key.id) edge.End) next (first_in (range w (span.Rows kind (edge.Open last.key.id) edge.End)) next e) in
          let rows = in_rows kind (edge.Open last.key.id) edge.End next.key there.0 in
          ap not (near.high next there.1 rows.of_kind rows.above)

  past_is : (after before : Option Place) (j : Key) → is_above (at_place after) j.id ≡ true → is_below (at_place before) j.id ≡ true
      → (option_map_or (λ (c : Place). is_lt (id_cmp c.id j.id)) after true && option_map_or (λ (c : Place). is_lt (id_cmp j.id c.id)) before true) ≡ true
  past_is None None j above below = refl
  past_is None (Some d) j above below = below
  past_is (Some c) None j above below = both_true _ _ above refl
  past_is (Some c) (Some d) j above below = both_true _ _ above below

  -- the rows of the page, and that they stand in order
  pub record IsShown (rows : List Row) : Type 0 where
    pub same : (page_of [] page (rows_of w kind)).rows ≡ rows
    pub ordered : (first last : Row) → first_item rows ≡ Some first → last_item rows ≡ Some last → idlt last.key.id first.key.id ≡ false

  pub is_shown_up : (rows : List Row) → ends_at_cursor page ≡ false → IsScannedUp w kind (low_edge page) (high_edge page) page.size rows → IsShown rows
  is_shown_up rows from_start scan = record {
    same = ap (λ (p : Selected). p.rows) (page_is schema w kind page rows valid (cut_up w kind page rows from_start scan));
    ordered = λ first last first_is last_is. up_ordered schema w valid kind (low_edge page) (high_edge page) page.size rows first last first_is last_is scan;
  }

  pub is_shown_down : (rows : List Row) → ends_at_cursor page ≡ true → IsScannedDown w kind (low_edge page) (high_edge page) page.size rows → IsShown rows
  is_shown_down rows from_end scan = record {
    same = ap (λ (p : Selected). p.rows) (page_is schema w kind page rows valid (cut_down w kind page rows from_end scan));
    ordered = λ first last first_is last_is. down_ordered schema w valid kind (low_edge page) (high_edge page) page.size rows first last first_is last_is scan;
  }

  empty_reach : (j : Key) → InRows kind (low_edge page) (high_edge page) j → in_page_range (rows_of w kind) page [] j.id ≡ true
  empty_reach j here = past_is page.after page.before j here.above here.below

  in_reach : (rows : List Row) → IsShown rows → (j : Key) → j.kind ≡ kind → in_page_range (rows_of w kind) page rows j.id ≡ true → is_row_of (reach_sorted w kind page []) (cell_key.Row j) ≡ true
  in_reach rows shown j of_kind within = both_true _ _ (kind_back j.kind kind of_kind) (ap (λ xs. in_page_range (rows_of w kind) page xs j.id) shown.same ∙ within)

  up_range : (rows : List Row) → IsScannedUp w kind (low_edge page) (high_edge page) page.size rows → (j : Key) → read_up kind (low_edge page) (high_edge page) page.size rows (cell_key.Row j) ≡ true → in_page_range (rows_of w kind) page rows j.id ≡ true
  up_range [] scan j read = empty_reach j (in_rows kind (low_edge page) (high_edge page) j (and_true _ _ read).0)
  up_range (first ∷ items) scan j read =
      let l = some_last (first ∷ items) first (inl refl) in
      near_range first items l.0 j l.1 (up_near schema w valid kind (low_edge page) (high_edge page) page.size (first ∷ items) first l.0 refl l.1 scan j read)

  pub up_reach : (rows : List Row) (k : CellKey) → ends_at_cursor page ≡ false → IsScannedUp w kind (low_edge page) (high_edge page) page.size rows → read_up kind (low_edge page) (high_edge page) page.size rows k ≡ true
      → is_row_of (reach_sorted w kind page []) k ≡ true
  up_reach rows (cell_key.Row j) from_start scan read =
      in_reach rows (is_shown_up rows from_start scan) j (in_rows kind (low_edge page) (high_edge page) j (and_true _ _ read).0).of_kind (up_range rows scan j read)
  up_reach rows (cell_key.Back to from rel) from_start scan read = cc read
  up_reach rows (cell_key.Counter n) from_start scan read = cc read

  down_range : (rows : List Row) → IsScannedDown w kind (low_edge page) (high_edge page) page.size rows → (j : Key) → read_down kind (low_edge page) (high_edge page) page.size rows (cell_key.Row j) ≡ true → in_page_range (rows_of w kind) page rows j.id ≡ true
  down_range [] scan j read = empty_reach j (in_rows kind (low_edge page) (high_edge page) j (and_true _ _ read).0)
  down_range (first ∷ items) scan j read =
      let l = some_last (first ∷ items) first (inl refl) in
      near_range first items l.0 j l.1 (down_near schema w valid kind (low_edge page) (high_edge page) page.size (first ∷ items) first l.0 refl l.1 scan j read)

  pub down_reach : (rows : List Row) (k : CellKey) → ends_at_cursor page ≡ true → IsScannedDown w kind (low_edge page) (high_edge page) page.size rows → read_down kind (low_edge page) (high_edge page) page.size rows k ≡ true
      → is_row_of (reach_sorted w kind page []) k ≡ true
  down_reach rows (cell_key.Row j) from_end scan read =
      in_reach rows (is_shown_down rows from_end scan) j (in_rows kind (low_edge page) (high_edge page) j (and_true _ _ read).0).of_kind (down_range rows scan j read)
  down_reach rows (cell_key.Back to from rel) from_end scan read = cc read
  down_reach rows (cell_key.Counter n) from_end scan read = cc read

  past_range : (rows : List Row) → IsShown rows → (j : Key) → first_part kind (edge_past (low_edge page) rows) (high_edge page) w (cell_key.Row j) ≡ true → (j.kind ≡ kind) × (in_page_range (rows_of w kind) page rows j.id ≡ true)
  past_range [] shown j read = let here = in_rows kind (low_edge page) (high_edge page) j (and_true _ _ read).0 in (here.of_kind, empty_reach j here)
  past_range (first ∷ items) shown j read =
      let l = some_last (first ∷ items) first (inl refl) in
      let near = above_near schema w valid kind first l.0 (shown.ordered first l.0 refl l.1) (high_edge page) j
      (sym (ap (λ o. first_part kind (option_map_or (λ (x : Row). edge.Open x.key.id) o (low_edge page)) (high_edge page) w (cell_key.Row j)) l.1) ∙ read) in
      (near.of_kind, near_range first items l.0 j l.1 near)

  -- a look behind the rows of a range
  pub past_reach : (rows : List Row) (k : CellKey) → IsShown rows → first_part kind (edge_past (low_edge page) rows) (high_edge page) w k ≡ true → is_row_of (reach_sorted w kind page []) k ≡ true
  past_reach rows (cell_key.Row j) shown read = let both = past_range rows shown j read in in_reach rows shown j both.0 both.1
  past_reach rows (cell_key.Back to from rel) shown read = cc read
  past_reach rows (cell_key.Counter n) shown read = cc read

  flank_range : (rows : List Row) → IsShown rows → (j : Key) → flank_part kind rows w (cell_key.Row j) ≡ true → (j.kind ≡ kind) × (in_page_range (rows_of w kind) page rows j.id ≡ true)
  flank_range [] shown j read = cc read
  flank_range (first ∷ items) shown j read =
      let l = some_last (first ∷ items) first (inl refl) in
      let ordered = shown.ordered first l.0 refl l.1 in
      by_either (last_part kind edge.End (edge.Open first.key.id) w (cell_key.Row j)) (first_part kind (edge.Open l.0.key.id) edge.End w (cell_key.Row j))
      (sym (ap (λ o. last_part kind edge.End (edge.Open first.key.id) w (cell_key.Row j) || option_map_or (λ (row : Row). first_part kind (edge.Open row.key.id) edge.End w (cell_key.Row j)) o false) l.1) ∙ read)
      (λ below. let near = below_near schema w valid kind first l.0 ordered j below in (near.of_kind, near_range first items l.0 j l.1 near))
      (λ above. let near = above_near schema w valid kind first l.0 ordered edge.End j above in (near.of_kind, near_range first items l.0 j l.1 near))

  no_flank : (k : CellKey) → ((row : Row) → last_part kind edge.End (edge.Open row.key.id) w k ≡ false) → ((row : Row) → first_part kind (edge.Open row.key.id) edge.End w k ≡ false) → (o p : Option Row)
      → (option_map_or (λ (row : Row). last_part kind edge.End (edge.Open row.key.id) w k) o false || option_map_or (λ (row : Row). first_part kind (edge.Open row.key.id) edge.End w k) p false) ≡ true → false ≡ true
  no_flank k f g None None e = e
  no_flank k f g None (Some y) e = sym (g y) ∙ e
  no_flank k f g (Some x) None e = cc (f x, e)
  no_flank k f g (Some x) (Some y) e = cc (f x, g y, e)

  -- looks below the first row and above the last
  pub flank_reach : (rows : List Row) (k : CellKey) → IsShown rows → flank_part kind rows w k ≡ true → is_row_of (reach_sorted w kind page []) k ≡ true
  flank_reach rows (cell_key.Row j) shown read = let both = flank_range rows shown j read in in_reach rows shown j both.0 both.1
  flank_reach rows (cell_key.Back to from rel) shown read = no_flank (cell_key.Back to from rel) (λ row. refl) (λ row. refl) (first_item rows) (last_item rows) read
  flank_reach rows (cell_key.Counter n) shown read = no_flank (cell_key.Counter n) (λ row. refl) (λ row. refl) (first_item rows) (last_item rows) read
