-- One row after another of a range, from either end.
use Rattle.std.proofs.Common.{◌≡◌, ℕ, ◌<◌, List, [], ◌∷◌, ◌++◌, Bool, true, false, Some, None, Option, length, reverse, refl, sym, ap, subst, ◌∙◌, append_assoc, inl}
use Rattle.std.specs.Prelude.{◌&&◌, not, nat_lt}
use Rattle.std.specs.Option.{option_map_or}
use Rattle.std.specs.List.{last_or}
use Rattle.std.specs.Ordering.{is_lt}
use Rattle.std.proofs.lemmas.List.{reverse-append}
use Rattle.std.proofs.lemmas.Bool.{or_left, or_right}
use Rattle.resource_schema.specs.declared.schema.Schema.{Schema}
use Rattle.world_cells.specs.declared.keys.CellKey.{CellKey}
use Rattle.world_cells.specs.declared.keys.CellKey.TheVariants as cell_key
use Rattle.world_cells.specs.declared.rows.Row.{Row}
use Rattle.world_cells.specs.declared.spans.Edge.{Edge}
use Rattle.world_cells.specs.declared.spans.Edge.TheVariants as edge
use Rattle.world_cells.specs.declared.spans.Span.TheVariants as span
use Rattle.world_cells.specs.CellOrder.{cell_key_cmp}
use Rattle.world_cells.specs.Lists.{IsIn}
use Rattle.world_cells.specs.Reads.{in_span}
use Rattle.world_cells.specs.World.{World}
use Rattle.store_model.specs.Valid.{IsValid}
use Rattle.store_model.specs.Pages.{first_item, last_item}
use Rattle.view_reads.specs.SpanLaws.{narrowed_is, and_true}
use Rattle.page_select.specs.Ranges.{range, BeginsWith, EndsWith}
use Rattle.page_select.specs.Looks.{first_part, last_part, up_to, down_to}
use Rattle.page_select.specs.Scans.{edge_past, edge_before, read_up, read_down}
use Rattle.page_select.proofs.Tests.{both_true, not_true, not_false, lt_test}
use Rattle.page_select.proofs.RangeRows.{in_end, in_range}

-- ---- edges

last_pushed : (o : Option Row) (rows : List Row) (row : Row) → last_or o (rows ++ row ∷ []) ≡ Some row
last_pushed o [] row = refl
last_pushed o (r ∷ rows) row = last_pushed (Some r) rows row

pub past_pushed : (low : Edge) (rows : List Row) (row : Row) → edge_past low (rows ++ row ∷ []) ≡ edge.Open row.key.id
past_pushed low rows row = ap (λ o. option_map_or (λ (r : Row). edge.Open r.key.id) o low) (last_pushed None rows row)

pub before_pushed : (high : Edge) (rows : List Row) (row : Row) → edge_before high (reverse (rows ++ row ∷ [])) ≡ edge.Open row.key.id
before_pushed high rows row = ap (edge_before high) (reverse-append rows (row ∷ []))

-- ---- rows

pub one_on : (whole rows rest next : List Row) (row : Row) → whole ≡ rows ++ rest → rest ≡ row ∷ next → whole ≡ (rows ++ row ∷ []) ++ next
one_on whole rows rest next row is begins = is ∙ ap (λ xs. rows ++ xs) begins ∙ sym (append_assoc rows (row ∷ []) next)

pub one_before : (whole rest less rows : List Row) (row : Row) → whole ≡ rest ++ reverse rows → rest ≡ less ++ row ∷ [] → whole ≡ less ++ reverse (rows ++ row ∷ [])
one_before whole rest less rows row is ends =
    is ∙ ap (λ xs. xs ++ reverse rows) ends ∙ append_assoc less (row ∷ []) (reverse rows) ∙ ap (λ xs. less ++ xs) (sym (reverse-append rows (row ∷ [])))

-- ---- what was read: the span, without what is left of it

abbrev pub done : ℕ → Edge → Edge → Edge → Edge → CellKey → Bool
done kind low high from to k = in_span (span.Rows kind low high) k && not (in_span (span.Rows kind from to) k)

pub done_nothing : (kind : ℕ) (low high : Edge) (k : CellKey) → done kind low high low high k ≡ true → ⊥
done_nothing kind low high k e = never (in_span (span.Rows kind low high) k) e
  where
    never : (b : Bool) → (b && not b) ≡ true → ⊥
    never true e = cc e
    never false e = cc e

within_left : (a b c : Bool) → a ≡ (b && c) → b ≡ false → a ≡ false
within_left a b c is none = is ∙ ap (λ b. b && c) none

within_right : (a b c : Bool) → a ≡ (b && c) → b ≡ true → not c ≡ true → a ≡ false
within_right a true true is e f = cc f
within_right a true false is e f = is
within_right a false c is e f = cc e

module _ (schema : Schema) (w : World) (valid : IsValid schema w) (kind : ℕ) (low high from to : Edge) (row : Row) (k : CellKey) where
  module _ (begins : BeginsWith w kind from to (Some row)) where
    first_here : in_span (span.Rows kind from to) (cell_key.Row row.key) ≡ true
    first_here = (in_range schema w valid (span.Rows kind from to) row (subst (λ (xs : List Row). IsIn xs row) (sym begins) (inl refl))).0

    past_first : in_span (span.Rows kind (edge.Open row.key.id) to) k ≡ (in_span (span.Rows kind from to) k && is_lt (cell_key_cmp (cell_key.Row row.key) k))
    past_first = narrowed_is false (span.Rows kind from to) (cell_key.Row row.key) k tt first_here

    -- past its first row a range lies within itself
    pub past_within : in_span (span.Rows kind (edge.Open row.key.id) to) k ≡ true → in_span (span.Rows kind from to) k ≡ true
    past_within e = (and_true _ _ (sym past_first ∙ e)).0

    pub done_past : done kind low high from to k ≡ true → done kind low high (edge.Open row.key.id) to k ≡ true
    done_past e =
        let parts = and_true _ _ e in
        both_true _ _ parts.0 (not_false _ (within_left _ _ _ past_first (not_true _ parts.1)))

    pub done_first : (in_span (span.Rows kind from to) k ≡ true → in_span (span.Rows kind low high) k ≡ true) → first_part kind from to w k ≡ true → done kind low high (edge.Open row.key.id) to k ≡ true
    done_first inside e =
        let parts = and_true _ _ e in
        both_true _ _ (inside parts.0)
        (not_false _ (within_right _ _ _ past_first parts.0 (sym (ap (λ (xs : List Row). up_to (first_item xs) k) begins) ∙ parts.1)))

  module _ (ends : EndsWith w kind from to (Some row)) where
    last_here : in_span (span.Rows kind from to) (cell_key.Row row.key) ≡ true
    last_here = (in_range schema w valid (span.Rows kind from to) row (subst (λ (xs : List Row). IsIn xs row) (sym ends) (in_end (range w (span.Rows kind from (edge.Open row.key.id))) row))).0

    before_last : in_span (span.Rows kind from (edge.Open row.key.id)) k ≡ (in_span (span.Rows kind from to) k && is_lt (cell_key_cmp k (cell_key.Row row.key)))
    before_last = narrowed_is true (span.Rows kind from to) (cell_key.Row row.key) k tt last_here

    pub before_within : in_span (span.Rows kind from (edge.Open row.key.id)) k ≡ true → in_span (span.Rows kind from to) k ≡ true
    before_within e = (and_true _ _ (sym before_last ∙ e)).0

    pub done_before : done kind low high from to k ≡ true → done kind low high from (edge.Open row.key.id) k ≡ true
    done_before e =
        let parts = and_true _ _ e in
        both_true _ _ parts.0 (not_false _ (within_left _ _ _ before_last (not_true _ parts.1)))

    pub done_last : (in_span (span.Rows kind from to) k ≡ true → in_span (span.Rows kind low high) k ≡ true) → last_part kind from to w k ≡ true → done kind low high from (edge.Open row.key.id) k ≡ true
    done_last inside e =
        let parts = and_true _ _ e in
        both_true _ _ (inside parts.0)
        (not_false _ (within_right _ _ _ before_last parts.0
        (sym (ap (λ (xs : List Row). down_to (last_item xs) k) ends ∙ ap (λ o. down_to o k) (last_pushed None (range w (span.Rows kind from (edge.Open row.key.id))) row)) ∙ parts.1)))

-- ---- what a scan reads

module _ (kind : ℕ) (low high : Edge) (size : ℕ) (rows : List Row) (k : CellKey) where
  pub all_up : length rows < size → in_span (span.Rows kind low high) k ≡ true → read_up kind low high size rows k ≡ true
  all_up few inside = both_true _ _ inside (or_left _ _ (lt_test (length rows) size few))

  pub all_down : length rows < size → in_span (span.Rows kind low high) k ≡ true → read_down kind low high size rows k ≡ true
  all_down few inside = both_true _ _ inside (or_left _ _ (lt_test (length rows) size few))

  pub some_up : (from : Edge) → from ≡ edge_past low rows → done kind low high from high k ≡ true → read_up kind low high size rows k ≡ true
  some_up from is e =
      let parts = and_true _ _ e in
      both_true _ _ parts.0 (or_right (nat_lt (length rows) size) _ (ap (λ (x : Edge). not (in_span (span.Rows kind x high) k)) (sym is) ∙ parts.1))

  pub some_down : (to : Edge) → to ≡ edge_before high rows → done kind low high low to k ≡ true → read_down kind low high size rows k ≡ true
  some_down to is e =
      let parts = and_true _ _ e in
      both_true _ _ parts.0 (or_right (nat_lt (length rows) size) _ (ap (λ (x : Edge). not (in_span (span.Rows kind low x) k)) (sym is) ∙ parts.1))
