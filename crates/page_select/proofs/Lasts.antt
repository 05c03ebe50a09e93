-- What the last cell of a span says of the rows of a world.
use Rattle.std.proofs.Common.{◌≡◌, ℕ, List, [], ◌∷◌, ◌++◌, Bool, true, false, refl, sym, ap, subst, ◌∙◌, map, Some, None, Option, T, Result, Ok, Err}
use Rattle.std.proofs.lemmas.List.{map-append}
use Rattle.std.specs.Prelude.{◌&&◌, IsTrue, IfOk, option_map}
use Rattle.std.specs.Borrow.{Bor}
use Rattle.std.specs.Ordering.{is_lt}
use Rattle.std.specs.Cmp.{tied_itself}
use Rattle.std.specs.FinMap.Entries.{find, where_key, below_all, is_sorted}
use Rattle.ident_rules.specs.declared.key.Key.{Key}
use Rattle.ident_rules.specs.declared.memory.NoMemory.{NoMemory}
use Rattle.ident_rules.specs.Key.{key_cmp, key_cmp_total, same_key}
use Rattle.resource_schema.specs.declared.schema.Schema.{Schema}
use Rattle.world_cells.specs.declared.keys.CellKey.{CellKey}
use Rattle.world_cells.specs.declared.keys.CellKey.TheVariants as cell_key
use Rattle.world_cells.specs.declared.cells.Cell.{Cell}
use Rattle.world_cells.specs.declared.rows.Row.{Row}
use Rattle.world_cells.specs.declared.spans.Edge.{Edge}
use Rattle.world_cells.specs.declared.spans.Edge.TheVariants as edge
use Rattle.world_cells.specs.declared.spans.Span.TheVariants as span
use Rattle.world_cells.specs.CellOrder.{cell_key_cmp}
use Rattle.world_cells.specs.Reads.{Cells, in_span, IsLastIn}
use Rattle.world_cells.specs.World.{World, cell_at, row_at}
use Rattle.store_model.specs.Valid.{IsValid}
use Rattle.view_reads.specs.Recording.{Recording, LookedLast, pair_now}
use Rattle.view_reads.specs.RecordingLaws.{last_looked_alike}
use Rattle.view_reads.specs.SpanLaws.{narrowed_is, and_true}
use Rattle.page_select.proofs.Tests.{by_bool, both_T}
use Rattle.trial_steps.specs.Steps.{Sees}
use Rattle.page_select.specs.Ranges.{range, row_in, EndsWith}
use Rattle.page_select.proofs.Firsts.{by_keys, same_is, met, step, none_below, below_less, take_where, where_none, none_back, row_back, same_where, lt_row, lt_trans, lt_not_eq}

not_itself : {P : Type 0} (k : Key) → is_lt (key_cmp k k) ≡ true → P
not_itself k e = let same = ap is_lt (tied_itself key_cmp_total k) in cc (same, e)

module _ {X : Type 0} where
  -- what passes ends with the last that does
  pub where_last : (p : Key → Bool) (k : Key) (x : X) (es : List (Key × X)) → T (is_sorted key_cmp es) → p k ≡ true → find key_cmp k es ≡ Some x
      → ((j : Key) → p j ≡ true → is_lt (key_cmp k j) ≡ true → find key_cmp j es ≡ None)
      → where_key key_cmp p es ≡ where_key key_cmp (λ j. p j && is_lt (key_cmp j k)) es ++ (k, x) ∷ []
  where_last p k x [] sorted here found none = cc found
  where_last p k x (e ∷ es) sorted here found none = by_keys k e.0
      (λ less. cc (sym found ∙ step k e es (lt_not_eq _ less) ∙ below_less k e.0 es less (both_T _ _ sorted).0))
      (λ same.
      let is : k ≡ e.0 = same_is k e.0 same in
      let below : T (below_all key_cmp k es) = subst (λ (j : Key). T (below_all key_cmp j es)) (sym is) (both_T _ _ sorted).0 in
      let value : Some e.1 ≡ Some x = sym (met k e es same) ∙ found in
      let value_is : e.1 ≡ x = cc value in
      let no_more : where_key key_cmp p es ≡ [] = where_none p es (λ j h. by_keys j k
      (λ less. below_less j k es less below)
      (λ tie. ap (λ (i : Key). find key_cmp i es) (same_is j k tie) ∙ none_below k es below)
      (λ more. sym (step j e es (by_bool (same_key j e.0) (λ tie. not_itself k (ap (λ (i : Key). is_lt (key_cmp k i)) (is ∙ sym (same_is j e.0 tie)) ∙ more)) (λ o. o))) ∙ none j h more)) in
      let none_less : where_key key_cmp (λ j. p j && is_lt (key_cmp j k)) es ≡ [] = where_none (λ j. p j && is_lt (key_cmp j k)) es (λ j h. below_less j k es (and_true _ _ h).1 below) in
      let out : (p e.0 && is_lt (key_cmp e.0 k)) ≡ false = ap (λ (i : Key). p e.0 && is_lt (key_cmp i k)) (sym is) ∙ ap (λ b. p e.0 && b) (ap is_lt (tied_itself key_cmp_total k)) ∙ and_false (p e.0) in
      take_where p true e es (ap p (sym is) ∙ here) ∙ ap (λ xs. e ∷ xs) no_more ∙ ap (λ (d : Key × X). d ∷ []) (λ i. (sym is i, value_is i))
      ∙ sym (ap (λ xs. xs ++ (k, x) ∷ []) (take_where (λ j. p j && is_lt (key_cmp j k)) false e es out ∙ none_less)))
      (λ more.
      let other : same_key k e.0 ≡ false = by_bool (same_key k e.0) (λ tie. not_itself k (ap (λ (i : Key). is_lt (key_cmp i k)) (same_is k e.0 tie) ∙ more)) (λ o. o) in
      let rest = where_last p k x es (both_T _ _ sorted).1 here (sym (step k e es other) ∙ found)
      (λ j h above. sym (step j e es (by_bool (same_key j e.0) (λ tie. not_itself e.0 (sym (ap (λ (i : Key). is_lt (key_cmp e.0 i)) (same_is j e.0 tie)) ∙ lt_trans e.0 k j more above)) (λ o. o))) ∙ none j h above) in
      by_bool (p e.0)
      (λ in_it. take_where p true e es in_it ∙ ap (λ xs. e ∷ xs) rest
      ∙ ap (λ xs. xs ++ (k, x) ∷ []) (sym (take_where (λ j. p j && is_lt (key_cmp j k)) true e es (ap (λ b. b && is_lt (key_cmp e.0 k)) in_it ∙ more))))
      (λ out. take_where p false e es out ∙ rest
      ∙ ap (λ xs. xs ++ (k, x) ∷ []) (sym (take_where (λ j. p j && is_lt (key_cmp j k)) false e es (ap (λ b. b && is_lt (key_cmp e.0 k)) out)))))
    where
      and_false : (b : Bool) → (b && false) ≡ false
      and_false true = refl
      and_false false = refl

-- ---- in a world

before_span : (kind : ℕ) (low high : Edge) (k j : Key) → in_span (span.Rows kind low high) (cell_key.Row k) ≡ true
    → (in_span (span.Rows kind low high) (cell_key.Row j) && is_lt (key_cmp j k)) ≡ in_span (span.Rows kind low (edge.Open k.id)) (cell_key.Row j)
before_span kind low high k j inside =
    ap (λ b. in_span (span.Rows kind low high) (cell_key.Row j) && b) (sym (lt_row (key_cmp j k)))
    ∙ sym (narrowed_is true (span.Rows kind low high) (cell_key.Row k) (cell_key.Row j) tt inside)

last_at : (schema : Schema) (w : World) (kind : ℕ) (low high : Edge) (k : Key) (row : Row) → IsValid schema w → in_span (span.Rows kind low high) (cell_key.Row k) ≡ true → row_at w k ≡ Some row
    → ((j : CellKey) → IsTrue (in_span (span.Rows kind low high) j) → IsTrue (is_lt (cell_key_cmp (cell_key.Row k) j)) → cell_at schema w j ≡ None) → EndsWith w kind low high (Some row)
last_at schema w kind low high k row valid inside found none =
    let own : row.key ≡ k = (valid.rows k row found).own_key in
    ap (λ es. map (λ (e : Key × Row). e.1) es)
    (where_last (λ j. in_span (span.Rows kind low high) (cell_key.Row j)) k row w.rows valid.rows_sorted inside found
    (λ j here above. none_back (row_at w j) (none (cell_key.Row j) here (lt_row (key_cmp k j) ∙ above)))
    ∙ ap (λ es. es ++ (k, row) ∷ []) (same_where _ _ w.rows (λ j. before_span kind low high k j inside)))
    ∙ map-append (λ (e : Key × Row). e.1) (where_key key_cmp (λ j. in_span (span.Rows kind low (edge.Open k.id)) (cell_key.Row j)) w.rows) ((k, row) ∷ [])
    ∙ ap (λ (x : Key). range w (span.Rows kind low (edge.Open x.id)) ++ row ∷ []) (sym own)

pub ends : (schema : Schema) (w : World) (kind : ℕ) (low high : Edge) (found : Option (CellKey × Cell)) → IsValid schema w
    → IsLastIn (cell_at schema w) (span.Rows kind low high) found → EndsWith w kind low high (row_in found)
ends schema w kind low high None valid last =
    ap (λ es. map (λ (e : Key × Row). e.1) es) (where_none (λ j. in_span (span.Rows kind low high) (cell_key.Row j)) w.rows (λ j here. none_back (row_at w j) (last (cell_key.Row j) here)))
ends schema w kind low high (Some (cell_key.Row k, c)) valid last =
    let r = row_back (row_at w k) c last.1 in
    subst (λ (c : Cell). EndsWith w kind low high (row_in (Some (cell_key.Row k, c)))) (sym r.2) (last_at schema w kind low high k r.0 valid last.0 r.1 last.2)
ends schema w kind low high (Some (cell_key.Back to from rel, c)) valid last = cc last.0
ends schema w kind low high (Some (cell_key.Counter n, c)) valid last = cc last.0

pub last_sees : {V : Type 0} (cells : V → Cells) (schema : Schema) (old : Recording V) (kind : ℕ) (low high : Edge) (result : Result (Option (Bor CellKey × Bor Cell)) NoMemory) (found : Option (Bor CellKey × Bor Cell)) (new : Recording V)
    → result ≡ Ok found → LookedLast cells old (span.Rows kind low high) result new → Sees schema cells old new (λ now. EndsWith now kind low high (row_in (option_map pair_now found)))
last_sees cells schema old kind low high result found new is looked = λ w now behind leads.
    ends schema now kind low high (option_map pair_now found) behind.now_valid
    (last_looked_alike cells (cell_at schema w) (cell_at schema now) old (span.Rows kind low high) found new
    (subst (λ (r : Result (Option (Bor CellKey × Bor Cell)) NoMemory). LookedLast cells old (span.Rows kind low high) r new) is looked) behind.agrees leads)

pub copy_ends : (w : World) (kind : ℕ) (low high : Edge) (result : Result (Option Row) NoMemory) (row : Option Row) → IfOk result (λ r. r ≡ row) → EndsWith w kind low high row → IfOk result (EndsWith w kind low high)
copy_ends w kind low high (Ok r) row is h = subst (EndsWith w kind low high) (sym is) h
copy_ends w kind low high (Err e) row is h = tt
