-- What the first cell of a span says of the rows of a world.
use Rattle.std.proofs.Common.{◌≡◌, ℕ, List, [], ◌∷◌, Bool, true, false, cond, refl, sym, ap, subst, ◌∙◌, map, Some, None, Option, T, Result, Ok, Err}
use Rattle.std.specs.Prelude.{◌&&◌, IsTrue, IfOk, option_map, is_some}
use Rattle.store_model.specs.Pages.{first_item}
use Rattle.std.specs.Borrow.{Bor}
use Rattle.std.specs.declared.cmp.Ordering.{Ordering}
use Rattle.std.specs.declared.cmp.Ordering.TheVariants.{Less, Equal, Greater}
use Rattle.std.specs.Ordering.{is_lt, is_eq, ordering_then, ordering_reverse}
use Rattle.std.specs.Cmp.{tied_itself}
use Rattle.std.specs.FinMap.Entries.{find, where_key, below_all, is_sorted}
use Rattle.ident_rules.specs.declared.key.Key.{Key}
use Rattle.ident_rules.specs.declared.memory.NoMemory.{NoMemory}
use Rattle.ident_rules.specs.Key.{key_cmp, key_cmp_total, key_cmp-IsAntisymmetric, same_key}
use Rattle.resource_schema.specs.declared.schema.Schema.{Schema}
use Rattle.world_cells.specs.declared.keys.CellKey.{CellKey}
use Rattle.world_cells.specs.declared.keys.CellKey.TheVariants as cell_key
use Rattle.world_cells.specs.declared.cells.Cell.{Cell}
use Rattle.world_cells.specs.declared.cells.Cell.TheVariants as cell
use Rattle.world_cells.specs.declared.rows.Row.{Row}
use Rattle.world_cells.specs.declared.spans.Edge.{Edge}
use Rattle.world_cells.specs.declared.spans.Edge.TheVariants as edge
use Rattle.world_cells.specs.declared.spans.Span.{Span}
use Rattle.world_cells.specs.declared.spans.Span.TheVariants as span
use Rattle.world_cells.specs.CellOrder.{cell_key_cmp}
use Rattle.world_cells.specs.Reads.{Cells, in_span, IsFirstIn, IsLastIn}
use Rattle.world_cells.specs.World.{World, cell_at, row_at}
use Rattle.store_model.specs.Valid.{IsValid}
use Rattle.view_reads.specs.Recording.{Recording, LookedFirst, LookedLast, pair_now}
use Rattle.view_reads.specs.RecordingLaws.{first_looked_alike, last_looked_alike, first_follows, last_follows}
use Rattle.view_reads.specs.SpanLaws.{narrowed_is, is_less}
use Rattle.page_select.proofs.Tests.{by_bool, both_T, true_T}
use Rattle.trial_steps.specs.Steps.{LooksAt, Sees}
use Rattle.trial_steps.specs.StepLaws.{looks_still}
use Rattle.page_select.specs.Ranges.{range, anywhere, row_in, BeginsWith}

-- ---- keys

tied_equal : (o : Ordering) → is_eq o ≡ true → o ≡ Equal
tied_equal Less e = cc e
tied_equal Equal e = refl
tied_equal Greater e = cc e

pub same_is : (j k : Key) → same_key j k ≡ true → j ≡ k
same_is j k e = key_cmp-IsAntisymmetric j k (tied_equal _ e)

pub same_itself : (k : Key) → same_key k k ≡ true
same_itself k = ap is_eq (tied_itself key_cmp_total k)

pub lt_not_eq : (o : Ordering) → is_lt o ≡ true → is_eq o ≡ false
lt_not_eq Less e = refl
lt_not_eq Equal e = cc e
lt_not_eq Greater e = cc e

pub by_keys : {P : Type 0} (j k : Key) → (is_lt (key_cmp j k) ≡ true → P) → (same_key j k ≡ true → P) → (is_lt (key_cmp k j) ≡ true → P) → P
by_keys j k less same more = by_bool (is_lt (key_cmp j k)) less (λ not_less. by_bool (same_key j k) same (λ other. more (ap is_lt (key_cmp_total.antisymm k j) ∙ back (key_cmp j k) not_less other)))
  where
    back : (o : Ordering) → is_lt o ≡ false → is_eq o ≡ false → is_lt (ordering_reverse o) ≡ true
    back Less e f = cc e
    back Equal e f = cc f
    back Greater e f = refl

pub lt_trans : (i j k : Key) → is_lt (key_cmp i j) ≡ true → is_lt (key_cmp j k) ≡ true → is_lt (key_cmp i k) ≡ true
lt_trans i j k e f = ap is_lt (key_cmp_total.trans i j k (is_less _ e) (is_less _ f))

module _ {X : Type 0} where
  pub step : (j : Key) (e : Key × X) (es : List (Key × X)) → same_key j e.0 ≡ false → find key_cmp j (e ∷ es) ≡ find key_cmp j es
  step j e es h = ap (λ b. cond b (Some e.1) (find key_cmp j es)) h

  pub met : (j : Key) (e : Key × X) (es : List (Key × X)) → same_key j e.0 ≡ true → find key_cmp j (e ∷ es) ≡ Some e.1
  met j e es h = ap (λ b. cond b (Some e.1) (find key_cmp j es)) h

  pub none_below : (k : Key) (es : List (Key × X)) → T (below_all key_cmp k es) → find key_cmp k es ≡ None
  none_below k [] h = refl
  none_below k (e ∷ es) h = let parts = both_T _ _ h in step k e es (lt_not_eq _ (true_T _ parts.0)) ∙ none_below k es parts.1

  pub below_less : (j k : Key) (es : List (Key × X)) → is_lt (key_cmp j k) ≡ true → T (below_all key_cmp k es) → find key_cmp j es ≡ None
  below_less j k [] less h = refl
  below_less j k (e ∷ es) less h = let parts = both_T _ _ h in step j e es (lt_not_eq _ (lt_trans j k e.0 less (true_T _ parts.0))) ∙ below_less j k es less parts.1

  pub take_where : (p : Key → Bool) (b : Bool) (e : Key × X) (es : List (Key × X)) → p e.0 ≡ b → where_key key_cmp p (e ∷ es) ≡ cond b (e ∷ where_key key_cmp p es) (where_key key_cmp p es)
  take_where p b e es h = ap (λ b. cond b (e ∷ where_key key_cmp p es) (where_key key_cmp p es)) h

  -- past a key that is below all
  where_past : (p : Key → Bool) (k : Key) (es : List (Key × X)) → T (below_all key_cmp k es) → where_key key_cmp p es ≡ where_key key_cmp (λ j. p j && is_lt (key_cmp k j)) es
  where_past p k [] h = refl
  where_past p k (e ∷ es) h =
      let parts = both_T _ _ h in
      let rest = where_past p k es parts.1 in
      let same : p e.0 ≡ (p e.0 && is_lt (key_cmp k e.0)) = sym (ap (λ b. p e.0 && b) (true_T _ parts.0) ∙ and_true (p e.0)) in
      ap (λ xs. cond (p e.0) (e ∷ xs) xs) rest ∙ ap (λ b. cond b (e ∷ where_key key_cmp (λ j. p j && is_lt (key_cmp k j)) es) (where_key key_cmp (λ j. p j && is_lt (key_cmp k j)) es)) same
    where
      and_true : (b : Bool) → (b && true) ≡ b
      and_true true = refl
      and_true false = refl

  pub where_none : (p : Key → Bool) (es : List (Key × X)) → ((j : Key) → p j ≡ true → find key_cmp j es ≡ None) → where_key key_cmp p es ≡ []
  where_none p [] none = refl
  where_none p (e ∷ es) none = by_bool (p e.0)
      (λ here. cc (sym (met e.0 e es (same_itself e.0)) ∙ none e.0 here))
      (λ out. take_where p false e es out ∙ where_none p es (λ j h. sym (step j e es (away j h out)) ∙ none j h))
    where
      away : (j : Key) → p j ≡ true → p e.0 ≡ false → same_key j e.0 ≡ false
      away j h out = by_bool (same_key j e.0) (λ same. cc (h, out, ap p (same_is j e.0 same))) (λ x. x)

  -- what passes begins with the first that does
  pub where_first : (p : Key → Bool) (k : Key) (x : X) (es : List (Key × X)) → T (is_sorted key_cmp es) → p k ≡ true → find key_cmp k es ≡ Some x
      → ((j : Key) → p j ≡ true → is_lt (key_cmp j k) ≡ true → find key_cmp j es ≡ None)
      → where_key key_cmp p es ≡ (k, x) ∷ where_key key_cmp (λ j. p j && is_lt (key_cmp k j)) es
  where_first p k x [] sorted here found none = cc found
  where_first p k x (e ∷ es) sorted here found none = by_keys k e.0
      (λ less. cc (sym found ∙ step k e es (lt_not_eq _ less) ∙ below_less k e.0 es less (both_T _ _ sorted).0))
      (λ same.
      let is : k ≡ e.0 = same_is k e.0 same in
      let value : Some e.1 ≡ Some x = sym (met k e es same) ∙ found in
      let value_is : e.1 ≡ x = cc value in
      let not_past : (p e.0 && is_lt (key_cmp k e.0)) ≡ false = ap (λ o. p e.0 && is_lt o) (tied_equal _ same) ∙ and_false (p e.0) in
      take_where p true e es (ap p (sym is) ∙ here)
      ∙ ap (λ (d : Key × X). d ∷ where_key key_cmp p es) (λ i. (sym is i, value_is i))
      ∙ ap (λ xs. (k, x) ∷ xs)
      (where_past p k es (subst (λ (j : Key). T (below_all key_cmp j es)) (sym is) (both_T _ _ sorted).0)
      ∙ sym (take_where (λ j. p j && is_lt (key_cmp k j)) false e es not_past)))
      (λ more. by_bool (p e.0)
      (λ in_it. cc (sym (met e.0 e es (same_itself e.0)) ∙ none e.0 in_it more))
      (λ out.
      let other : same_key k e.0 ≡ false = by_bool (same_key k e.0) (λ same. cc (here, out, ap p (same_is k e.0 same))) (λ h. h) in
      take_where p false e es out
      ∙ where_first p k x es (both_T _ _ sorted).1 here (sym (step k e es other) ∙ found) (λ j h below. sym (step j e es (away j h out)) ∙ none j h below)
      ∙ ap (λ xs. (k, x) ∷ xs) (sym (take_where (λ j. p j && is_lt (key_cmp k j)) false e es (ap (λ b. b && is_lt (key_cmp k e.0)) out)))))
    where
      and_false : (b : Bool) → (b && false) ≡ false
      and_false true = refl
      and_false false = refl

      away : (j : Key) → p j ≡ true → p e.0 ≡ false → same_key j e.0 ≡ false
      away j h out = by_bool (same_key j e.0) (λ same. cc (h, out, ap p (same_is j e.0 same))) (λ x. x)

-- ---- in a world

pub lt_row : (o : Ordering) → is_lt (ordering_then o Equal) ≡ is_lt o
lt_row Less = refl
lt_row Equal = refl
lt_row Greater = refl

pub row_back : (o : Option Row) (c : Cell) → option_map cell.Row o ≡ Some c → (row : Row) × (o ≡ Some row) × (c ≡ cell.Row row)
row_back None c e = cc e
row_back (Some row) c e = (row, refl, cc e)

pub none_back : (o : Option Row) → option_map cell.Row o ≡ None → o ≡ None
none_back None e = refl
none_back (Some row) e = cc e

-- the tests of a span past a key of it
past_span : (kind : ℕ) (low high : Edge) (k j : Key) → in_span (span.Rows kind low high) (cell_key.Row k) ≡ true
    → (in_span (span.Rows kind low high) (cell_key.Row j) && is_lt (key_cmp k j)) ≡ in_span (span.Rows kind (edge.Open k.id) high) (cell_key.Row j)
past_span kind low high k j inside =
    ap (λ b. in_span (span.Rows kind low high) (cell_key.Row j) && b) (sym (lt_row (key_cmp k j)))
    ∙ sym (narrowed_is false (span.Rows kind low high) (cell_key.Row k) (cell_key.Row j) tt inside)

pub same_where : {X : Type 0} (p q : Key → Bool) (es : List (Key × X)) → ((j : Key) → p j ≡ q j) → where_key key_cmp p es ≡ where_key key_cmp q es
same_where p q [] same = refl
same_where p q (e ∷ es) same = ap (λ b. cond b (e ∷ where_key key_cmp p es) (where_key key_cmp p es)) (same e.0) ∙ ap (λ xs. cond (q e.0) (e ∷ xs) xs) (same_where p q es same)

pub first_at : (schema : Schema) (w : World) (kind : ℕ) (low high : Edge) (k : Key) (row : Row) → IsValid schema w → in_span (span.Rows kind low high) (cell_key.Row k) ≡ true → row_at w k ≡ Some row
    → ((j : CellKey) → IsTrue (in_span (span.Rows kind low high) j) → IsTrue (is_lt (cell_key_cmp j (cell_key.Row k))) → cell_at schema w j ≡ None) → BeginsWith w kind low high (Some row)
first_at schema w kind low high k row valid inside found none =
    let own : row.key ≡ k = (valid.rows k row found).own_key in
    ap (λ es. map (λ (e : Key × Row). e.1) es)
    (where_first (λ j. in_span (span.Rows kind low high) (cell_key.Row j)) k row w.rows valid.rows_sorted inside found
    (λ j here below. none_back (row_at w j) (none (cell_key.Row j) here (lt_row (key_cmp j k) ∙ below)))
    ∙ ap (λ es. (k, row) ∷ es) (same_where _ _ w.rows (λ j. past_span kind low high k j inside)))
    ∙ ap (λ (x : Key). row ∷ range w (span.Rows kind (edge.Open x.id) high)) (sym own)

-- the first cell of a span of rows
pub begins : (schema : Schema) (w : World) (kind : ℕ) (low high : Edge) (found : Option (CellKey × Cell)) → IsValid schema w
    → IsFirstIn (cell_at schema w) (span.Rows kind low high) found → BeginsWith w kind low high (row_in found)
begins schema w kind low high None valid first =
    ap (λ es. map (λ (e : Key × Row). e.1) es) (where_none (λ j. in_span (span.Rows kind low high) (cell_key.Row j)) w.rows (λ j here. none_back (row_at w j) (first (cell_key.Row j) here)))
begins schema w kind low high (Some (cell_key.Row k, c)) valid first =
    let r = row_back (row_at w k) c first.1 in
    subst (λ (c : Cell). BeginsWith w kind low high (row_in (Some (cell_key.Row k, c)))) (sym r.2) (first_at schema w kind low high k r.0 valid first.0 r.1 first.2)
begins schema w kind low high (Some (cell_key.Back to from rel, c)) valid first = cc first.0
begins schema w kind low high (Some (cell_key.Counter n, c)) valid first = cc first.0

-- ---- as the recorder tells it

pub first_looks : {V : Type 0} (cells : V → Cells) (old : Recording V) (s : Span) (result : Result (Option (Bor CellKey × Bor Cell)) NoMemory) (new : Recording V) → LookedFirst cells old s result new → LooksAt anywhere old new
first_looks cells old s (Ok found) new looked = record { follows = first_follows cells old s found new looked; writes = looked.1.writes; within = λ k new old. refl }
first_looks cells old s (Err e) new looked = looks_still anywhere old new looked

pub last_looks : {V : Type 0} (cells : V → Cells) (old : Recording V) (s : Span) (result : Result (Option (Bor CellKey × Bor Cell)) NoMemory) (new : Recording V) → LookedLast cells old s result new → LooksAt anywhere old new
last_looks cells old s (Ok found) new looked = record { follows = last_follows cells old s found new looked; writes = looked.1.writes; within = λ k new old. refl }
last_looks cells old s (Err e) new looked = looks_still anywhere old new looked

pub first_sees : {V : Type 0} (cells : V → Cells) (schema : Schema) (old : Recording V) (kind : ℕ) (low high : Edge) (result : Result (Option (Bor CellKey × Bor Cell)) NoMemory) (found : Option (Bor CellKey × Bor Cell)) (new : Recording V)
    → result ≡ Ok found → LookedFirst cells old (span.Rows kind low high) result new → Sees schema cells old new (λ now. BeginsWith now kind low high (row_in (option_map pair_now found)))
first_sees cells schema old kind low high result found new is looked = λ w now behind leads.
    begins schema now kind low high (option_map pair_now found) behind.now_valid
    (first_looked_alike cells (cell_at schema w) (cell_at schema now) old (span.Rows kind low high) found new
    (subst (λ (r : Result (Option (Bor CellKey × Bor Cell)) NoMemory). LookedFirst cells old (span.Rows kind low high) r new) is looked) behind.agrees leads)

pub copy_begins : (w : World) (kind : ℕ) (low high : Edge) (result : Result (Option Row) NoMemory) (row : Option Row) → IfOk result (λ r. r ≡ row) → BeginsWith w kind low high row → IfOk result (BeginsWith w kind low high)
copy_begins w kind low high (Ok r) row is h = subst (BeginsWith w kind low high) (sym is) h
copy_begins w kind low high (Err e) row is h = tt

-- ---- whether there is a row

some_where : {X : Type 0} (p : Key → Bool) (k : Key) (x : X) (es : List (Key × X)) → p k ≡ true → find key_cmp k es ≡ Some x → is_some (first_item (map (λ (e : Key × X). e.1) (where_key key_cmp p es))) ≡ true
some_where p k x [] here found = cc found
some_where {X} p k x (e ∷ es) here found = by_bool (p e.0)
    (λ in_it. ap (λ (xs : List (Key × X)). is_some (first_item (map (λ (e : Key × X). e.1) xs))) (take_where p true e es in_it))
    (λ out.
    let other : same_key k e.0 ≡ false = by_bool (same_key k e.0) (λ same. cc (here, out, ap p (same_is k e.0 same))) (λ h. h) in
    ap (λ (xs : List (Key × X)). is_some (first_item (map (λ (e : Key × X). e.1) xs))) (take_where p false e es out) ∙ some_where p k x es here (sym (step k e es other) ∙ found))

there : (schema : Schema) (w : World) (kind : ℕ) (low high : Edge) (k : Key) (c : Cell) → in_span (span.Rows kind low high) (cell_key.Row k) ≡ true → cell_at schema w (cell_key.Row k) ≡ Some c
    → true ≡ is_some (first_item (range w (span.Rows kind low high)))
there schema w kind low high k c inside found =
    let r = row_back (row_at w k) c found in
    sym (some_where (λ j. in_span (span.Rows kind low high) (cell_key.Row j)) k r.0 w.rows inside r.1)

pub nothing : (schema : Schema) (w : World) (kind : ℕ) (low high : Edge) → ((j : CellKey) → IsTrue (in_span (span.Rows kind low high) j) → cell_at schema w j ≡ None) → false ≡ is_some (first_item (range w (span.Rows kind low high)))
nothing schema w kind low high none =
    ap (λ (es : List (Key × Row)). is_some (first_item (map (λ (e : Key × Row). e.1) es))) (sym (where_none (λ j. in_span (span.Rows kind low high) (cell_key.Row j)) w.rows (λ j here. none_back (row_at w j) (none (cell_key.Row j) here))))

first_there : (schema : Schema) (w : World) (kind : ℕ) (low high : Edge) (found : Option (CellKey × Cell)) → IsFirstIn (cell_at schema w) (span.Rows kind low high) found → is_some found ≡ is_some (first_item (range w (span.Rows kind low high)))
first_there schema w kind low high None first = nothing schema w kind low high first
first_there schema w kind low high (Some (cell_key.Row k, c)) first = there schema w kind low high k c first.0 first.1
first_there schema w kind low high (Some (cell_key.Back to from rel, c)) first = cc first.0
first_there schema w kind low high (Some (cell_key.Counter n, c)) first = cc first.0

last_there : (schema : Schema) (w : World) (kind : ℕ) (low high : Edge) (found : Option (CellKey × Cell)) → IsLastIn (cell_at schema w) (span.Rows kind low high) found → is_some found ≡ is_some (first_item (range w (span.Rows kind low high)))
last_there schema w kind low high None last = nothing schema w kind low high last
last_there schema w kind low high (Some (cell_key.Row k, c)) last = there schema w kind low high k c last.0 last.1
last_there schema w kind low high (Some (cell_key.Back to from rel, c)) last = cc last.0
last_there schema w kind low high (Some (cell_key.Counter n, c)) last = cc last.0

some_pair : (found : Option (Bor CellKey × Bor Cell)) → is_some found ≡ is_some (option_map pair_now found)
some_pair None = refl
some_pair (Some p) = refl

pub first_tells : {V : Type 0} (cells : V → Cells) (schema : Schema) (old : Recording V) (kind : ℕ) (low high : Edge) (result : Result (Option (Bor CellKey × Bor Cell)) NoMemory) (found : Option (Bor CellKey × Bor Cell)) (new : Recording V)
    → result ≡ Ok found → LookedFirst cells old (span.Rows kind low high) result new → Sees schema cells old new (λ now. is_some found ≡ is_some (first_item (range now (span.Rows kind low high))))
first_tells cells schema old kind low high result found new is looked = λ w now behind leads.
    some_pair found
    ∙ first_there schema now kind low high (option_map pair_now found)
    (first_looked_alike cells (cell_at schema w) (cell_at schema now) old (span.Rows kind low high) found new
    (subst (λ (r : Result (Option (Bor CellKey × Bor Cell)) NoMemory). LookedFirst cells old (span.Rows kind low high) r new) is looked) behind.agrees leads)

pub last_tells : {V : Type 0} (cells : V → Cells) (schema : Schema) (old : Recording V) (kind : ℕ) (low high : Edge) (result : Result (Option (Bor CellKey × Bor Cell)) NoMemory) (found : Option (Bor CellKey × Bor Cell)) (new : Recording V)
    → result ≡ Ok found → LookedLast cells old (span.Rows kind low high) result new → Sees schema cells old new (λ now. is_some found ≡ is_some (first_item (range now (span.Rows kind low high))))
last_tells cells schema old kind low high result found new is looked = λ w now behind leads.
    some_pair found
    ∙ last_there schema now kind low high (option_map pair_now found)
    (last_looked_alike cells (cell_at schema w) (cell_at schema now) old (span.Rows kind low high) found new
    (subst (λ (r : Result (Option (Bor CellKey × Bor Cell)) NoMemory). LookedLast cells old (span.Rows kind low high) r new) is looked) behind.agrees leads)
