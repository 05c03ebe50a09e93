-- Rows at distinct keys of one type, and rows of a type, are told apart by their ids.
use Rattle.std.proofs.Common.{◌≡◌, ℕ, ◌+◌, ◌<◌, List, [], ◌∷◌, ◌++◌, true, false, Option, Some, None, take, get_or, length, refl, sym, ap, subst, ◌∙◌, arith, inl, inr, append-nil}
use Rattle.std.specs.Prelude.{◌==◌}
use Rattle.std.specs.List.{IsDistinct, AllByRecursion, cons_option}
use Rattle.std.proofs.lemmas.List.{take_more}
use Rattle.std.proofs.lemmas.List.Elements.{filter_map-append}
use Rattle.std.specs.declared.cmp.Ordering.{Ordering}
use Rattle.std.specs.declared.cmp.Ordering.TheVariants.{Less, Equal, Greater}
use Rattle.std.specs.Ordering.{is_eq}
use Rattle.ident_rules.specs.declared.key.Key.{Key}
use Rattle.ident_rules.specs.IdOrder.{id_cmp, id_is}
use Rattle.ident_rules.specs.Key.{same_key, key_itself}
use Rattle.resource_schema.specs.declared.schema.Schema.{Schema}
use Rattle.world_cells.specs.declared.keys.CellKey.{CellKey}
use Rattle.world_cells.specs.declared.keys.CellKey.TheVariants as cell_key
use Rattle.world_cells.specs.declared.rows.Row.{Row}
use Rattle.world_cells.specs.declared.spans.Edge.TheVariants as edge
use Rattle.world_cells.specs.declared.spans.Span.TheVariants as span
use Rattle.world_cells.specs.Lists.{IsIn}
use Rattle.world_cells.specs.World.{World, row_at}
use Rattle.store_model.specs.Valid.{IsValid}
use Rattle.store_model.specs.Pages.{place_of, place_cmp_total, rows_at, rows_of}
use Rattle.store_model.specs.Reach.{is_row_of}
use Rattle.view_reads.specs.SpanLaws.{and_true}
use Rattle.page_select.specs.Ranges.{range}
use Rattle.page_select.specs.Orders.{AreInOrder, same_row}
use Rattle.page_select.specs.Chosen.{AreListed}
use Rattle.page_select.specs.Scans.{IsScannedUp, IsEnough, edge_past, read_up}
use Rattle.page_select.proofs.Tests.{by_bool, kind_back}
use Rattle.page_select.proofs.Own.{own_of}
use Rattle.page_select.proofs.Paged.{rows_in_order, rows_all}
use Rattle.page_select.proofs.PageReach.{in_rows}

-- ---- at keys

module _ (schema : Schema) (now : World) (valid : IsValid schema now) where
  keys_apart : (key other : Key) (row y : Row) → row.key ≡ key → row_at now other ≡ Some y → key.kind ≡ other.kind → same_key key other ≡ false → same_row row y ≡ false
  keys_apart key other row y own found kinds apart = by_bool (same_row row y)
      (λ same.
      let ids : row.key.id ≡ y.key.id = id_is row.key.id y.key.id same in
      let there : y.key ≡ other = (valid.rows other y found).own_key in
      let one : key.id ≡ other.id = sym (ap (λ (k : Key). k.id) own) ∙ ids ∙ ap (λ (k : Key). k.id) there in
      let keys : key ≡ other = λ i. record { kind = kinds i; id = one i } in
      cc (apart, ap (same_key key) (sym keys), key_itself key))
      (λ e. e)

  all_apart : (key : Key) (row : Row) (keys : List Key) → row.key ≡ key → ((k : Key) → IsIn keys k → key.kind ≡ k.kind) → AllByRecursion (λ k. same_key key k ≡ false) keys → AllByRecursion (λ y. same_row row y ≡ false) (rows_at now keys)
  all_apart key row [] own kinds apart = tt
  all_apart key row (k ∷ keys) own kinds apart = by_found (row_at now k) refl (all_apart key row keys own (λ j h. kinds j (inr h)) apart.1)
    where
      by_found : (o : Option Row) → row_at now k ≡ o → AllByRecursion (λ y. same_row row y ≡ false) (rows_at now keys) → AllByRecursion (λ y. same_row row y ≡ false) (cons_option (row_at now k) (rows_at now keys))
      by_found None e rest = subst (λ (o : Option Row). AllByRecursion (λ y. same_row row y ≡ false) (cons_option o (rows_at now keys))) (sym e) rest
      by_found (Some y) e rest = subst (λ (o : Option Row). AllByRecursion (λ y. same_row row y ≡ false) (cons_option o (rows_at now keys))) (sym e) (
        keys_apart key k row y own e (kinds k (inl refl)) apart.0,
        rest,
      )

  distinct_rows : (keys : List Key) → IsDistinct same_key keys → ((a b : Key) → IsIn keys a → IsIn keys b → a.kind ≡ b.kind) → IsDistinct same_row (rows_at now keys)
  unfolding IsDistinct
  distinct_rows [] distinct kinds = tt
  distinct_rows (k ∷ keys) distinct kinds = by_found distinct.0 (row_at now k) refl (distinct_rows keys distinct.1 (λ a b ha hb. kinds a b (inr ha) (inr hb)))
    where
      by_found : AllByRecursion (λ j. same_key k j ≡ false) keys → (o : Option Row) → row_at now k ≡ o → IsDistinct same_row (rows_at now keys) → IsDistinct same_row (cons_option (row_at now k) (rows_at now keys))
      by_found first None e rest = subst (λ (o : Option Row). IsDistinct same_row (cons_option o (rows_at now keys))) (sym e) rest
      by_found first (Some row) e rest = subst (λ (o : Option Row). IsDistinct same_row (cons_option o (rows_at now keys))) (sym e) (
        all_apart k row keys (valid.rows k row e).own_key (λ j h. kinds k j (inl refl) (inr h)) first,
        rest,
      )

  pub listed_apart : (keys : List Key) → AreListed keys → IsDistinct same_row (rows_at now keys)
  listed_apart keys listed = distinct_rows keys listed.distinct listed.one_kind

-- one key more
pub one_found : (now : World) (keys : List Key) (i : ℕ) (d : Key) (rows more : List Row) (found : Option Row) → i < length keys → found ≡ row_at now (get_or keys i d) → rows ≡ rows_at now (take i keys) → more ≡ rows ++ cons_option found []
    → more ≡ rows_at now (take (i + 1) keys)
one_found now keys i d rows more found lt is so_far pushed =
    pushed ∙ ap (λ xs. xs ++ cons_option found []) so_far ∙ ap (λ o. rows_at now (take i keys) ++ cons_option o []) is
    ∙ sym (ap (rows_at now) (take_more keys i d lt) ∙ filter_map-append (row_at now) (take i keys) (get_or keys i d ∷ []))

-- ---- of a type

lt_apart : (o : Ordering) → o ≡ Less → is_eq o ≡ false
lt_apart Less e = refl
lt_apart Equal e = cc e
lt_apart Greater e = refl

skip : (x y : Row) (ys : List Row) → AreInOrder [] (x ∷ y ∷ ys) → AreInOrder [] (x ∷ ys)
skip x y [] h = tt
skip x y (z ∷ zs) h = ((place_cmp_total []).trans (place_of [] x) (place_of [] y) (place_of [] z) h.0 h.1.0, h.1.1)

all_behind : (x : Row) (ys : List Row) → AreInOrder [] (x ∷ ys) → AllByRecursion (λ y. same_row x y ≡ false) ys
all_behind x [] h = tt
all_behind x (y ∷ ys) h = (lt_apart (id_cmp x.key.id y.key.id) h.0, all_behind x ys (skip x y ys h))

tail : (x : Row) (xs : List Row) → AreInOrder [] (x ∷ xs) → AreInOrder [] xs
tail x [] h = tt
tail x (y ∷ xs) h = h.1

in_order_apart : (xs : List Row) → AreInOrder [] xs → IsDistinct same_row xs
unfolding IsDistinct
in_order_apart [] h = tt
in_order_apart (x ∷ xs) h = (all_behind x xs h, in_order_apart xs (tail x xs h))

pub kind_apart : (schema : Schema) (now : World) (kind : ℕ) → IsValid schema now → IsDistinct same_row (rows_of now kind)
kind_apart schema now kind valid = in_order_apart (rows_of now kind) (rows_in_order schema now kind valid)

-- a scan that has room finds them all
pub all_scanned : (schema : Schema) (now : World) (kind size : ℕ) (rows : List Row) → IsValid schema now → length rows < size → IsScannedUp now kind edge.End edge.End size rows → rows ≡ rows_of now kind
all_scanned schema now kind size rows valid few scan = by_enough scan.enough
  where
    by_enough : IsEnough size rows (range now (span.Rows kind (edge_past edge.End rows) edge.End)) → rows ≡ rows_of now kind
    by_enough (inl full) = absurd (omega (arith, full, few))
    by_enough (inr none) = sym (rows_all now kind (own_of schema now valid) ∙ scan.split ∙ ap (λ xs. rows ++ xs) none.1 ∙ append-nil rows)

pub scan_of_kind : (kind size : ℕ) (rows : List Row) (k : CellKey) → read_up kind edge.End edge.End size rows k ≡ true → is_row_of (λ key. key.kind == kind) k ≡ true
scan_of_kind kind size rows (cell_key.Row j) e = kind_back j.kind kind (in_rows kind edge.End edge.End j (and_true _ _ e).0).of_kind
scan_of_kind kind size rows (cell_key.Back to from rel) e = cc e
scan_of_kind kind size rows (cell_key.Counter n) e = cc e
