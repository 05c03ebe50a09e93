-- A change of one row or one next id keeps a world valid.
use Rattle.std.proofs.Common.{◌≡◌, ℕ, ◌<◌, ◌≤◌, true, false, refl, sym, subst, ◌∙◌, Some, None, arith}
use Rattle.std.specs.Prelude.{cond, IsTrue, is_some, unwrap_or, length}
use Rattle.std.specs.Ordering.{nat_cmp, eq_by_cmp}
use Rattle.std.specs.Cmp.{nat_cmp_total}
use Rattle.std.specs.FinMap.{nat_cmp-IsAntisymmetric}
use Rattle.std.specs.FinMap.Entries.{find, find-put, is_sorted-put}
use Rattle.ident_rules.specs.declared.key.Key.{Key}
use Rattle.ident_rules.specs.IdOrder.{number_is, is_equal}
use Rattle.resource_schema.specs.declared.schema.Schema.{Schema}
use Rattle.world_cells.specs.declared.rows.Row.{Row}
use Rattle.ident_rules.specs.Key.{key_cmp, key_cmp_total, same_key, key_is}
use Rattle.world_cells.specs.World.{World, row_at, has_row, next_id}
use Rattle.world_cells.specs.declared.cells.TheConstants.{LAST_NEXT_ID}
use Rattle.store_model.specs.Valid.{IsValidRow, IsValid}
use Rattle.store_model.specs.Change.{with_row, with_next}
use Rattle.store_model.specs.CellLaws.{row-with_row}
use Rattle.store_model.proofs.Basics.{same_Some}

-- no row and no number is taken away
pub record Grows (w v : World) : Type 0 where
  pub rows : (k : Key) → IsTrue (has_row w k) → IsTrue (has_row v k)
  pub counts : (kind : ℕ) → next_id w kind ≤ next_id v kind

pub still_valid : (schema : Schema) (w v : World) (k : Key) (row : Row) → Grows w v → IsValidRow schema w k row → IsValidRow schema v k row
still_valid schema w v k row grows valid = record {
  own_key = valid.own_key;
  known = valid.known;
  values = valid.values;
  links = valid.links;
  leads_to_rows = λ rel to leads. grows.rows to (valid.leads_to_rows rel to leads);
  counted = λ digits. (
    (valid.counted digits).0,
    (valid.counted digits).1,
    (valid.counted digits).2,
    below ((valid.counted digits).0) ((valid.counted digits).3) (grows.counts k.kind),
  );
}
  where
    below : (n : ℕ) → n < next_id w k.kind → next_id w k.kind ≤ next_id v k.kind → n < next_id v k.kind
    below n a b = omega arith

-- ---- next ids

pub next_in_range : (schema : Schema) (w : World) (kind : ℕ) → IsValid schema w → (1 ≤ next_id w kind) × (next_id w kind ≤ LAST_NEXT_ID)
next_in_range schema w kind valid =
    elim (find nat_cmp kind w.counters) as (λ o. find nat_cmp kind w.counters ≡ o → (1 ≤ unwrap_or o 1) × (unwrap_or o 1 ≤ LAST_NEXT_ID)) [
      | None ↦ λ e. (omega arith, omega arith)
      | Some n ↦ λ e. let c = valid.counters kind n e in (above n c.1, c.2)
    ] refl
  where
    above : (n : ℕ) → 1 < n → 1 ≤ n
    above n l = omega arith

pub counter-with_next : (w : World) (kind n j : ℕ) → find nat_cmp j ((with_next w kind n).counters) ≡ cond (eq_by_cmp nat_cmp j kind) (Some n) (find nat_cmp j w.counters)
counter-with_next w kind n j = find-put nat_cmp nat_cmp_total j kind n w.counters

pub grows_with_next : (w : World) (kind n : ℕ) → next_id w kind ≤ n → Grows w (with_next w kind n)
grows_with_next w kind n low = record {
  rows = λ k there. there;
  counts = λ j. subst (λ o. next_id w j ≤ unwrap_or o 1) (sym (counter-with_next w kind n j)) (
      elim (eq_by_cmp nat_cmp j kind) as (λ b. eq_by_cmp nat_cmp j kind ≡ b → next_id w j ≤ unwrap_or (cond b (Some n) (find nat_cmp j w.counters)) 1) [
        | true ↦ λ e. subst (λ i. next_id w i ≤ n) (sym (number_is j kind e)) low
        | false ↦ λ e. omega arith
      ] refl);
}

pub valid_with_next : (schema : Schema) (w : World) (kind n : ℕ) → IsValid schema w → kind < length schema → next_id w kind ≤ n → 1 < n → n ≤ LAST_NEXT_ID → IsValid schema (with_next w kind n)
valid_with_next schema w kind n valid known low some high = record {
  rows_sorted = valid.rows_sorted;
  counters_sorted = is_sorted-put nat_cmp nat_cmp_total kind n w.counters valid.counters_sorted;
  rows = λ k row is. still_valid schema w (with_next w kind n) k row (grows_with_next w kind n low) (valid.rows k row is);
  counters = λ j m is.
      elim (eq_by_cmp nat_cmp j kind) as (λ b. eq_by_cmp nat_cmp j kind ≡ b → cond b (Some n) (find nat_cmp j w.counters) ≡ Some m → (j < length schema) × (1 < m) × (m ≤ LAST_NEXT_ID)) [
        | true ↦ λ e is. (subst (λ i. i < length schema) (sym (number_is j kind e)) known, subst (λ i. 1 < i) (same_Some n m is) some, subst (λ i. i ≤ LAST_NEXT_ID) (same_Some n m is) high)
        | false ↦ λ e is. valid.counters j m is
      ] refl (sym (counter-with_next w kind n j) ∙ is);
}

-- ---- rows

pub grows_with_row : (w : World) (row : Row) → Grows w (with_row w row)
grows_with_row w row = record {
  rows = λ k there. subst (λ o. IsTrue (is_some o)) (sym (row-with_row w row k)) (
      elim (eq_by_cmp key_cmp k row.key) as (λ b. IsTrue (is_some (cond b (Some row) (row_at w k)))) [ true ↦ refl | false ↦ there ]);
  counts = λ kind. omega arith;
}

pub valid_with_row : (schema : Schema) (w : World) (row : Row) → IsValid schema w → IsValidRow schema (with_row w row) row.key row → IsValid schema (with_row w row)
valid_with_row schema w row valid new = record {
  rows_sorted = is_sorted-put key_cmp key_cmp_total row.key row w.rows valid.rows_sorted;
  counters_sorted = valid.counters_sorted;
  rows = λ k r is.
      elim (same_key k row.key) as (λ b. same_key k row.key ≡ b → cond b (Some row) (row_at w k) ≡ Some r → IsValidRow schema (with_row w row) k r) [
        | true ↦ λ e is. subst (λ r. IsValidRow schema (with_row w row) k r) (same_Some row r is) (subst (λ k. IsValidRow schema (with_row w row) k row) (sym (key_is k row.key e)) new)
        | false ↦ λ e is. still_valid schema w (with_row w row) k r (grows_with_row w row) (valid.rows k r is)
      ] refl (sym (row-with_row w row k) ∙ is);
  counters = valid.counters;
}
