-- The first and the last of some rows.
use Rattle.std.proofs.Common.{◌≡◌, ℕ, zero, suc, ◌<◌, ◌-◌, List, [], ◌∷◌, length, get_or, Option, Some, None, Bool, false, refl, sym, ap, ◌∙◌, arith}
use Rattle.std.specs.Prelude.{is_some, IsTrue, ◌||◌}
use Rattle.std.proofs.Common.{true}
use Rattle.world_cells.specs.declared.keys.CellKey.{CellKey}
use Rattle.page_select.specs.Looks.{first_part, last_part}
use Rattle.std.specs.Option.{option_map_or}
use Rattle.std.specs.List.{last_or}
use Rattle.world_cells.specs.declared.rows.Row.{Row}
use Rattle.world_cells.specs.declared.spans.Edge.TheVariants as edge
use Rattle.world_cells.specs.declared.spans.Span.TheVariants as span
use Rattle.world_cells.specs.World.{World}
use Rattle.store_model.specs.Pages.{first_item, last_item}
use Rattle.page_select.specs.Ranges.{range}
use Rattle.page_select.specs.Flanks.{row_before, row_after, flank_part}

pub first_is : (xs : List Row) (x : Row) → 0 < length xs → x ≡ get_or xs 0 x → first_item xs ≡ Some x
first_is [] x lt is = absurd (omega arith)
first_is (y ∷ ys) x lt is = ap (λ (z : Row). Some z) (sym is)

last_at : (o : Option Row) (xs : List Row) (i : ℕ) (d : Row) → suc i ≡ length xs → last_or o xs ≡ Some (get_or xs i d)
last_at o [] i d is = absurd (omega arith)
last_at o (x ∷ []) zero d is = refl
last_at o (x ∷ []) (suc i) d is = absurd (omega arith)
last_at o (x ∷ y ∷ ys) zero d is = absurd (omega arith)
last_at o (x ∷ y ∷ ys) (suc i) d is = last_at (Some x) (y ∷ ys) i d (omega arith)

pub last_is : (xs : List Row) (x : Row) (n : ℕ) → 0 < n → n ≡ length xs → x ≡ get_or xs (n - 1) x → last_item xs ≡ Some x
last_is xs x n some is same = last_at None xs (n - 1) x (omega arith) ∙ ap (λ (z : Row). Some z) (sym same)

pub tells_before : (w : World) (kind : ℕ) (xs : List Row) (x : Row) (b : Bool) → 0 < length xs → x ≡ get_or xs 0 x → b ≡ is_some (first_item (range w (span.Rows kind edge.End (edge.Open x.key.id)))) → b ≡ row_before w kind xs
tells_before w kind xs x b lt is told =
    told ∙ sym (ap (λ o. option_map_or (λ (row : Row). is_some (first_item (range w (span.Rows kind edge.End (edge.Open row.key.id))))) o false) (first_is xs x lt is))

pub tells_after : (w : World) (kind : ℕ) (xs : List Row) (x : Row) (n : ℕ) (b : Bool) → 0 < n → n ≡ length xs → x ≡ get_or xs (n - 1) x → b ≡ is_some (first_item (range w (span.Rows kind (edge.Open x.key.id) edge.End))) → b ≡ row_after w kind xs
tells_after w kind xs x n b some is same told =
    told ∙ sym (ap (λ o. option_map_or (λ (row : Row). is_some (first_item (range w (span.Rows kind (edge.Open row.key.id) edge.End)))) o false) (last_is xs x n some is same))

or_left : (a b : Bool) → a ≡ true → (a || b) ≡ true
or_left true b e = refl
or_left false b e = cc e

or_right : (a b : Bool) → b ≡ true → (a || b) ≡ true
or_right true b e = refl
or_right false b e = e

pub flank_left : (w : World) (kind : ℕ) (xs : List Row) (x : Row) (k : CellKey) → 0 < length xs → x ≡ get_or xs 0 x → IsTrue (last_part kind edge.End (edge.Open x.key.id) w k) → IsTrue (flank_part kind xs w k)
flank_left w kind xs x k some is e =
    or_left _ (option_map_or (λ (row : Row). first_part kind (edge.Open row.key.id) edge.End w k) (last_item xs) false)
    (ap (λ o. option_map_or (λ (row : Row). last_part kind edge.End (edge.Open row.key.id) w k) o false) (first_is xs x some is) ∙ e)

pub flank_right : (w : World) (kind : ℕ) (xs : List Row) (x : Row) (n : ℕ) (k : CellKey) → 0 < n → n ≡ length xs → x ≡ get_or xs (n - 1) x → IsTrue (first_part kind (edge.Open x.key.id) edge.End w k) → IsTrue (flank_part kind xs w k)
flank_right w kind xs x n k some is same e =
    or_right (option_map_or (λ (row : Row). last_part kind edge.End (edge.Open row.key.id) w k) (first_item xs) false) _
    (ap (λ o. option_map_or (λ (row : Row). first_part kind (edge.Open row.key.id) edge.End w k) o false) (last_is xs x n some is same) ∙ e)
