-- Cells under writes that are applied from the last to the first.
use Rattle.std.proofs.Common.{◌≡◌, Bool, true, false, cond, List, [], ◌∷◌, ◌++◌, Option, Some, None, refl, ap, sym, ◌∙◌}
use Rattle.std.specs.Prelude.{unwrap_or}
use Rattle.std.specs.FinMap.Entries.{find, find-put}
use Rattle.world_cells.specs.declared.keys.CellKey.{CellKey}
use Rattle.world_cells.specs.declared.cells.Cell.{Cell}
use Rattle.world_cells.specs.declared.sets.Written.{Written}
use Rattle.world_cells.specs.CellOrder.{cell_key_cmp, cell_key_cmp_total, same_cell_key}
use Rattle.world_cells.specs.Reads.{Cells, entries_of, overlay}
use Rattle.view_reads.specs.Merging.{nothing}
use Rattle.view_reads.specs.Places.{Wrote}

or_else : (b : Bool) (cell : Option Cell) (o : Option (Option Cell)) (c : Option Cell) → unwrap_or (cond b (Some cell) o) c ≡ cond b cell (unwrap_or o c)
or_else true cell o c = refl
or_else false cell o c = refl

-- one write
pub wrote-at : (f : Cells) (old new : List Written) (key : CellKey) (cell : Option Cell) → Wrote old key cell new → (k : CellKey) → overlay f new k ≡ cond (same_cell_key k key) cell (overlay f old k)
wrote-at f old new key cell wrote k =
    ap (λ es. unwrap_or (find cell_key_cmp k es) (f k)) wrote
    ∙ ap (λ o. unwrap_or o (f k)) (find-put cell_key_cmp cell_key_cmp_total k key cell (entries_of old))
    ∙ or_else (same_cell_key k key) cell (find cell_key_cmp k (entries_of old)) (f k)

-- the last of the writes is under the others
pub last-first : (f : Cells) (xs : List Written) (w : Written) (k : CellKey) → overlay f (xs ++ w ∷ []) k ≡ overlay (λ j. cond (same_cell_key j w.key) w.cell (f j)) xs k
last-first f [] w k = or_else (same_cell_key k w.key) w.cell None (f k)
last-first f (x ∷ xs) w k =
    or_else (same_cell_key k x.key) x.cell (find cell_key_cmp k (entries_of (xs ++ w ∷ []))) (f k)
    ∙ ap (cond (same_cell_key k x.key) x.cell) (last-first f xs w k)
    ∙ sym (or_else (same_cell_key k x.key) x.cell (find cell_key_cmp k (entries_of xs)) (cond (same_cell_key k w.key) w.cell (f k)))

alike : (f g : Cells) → ((k : CellKey) → f k ≡ g k) → (xs : List Written) (k : CellKey) → overlay f xs k ≡ overlay g xs k
alike f g same xs k = ap (unwrap_or (find cell_key_cmp k (entries_of xs))) (same k)

-- the cells now, under the writes that are left, are those at first under all
abbrev pub IsHalfway : List Written → List Written → List Written → List Written → Type 0
IsHalfway first all now left = (k : CellKey) → overlay (overlay nothing now) left k ≡ overlay (overlay nothing first) all k

pub halfway-more : (first all now left later rest : List Written) (w : Written) → left ≡ rest ++ w ∷ [] → Wrote now w.key w.cell later → IsHalfway first all now left → IsHalfway first all later rest
halfway-more first all now left later rest w is wrote so_far k =
    alike (overlay nothing later) (λ j. cond (same_cell_key j w.key) w.cell (overlay nothing now j)) (wrote-at nothing now later w.key w.cell wrote) rest k
    ∙ sym (last-first (overlay nothing now) rest w k)
    ∙ ap (λ l. overlay (overlay nothing now) l k) (sym is)
    ∙ so_far k
