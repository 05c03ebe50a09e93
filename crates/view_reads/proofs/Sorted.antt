-- Writes in strictly ascending order of keys.
use Rattle.std.proofs.Common.{◌≡◌, List, [], ◌∷◌, map, refl, sym, subst, Bool, true, false, Option, T, Result, Ok, Err}
use Rattle.std.specs.Prelude.{◌&&◌, OnOk, OnErr}
use Rattle.std.specs.FinMap.Entries.{is_sorted, is_sorted-put}
use Rattle.ident_rules.specs.declared.memory.NoMemory.{NoMemory}
use Rattle.world_cells.specs.declared.keys.CellKey.{CellKey}
use Rattle.world_cells.specs.declared.cells.Cell.{Cell}
use Rattle.world_cells.specs.declared.sets.Written.{Written}
use Rattle.world_cells.specs.CellOrder.{cell_key_cmp, cell_key_cmp_total}
use Rattle.world_cells.specs.Reads.{entries_of, AreRisingKeys}
use Rattle.view_reads.specs.Places.{AreSorted, Wrote}

pub both_T : (a b : Bool) → T (a && b) → T a × T b
both_T true b h = (tt, h)
both_T false b h = absurd h

pub true_T : (b : Bool) → T b → b ≡ true
true_T true h = refl
true_T false h = absurd h

pub rising : (ws : List Written) → AreSorted ws → AreRisingKeys (map (λ w. w.key) ws)
rising [] h = tt
rising (w ∷ []) h = tt
rising (w ∷ v ∷ ws) h =
    let parts = both_T _ _ h in
    (true_T _ (both_T _ _ parts.0).0, rising (v ∷ ws) parts.1)

pub wrote_sorted : (old new : List Written) (key : CellKey) (cell : Option Cell) → AreSorted old → Wrote old key cell new → AreSorted new
wrote_sorted old new key cell h is = subst (λ (es : List (CellKey × Option Cell)). T (is_sorted cell_key_cmp es)) (sym is) (is_sorted-put cell_key_cmp cell_key_cmp_total key cell (entries_of old) h)

pub still_sorted : {A : Type 0} (r : Result A NoMemory) (old new : List Written) (key : CellKey) (cell : Option Cell) → AreSorted old
    → OnOk r (Wrote old key cell new) → OnErr r (new ≡ old) → AreSorted new
still_sorted (Ok a) old new key cell h ok err = wrote_sorted old new key cell h ok
still_sorted (Err e) old new key cell h ok err = subst AreSorted (sym err) h
