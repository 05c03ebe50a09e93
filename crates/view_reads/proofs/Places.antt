-- Putting an entry into a list in order, place by place.
use Rattle.std.proofs.Common.{inl, inr, zero, suc, subst, T, true, ◌≡◌, ℕ, ◌+◌, ◌<◌, ◌≤◌, List, [], ◌∷◌, ◌++◌, length, get_or, take, drop, set, map, refl, sym, ap, ◌∙◌, arith, add-one, Some, None, Option}
use Rattle.std.specs.Prelude.{insert}
use Rattle.std.specs.List.{take-map, drop-map}
use Rattle.std.specs.declared.cmp.Ordering.TheVariants.{Less, Equal, Greater}
use Rattle.std.specs.FinMap.Entries.{put, find, by_order, below_all}
use Rattle.std.specs.Ordering.{is_eq, is_lt, is_gt}
use Rattle.std.specs.Prelude.{cond}
use Rattle.std.proofs.lemmas.List.{drop_more, set_split, map-set, map-append, length-map, get_or_default}
use Rattle.std.proofs.Math.Seq.{drop-length}
use Rattle.std.proofs.lemmas.Bool.{cases_lt}
use Rattle.world_cells.specs.declared.keys.CellKey.{CellKey}
use Rattle.world_cells.specs.declared.cells.Cell.{Cell}
use Rattle.world_cells.specs.declared.sets.Written.{Written}
use Rattle.world_cells.specs.CellOrder.{cell_key_cmp}
use Rattle.world_cells.specs.Reads.{entries_of}
use Rattle.view_reads.specs.Places.{AreSorted, IsFrom, IsThere, IsBetween, Wrote}
use Rattle.view_reads.proofs.Sorted.{both_T, true_T}
use Rattle.view_reads.proofs.Puts.{not_below_above, absent_below, rest_sorted}

abbrev pub entry_of : Written → CellKey × Option Cell
entry_of w = (w.key, w.cell)

pub below_at : (k : CellKey) (ws : List Written) (i : ℕ) (d : Written) → i < length ws → T (below_all cell_key_cmp k (entries_of ws)) → is_lt (cell_key_cmp k (get_or ws i d).key) ≡ true
below_at k [] i d lt h = absurd (omega arith)
below_at k (w ∷ ws) zero d lt h = true_T _ (both_T _ _ h).0
below_at k (w ∷ ws) (suc i) d lt h = below_at k ws i d (omega arith) (both_T _ _ h).1

-- a key above what is above w is above w
greater_far : (key k m : CellKey) → cell_key_cmp key m ≡ Greater → is_lt (cell_key_cmp k m) ≡ true → cell_key_cmp key k ≡ Greater
greater_far key k m greater less = not_below_above key m k (ap is_lt greater) less

-- past a lesser key of writes in order
past : (key : CellKey) (ws : List Written) (i : ℕ) (d : Written) → i < length ws → AreSorted ws → cell_key_cmp key (get_or ws i d).key ≡ Greater → IsFrom ws key (suc i)
past key [] i d lt h greater = absurd (omega arith)
past key (w ∷ ws) zero d lt h greater = record {
  puts = λ cell. ap (λ o. by_order o ((key, cell) ∷ entries_of (w ∷ ws)) ((w.key, cell) ∷ entries_of ws) (entry_of w ∷ put cell_key_cmp key cell (entries_of ws))) greater;
  finds = ap (λ o. cond (is_eq o) (Some w.cell) (find cell_key_cmp key (entries_of ws))) greater;
}
past key (w ∷ ws) (suc i) d lt h greater =
    let inner : i < length ws = omega arith in
    let parts = both_T _ _ h in
    let above : cell_key_cmp key w.key ≡ Greater = greater_far key w.key (get_or ws i d).key greater (below_at w.key ws i d inner parts.0) in
    let rest = past key ws i d inner parts.1 greater in
    record {
      puts = λ cell. ap (λ o. by_order o ((key, cell) ∷ entries_of (w ∷ ws)) ((w.key, cell) ∷ entries_of ws) (entry_of w ∷ put cell_key_cmp key cell (entries_of ws))) above ∙ ap (λ es. entry_of w ∷ es) (rest.puts cell);
      finds = ap (λ o. cond (is_eq o) (Some w.cell) (find cell_key_cmp key (entries_of ws))) above ∙ rest.finds;
    }

pub from_start : (ws : List Written) (key : CellKey) → IsFrom ws key 0
from_start ws key = record { puts = λ cell. refl; finds = refl }

pub from_past : (ws : List Written) (key : CellKey) (i n : ℕ) (d : Written) → i < length ws → n ≡ i + 1 → AreSorted ws → cell_key_cmp key (get_or ws i d).key ≡ Greater → IsFrom ws key n
from_past ws key i n d lt e h greater = subst (λ (m : ℕ). IsFrom ws key m) (let next : suc i ≡ n = omega arith in next) (past key ws i d lt h greater)

entries_from : (ws : List Written) (i : ℕ) (d : Written) → i < length ws → drop i (entries_of ws) ≡ entry_of (get_or ws i d) ∷ drop (i + 1) (entries_of ws)
entries_from ws i d lt = drop-map entry_of i ws ∙ ap (map entry_of) (drop_more ws i d lt) ∙ ap (λ es. entry_of (get_or ws i d) ∷ es) (sym (drop-map entry_of (i + 1) ws))

pub there : (ws : List Written) (key : CellKey) (at : ℕ) (d : Written) → at < length ws → IsFrom ws key at → cell_key_cmp key (get_or ws at d).key ≡ Equal → IsThere ws key at
there ws key at d lt before equal = record {
  within = lt;
  finds = λ d'.
      let same : get_or ws at d' ≡ get_or ws at d = get_or_default ws at d' d lt in
      before.finds ∙ ap (find cell_key_cmp key) (entries_from ws at d lt) ∙ ap (λ o. cond (is_eq o) (Some (get_or ws at d).cell) (find cell_key_cmp key (drop (at + 1) (entries_of ws)))) equal
      ∙ ap (λ (w : Written). Some w.cell) (sym same);
  puts = λ cell d'.
      let same : get_or ws at d' ≡ get_or ws at d = get_or_default ws at d' d lt in
      before.puts cell ∙ ap (λ es. take at (entries_of ws) ++ put cell_key_cmp key cell es) (entries_from ws at d lt)
      ∙ ap (λ o. take at (entries_of ws) ++ by_order o ((key, cell) ∷ entry_of (get_or ws at d) ∷ drop (at + 1) (entries_of ws)) (((get_or ws at d).key, cell) ∷ drop (at + 1) (entries_of ws)) (entry_of (get_or ws at d) ∷ put cell_key_cmp key cell (drop (at + 1) (entries_of ws)))) equal
      ∙ ap (λ n. take at (entries_of ws) ++ ((get_or ws at d).key, cell) ∷ drop n (entries_of ws)) (add-one at)
      ∙ sym (set_split (entries_of ws) at ((get_or ws at d).key, cell) (let e = length-map ws entry_of in omega (arith, e)))
      ∙ ap (λ (w : Written). set (entries_of ws) at (w.key, cell)) (sym same);
}

absent_from : (key : CellKey) (w : Written) (ws : List Written) → AreSorted (w ∷ ws) → cell_key_cmp key w.key ≡ Less → find cell_key_cmp key (entries_of (w ∷ ws)) ≡ None
absent_from key w ws h less =
    ap (λ o. cond (is_eq o) (Some w.cell) (find cell_key_cmp key (entries_of ws))) less ∙ absent_below key w.key (entries_of ws) (both_T _ _ h).0 (ap is_gt less)

pub between : (ws : List Written) (key : CellKey) (at : ℕ) (d : Written) → at < length ws → AreSorted ws → IsFrom ws key at → cell_key_cmp key (get_or ws at d).key ≡ Less → IsBetween ws key at
between ws key at d lt h before less = record {
  within = omega arith;
  finds =
      before.finds ∙ ap (find cell_key_cmp key) (drop-map entry_of at ws ∙ ap (map entry_of) (drop_more ws at d lt))
      ∙ absent_from key (get_or ws at d) (drop (at + 1) ws) (rest_sorted ws at d lt h) less;
  puts = λ cell. before.puts cell ∙ ap (λ es. take at (entries_of ws) ++ put cell_key_cmp key cell es) (entries_from ws at d lt)
      ∙ ap (λ o. take at (entries_of ws) ++ by_order o ((key, cell) ∷ entry_of (get_or ws at d) ∷ drop (at + 1) (entries_of ws)) (((get_or ws at d).key, cell) ∷ drop (at + 1) (entries_of ws)) (entry_of (get_or ws at d) ∷ put cell_key_cmp key cell (drop (at + 1) (entries_of ws)))) less
      ∙ ap (λ es. take at (entries_of ws) ++ (key, cell) ∷ es) (sym (entries_from ws at d lt));
}

pub at_end : (ws : List Written) (key : CellKey) → IsFrom ws key (length ws) → IsBetween ws key (length ws)
at_end ws key before = record {
  within = omega arith;
  finds = before.finds ∙ ap (find cell_key_cmp key) (drop-map entry_of (length ws) ws ∙ ap (map entry_of) (drop-length ws));
  puts = λ cell.
      let none : drop (length ws) (entries_of ws) ≡ [] = drop-map entry_of (length ws) ws ∙ ap (map entry_of) (drop-length ws) in
      before.puts cell ∙ ap (λ es. take (length ws) (entries_of ws) ++ put cell_key_cmp key cell es) none ∙ ap (λ es. take (length ws) (entries_of ws) ++ (key, cell) ∷ es) (sym none);
}

-- what the places give of the writes themselves
pub wrote_over : (ws : List Written) (key : CellKey) (cell : Option Cell) (at : ℕ) (d : Written) → IsThere ws key at → Wrote ws key cell (set ws at (record { key = (get_or ws at d).key; cell = cell }))
wrote_over ws key cell at d place = map-set entry_of ws at (record { key = (get_or ws at d).key; cell = cell }) ∙ sym (place.puts cell d)

pub wrote_new : (ws : List Written) (key : CellKey) (cell : Option Cell) (at : ℕ) → IsBetween ws key at → Wrote ws key cell (insert ws at (record { key = key; cell = cell }))
wrote_new ws key cell at place =
    map-append entry_of (take at ws) (record { key = key; cell = cell } ∷ drop at ws)
    ∙ ap (λ es. es ++ (key, cell) ∷ map entry_of (drop at ws)) (sym (take-map entry_of at ws))
    ∙ ap (λ es. take at (entries_of ws) ++ (key, cell) ∷ es) (sym (drop-map entry_of at ws))
    ∙ sym (place.puts cell)

-- ---- a search by halves

next_above : (ws : List Written) (i : ℕ) (d : Written) → suc i < length ws → AreSorted ws → is_lt (cell_key_cmp (get_or ws i d).key (get_or ws (suc i) d).key) ≡ true
next_above [] i d lt h = absurd (omega arith)
next_above (w ∷ ws) zero d lt h = below_at w.key ws zero d (omega arith) (both_T _ _ h).0
next_above (w ∷ ws) (suc i) d lt h = next_above ws i d (omega arith) (both_T _ _ h).1

from_tied : (ws : List Written) (key : CellKey) (i : ℕ) (d : Written) → i < length ws → AreSorted ws → cell_key_cmp key (get_or ws i d).key ≡ Equal → IsFrom ws key i
from_tied ws key zero d lt h equal = from_start ws key
from_tied ws key (suc i) d lt h equal =
    let short : i < length ws = omega arith in
    let rise = next_above ws i d lt h in
    past key ws i d short h (not_below_above key (get_or ws (suc i) d).key (get_or ws i d).key (ap is_lt equal) rise)

pub there_tied : (ws : List Written) (key : CellKey) (i : ℕ) (d : Written) → i < length ws → AreSorted ws → cell_key_cmp key (get_or ws i d).key ≡ Equal → IsThere ws key i
there_tied ws key i d lt h equal = there ws key i d lt (from_tied ws key i d lt h equal) equal

-- the key is below what stands at a place, if anything does
abbrev pub IsUpTo : List Written → CellKey → ℕ → Type 0
IsUpTo ws key n = (d : Written) → n < length ws → cell_key_cmp key (get_or ws n d).key ≡ Less

pub up_to_end : (ws : List Written) (key : CellKey) (n : ℕ) → n ≡ length ws → IsUpTo ws key n
up_to_end ws key n e d lt = absurd (omega arith)

pub up_to : (ws : List Written) (key : CellKey) (i : ℕ) (d : Written) → i < length ws → cell_key_cmp key (get_or ws i d).key ≡ Less → IsUpTo ws key i
up_to ws key i d lt less d' lt' = ap (λ (w : Written). cell_key_cmp key w.key) (get_or_default ws i d' d lt) ∙ less

pub met_in_middle : (ws : List Written) (key : CellKey) (low high : ℕ) → low ≡ high → high ≤ length ws → AreSorted ws → IsFrom ws key low → IsUpTo ws key high → IsBetween ws key low
met_in_middle ws key low high same within h from up =
    let d : Written = record { key = key; cell = None } in
    elim (cases_lt low (length ws)) [
      | inl lt ↦ between ws key low d lt h from (subst (λ (n : ℕ). IsUpTo ws key n) (sym same) up d lt)
      | inr ge ↦
          let all : low ≡ length ws = omega arith in
          subst (λ (n : ℕ). IsBetween ws key n) (sym all) (at_end ws key (subst (λ (n : ℕ). IsFrom ws key n) all from))
    ]
