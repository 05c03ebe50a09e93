-- One write after another.
use Rattle.std.proofs.Common.{◌≡◌, ◌≢◌, ℕ, zero, suc, ◌<◌, ◌+◌, ◌*◌, List, [], ◌∷◌, ◌++◌, Bool, true, false, cond, refl, sym, ap, subst, ◌∙◌, length, get_or, take, map, Some, None, Option, arith, length-append, inl, inr}
use Rattle.std.specs.Prelude.{unwrap_or}
use Rattle.std.proofs.lemmas.List.{map-append}
use Rattle.std.specs.FinMap.Entries.{find, find-append}
use Rattle.std.specs.Ordering.{is_lt}
use Rattle.world_cells.specs.declared.keys.CellKey.{CellKey}
use Rattle.world_cells.specs.declared.cells.Cell.{Cell}
use Rattle.world_cells.specs.declared.sets.Written.{Written}
use Rattle.world_cells.specs.CellOrder.{cell_key_cmp, cell_key_cmp_total, same_cell_key}
use Rattle.world_cells.specs.Lists.{IsIn}
use Rattle.world_cells.specs.Reads.{Cells, entries_of, overlay, AreRisingKeys}
use Rattle.view_reads.specs.SpanLaws.{less_trans}
use Rattle.world_cells.specs.CellLaws.{cell_key_is}
use Rattle.ordered_pages.specs.Entries.{Entry}
use Rattle.ordered_pages.specs.Tree.{IsTree, leaves_of, map_of}
use Rattle.ordered_pages.specs.Changes.{IsShared}
use Rattle.ordered_pages.specs.Prepared.{IsStep, IsPrepared}
use Rattle.history_model.specs.Histories.{Exactly}
use Rattle.ordered_pages.specs.Changed.{IsWritten}
use Rattle.ordered_pages.proofs.Blocks.{by_bool}
use Rattle.ordered_pages.proofs.Sorts.{above_other, same_itself}
use Rattle.ordered_pages.proofs.Whole.{in_left, in_right}

-- ---- keys that rise are fresh

rest_rising : (w : Written) (ws : List Written) → AreRisingKeys (map (λ (v : Written). v.key) (w ∷ ws)) → AreRisingKeys (map (λ (v : Written). v.key) ws)
rest_rising w [] h = tt
rest_rising w (v ∷ ws) h = h.1

above_first : (w : Written) (ws : List Written) (i : ℕ) (d : Written) → AreRisingKeys (map (λ (v : Written). v.key) (w ∷ ws)) → i < length ws → is_lt (cell_key_cmp w.key (get_or ws i d).key) ≡ true
above_first w [] i d h lt = absurd (omega arith)
above_first w (v ∷ ws) zero d h lt = h.0
above_first w (v ∷ ws) (suc i) d h lt = less_trans w.key v.key (get_or ws i d).key h.0 (above_first v ws i d h.1 (omega arith))

pub fresh : (ws : List Written) (i : ℕ) (d : Written) → AreRisingKeys (map (λ (v : Written). v.key) ws) → i < length ws → find cell_key_cmp (get_or ws i d).key (entries_of (take i ws)) ≡ None
fresh [] i d h lt = absurd (omega arith)
fresh (w ∷ ws) zero d h lt = refl
fresh (w ∷ ws) (suc i) d h lt =
    ap (λ b. cond b (Some w.cell) (find cell_key_cmp (get_or ws i d).key (entries_of (take i ws)))) (above_other (get_or ws i d).key w.key (above_first w ws i d h (omega arith)))
    ∙ fresh ws i d (rest_rising w ws h) (omega arith)

pub above_taken : (ws : List Written) (i : ℕ) (d : Written) → AreRisingKeys (map (λ (v : Written). v.key) ws) → i < length ws
    → (k : CellKey) → IsIn (map (λ (v : Written). v.key) (take i ws)) k → is_lt (cell_key_cmp k (get_or ws i d).key) ≡ true
above_taken [] i d h lt k m = absurd (omega arith)
above_taken (w ∷ ws) zero d h lt k m = absurd m
above_taken (w ∷ ws) (suc i) d h lt k (inl e) = ap (λ j. is_lt (cell_key_cmp j (get_or ws i d).key)) (sym e) ∙ above_first w ws i d h (omega arith)
above_taken (w ∷ ws) (suc i) d h lt k (inr m) = above_taken ws i d (rest_rising w ws h) (omega arith) k m

rising_more : (keys : List CellKey) (k : CellKey) → AreRisingKeys keys → ((j : CellKey) → IsIn keys j → is_lt (cell_key_cmp j k) ≡ true) → AreRisingKeys (keys ++ k ∷ [])
rising_more [] k h below = tt
rising_more (j ∷ []) k h below = (below j (inl refl), tt)
rising_more (j ∷ i ∷ keys) k h below = (h.0, rising_more (i ∷ keys) k h.1 (λ x m. below x (inr m)))

-- ---- one more write

unwrap_cond : (b : Bool) (c : Option Cell) (o : Option (Option Cell)) (x : Option Cell) → unwrap_or (cond b (Some c) o) x ≡ cond b c (unwrap_or o x)
unwrap_cond true c o x = refl
unwrap_cond false c o x = refl

overlay_more : (f : Cells) (ws : List Written) (w : Written) (k : CellKey) → find cell_key_cmp w.key (entries_of ws) ≡ None → overlay f (ws ++ w ∷ []) k ≡ cond (same_cell_key k w.key) w.cell (overlay f ws k)
overlay_more f ws w k none =
    ap (λ es. unwrap_or (find cell_key_cmp k es) (f k)) (map-append (λ (x : Written). (x.key, x.cell)) ws (w ∷ []))
    ∙ ap (λ o. unwrap_or o (f k)) (find-append cell_key_cmp cell_key_cmp_total (entries_of ws) w.key w.cell k none)
    ∙ unwrap_cond (same_cell_key k w.key) w.cell (find cell_key_cmp k (entries_of ws)) (f k)

shared_more : {A : Type 0} (m n l : ℕ) (one two three : List A) → l ≡ m + n → IsShared m one two → IsShared n two three → IsShared l one three
shared_more m n l one two three is f g = record {
  made = f.made ++ g.made;
  few = let a = f.few in let b = g.few in omega (arith, length-append f.made g.made);
  from = λ x h. elim (g.from x h) [
    | inl old ↦ elim (f.from x old) [ inl older ↦ inl older | inr made ↦ inr (in_left f.made g.made x made) ]
    | inr made ↦ inr (in_right f.made g.made x made)
  ];
}

last_in : (xs : List CellKey) (k : CellKey) → IsIn (xs ++ k ∷ []) k
last_in [] k = inl refl
last_in (x ∷ xs) k = inr (last_in xs k)

by_last : {P : Type 0} (xs : List CellKey) (k j : CellKey) → IsIn (xs ++ k ∷ []) j → (IsIn xs j → P) → (k ≡ j → P) → P
by_last [] k j (inl e) f g = g e
by_last [] k j (inr h) f g = absurd h
by_last (x ∷ xs) k j (inl e) f g = f (inl e)
by_last (x ∷ xs) k j (inr h) f g = by_last xs k j h (λ i. f (inr i)) g

exact_same : (keys : List CellKey) (f g h : Cells) (key : CellKey) (cell : Option Cell) → Exactly keys f g → ((k : CellKey) → h k ≡ cond (same_cell_key k key) cell (g k)) → g key ≡ cell → Exactly keys f h
exact_same keys f g h key cell exact is there = record {
  differ = λ k i e. exact.differ k i (e ∙ still k);
  same = λ k. elim (exact.same k) [ inl i ↦ inl i | inr e ↦ inr (e ∙ sym (still k)) ];
}
  where
    still : (k : CellKey) → h k ≡ g k
    still k = by_bool (same_cell_key k key)
        (λ same. is k ∙ ap (λ b. cond b cell (g k)) same ∙ sym there ∙ ap g (sym (cell_key_is k key same)))
        (λ other. is k ∙ ap (λ b. cond b cell (g k)) other)

exact_more : (keys : List CellKey) (f g h : Cells) (key : CellKey) (cell : Option Cell) → Exactly keys f g → ((k : CellKey) → h k ≡ cond (same_cell_key k key) cell (g k)) → f key ≡ g key → g key ≢ cell → Exactly (keys ++ key ∷ []) f h
exact_more keys f g h key cell exact is fresh apart = record {
  differ = λ k i. by_last keys key k i (λ old e. by_bool (same_cell_key k key) (λ same. exact.differ k old (ap f (cell_key_is k key same) ∙ fresh ∙ ap g (sym (cell_key_is k key same)))) (λ other. exact.differ k old (e ∙ away k other)))
      (λ new e. apart (sym fresh ∙ ap f new ∙ e ∙ ap h (sym new) ∙ here));
  same = λ k. by_bool (same_cell_key k key) (λ same. inl (subst (λ (j : CellKey). IsIn (keys ++ key ∷ []) j) (sym (cell_key_is k key same)) (last_in keys key)))
      (λ other. elim (exact.same k) [ inl i ↦ inl (more keys k i) | inr e ↦ inr (e ∙ sym (away k other)) ]);
}
  where
    away : (k : CellKey) → same_cell_key k key ≡ false → h k ≡ g k
    away k other = is k ∙ ap (λ b. cond b cell (g k)) other

    here : h key ≡ cell
    here = is key ∙ ap (λ b. cond b cell (g key)) (same_itself key)

    more : (xs : List CellKey) (k : CellKey) → IsIn xs k → IsIn (xs ++ key ∷ []) k
    more [] k i = absurd i
    more (x ∷ xs) k (inl e) = inl e
    more (x ∷ xs) k (inr i) = inr (more xs k i)

pub start : (old : List (List (List (List Entry)))) (ws : List Written) → IsTree old → ws ≡ [] → IsPrepared (leaves_of old) ws old []
start old ws tree none = subst (λ (ws : List Written). IsPrepared (leaves_of old) ws old []) (sym none) (record {
  tree = tree;
  cells = λ k. refl;
  shared = record { made = []; few = omega arith; from = λ x h. inl h };
  exact = record { differ = λ k i. absurd i; same = λ k. inr refl };
  rising = tt;
  within = λ k i. absurd i;
})

pub step : (leaves : List (List Entry)) (ws more : List Written) (w : Written) (old new : List (List (List (List Entry)))) (keys noted : List CellKey) → find cell_key_cmp w.key (entries_of ws) ≡ None
    → ((k : CellKey) → IsIn (map (λ (v : Written). v.key) ws) k → is_lt (cell_key_cmp k w.key) ≡ true) → more ≡ ws ++ w ∷ [] → IsPrepared leaves ws old keys → IsStep w old new keys noted → IsPrepared leaves more new noted
step leaves ws more w old new keys noted none above is p s = subst (λ (all : List Written). IsPrepared leaves all new noted) (sym is) (record {
  tree = s.tree;
  cells = λ k. s.cells k ∙ ap (cond (same_cell_key k w.key) w.cell) (p.cells k) ∙ sym (overlay_more (map_of leaves) ws w k none);
  shared = shared_more (2 * length ws) 2 (2 * length (ws ++ w ∷ [])) leaves (leaves_of old) (leaves_of new) (omega (arith, length-append ws (w ∷ []))) p.shared s.shared;
  exact = elim s.noted [
    | inl n ↦ subst (λ (ks : List CellKey). Exactly ks (map_of leaves) (map_of (leaves_of new))) (sym n.0) (exact_same keys (map_of leaves) (map_of (leaves_of old)) (map_of (leaves_of new)) w.key w.cell p.exact s.cells n.1)
    | inr n ↦ subst (λ (ks : List CellKey). Exactly ks (map_of leaves) (map_of (leaves_of new))) (sym n.0)
        (exact_more keys (map_of leaves) (map_of (leaves_of old)) (map_of (leaves_of new)) w.key w.cell p.exact s.cells (sym (p.cells w.key ∙ ap (λ o. unwrap_or o (map_of leaves w.key)) none)) n.1)
  ];
  rising = elim s.noted [
    | inl n ↦ subst AreRisingKeys (sym n.0) p.rising
    | inr n ↦ subst AreRisingKeys (sym n.0) (rising_more keys w.key p.rising (λ j m. above j (p.within j m)))
  ];
  within = λ k m. subst (λ (ks : List CellKey). IsIn ks k) (sym (map-append (λ (v : Written). v.key) ws (w ∷ []))) (elim s.noted [
    | inl n ↦ in_left (map (λ (v : Written). v.key) ws) (w.key ∷ []) k (p.within k (subst (λ (ks : List CellKey). IsIn ks k) n.0 m))
    | inr n ↦ by_last keys w.key k (subst (λ (ks : List CellKey). IsIn ks k) n.0 m) (λ old. in_left (map (λ (v : Written). v.key) ws) (w.key ∷ []) k (p.within k old))
        (λ new. in_right (map (λ (v : Written). v.key) ws) (w.key ∷ []) k (inl new))
  ]);
})

-- a write of what is there leaves the tree
pub step_none : (w : Written) (old : List (List (List (List Entry)))) (keys : List CellKey) → IsTree old → map_of (leaves_of old) w.key ≡ w.cell → IsStep w old old keys keys
step_none w old keys tree there = record {
  tree = tree;
  cells = λ k. by_bool (same_cell_key k w.key)
      (λ same. ap (map_of (leaves_of old)) (cell_key_is k w.key same) ∙ there ∙ ap (λ b. cond b w.cell (map_of (leaves_of old) k)) (sym same))
      (λ other. ap (λ b. cond b w.cell (map_of (leaves_of old) k)) (sym other));
  shared = record { made = []; few = omega arith; from = λ x h. inl h };
  noted = inl (refl, there);
}

pub step_some : (w : Written) (old new : List (List (List (List Entry)))) (keys more : List CellKey) → IsWritten w.key w.cell old new → more ≡ keys ++ w.key ∷ [] → map_of (leaves_of old) w.key ≢ w.cell → IsStep w old new keys more
step_some w old new keys more written is apart = record { tree = written.tree; cells = written.cells; shared = written.shared; noted = inr (is, apart) }
