-- What a walk over writes in order meets first in a span.
use Rattle.std.proofs.Common.{◌≡◌, ℕ, ◌+◌, ◌<◌, List, [], ◌∷◌, ◌++◌, length, get_or, take, drop, refl, sym, ap, subst, ◌∙◌, Bool, true, false, Option, Some, None, T}
use Rattle.std.specs.Prelude.{cond, ◌&&◌, IsTrue, unwrap_or, option_map}
use Rattle.std.specs.declared.cmp.Ordering.{Ordering}
use Rattle.std.specs.declared.cmp.Ordering.TheVariants.{Less, Equal, Greater}
use Rattle.std.specs.Ordering.{is_lt, is_gt, is_eq, ordering_reverse}
use Rattle.std.specs.Cmp.{tied_itself}
use Rattle.std.specs.FinMap.Entries.{find, below_all, find-append}
use Rattle.std.proofs.lemmas.List.{drop_more, take_more, map_push, take-append-drop}
use Rattle.std.proofs.Math.Seq.{drop-length}
use Rattle.ident_rules.specs.IdOrder.{is_equal}
use Rattle.world_cells.specs.declared.keys.CellKey.{CellKey}
use Rattle.world_cells.specs.declared.cells.Cell.{Cell}
use Rattle.world_cells.specs.declared.spans.Span.{Span}
use Rattle.world_cells.specs.declared.sets.Written.{Written}
use Rattle.world_cells.specs.CellOrder.{cell_key_cmp, cell_key_cmp_total, cell_key_cmp-IsAntisymmetric, same_cell_key}
use Rattle.world_cells.specs.Reads.{Cells, entries_of, overlay, in_span}
use Rattle.view_reads.specs.Narrowing.{IsMet}
use Rattle.view_reads.specs.Merging.{nothing, put_in}
use Rattle.view_reads.specs.Places.{AreSorted}
use Rattle.view_reads.specs.SpanLaws.{is_less}
use Rattle.view_reads.proofs.Sorted.{both_T, true_T}

-- ---- keys

pub same_is : (j k : CellKey) → same_cell_key j k ≡ true → j ≡ k
same_is j k e = cell_key_cmp-IsAntisymmetric j k (is_equal _ e)

below_by : (j k m : CellKey) (o : Ordering) → cell_key_cmp j k ≡ o → is_gt o ≡ false → cell_key_cmp k m ≡ Less → cell_key_cmp j m ≡ Less
below_by j k m Less is up less = cell_key_cmp_total.trans j k m is less
below_by j k m Equal is up less = cell_key_cmp_total.congr j k m is ∙ less
below_by j k m Greater is up less = cc up

reversed : (j k : CellKey) (o : Ordering) → cell_key_cmp j k ≡ o → cell_key_cmp k j ≡ ordering_reverse o
reversed j k o is = cell_key_cmp_total.antisymm k j ∙ ap ordering_reverse is

above_by : (j k m : CellKey) (o : Ordering) → cell_key_cmp j k ≡ o → is_lt o ≡ false → cell_key_cmp m k ≡ Less → cell_key_cmp j m ≡ Greater
above_by j k m Less is down less = cc down
above_by j k m Equal is down less = cell_key_cmp_total.congr j k m is ∙ reversed m k Less less
above_by j k m Greater is down less = reversed m j Less (cell_key_cmp_total.trans m k j less (reversed j k Greater is))

-- a key not above k is below what is above k
pub not_above_below : (j k m : CellKey) → is_gt (cell_key_cmp j k) ≡ false → is_lt (cell_key_cmp k m) ≡ true → cell_key_cmp j m ≡ Less
not_above_below j k m up less = below_by j k m (cell_key_cmp j k) refl up (is_less _ less)

-- a key not below k is above what is below k
pub not_below_above : (j k m : CellKey) → is_lt (cell_key_cmp j k) ≡ false → is_lt (cell_key_cmp m k) ≡ true → cell_key_cmp j m ≡ Greater
not_below_above j k m down less = above_by j k m (cell_key_cmp j k) refl down (is_less _ less)

-- ---- a list in order, from its head

pub absent_below : (j k : CellKey) (es : List (CellKey × Option Cell)) → T (below_all cell_key_cmp k es) → is_gt (cell_key_cmp j k) ≡ false → find cell_key_cmp j es ≡ None
absent_below j k [] h up = refl
absent_below j k (e ∷ es) h up =
    let parts = both_T _ _ h in
    ap (λ o. cond (is_eq o) (Some e.1) (find cell_key_cmp j es)) (not_above_below j k e.0 up (true_T _ parts.0)) ∙ absent_below j k es parts.1 up

map_none : (k : CellKey) (o : Option Cell) → option_map {U = CellKey × Cell} (λ c. (k, c)) o ≡ None → o ≡ None
map_none k None e = refl
map_none k (Some c) e = cc e

-- a write that puts nothing into a span has no cell there
empty_put : (w : Written) (span : Span) → put_in w span ≡ None → in_span span w.key ≡ true → w.cell ≡ None
empty_put w span none inside = map_none w.key w.cell (sym (ap (λ b. cond b (option_map {U = CellKey × Cell} (λ c. (w.key, c)) w.cell) None) inside) ∙ none)

put_by : (b : Bool) (k : CellKey) (o : Option Cell) (p : CellKey × Cell) → cond b (option_map {U = CellKey × Cell} (λ c. (k, c)) o) None ≡ Some p → (b ≡ true) × (o ≡ Some p.1) × (p.0 ≡ k)
put_by true k None p e = cc e
put_by true k (Some c) p e =
    let same : (k, c) ≡ p = ap (λ o. unwrap_or o (k, c)) e in
    (refl, ap (λ (q : CellKey × Cell). Some q.1) same, ap (λ (q : CellKey × Cell). q.0) (sym same))
put_by false k o p e = cc e

-- cells that are the same in a span meet a search alike
pub alike : (from_top : Bool) (f g : Cells) (span : Span) (found : Option (CellKey × Cell)) → ((j : CellKey) → IsTrue (in_span span j) → f j ≡ g j) → IsMet from_top f span found → IsMet from_top g span found
alike from_top f g span None same met = λ j inside. sym (same j inside) ∙ met j inside
alike from_top f g span (Some p) same met = (met.0, sym (same p.0 met.0) ∙ met.1, λ j inside before. sym (same j inside) ∙ met.2 j inside before)

head_alike : (w : Written) (ws : List Written) (span : Span) → AreSorted (w ∷ ws) → put_in w span ≡ None → (j : CellKey) → IsTrue (in_span span j)
    → (b : Bool) → same_cell_key j w.key ≡ b → overlay nothing ws j ≡ unwrap_or (cond b (Some w.cell) (find cell_key_cmp j (entries_of ws))) None
head_alike w ws span h none j inside true same =
    let at : j ≡ w.key = same_is j w.key same in
    ap (λ o. unwrap_or o None) (absent_below j w.key (entries_of ws) (both_T _ _ h).0 (ap is_gt (is_equal _ same)))
    ∙ sym (empty_put w span none (sym (ap (in_span span) at) ∙ inside))
head_alike w ws span h none j inside false same = refl

head_skipped : (w : Written) (ws : List Written) (span : Span) → AreSorted (w ∷ ws) → put_in w span ≡ None → (found : Option (CellKey × Cell))
    → IsMet false (overlay nothing ws) span found → IsMet false (overlay nothing (w ∷ ws)) span found
head_skipped w ws span h none found met = alike false (overlay nothing ws) (overlay nothing (w ∷ ws)) span found (λ j inside. head_alike w ws span h none j inside (same_cell_key j w.key) refl) met

head_met : (w : Written) (ws : List Written) (span : Span) → AreSorted (w ∷ ws) → (p : CellKey × Cell) → put_in w span ≡ Some p → IsMet false (overlay nothing (w ∷ ws)) span (Some p)
head_met w ws span h p is =
    let parts = put_by (in_span span w.key) w.key w.cell p is in
    let there : overlay nothing (w ∷ ws) w.key ≡ w.cell = ap (λ o. unwrap_or (cond (is_eq o) (Some w.cell) (find cell_key_cmp w.key (entries_of ws))) None) (tied_itself cell_key_cmp_total w.key) in (
      ap (in_span span) parts.2 ∙ parts.0,
      ap (overlay nothing (w ∷ ws)) parts.2 ∙ there ∙ parts.1,
      λ j inside before.
          let less : cell_key_cmp j w.key ≡ Less = is_less _ (ap (λ k. is_lt (cell_key_cmp j k)) (sym parts.2) ∙ before) in
          ap (λ o. unwrap_or (cond (is_eq o) (Some w.cell) (find cell_key_cmp j (entries_of ws))) None) less
          ∙ ap (λ o. unwrap_or o None) (absent_below j w.key (entries_of ws) (both_T _ _ h).0 (ap is_gt less)),
    )

drop_sorted : (xs ys : List Written) → AreSorted (xs ++ ys) → AreSorted ys
drop_sorted [] ys h = h
drop_sorted (x ∷ xs) ys h = drop_sorted xs ys (both_T _ _ h).1

-- what a walk from the head knows: what the rest meets first is what all meet first
abbrev pub FirstOfRest : List Written → Span → ℕ → Type 0
FirstOfRest ws span i = (found : Option (CellKey × Cell)) → IsMet false (overlay nothing (drop i ws)) span found → IsMet false (overlay nothing ws) span found

pub rest_sorted : (ws : List Written) (i : ℕ) (d : Written) → i < length ws → AreSorted ws → AreSorted (get_or ws i d ∷ drop (i + 1) ws)
rest_sorted ws i d lt h = subst AreSorted (drop_more ws i d lt) (drop_sorted (take i ws) (drop i ws) (subst AreSorted (sym (take-append-drop i ws)) h))

pub first_past : (ws : List Written) (span : Span) (i : ℕ) (d : Written) → i < length ws → AreSorted ws → put_in (get_or ws i d) span ≡ None → FirstOfRest ws span i → FirstOfRest ws span (i + 1)
first_past ws span i d lt h none rest found met =
    let P : List Written → Type 0 = λ vs. IsMet false (overlay nothing vs) span found in
    rest found (subst P (sym (drop_more ws i d lt)) (head_skipped (get_or ws i d) (drop (i + 1) ws) span (rest_sorted ws i d lt h) none found met))

pub first_met : (ws : List Written) (span : Span) (i : ℕ) (d : Written) → i < length ws → AreSorted ws → (p : CellKey × Cell) → put_in (get_or ws i d) span ≡ Some p → FirstOfRest ws span i → IsMet false (overlay nothing ws) span (Some p)
first_met ws span i d lt h p is rest =
    let P : List Written → Type 0 = λ vs. IsMet false (overlay nothing vs) span (Some p) in
    rest (Some p) (subst P (sym (drop_more ws i d lt)) (head_met (get_or ws i d) (drop (i + 1) ws) span (rest_sorted ws i d lt h) p is))

pub nothing_met : (from_top : Bool) (span : Span) → IsMet from_top (overlay nothing []) span None
nothing_met from_top span = λ j inside. refl

pub first_none : (ws : List Written) (span : Span) (i : ℕ) → i ≡ length ws → FirstOfRest ws span i → IsMet false (overlay nothing ws) span None
first_none ws span i e rest = rest None (subst (λ (vs : List Written). IsMet false (overlay nothing vs) span None) (sym (ap (λ n. drop n ws) e ∙ drop-length ws)) (nothing_met false span))

-- ---- a list in order, from its end

below_last : (k : CellKey) (ws : List Written) (w : Written) → T (below_all cell_key_cmp k (entries_of (ws ++ w ∷ []))) → is_lt (cell_key_cmp k w.key) ≡ true
below_last k [] w h = true_T _ (both_T _ _ h).0
below_last k (v ∷ ws) w h = below_last k ws w (both_T _ _ h).1

absent_above : (j : CellKey) (ws : List Written) (w : Written) → AreSorted (ws ++ w ∷ []) → is_lt (cell_key_cmp j w.key) ≡ false → find cell_key_cmp j (entries_of ws) ≡ None
absent_above j [] w h down = refl
absent_above j (v ∷ ws) w h down =
    let parts = both_T _ _ h in
    ap (λ o. cond (is_eq o) (Some v.cell) (find cell_key_cmp j (entries_of ws))) (not_below_above j w.key v.key down (below_last v.key ws w parts.0)) ∙ absent_above j ws w parts.1 down

not_below_itself : (k : CellKey) → is_lt (cell_key_cmp k k) ≡ false
not_below_itself k = ap is_lt (tied_itself cell_key_cmp_total k)

-- the store under writes with one more at their end
pushed : (ws : List Written) (w : Written) → AreSorted (ws ++ w ∷ []) → (j : CellKey) → overlay nothing (ws ++ w ∷ []) j ≡ unwrap_or (cond (same_cell_key j w.key) (Some w.cell) (find cell_key_cmp j (entries_of ws))) None
pushed ws w h j =
    ap (λ es. unwrap_or (find cell_key_cmp j es) None) (map_push (λ (x : Written). (x.key, x.cell)) ws w)
    ∙ ap (λ o. unwrap_or o None) (find-append cell_key_cmp cell_key_cmp_total (entries_of ws) w.key w.cell j (absent_above w.key ws w h (not_below_itself w.key)))

end_alike : (ws : List Written) (w : Written) (span : Span) → AreSorted (ws ++ w ∷ []) → put_in w span ≡ None → (j : CellKey) → IsTrue (in_span span j)
    → (b : Bool) → same_cell_key j w.key ≡ b → overlay nothing ws j ≡ unwrap_or (cond b (Some w.cell) (find cell_key_cmp j (entries_of ws))) None
end_alike ws w span h none j inside true same =
    let at : j ≡ w.key = same_is j w.key same in
    ap (λ o. unwrap_or o None) (absent_above j ws w h (ap is_lt (is_equal _ same)))
    ∙ sym (empty_put w span none (sym (ap (in_span span) at) ∙ inside))
end_alike ws w span h none j inside false same = refl

end_skipped : (ws : List Written) (w : Written) (span : Span) → AreSorted (ws ++ w ∷ []) → put_in w span ≡ None → (found : Option (CellKey × Cell))
    → IsMet true (overlay nothing ws) span found → IsMet true (overlay nothing (ws ++ w ∷ [])) span found
end_skipped ws w span h none found met =
    alike true (overlay nothing ws) (overlay nothing (ws ++ w ∷ [])) span found (λ j inside. end_alike ws w span h none j inside (same_cell_key j w.key) refl ∙ sym (pushed ws w h j)) met

greater : (j k : CellKey) → is_lt (cell_key_cmp k j) ≡ true → cell_key_cmp j k ≡ Greater
greater j k less = reversed k j Less (is_less _ less)

end_met : (ws : List Written) (w : Written) (span : Span) → AreSorted (ws ++ w ∷ []) → (p : CellKey × Cell) → put_in w span ≡ Some p → IsMet true (overlay nothing (ws ++ w ∷ [])) span (Some p)
end_met ws w span h p is =
    let parts = put_by (in_span span w.key) w.key w.cell p is in
    let there : overlay nothing (ws ++ w ∷ []) w.key ≡ w.cell = pushed ws w h w.key ∙ ap (λ o. unwrap_or (cond (is_eq o) (Some w.cell) (find cell_key_cmp w.key (entries_of ws))) None) (tied_itself cell_key_cmp_total w.key) in (
      ap (in_span span) parts.2 ∙ parts.0,
      ap (overlay nothing (ws ++ w ∷ [])) parts.2 ∙ there ∙ parts.1,
      λ j inside before.
          let more : cell_key_cmp j w.key ≡ Greater = greater j w.key (ap (λ k. is_lt (cell_key_cmp k j)) (sym parts.2) ∙ before) in
          pushed ws w h j
          ∙ ap (λ o. unwrap_or (cond (is_eq o) (Some w.cell) (find cell_key_cmp j (entries_of ws))) None) more
          ∙ ap (λ o. unwrap_or o None) (absent_above j ws w h (ap is_lt more)),
    )

take_below : (k : CellKey) (xs ys : List Written) → T (below_all cell_key_cmp k (entries_of (xs ++ ys))) → T (below_all cell_key_cmp k (entries_of xs))
take_below k [] ys h = tt
take_below k (x ∷ xs) ys h = let parts = both_T _ _ h in with_T _ _ parts.0 (take_below k xs ys parts.1)
  where
    with_T : (a b : Bool) → T a → T b → T (a && b)
    with_T true b p q = q
    with_T false b p q = p

take_sorted : (xs ys : List Written) → AreSorted (xs ++ ys) → AreSorted xs
take_sorted [] ys h = tt
take_sorted (x ∷ xs) ys h = let parts = both_T _ _ h in with_T _ _ (take_below x.key xs ys parts.0) (take_sorted xs ys parts.1)
  where
    with_T : (a b : Bool) → T a → T b → T (a && b)
    with_T true b p q = q
    with_T false b p q = p

-- what a walk from the end knows: what those before meet last is what all meet last
abbrev pub LastOfFront : List Written → Span → ℕ → Type 0
LastOfFront ws span i = (found : Option (CellKey × Cell)) → IsMet true (overlay nothing (take i ws)) span found → IsMet true (overlay nothing ws) span found

front_sorted : (ws : List Written) (i : ℕ) (d : Written) → i < length ws → AreSorted ws → AreSorted (take i ws ++ get_or ws i d ∷ [])
front_sorted ws i d lt h = subst AreSorted (take_more ws i d lt) (take_sorted (take (i + 1) ws) (drop (i + 1) ws) (subst AreSorted (sym (take-append-drop (i + 1) ws)) h))

pub last_past : (ws : List Written) (span : Span) (i : ℕ) (d : Written) → i < length ws → AreSorted ws → put_in (get_or ws i d) span ≡ None → LastOfFront ws span (i + 1) → LastOfFront ws span i
last_past ws span i d lt h none rest found met =
    let P : List Written → Type 0 = λ vs. IsMet true (overlay nothing vs) span found in
    rest found (subst P (sym (take_more ws i d lt)) (end_skipped (take i ws) (get_or ws i d) span (front_sorted ws i d lt h) none found met))

pub last_met : (ws : List Written) (span : Span) (i : ℕ) (d : Written) → i < length ws → AreSorted ws → (p : CellKey × Cell) → put_in (get_or ws i d) span ≡ Some p → LastOfFront ws span (i + 1) → IsMet true (overlay nothing ws) span (Some p)
last_met ws span i d lt h p is rest =
    let P : List Written → Type 0 = λ vs. IsMet true (overlay nothing vs) span (Some p) in
    rest (Some p) (subst P (sym (take_more ws i d lt)) (end_met (take i ws) (get_or ws i d) span (front_sorted ws i d lt h) p is))

pub last_none : (ws : List Written) (span : Span) (i : ℕ) → i ≡ 0 → LastOfFront ws span i → IsMet true (overlay nothing ws) span None
last_none ws span i e rest = rest None (subst (λ (n : ℕ). IsMet true (overlay nothing (take n ws)) span None) (sym e) (nothing_met true span))
