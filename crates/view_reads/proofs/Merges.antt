-- Searching a view and the writes over it together.
use Rattle.std.proofs.Common.{◌≡◌, ◌⊎◌, inl, inr, ℕ, ◌+◌, ◌<◌, ◌≤◌, List, [], ◌∷◌, length, refl, sym, ap, subst, ◌∙◌, Bool, true, false, Option, Some, None, arith}
use Rattle.std.specs.Prelude.{cond, ◌&&◌, IsTrue, unwrap_or, option_map, is_some}
use Rattle.std.specs.declared.cmp.Ordering.{Ordering}
use Rattle.std.specs.declared.cmp.Ordering.TheVariants.{Less, Equal, Greater}
use Rattle.std.specs.Ordering.{is_lt, is_eq, ordering_reverse}
use Rattle.std.specs.Cmp.{tied_itself}
use Rattle.std.specs.FinMap.Entries.{find}
use Rattle.world_cells.specs.declared.keys.CellKey.{CellKey}
use Rattle.world_cells.specs.declared.cells.Cell.{Cell}
use Rattle.world_cells.specs.declared.spans.Span.{Span}
use Rattle.world_cells.specs.declared.sets.Written.{Written}
use Rattle.world_cells.specs.CellOrder.{cell_key_cmp, cell_key_cmp_total, same_cell_key}
use Rattle.world_cells.specs.Reads.{Cells, entries_of, overlay, in_span, IsFirstIn, IsLastIn}
use Rattle.view_reads.specs.Counts.{counted, counted_once}
use Rattle.view_reads.specs.Narrowing.{IsMet, is_met, narrowed, CanNarrow}
use Rattle.view_reads.specs.Merging.{nothing, hidden, unwritten, is_met_before, IsFirstUnwritten}
use Rattle.view_reads.proofs.Puts.{same_is}
use Rattle.view_reads.specs.SpanLaws.{and_true, less_trans, narrowed_is, narrowed_can}

-- ---- what a search meets before what

pub met_trans : (from_top : Bool) (i j k : CellKey) → is_met from_top i j ≡ true → is_met from_top j k ≡ true → is_met from_top i k ≡ true
met_trans false i j k p q = less_trans i j k p q
met_trans true i j k p q = less_trans k j i q p

-- less than m, which is not above k
less_far : (j k m : CellKey) (o : Ordering) → cell_key_cmp k m ≡ o → is_lt o ≡ false → is_lt (cell_key_cmp j m) ≡ true → is_lt (cell_key_cmp j k) ≡ true
less_far j k m Less is down less = cc down
less_far j k m Equal is down less =
    ap is_lt (cell_key_cmp_total.antisymm j k ∙ ap ordering_reverse (cell_key_cmp_total.congr k m j is) ∙ sym (cell_key_cmp_total.antisymm j m)) ∙ less
less_far j k m Greater is down less = less_trans j m k less (ap is_lt (cell_key_cmp_total.antisymm m k ∙ ap ordering_reverse is))

-- above m, which is not below k
more_far : (j k m : CellKey) (o : Ordering) → cell_key_cmp m k ≡ o → is_lt o ≡ false → is_lt (cell_key_cmp m j) ≡ true → is_lt (cell_key_cmp k j) ≡ true
more_far j k m Less is down less = cc down
more_far j k m Equal is down less = ap is_lt (sym (cell_key_cmp_total.congr m k j is)) ∙ less
more_far j k m Greater is down less = less_trans k m j (ap is_lt (cell_key_cmp_total.antisymm k m ∙ ap ordering_reverse is)) less

-- what is met before m, which k is not, is met before k
met_far : (from_top : Bool) (j k m : CellKey) → is_met from_top k m ≡ false → is_met from_top j m ≡ true → is_met from_top j k ≡ true
met_far false j k m down less = less_far j k m (cell_key_cmp k m) refl down less
met_far true j k m down less = more_far j k m (cell_key_cmp m k) refl down less

pub before_far : (from_top : Bool) (put : Option (CellKey × Cell)) (j k : CellKey) → is_met_before from_top put k ≡ false → is_met_before from_top put j ≡ true → is_met from_top j k ≡ true
before_far from_top None j k down less = cc down
before_far from_top (Some p) j k down less = met_far from_top j k p.0 down less

not_met : (j k : CellKey) → j ≡ k → is_lt (cell_key_cmp j k) ≡ false
not_met j k e = ap (λ i. is_lt (cell_key_cmp i k)) e ∙ ap is_lt (tied_itself cell_key_cmp_total k)

pub itself : (from_top : Bool) (k : CellKey) → is_met from_top k k ≡ false
itself false k = not_met k k refl
itself true k = not_met k k refl

-- of two keys one is met first, or they are the same
one_of : (j k : CellKey) (o : Ordering) → cell_key_cmp k j ≡ o → is_lt o ≡ false → (is_lt (cell_key_cmp j k) ≡ true) ⊎ (j ≡ k)
one_of j k Less is down = cc down
one_of j k Equal is down = inr (sym (same_is k j (ap is_eq is)))
one_of j k Greater is down = inl (ap is_lt (cell_key_cmp_total.antisymm j k ∙ ap ordering_reverse is))

one_back : (j k : CellKey) (o : Ordering) → cell_key_cmp j k ≡ o → is_lt o ≡ false → (is_lt (cell_key_cmp k j) ≡ true) ⊎ (j ≡ k)
one_back j k Less is down = cc down
one_back j k Equal is down = inr (same_is j k (ap is_eq is))
one_back j k Greater is down = inl (ap is_lt (cell_key_cmp_total.antisymm k j ∙ ap ordering_reverse is))

pub met_or_same : (from_top : Bool) (j k : CellKey) → is_met from_top k j ≡ false → (is_met from_top j k ≡ true) ⊎ (j ≡ k)
met_or_same false j k down = one_of j k (cell_key_cmp k j) refl down
met_or_same true j k down = one_back j k (cell_key_cmp j k) refl down

-- ---- what a write hides

hidden_none : (w : Option (Option Cell)) (x : Option Cell) → x ≡ None → hidden w x ≡ None
hidden_none None x e = e
hidden_none (Some c) x e = refl

pub unwritten_none : (f : Cells) (ws : List Written) (k : CellKey) → f k ≡ None → unwritten f ws k ≡ None
unwritten_none f ws k e = hidden_none (find cell_key_cmp k (entries_of ws)) (f k) e

pub hidden_here : (w : Option (Option Cell)) (x : Option Cell) (c : Option Cell) → w ≡ Some c → hidden w x ≡ None
hidden_here None x c e = cc e
hidden_here (Some d) x c e = refl

pub kept_shows : (w : Option (Option Cell)) (x : Option Cell) (c : Cell) → hidden w x ≡ Some c → unwrap_or w x ≡ Some c
kept_shows None x c e = e
kept_shows (Some d) x c e = cc e

put_shows : (w : Option (Option Cell)) (x : Option Cell) (c : Cell) → unwrap_or w None ≡ Some c → unwrap_or w x ≡ Some c
put_shows None x c e = cc e
put_shows (Some d) x c e = e

neither : (w : Option (Option Cell)) (x : Option Cell) → hidden w x ≡ None → unwrap_or w None ≡ None → unwrap_or w x ≡ None
neither None x e p = e
neither (Some d) x e p = p

neither_shows : (f : Cells) (ws : List Written) (k : CellKey) → unwritten f ws k ≡ None → overlay nothing ws k ≡ None → overlay f ws k ≡ None
neither_shows f ws k e p = neither (find cell_key_cmp k (entries_of ws)) (f k) e p

-- ---- the first of what is kept and what is put

pub kept_first : (from_top : Bool) (f : Cells) (ws : List Written) (span : Span) (put : Option (CellKey × Cell)) (p : CellKey × Cell)
    → IsMet from_top (overlay nothing ws) span put → IsFirstUnwritten from_top f ws span put (Some p) → IsMet from_top (overlay f ws) span (Some p)
kept_first from_top f ws span put p met kept = (
  kept.0,
  kept_shows (find cell_key_cmp p.0 (entries_of ws)) (f p.0) p.1 kept.1,
  λ j inside before. neither_shows f ws j (kept.3 j inside before) (not_put put met kept.2 j inside before),
)
  where
    not_put : (put : Option (CellKey × Cell)) → IsMet from_top (overlay nothing ws) span put → is_met_before from_top put p.0 ≡ true → (j : CellKey) → IsTrue (in_span span j) → IsTrue (is_met from_top j p.0) → overlay nothing ws j ≡ None
    not_put None met early j inside before = met j inside
    not_put (Some q) met early j inside before = met.2 j inside (met_trans from_top j p.0 q.0 before early)

pub put_first : (from_top : Bool) (f : Cells) (ws : List Written) (span : Span) (put : Option (CellKey × Cell))
    → IsMet from_top (overlay nothing ws) span put → IsFirstUnwritten from_top f ws span put None → IsMet from_top (overlay f ws) span put
put_first from_top f ws span None met kept = λ j inside. neither_shows f ws j (kept j inside refl) (met j inside)
put_first from_top f ws span (Some q) met kept = (
  met.0,
  put_shows (find cell_key_cmp q.0 (entries_of ws)) (f q.0) q.1 met.1,
  λ j inside before. neither_shows f ws j (kept j inside before) (met.2 j inside before),
)

-- ---- the walk over the view

-- what a walk has left of a span: it has passed the keys of hidden cells alone, and keys with no cell
pub record IsLeft (from_top : Bool) (f : Cells) (ws : List Written) (span rest : Span) : Type 0 where
  pub can : CanNarrow from_top rest
  pub within : (j : CellKey) → in_span rest j ≡ true → in_span span j ≡ true
  pub passed : (j : CellKey) → in_span span j ≡ true → in_span rest j ≡ false → unwritten f ws j ≡ None

pub left_all : (from_top : Bool) (f : Cells) (ws : List Written) (span : Span) → CanNarrow from_top span → IsLeft from_top f ws span span
left_all from_top f ws span can = record { can = can; within = λ j inside. inside; passed = λ j inside outside. cc (inside, outside) }

-- a key of the span is passed, or left
pub by_left : {P : Type 0} (b : Bool) → (b ≡ true → P) → (b ≡ false → P) → P
by_left true f g = f refl
by_left false f g = g refl

pub left_none : (from_top : Bool) (f : Cells) (ws : List Written) (span rest : Span) (put : Option (CellKey × Cell)) → IsLeft from_top f ws span rest → IsMet from_top f rest None → IsFirstUnwritten from_top f ws span put None
left_none from_top f ws span rest put left met = λ j inside before. by_left (in_span rest j) (λ here. unwritten_none f ws j (met j here)) (λ gone. left.passed j inside gone)

pub left_late : (from_top : Bool) (f : Cells) (ws : List Written) (span rest : Span) (put : Option (CellKey × Cell)) (p : CellKey × Cell) → IsLeft from_top f ws span rest → IsMet from_top f rest (Some p)
    → is_met_before from_top put p.0 ≡ false → IsFirstUnwritten from_top f ws span put None
left_late from_top f ws span rest put p left met late = λ j inside before.
    by_left (in_span rest j) (λ here. unwritten_none f ws j (met.2 j here (before_far from_top put j p.0 late before))) (λ gone. left.passed j inside gone)

pub left_found : (from_top : Bool) (f : Cells) (ws : List Written) (span rest : Span) (put : Option (CellKey × Cell)) (p : CellKey × Cell) → IsLeft from_top f ws span rest → IsMet from_top f rest (Some p)
    → is_met_before from_top put p.0 ≡ true → find cell_key_cmp p.0 (entries_of ws) ≡ None → IsFirstUnwritten from_top f ws span put (Some p)
left_found from_top f ws span rest put p left met early free = (
  left.within p.0 met.0,
  ap (λ w. hidden w (f p.0)) free ∙ met.1,
  early,
  λ j inside before. by_left (in_span rest j) (λ here. unwritten_none f ws j (met.2 j here before)) (λ gone. left.passed j inside gone),
)

pub left_past : (from_top : Bool) (f : Cells) (ws : List Written) (span rest : Span) (p : CellKey × Cell) (c : Option Cell) → IsLeft from_top f ws span rest → IsMet from_top f rest (Some p)
    → find cell_key_cmp p.0 (entries_of ws) ≡ Some c → IsLeft from_top f ws span (narrowed from_top rest p.0)
left_past from_top f ws span rest p c left met written = record {
  can = narrowed_can from_top rest p.0 left.can;
  within = λ j here. left.within j (and_true _ _ (sym (narrowed_is from_top rest p.0 j left.can met.0) ∙ here)).0;
  passed = λ j inside outside.
      by_left (in_span rest j)
      (λ here.
      let behind : is_met from_top p.0 j ≡ false = sym (ap (λ b. b && is_met from_top p.0 j) here) ∙ sym (narrowed_is from_top rest p.0 j left.can met.0) ∙ outside in
      elim (met_or_same from_top j p.0 behind) [
        | inl before ↦ unwritten_none f ws j (met.2 j here before)
        | inr same ↦ ap (unwritten f ws) same ∙ hidden_here (find cell_key_cmp p.0 (entries_of ws)) (f p.0) c written
      ])
      (λ gone. left.passed j inside gone);
}

-- a write that a look at a key found
pub written_there : {A : Type 0} (r : Option A) (f : A → Option Cell) (o : Option (Option Cell)) → option_map f r ≡ o → is_some r ≡ true → (c : Option Cell) × (o ≡ Some c)
written_there None f o is there = cc there
written_there (Some a) f o is there = (f a, sym is)

-- ---- how far the walk goes

abbrev one_if : Bool → ℕ
one_if true = 1
one_if false = 0

-- the number of writes in a span
abbrev pub keys_in : Span → List Written → ℕ
keys_in span [] = 0
keys_in span (w ∷ ws) = one_if (in_span span w.key) + keys_in span ws

one_at_most : (a b : Bool) → (a ≡ true → b ≡ true) → one_if a ≤ one_if b
one_at_most true b f = subst (λ (x : Bool). 1 ≤ one_if x) (sym (f refl)) (omega arith)
one_at_most false b f = omega arith

no_more : (rest less : Span) (ws : List Written) → ((j : CellKey) → in_span less j ≡ true → in_span rest j ≡ true) → keys_in less ws ≤ keys_in rest ws
no_more rest less [] f = omega arith
no_more rest less (w ∷ ws) f = omega (arith, one_at_most (in_span less w.key) (in_span rest w.key) (f w.key), no_more rest less ws f)

fewer : (rest less : Span) (ws : List Written) → ((j : CellKey) → in_span less j ≡ true → in_span rest j ≡ true) → (k : CellKey) → in_span rest k ≡ true → in_span less k ≡ false
    → (c : Option Cell) → find cell_key_cmp k (entries_of ws) ≡ Some c → keys_in less ws < keys_in rest ws
fewer rest less [] f k inside outside c written = cc written
fewer rest less (w ∷ ws) f k inside outside c written = by_left (same_cell_key k w.key)
    (λ same.
    let at : k ≡ w.key = same_is k w.key same in
    let yes : one_if (in_span rest w.key) ≡ 1 = ap one_if (sym (ap (in_span rest) at) ∙ inside) in
    let none : one_if (in_span less w.key) ≡ 0 = ap one_if (sym (ap (in_span less) at) ∙ outside) in
    omega (arith, yes, none, no_more rest less ws f))
    (λ other.
    let later = fewer rest less ws f k inside outside c (sym (ap (λ b. cond b (Some w.cell) (find cell_key_cmp k (entries_of ws))) other) ∙ written) in
    omega (arith, one_at_most (in_span less w.key) (in_span rest w.key) (f w.key), later))

pub fewer_left : (from_top : Bool) (rest : Span) (ws : List Written) (k : CellKey) (c : Option Cell) → CanNarrow from_top rest → in_span rest k ≡ true → find cell_key_cmp k (entries_of ws) ≡ Some c
    → keys_in (narrowed from_top rest k) ws < keys_in rest ws
fewer_left from_top rest ws k c can inside written =
    fewer rest (narrowed from_top rest k) ws (λ j here. (and_true _ _ (sym (narrowed_is from_top rest k j can inside) ∙ here)).0) k inside
    (narrowed_is from_top rest k k can inside ∙ ap (λ b. b && is_met from_top k k) inside ∙ itself from_top k) c written

pub at_most_all : (span : Span) (ws : List Written) → keys_in span ws ≤ length ws
at_most_all span [] = omega arith
at_most_all span (w ∷ ws) = omega (arith, one_at_most (in_span span w.key) true (λ e. refl), at_most_all span ws)

-- one step of work passes one write
pub work_step : (before made start all left less : ℕ) → made ≡ counted before → before + left ≤ start + all → less < left → made + less ≤ start + all
work_step before made start all left less is within fewer = let once : made ≤ before + 1 = subst (λ (n : ℕ). n ≤ before + 1) (sym is) (counted_once before) in omega (arith, once)

-- the last step of work
pub work_last : (before made start all left : ℕ) → made ≡ counted before → before + left ≤ start + all → made ≤ start + all + 1
work_last before made start all left is within = let once : made ≤ before + 1 = subst (λ (n : ℕ). n ≤ before + 1) (sym is) (counted_once before) in omega (arith, once)

-- ---- the words of the worlds' definitions

pub is_first : (f : Cells) (span : Span) (found : Option (CellKey × Cell)) → IsMet false f span found → IsFirstIn f span found
is_first f span None met = met
is_first f span (Some p) met = met

pub is_last : (f : Cells) (span : Span) (found : Option (CellKey × Cell)) → IsMet true f span found → IsLastIn f span found
is_last f span None met = met
is_last f span (Some p) met = met
