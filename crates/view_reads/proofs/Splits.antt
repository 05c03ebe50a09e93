-- Walks over the writes in a span alone.
use Rattle.std.proofs.Common.{◌≡◌, ℕ, zero, suc, ◌+◌, ◌-◌, ◌<◌, ◌≤◌, List, [], ◌∷◌, length, get_or, refl, sym, ap, subst, ◌∙◌, Bool, true, false, Option, None, inl, inr, arith}
use Rattle.std.specs.Prelude.{cond}
use Rattle.std.specs.Ordering.{is_lt}
use Rattle.std.proofs.lemmas.Bool.{cases_lt}
use Rattle.std.proofs.lemmas.List.{get_or_default, take_all}
use Rattle.world_cells.specs.declared.keys.CellKey.{CellKey}
use Rattle.world_cells.specs.declared.keys.CellKey.TheVariants as cell_key
use Rattle.world_cells.specs.declared.cells.Cell.{Cell}
use Rattle.world_cells.specs.declared.spans.Span.{Span}
use Rattle.world_cells.specs.declared.sets.Written.{Written}
use Rattle.world_cells.specs.CellOrder.{cell_key_cmp}
use Rattle.world_cells.specs.Reads.{overlay, in_span}
use Rattle.view_reads.specs.Narrowing.{IsMet}
use Rattle.view_reads.specs.Merging.{nothing, put_of, put_in}
use Rattle.view_reads.specs.Places.{AreSorted}
use Rattle.view_reads.specs.Sides.{is_passed, IsSplit}
use Rattle.view_reads.specs.SpanLaws.{is_less}
use Rattle.view_reads.proofs.Sorted.{both_T}
use Rattle.view_reads.proofs.Puts.{FirstOfRest, LastOfFront, first_past, first_none, last_past, last_none}
use Rattle.view_reads.proofs.Places.{below_at}
use Rattle.view_reads.specs.SideLaws.{none_passed, before_out, behind_out, then_behind, then_before}

sorted_at : (ws : List Written) (i j : ℕ) (d : Written) → AreSorted ws → i < j → j < length ws → is_lt (cell_key_cmp (get_or ws i d).key (get_or ws j d).key) ≡ true
sorted_at [] i j d h less lt = absurd (omega arith)
sorted_at (w ∷ ws) i zero d h less lt = absurd (omega arith)
sorted_at (w ∷ ws) zero (suc j) d h less lt = below_at w.key ws j d (omega arith) (both_T _ _ h).0
sorted_at (w ∷ ws) (suc i) (suc j) d h less lt = sorted_at ws i j d (both_T _ _ h).1 (omega arith) (omega arith)

other_default : (whole : Bool) (s : Span) (ws : List Written) (i : ℕ) (d e : Written) → i < length ws → is_passed whole s (get_or ws i d).key ≡ is_passed whole s (get_or ws i e).key
other_default whole s ws i d e lt = ap (λ (w : Written). is_passed whole s w.key) (get_or_default ws i d e lt)

-- all behind a write that is not passed
pub left_from : (whole : Bool) (s : Span) (ws : List Written) (n : ℕ) (e : Written) → n < length ws → AreSorted ws → is_passed whole s (get_or ws n e).key ≡ false
    → (i : ℕ) (d : Written) → n ≤ i → i < length ws → is_passed whole s (get_or ws i d).key ≡ false
left_from whole s ws n e lt h left i d from within = elim (cases_lt n i) [
  | inl less ↦ none_passed whole s (get_or ws n d).key (get_or ws i d).key (is_less _ (sorted_at ws n i d h less within)) (other_default whole s ws n d e lt ∙ left)
  | inr ge ↦ let same : i ≡ n = omega arith in ap (λ k. is_passed whole s (get_or ws k d).key) same ∙ other_default whole s ws n d e lt ∙ left
]

by_test : {P : Type 0} (b : Bool) → (b ≡ true → P) → (b ≡ false → P) → P
by_test true f g = f refl
by_test false f g = g refl

-- all before a write that is passed
pub passed_to : (whole : Bool) (s : Span) (ws : List Written) (n : ℕ) (e : Written) → n < length ws → AreSorted ws → is_passed whole s (get_or ws n e).key ≡ true
    → (i : ℕ) (d : Written) → i < n + 1 → is_passed whole s (get_or ws i d).key ≡ true
passed_to whole s ws n e lt h passed i d to = by_test (is_passed whole s (get_or ws i d).key) (λ yes. yes)
    (λ no_more. cc (sym passed ∙ left_from whole s ws i d (omega arith) h no_more n e (omega arith) lt))

-- ---- skipping

out_put : (w : Written) (s : Span) → in_span s w.key ≡ false → put_in w s ≡ None
out_put w s out = ap (λ b. cond b (put_of w) None) out

-- what the write at a place puts, where it is in the span
pub in_put : (ws : List Written) (s : Span) (i : ℕ) (w : Written) (o : Option (CellKey × Cell)) → w ≡ get_or ws i w → in_span s w.key ≡ true → o ≡ put_of w → put_in (get_or ws i w) s ≡ o
in_put ws s i w o at inside is = ap (λ (x : Written). put_in x s) (sym at) ∙ ap (λ b. cond b (put_of w) None) inside ∙ sym is

abbrev PutsNone : List Written → Span → ℕ → ℕ → Type 0
PutsNone ws s n m = (i : ℕ) (d : Written) → n ≤ i → i < n + m → put_in (get_or ws i d) s ≡ None

skip_first : (ws : List Written) (s : Span) (m n : ℕ) (d : Written) → n + m ≤ length ws → AreSorted ws → PutsNone ws s n m → FirstOfRest ws s n → FirstOfRest ws s (n + m)
skip_first ws s zero n d within h none first = let same : n ≡ n + zero = omega arith in subst (λ (k : ℕ). FirstOfRest ws s k) same first
skip_first ws s (suc m) n d within h none first =
    let same : n + 1 + m ≡ n + suc m = omega arith in
    subst (λ (k : ℕ). FirstOfRest ws s k) same
    (skip_first ws s m (n + 1) d (omega arith) h (λ i e from to. none i e (omega arith) (omega arith)) (first_past ws s n d (omega arith) h (none n d (omega arith) (omega arith)) first))

skip_last : (ws : List Written) (s : Span) (m n : ℕ) (d : Written) → n + m ≤ length ws → AreSorted ws → PutsNone ws s n m → LastOfFront ws s (n + m) → LastOfFront ws s n
skip_last ws s zero n d within h none last = let same : n + zero ≡ n = omega arith in subst (λ (k : ℕ). LastOfFront ws s k) same last
skip_last ws s (suc m) n d within h none last =
    let same : n + suc m ≡ n + 1 + m = omega arith in
    last_past ws s n d (omega arith) h (none n d (omega arith) (omega arith))
    (skip_last ws s m (n + 1) d (omega arith) h (λ i e from to. none i e (omega arith) (omega arith)) (subst (λ (k : ℕ). LastOfFront ws s k) same last))

any : Written
any = record { key = cell_key.Counter 0; cell = None }

-- ---- from the low end

pub first_start : (ws : List Written) (s : Span) (n : ℕ) → AreSorted ws → IsSplit false s ws n → FirstOfRest ws s n
first_start ws s n h split =
    let same : 0 + n ≡ n = omega arith in
    subst (λ (k : ℕ). FirstOfRest ws s k) same
    (skip_first ws s n 0 any (let w = split.within in omega arith) h (λ i e from to. out_put (get_or ws i e) s (before_out s (get_or ws i e).key (split.passed i e (omega arith)))) (λ found met. met))

pub first_gone : (ws : List Written) (s : Span) (start n : ℕ) (d : Written) → n < length ws → start ≤ n → AreSorted ws → IsSplit false s ws start → in_span s (get_or ws n d).key ≡ false → FirstOfRest ws s n → IsMet false (overlay nothing ws) s None
first_gone ws s start n d lt from h split out first =
    let behind = left_from true s ws n d lt h (then_behind s (get_or ws n d).key (split.left n d from lt) out) in
    let all : n + (length ws - n) ≡ length ws = omega arith in
    first_none ws s (n + (length ws - n)) all
    (skip_first ws s (length ws - n) n d (omega arith) h (λ i e low to. out_put (get_or ws i e) s (behind_out s (get_or ws i e).key (behind i e low (omega arith)))) first)

-- ---- from the top

pub last_start : (ws : List Written) (s : Span) (n : ℕ) → AreSorted ws → IsSplit true s ws n → LastOfFront ws s n
last_start ws s n h split =
    let within = split.within in
    let all : length ws ≡ n + (length ws - n) = omega arith in
    skip_last ws s (length ws - n) n any (omega arith) h (λ i e low to. out_put (get_or ws i e) s (behind_out s (get_or ws i e).key (split.left i e low (omega arith))))
    (subst (λ (k : ℕ). LastOfFront ws s k) all (λ found met. subst (λ (vs : List Written). IsMet true (overlay nothing vs) s found) (take_all (length ws) ws (let n = length ws in omega arith)) met))

pub last_gone : (ws : List Written) (s : Span) (end n : ℕ) (d : Written) → n < end → AreSorted ws → IsSplit true s ws end → in_span s (get_or ws n d).key ≡ false → LastOfFront ws s (n + 1) → IsMet true (overlay nothing ws) s None
last_gone ws s end n d less h split out last =
    let within = split.within in
    let before = passed_to false s ws n d (omega arith) h (then_before s (get_or ws n d).key (split.passed n d less) out) in
    let all : n + 1 ≡ 0 + (n + 1) = omega arith in
    last_none ws s 0 refl
    (skip_last ws s (n + 1) 0 d (omega arith) h (λ i e low to. out_put (get_or ws i e) s (before_out s (get_or ws i e).key (before i e (omega arith)))) (subst (λ (k : ℕ). LastOfFront ws s k) all last))
