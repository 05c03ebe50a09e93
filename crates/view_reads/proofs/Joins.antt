-- What a part and the one that goes on where it ended cover together.
use Rattle.std.proofs.Common.{◌≡◌, inl, inr, ℕ, ◌+◌, ◌-◌, List, [], ◌∷◌, ◌++◌, length, refl, sym, ap, subst, ◌∙◌, Bool, true, false, Option, Some, None, zero, suc, length-append, arith}
use Rattle.std.specs.Prelude.{cond, IsTrue, not, ◌&&◌, ◌||◌, ◌==◌, slice_get, slice_set as set, slice_index_or}
use Rattle.std.specs.Bool.{beq}
use Rattle.std.specs.Option.{option_map_or}
use Rattle.std.specs.List.{list_any}
use Rattle.std.proofs.lemmas.List.Folds.{list_any-append}
use Rattle.ident_rules.specs.declared.key.Key.{Key}
use Rattle.ident_rules.specs.Key.{key_is}
use Rattle.world_cells.specs.declared.keys.CellKey.{CellKey}
use Rattle.world_cells.specs.declared.keys.CellKey.TheVariants as cell_key
use Rattle.world_cells.specs.declared.spans.Edge.{Edge}
use Rattle.world_cells.specs.declared.spans.Edge.TheVariants as edge
use Rattle.world_cells.specs.declared.spans.Span.{Span}
use Rattle.world_cells.specs.declared.spans.Span.TheVariants as span
use Rattle.world_cells.specs.declared.sets.Part.{Part}
use Rattle.world_cells.specs.CellOrder.{same_cell_key}
use Rattle.world_cells.specs.Reads.{is_above, is_below, in_span, in_part}
use Rattle.view_reads.specs.Narrowing.{is_met, narrowed, CanNarrow}
use Rattle.view_reads.specs.Joining.{start_of, spanning, goes_from, goes_on, widened, joined, last_part, IsWhole, AddsPart}
use Rattle.view_reads.specs.SpanLaws.{is_less}
use Rattle.view_reads.proofs.Puts.{same_is}
use Rattle.view_reads.specs.SpanLaws.{and_true, narrowed_is, above_more, below_more, row_less, same_number}
use Rattle.view_reads.proofs.Merges.{met_or_same, met_trans}

and_no : (b : Bool) → (b && false) ≡ false
and_no true = refl
and_no false = refl

and_yes : (b : Bool) → (b && true) ≡ b
and_yes true = refl
and_yes false = refl

or_no : (b : Bool) → (b || false) ≡ b
or_no true = refl
or_no false = refl

same_flag : (a b : Bool) → beq a b ≡ true → a ≡ b
same_flag true true e = refl
same_flag true false e = cc e
same_flag false true e = cc e
same_flag false false e = refl

some_is : {A : Type 0} (x y : A) → Some x ≡ Some y → x ≡ y
some_is x y e = cc e

-- ---- what a search of the whole span has left behind the key

abbrev IsRest : Bool → Span → Span → CellKey → Type 0
IsRest from_top whole next k = CanNarrow from_top whole × (next ≡ narrowed from_top whole k)

-- what begins behind a key is what a search of the whole span has left there
rest_is : (from_top : Bool) (first next : Span) (k : CellKey) → start_of from_top next ≡ Some k → in_span first k ≡ true → IsRest from_top (spanning from_top first next) next k
rest_is false (span.Rows m low high) (span.Rows kind edge.End h) k starts inside = cc starts
rest_is false (span.Rows m low high) (span.Rows kind (edge.Closed x) h) k starts inside = cc starts
rest_is false (span.Rows m low high) (span.Rows kind (edge.Open x) h) k starts inside = (tt, ap (narrowed false (span.Rows kind low h)) (some_is (cell_key.Row (record { kind = kind; id = x })) k starts))
rest_is true (span.Rows m low high) (span.Rows kind l edge.End) k starts inside = cc starts
rest_is true (span.Rows m low high) (span.Rows kind l (edge.Closed x)) k starts inside = cc starts
rest_is true (span.Rows m low high) (span.Rows kind l (edge.Open x)) k starts inside = (tt, ap (narrowed true (span.Rows kind l high)) (some_is (cell_key.Row (record { kind = kind; id = x })) k starts))
rest_is false (span.Rows m low high) (span.Backs to None) k starts inside = cc starts
rest_is false (span.Rows m low high) (span.Backs to (Some l)) k starts inside = cc (ap (in_span (span.Rows m low high)) (some_is (cell_key.Back to l.0 l.1) k starts) ∙ inside)
rest_is true first (span.Backs to after) k starts inside = cc starts
rest_is false (span.Backs t after) (span.Rows kind edge.End h) k starts inside = cc starts
rest_is false (span.Backs t after) (span.Rows kind (edge.Closed x) h) k starts inside = cc starts
rest_is false (span.Backs t after) (span.Rows kind (edge.Open x) h) k starts inside = cc (ap (in_span (span.Backs t after)) (some_is (cell_key.Row (record { kind = kind; id = x })) k starts) ∙ inside)
rest_is true (span.Backs t after) (span.Rows kind l edge.End) k starts inside = cc starts
rest_is true (span.Backs t after) (span.Rows kind l (edge.Closed x)) k starts inside = cc starts
rest_is true (span.Backs t after) (span.Rows kind l (edge.Open x)) k starts inside = cc (ap (in_span (span.Backs t after)) (some_is (cell_key.Row (record { kind = kind; id = x })) k starts) ∙ inside)
rest_is false (span.Backs t after) (span.Backs to None) k starts inside = cc starts
rest_is false (span.Backs t after) (span.Backs to (Some l)) k starts inside = (tt, ap (narrowed false (span.Backs to after)) (some_is (cell_key.Back to l.0 l.1) k starts))

-- ---- the keys up to the one that was found

rows_below : (m kind : ℕ) (low high h : Edge) (q r : Key) → m ≡ kind → m ≡ q.kind → is_below high q.id ≡ true → is_below h q.id ≡ true → is_met false (cell_key.Row r) (cell_key.Row q) ≡ true → (same : Bool) → (r.kind == m) ≡ same
    → in_span (span.Rows m low high) (cell_key.Row r) ≡ in_span (span.Rows kind low h) (cell_key.Row r)
rows_below m kind low high h q r kinds own below late less false is =
    ap (λ b. (b && is_above low r.id) && is_below high r.id) is
    ∙ sym (ap (λ b. (b && is_above low r.id) && is_below h r.id) (ap (λ n. r.kind == n) (sym kinds) ∙ is))
rows_below m kind low high h q r kinds own below late less true is =
    let before = is_less _ (sym (row_less r q (same_number _ _ is ∙ own)) ∙ less) in
    ap (λ b. (r.kind == m && is_above low r.id) && b) (below_more high q.id r.id below before ∙ sym (below_more h q.id r.id late before))
    ∙ ap (λ n. (r.kind == n && is_above low r.id) && is_below h r.id) kinds

rows_above : (m kind : ℕ) (low l high : Edge) (q r : Key) → m ≡ kind → m ≡ q.kind → is_above low q.id ≡ true → is_above l q.id ≡ true → is_met true (cell_key.Row r) (cell_key.Row q) ≡ true → (same : Bool) → (r.kind == m) ≡ same
    → in_span (span.Rows m low high) (cell_key.Row r) ≡ in_span (span.Rows kind l high) (cell_key.Row r)
rows_above m kind low l high q r kinds own above late more false is =
    ap (λ b. (b && is_above low r.id) && is_below high r.id) is
    ∙ sym (ap (λ b. (b && is_above l r.id) && is_below high r.id) (ap (λ n. r.kind == n) (sym kinds) ∙ is))
rows_above m kind low l high q r kinds own above late more true is =
    let behind = is_less _ (sym (row_less q r (sym own ∙ sym (same_number _ _ is))) ∙ more) in
    ap (λ b. (r.kind == m && b) && is_below high r.id) (above_more low q.id r.id above behind ∙ sym (above_more l q.id r.id late behind))
    ∙ ap (λ n. (r.kind == n && is_above l r.id) && is_below high r.id) kinds

-- the whole span has the keys of its first part that a search meets before a key of both
up_to_key : (from_top : Bool) (first next : Span) (k j : CellKey) → start_of from_top next ≡ Some k → in_span first k ≡ true → in_span (spanning from_top first next) k ≡ true → is_met from_top j k ≡ true
    → in_span first j ≡ in_span (spanning from_top first next) j
up_to_key false (span.Rows m low high) (span.Rows kind l h) (cell_key.Row q) (cell_key.Row r) starts inside within before =
    let one = and_true _ _ inside in
    let other = and_true _ _ within in
    let own = same_number _ _ (and_true _ _ one.0).0 in
    let also = same_number _ _ (and_true _ _ other.0).0 in
    rows_below m kind low high h q r (sym own ∙ also) (sym own) one.1 other.1 before (r.kind == m) refl
up_to_key true (span.Rows m low high) (span.Rows kind l h) (cell_key.Row q) (cell_key.Row r) starts inside within before =
    let one = and_true _ _ (and_true _ _ inside).0 in
    let other = and_true _ _ (and_true _ _ within).0 in
    rows_above m kind low l high q r (sym (same_number _ _ one.0) ∙ same_number _ _ other.0) (sym (same_number _ _ one.0)) one.1 other.1 before (r.kind == m) refl
up_to_key false (span.Rows m low high) (span.Rows kind l h) (cell_key.Row q) (cell_key.Back t from rel) starts inside within before = refl
up_to_key false (span.Rows m low high) (span.Rows kind l h) (cell_key.Row q) (cell_key.Counter n) starts inside within before = refl
up_to_key true (span.Rows m low high) (span.Rows kind l h) (cell_key.Row q) (cell_key.Back t from rel) starts inside within before = refl
up_to_key true (span.Rows m low high) (span.Rows kind l h) (cell_key.Row q) (cell_key.Counter n) starts inside within before = refl
up_to_key from_top (span.Rows m low high) next (cell_key.Back t from rel) j starts inside within before = cc inside
up_to_key from_top (span.Rows m low high) next (cell_key.Counter n) j starts inside within before = cc inside
up_to_key from_top (span.Rows m low high) (span.Backs to after) (cell_key.Row q) j starts inside within before = cc within
up_to_key from_top (span.Backs t after) next (cell_key.Row q) j starts inside within before = cc inside
up_to_key from_top (span.Backs t after) next (cell_key.Counter n) j starts inside within before = cc inside
up_to_key false (span.Backs t after) (span.Rows kind low high) (cell_key.Back u from rel) j starts inside within before = cc within
up_to_key true (span.Backs t after) (span.Rows kind low high) (cell_key.Back u from rel) j starts inside within before = cc within
up_to_key from_top (span.Backs t after) (span.Backs to a) (cell_key.Back u from rel) j starts inside within before =
    ap (λ x. in_span (span.Backs x after) j) (key_is t u (and_true _ _ inside).0 ∙ sym (key_is to u (and_true _ _ within).0))

same_keys : (from_top : Bool) (first next : Span) (k j : CellKey) → start_of from_top next ≡ Some k → in_span first k ≡ true → in_span (spanning from_top first next) k ≡ true → is_met from_top k j ≡ false
    → in_span first j ≡ in_span (spanning from_top first next) j
same_keys from_top first next k j starts inside within late = elim (met_or_same from_top j k late) [
  | inl before ↦ up_to_key from_top first next k j starts inside within before
  | inr same ↦ ap (in_span first) same ∙ inside ∙ sym (ap (in_span (spanning from_top first next)) same ∙ within)
]

-- ---- what is covered

-- whether a search that found a key has met another one by then
abbrev is_met_by : Bool → Option CellKey → CellKey → Bool
is_met_by from_top found j = option_map_or (λ f. not (is_met from_top f j)) found true

in_part_is : (from_top : Bool) (s : Span) (found : Option CellKey) (j : CellKey) → in_part (record { span = s; found = found; from_top = from_top }) j ≡ (in_span s j && is_met_by from_top found j)
in_part_is true s found j = refl
in_part_is false s found j = refl

not_both : (from_top : Bool) (f g j : CellKey) (met : Bool) → is_met from_top g j ≡ met → is_met from_top f g ≡ true → is_met from_top f j ≡ false → not (is_met from_top g j) ≡ true
not_both from_top f g j true is before late = cc (sym late ∙ met_trans from_top f g j before is)
not_both from_top f g j false is before late = ap not is

-- what is not behind the first key found is met by the time of the next one
met_by : (from_top : Bool) (next whole : Span) (f : CellKey) (found : Option CellKey) (j : CellKey) → ((i : CellKey) → in_span next i ≡ (in_span whole i && is_met from_top f i))
    → IsTrue (option_map_or (in_span next) found true) → is_met from_top f j ≡ false → is_met_by from_top found j ≡ true
met_by from_top next whole f None j rest inside late = refl
met_by from_top next whole f (Some g) j rest inside late = not_both from_top f g j (is_met from_top g j) refl (and_true _ _ (sym (rest g) ∙ inside)).1 late

one_of_both : (whole first next met by : Bool) → next ≡ (whole && met) → (met ≡ false → first ≡ whole) → (met ≡ false → by ≡ true) → (whole && by) ≡ ((first && not met) || (next && by))
one_of_both whole first next true by rest same done =
    sym (ap (λ b. b || (next && by)) (and_no first) ∙ ap (λ b. b && by) (rest ∙ and_yes whole))
one_of_both whole first next false by rest same done =
    ap (λ b. whole && b) (done refl) ∙ and_yes whole ∙ sym (same refl) ∙ sym (and_yes first)
    ∙ sym (ap (λ b. (first && true) || (b && by)) (rest ∙ and_no whole) ∙ or_no (first && true))

both_cover : (from_top : Bool) (first next : Span) (f : CellKey) (found : Option CellKey) (j : CellKey) → start_of from_top next ≡ Some f → in_span first f ≡ true → in_span (spanning from_top first next) f ≡ true
    → IsTrue (option_map_or (in_span next) found true)
    → in_part (record { span = spanning from_top first next; found = found; from_top = from_top }) j
    ≡ (in_part (record { span = first; found = Some f; from_top = from_top }) j || in_part (record { span = next; found = found; from_top = from_top }) j)
both_cover from_top first next f found j starts inside within whole =
    let left = rest_is from_top first next f starts inside in
    let rest : (i : CellKey) → in_span next i ≡ (in_span (spanning from_top first next) i && is_met from_top f i) =
    λ i. ap (λ s. in_span s i) left.1 ∙ narrowed_is from_top (spanning from_top first next) f i left.0 within in
    in_part_is from_top (spanning from_top first next) found j
    ∙ one_of_both (in_span (spanning from_top first next) j) (in_span first j) (in_span next j) (is_met from_top f j) (is_met_by from_top found j) (rest j)
    (same_keys from_top first next f j starts inside within) (met_by from_top next (spanning from_top first next) f found j rest whole)
    ∙ sym (ap (λ b. b || in_part (record { span = next; found = found; from_top = from_top }) j) (in_part_is from_top first (Some f) j)
    ∙ ap (λ b. (in_span first j && not (is_met from_top f j)) || b) (in_part_is from_top next found j))

key_same : (x y : CellKey) → same_cell_key x y ≡ true → x ≡ y
key_same x y e = same_is x y e

widened_from : (last next : Part) (found start : Option CellKey) → last.found ≡ found → start_of next.from_top next.span ≡ start → goes_from last next.from_top next.span found start ≡ true → IsWhole next → (j : CellKey)
    → in_part (widened last next) j ≡ (in_part last j || in_part next j)
widened_from last next None start has starts goes whole j = cc goes
widened_from last next (Some f) None has starts goes whole j = cc goes
widened_from last next (Some f) (Some s) has starts goes whole j =
    let most = and_true _ _ goes in
    let some = and_true _ _ most.0 in
    let first = and_true _ _ some.0 in
    let way : last.from_top ≡ next.from_top = same_flag _ _ first.0 in
    let same : f ≡ s = key_same f s first.1 in
    let both = both_cover next.from_top last.span next.span f next.found j (starts ∙ ap Some (sym same)) some.1 most.1 whole in
    both
    ∙ ap (λ b. in_part (record { span = last.span; found = Some f; from_top = b }) j || in_part next j) (sym way)
    ∙ ap (λ o. in_part (record { span = last.span; found = o; from_top = last.from_top }) j || in_part next j) (sym has)

-- ---- among all parts

or_assoc : (a b c : Bool) → (a || (b || c)) ≡ ((a || b) || c)
or_assoc true b c = refl
or_assoc false b c = refl

any_more : {A : Type 0} (p : A → Bool) (xs : List A) (x : A) → list_any p (xs ++ x ∷ []) ≡ (list_any p xs || p x)
any_more p xs x = list_any-append p xs (x ∷ []) ∙ ap (λ b. list_any p xs || b) (or_no (p x))

any_widened : (xs : List Part) (last next : Part) → goes_on last next.from_top next.span ≡ true → IsWhole next → (k : CellKey)
    → list_any (λ p. in_part p k) (xs ++ widened last next ∷ []) ≡ (list_any (λ p. in_part p k) (xs ++ last ∷ []) || in_part next k)
any_widened xs last next goes whole k =
    any_more (λ p. in_part p k) xs (widened last next)
    ∙ ap (λ b. list_any (λ p. in_part p k) xs || b) (widened_from last next last.found (start_of next.from_top next.span) refl refl goes whole k)
    ∙ or_assoc (list_any (λ p. in_part p k) xs) (in_part last k) (in_part next k)
    ∙ ap (λ b. b || in_part next k) (sym (any_more (λ p. in_part p k) xs last))

end_at : {A : Type 0} (xs : List A) (x : A) (n : ℕ) → n ≡ length xs → slice_get (xs ++ x ∷ []) n ≡ Some x
end_at [] x zero e = refl
end_at [] x (suc n) e = absurd (omega arith)
end_at (y ∷ xs) x zero e = absurd (omega arith)
end_at (y ∷ xs) x (suc n) e = end_at xs x n (omega arith)

last_is : (xs : List Part) (x : Part) → last_part (xs ++ x ∷ []) ≡ Some x
last_is xs x =
    let longer = length-append xs (x ∷ []) in
    end_at xs x (length (xs ++ x ∷ []) - 1) (omega (arith, longer))

abbrev by_test : Bool → Part → Part → Bool × Part
by_test b x y = cond b (true, x) (false, y)

test_is : (b : Bool) (x y : Part) → (by_test b x y).0 ≡ b
test_is true x y = refl
test_is false x y = refl

-- whether a part goes on where the last one ended, if there is one
abbrev pub goes_on_end : Option Part → Part → Bool
goes_on_end last part = option_map_or (λ l. goes_on l part.from_top part.span) last false

joins_is : (last : Option Part) (part : Part) → (joined last part).0 ≡ goes_on_end last part
joins_is None part = refl
joins_is (Some last) part = test_is (goes_on last part.from_top part.span) (widened last part) part

-- a part that goes on nowhere
pub adds_alone : (before : List Part) (part : Part) → goes_on_end (last_part before) part ≡ false → AddsPart before part (before ++ part ∷ [])
adds_alone before part apart = record {
  covers = λ k. any_more (λ p. in_part p k) before part;
  count = length-append before (part ∷ []) ∙ ap (λ b. length before + cond b 0 1) (sym (joins_is (last_part before) part ∙ apart));
}

-- a part that goes on where the last one ended
widens : (rest : List Part) (last part : Part) → goes_on last part.from_top part.span ≡ true → IsWhole part → AddsPart (rest ++ last ∷ []) part (rest ++ widened last part ∷ [])
widens rest last part goes whole = record {
  covers = λ k. any_widened rest last part goes whole k;
  count = counts (joined (last_part (rest ++ last ∷ [])) part).0 (joins_is (last_part (rest ++ last ∷ [])) part ∙ ap (λ o. goes_on_end o part) (last_is rest last) ∙ goes);
}
  where
    counts : (b : Bool) → b ≡ true → length (rest ++ widened last part ∷ []) ≡ length (rest ++ last ∷ []) + cond b 0 1
    counts true e = let longer = length-append rest (widened last part ∷ []) in let as_long = length-append rest (last ∷ []) in omega (arith, longer, as_long)
    counts false e = cc e

-- ---- in its place

record Ends (xs : List Part) : Type 0 where
  rest : List Part
  last : Part
  is : xs ≡ rest ++ last ∷ []

ends : (x : Part) (xs : List Part) → Ends (x ∷ xs)
ends x [] = record { rest = []; last = x; is = refl }
ends x (y ∷ ys) = let e = ends y ys in record { rest = x ∷ e.rest; last = e.last; is = ap (λ ps. x ∷ ps) e.is }

set_last : (rest : List Part) (last y : Part) (n : ℕ) → n ≡ length rest → set (rest ++ last ∷ []) n y ≡ rest ++ y ∷ []
set_last [] last y zero e = refl
set_last [] last y (suc n) e = absurd (omega arith)
set_last (x ∷ xs) last y zero e = absurd (omega arith)
set_last (x ∷ xs) last y (suc n) e = ap (λ ps. x ∷ ps) (set_last xs last y n (omega arith))

get_last : (rest : List Part) (last d : Part) (n : ℕ) → n ≡ length rest → slice_index_or (rest ++ last ∷ []) n d ≡ last
get_last [] last d zero e = refl
get_last [] last d (suc n) e = absurd (omega arith)
get_last (x ∷ xs) last d zero e = absurd (omega arith)
get_last (x ∷ xs) last d (suc n) e = get_last xs last d n (omega arith)

abbrev IsWidened : List Part → Part → Type 0
IsWidened before part = (x y : Part) (n : ℕ) → n ≡ length before → goes_on_end (last_part before) part ≡ true → x ≡ slice_index_or before (n - 1) x → y ≡ widened x part → IsWhole part → AddsPart before part (set before (n - 1) y)

widens_end : (rest : List Part) (last part : Part) → IsWidened (rest ++ last ∷ []) part
widens_end rest last part x y n len goes at is whole =
    let longer = length-append rest (last ∷ []) in
    let place : n - 1 ≡ length rest = omega (arith, longer, len) in
    let same : x ≡ last = at ∙ get_last rest last x (n - 1) place in
    let now : set (rest ++ last ∷ []) (n - 1) y ≡ rest ++ widened last part ∷ [] = set_last rest last y (n - 1) place ∙ ap (λ z. rest ++ z ∷ []) (is ∙ ap (λ z. widened z part) same) in
    subst (λ (ps : List Part). AddsPart (rest ++ last ∷ []) part ps) (sym now) (widens rest last part (sym (ap (λ o. goes_on_end o part) (last_is rest last)) ∙ goes) whole)

-- the last part is widened in its place
pub widens_last : (before : List Part) (part : Part) → IsWidened before part
widens_last [] part x y n len goes at is whole = cc goes
widens_last (b ∷ bs) part x y n len goes at is whole =
    let e = ends b bs in
    subst (λ (ps : List Part). IsWidened ps part) (sym e.is) (widens_end e.rest e.last part) x y n len goes at is whole
