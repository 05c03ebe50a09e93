-- Ways back are counted by a number that rises with their keys, since ids have at most 64 bytes.
use Rattle.std.proofs.Common.{◌≡◌, ℕ, zero, suc, ◌+◌, ◌-◌, ◌*◌, ◌^◌, ◌<◌, ◌≤◌, List, [], ◌∷◌, length, get_or, refl, sym, ap, subst, ◌∙◌, Bool, true, false, Option, Some, None, arith}
use Rattle.std.specs.Prelude.{⊤, ◌&&◌, leb}
use Rattle.std.proofs.lemmas.Bool.{leb-true}
use Rattle.view_reads.specs.SpanLaws.{and_true}
use Rattle.std.specs.declared.cmp.Ordering.{Ordering}
use Rattle.std.specs.declared.cmp.Ordering.TheVariants.{Less, Equal, Greater}
use Rattle.std.specs.Ordering.{nat_cmp, ordering_then}
use Rattle.std.specs.Cmp.{ranked}
use Rattle.std.specs.Cmp.Lexicographic.{slice_cmp}
use Rattle.std.proofs.Math.Nat.{mul-le-mul_right}
use Rattle.ident_rules.specs.declared.key.Key.{Key}
use Rattle.ident_rules.specs.IdOrder.{id_cmp}
use Rattle.ident_rules.specs.Key.{key_cmp, key_cmp-IsAntisymmetric}
use Rattle.world_cells.specs.declared.keys.CellKey.{CellKey}
use Rattle.world_cells.specs.declared.keys.CellKey.TheVariants as cell_key
use Rattle.world_cells.specs.declared.spans.Span.{Span}
use Rattle.world_cells.specs.declared.spans.Span.TheVariants as span
use Rattle.world_cells.specs.Reads.{link_cmp, in_span}
use Rattle.view_reads.specs.Narrowing.{is_behind, narrowed}
use Rattle.view_reads.specs.Bounds.{IsBoundedLink, IsBoundedKey, IsBoundedBacks}
use Rattle.view_reads.specs.SpanLaws.{is_less}

-- ---- texts, the shorter ones first

-- above the rank of each text of n bytes
abbrev room : ℕ → ℕ
room zero = 1
room (suc n) = 257 * room n

abbrev text_rank : List ℕ → ℕ
text_rank [] = 0
text_rank (x ∷ xs) = (x + 1) * room (length xs) + text_rank xs

abbrev AreBytes : List ℕ → Type 0
AreBytes [] = ⊤
AreBytes (x ∷ xs) = (x < 256) × AreBytes xs

are_bytes : (xs : List ℕ) → ((k : ℕ) → k < length xs → get_or xs k 0 < 256) → AreBytes xs
are_bytes [] h = tt
are_bytes (x ∷ xs) h = (h zero (omega arith), are_bytes xs (λ k lt. h (suc k) (omega arith)))

room_pos : (n : ℕ) → 1 ≤ room n
room_pos zero = omega arith
room_pos (suc n) = omega (arith, room_pos n)

room_more : (m n : ℕ) → m ≤ n → room m ≤ room n
room_more zero n h = room_pos n
room_more (suc m) zero h = absurd (omega arith)
room_more (suc m) (suc n) h = omega (arith, room_more m n (omega arith))

text_below : (xs : List ℕ) → AreBytes xs → text_rank xs < room (length xs)
text_below [] b = omega arith
text_below (x ∷ xs) b =
    let short : x + 1 ≤ 256 = let h = b.0 in omega arith in
    omega (arith, mul-le-mul_right (room (length xs)) short, text_below xs b.1)

-- a longer text
longer : (xs ys : List ℕ) → AreBytes xs → length xs < length ys → text_rank xs < text_rank ys
longer xs [] b h = absurd (omega arith)
longer xs (y ∷ ys) b h =
    let one : 1 ≤ y + 1 = omega arith in
    omega (arith, text_below xs b, room_more (length xs) (length ys) (omega arith), mul-le-mul_right (room (length ys)) one)

by_first : (x y : ℕ) (xs ys : List ℕ) (o : Ordering) → o ≡ nat_cmp x y → length xs ≡ length ys → AreBytes xs → (slice_cmp nat_cmp xs ys ≡ Less → text_rank xs < text_rank ys)
    → ordering_then o (slice_cmp nat_cmp xs ys) ≡ Less → (x + 1) * room (length xs) + text_rank xs < (y + 1) * room (length ys) + text_rank ys
by_first x y xs ys Less is same b rest less =
    let above : x < y = ranked x y Less is in
    let more : x + 2 ≤ y + 1 = omega arith in
    let rooms : room (length xs) ≡ room (length ys) = ap room same in
    omega (arith, text_below xs b, mul-le-mul_right (room (length ys)) more, subst (λ (n : ℕ). (x + 1) * n ≡ (x + 1) * room (length ys)) (sym rooms) refl, rooms)
by_first x y xs ys Equal is same b rest less =
    let e : x ≡ y = ranked x y Equal is in
    let heads : (x + 1) * room (length xs) ≡ (y + 1) * room (length ys) = ap (λ n. (n + 1) * room (length xs)) e ∙ ap (λ n. (y + 1) * room n) same in
    omega (arith, heads, rest less)
by_first x y xs ys Greater is same b rest less = cc less

as_long : (xs ys : List ℕ) → length xs ≡ length ys → AreBytes xs → slice_cmp nat_cmp xs ys ≡ Less → text_rank xs < text_rank ys
as_long [] [] same b less = cc less
as_long [] (y ∷ ys) same b less = absurd (omega arith)
as_long (x ∷ xs) [] same b less = absurd (omega arith)
as_long (x ∷ xs) (y ∷ ys) same b less =
    let tails : length xs ≡ length ys = omega arith in
    by_first x y xs ys (nat_cmp x y) refl tails b.1 (as_long xs ys tails b.1) less

by_length : (xs ys : List ℕ) (o : Ordering) → o ≡ nat_cmp (length xs) (length ys) → AreBytes xs → ordering_then o (slice_cmp nat_cmp xs ys) ≡ Less → text_rank xs < text_rank ys
by_length xs ys Less is b less = longer xs ys b (ranked (length xs) (length ys) Less is)
by_length xs ys Equal is b less = as_long xs ys (ranked (length xs) (length ys) Equal is) b less
by_length xs ys Greater is b less = cc less

text_less : (xs ys : List ℕ) → AreBytes xs → id_cmp xs ys ≡ Less → text_rank xs < text_rank ys
text_less xs ys b less = by_length xs ys (nat_cmp (length xs) (length ys)) refl b less

-- ---- links

-- a number with a second one below w
pair_less : (w a b x y : ℕ) → x < w → a < b → a * w + x < b * w + y
pair_less w a b x y small less =
    let more : a + 1 ≤ b = omega arith in
    omega (arith, mul-le-mul_right w more)

pair_most : (w a x n : ℕ) → x < w → a < n → a * w + x < n * w
pair_most w a x n small less =
    let more : a + 1 ≤ n = omega arith in
    omega (arith, mul-le-mul_right w more)

module _ (w u : ℕ) where
  abbrev key_rank : Key → ℕ
  key_rank k = k.kind * w + text_rank k.id

  abbrev link_rank : Key → ℕ → ℕ
  link_rank k rel = key_rank k * u + rel

  by_kind : (k l : Key) (o : Ordering) → o ≡ nat_cmp k.kind l.kind → text_rank k.id < w → AreBytes k.id → ordering_then o (id_cmp k.id l.id) ≡ Less → key_rank k < key_rank l
  by_kind k l Less is small b less = pair_less w k.kind l.kind (text_rank k.id) (text_rank l.id) small (ranked k.kind l.kind Less is)
  by_kind k l Equal is small b less =
      let kinds : k.kind * w ≡ l.kind * w = ap (λ n. n * w) (ranked k.kind l.kind Equal is) in
      omega (arith, kinds, text_less k.id l.id b less)
  by_kind k l Greater is small b less = cc less

  key_less : (k l : Key) → text_rank k.id < w → AreBytes k.id → key_cmp k l ≡ Less → key_rank k < key_rank l
  key_less k l small b less = by_kind k l (nat_cmp k.kind l.kind) refl small b less

  by_key : (k l : Key) (m n : ℕ) (o : Ordering) → key_cmp k l ≡ o → text_rank k.id < w → AreBytes k.id → m < u → (key_cmp k l ≡ Equal → key_rank k ≡ key_rank l) → ordering_then o (nat_cmp m n) ≡ Less → link_rank k m < link_rank l n
  by_key k l m n Less is small b few same less = pair_less u (key_rank k) (key_rank l) m n few (key_less k l small b is)
  by_key k l m n Equal is small b few same less =
      let keys : key_rank k * u ≡ key_rank l * u = ap (λ n. n * u) (same is) in
      let numbers : m < n = ranked m n Less (sym less) in
      omega (arith, keys, numbers)
  by_key k l m n Greater is small b few same less = cc less

  same_rank : (k l : Key) → key_cmp k l ≡ Equal → key_rank k ≡ key_rank l
  same_rank k l e = ap key_rank (key_cmp-IsAntisymmetric k l e)

  link_less : (k l : Key) (m n : ℕ) → text_rank k.id < w → AreBytes k.id → m < u → link_cmp (k, m) (l, n) ≡ Less → link_rank k m < link_rank l n
  link_less k l m n small b few less = by_key k l m n (key_cmp k l) refl small b few (same_rank k l) less

  -- above the rank of each link that is bounded
  abbrev most : ℕ
  most = ((u + 1) * w) * u

  link_most : (k : Key) (m : ℕ) → text_rank k.id < w → k.kind < u → m < u → link_rank k m < most
  link_most k m small kind few = pair_most u (key_rank k) m ((u + 1) * w) few (omega (arith, pair_most w k.kind (text_rank k.id) u small kind, mul-le-mul_right w (one_more u)))
    where
      one_more : (n : ℕ) → n ≤ n + 1
      one_more n = omega arith

  abbrev span_rank : Option (Key × ℕ) → ℕ
  span_rank None = 0
  span_rank (Some l) = link_rank l.0 l.1 + 1

  abbrev IsSmall : Key → ℕ → Type 0
  IsSmall k m = (text_rank k.id < w) × AreBytes k.id × (k.kind < u) × (m < u)

  abbrev AreSmall : Option (Key × ℕ) → Type 0
  AreSmall None = ⊤
  AreSmall (Some l) = IsSmall l.0 l.1

  after_less : (after : Option (Key × ℕ)) (k : Key) (m : ℕ) → AreSmall after → IsSmall k m → is_behind after (k, m) ≡ true → most - span_rank (Some (k, m)) < most - span_rank after
  after_less None k m small next behind = omega (arith, link_most k m next.0 next.2 next.3)
  after_less (Some l) k m small next behind = omega (arith, link_most k m next.0 next.2 next.3, link_less l.0 k l.1 m small.0 small.1 small.3 (is_less _ behind))

small : (k : Key) (m : ℕ) → IsBoundedLink k m → IsSmall (room 64) (2 ^ 32) k m
small k m b = (
  let h = text_below k.id (are_bytes k.id b.bytes) in let more = room_more (length k.id) 64 b.short in most_room (text_rank k.id) (room (length k.id)) (room 64) h more,
  are_bytes k.id b.bytes,
  b.kind_fits,
  b.rel_fits,
)
  where
    most_room : (a m n : ℕ) → a < m → m ≤ n → a < n
    most_room a m n h more = omega arith

after_of : Span → Option (Key × ℕ)
after_of (span.Rows kind low high) = None
after_of (span.Backs to after) = after

-- how many keys a span of ways back can still have, at most
pub backs_left : Span → ℕ
backs_left s = most (room 64) (2 ^ 32) - span_rank (room 64) (2 ^ 32) (after_of s)

pub short_id : (a b : Bool) (n : ℕ) → ((a && leb n 64) && b) ≡ true → n ≤ 64
short_id true b n h = leb-true n 64 (and_true _ _ h).0
short_id false b n h = cc h

all_small : (after : Option (Key × ℕ)) (to : Key) → IsBoundedBacks (span.Backs to after) → AreSmall (room 64) (2 ^ 32) after
all_small None to b = tt
all_small (Some l) to b = small l.0 l.1 b

-- behind a key of it, a span of ways back can have fewer
pub fewer_backs : (s : Span) (k : CellKey) → IsBoundedBacks s → IsBoundedKey k → in_span s k ≡ true → backs_left (narrowed false s k) < backs_left s
unfolding backs_left after_of
fewer_backs (span.Rows kind low high) k b c inside = absurd b
fewer_backs (span.Backs to after) (cell_key.Row k) b c inside = cc inside
fewer_backs (span.Backs to after) (cell_key.Counter n) b c inside = cc inside
fewer_backs (span.Backs to after) (cell_key.Back t from rel) b c inside = after_less (room 64) (2 ^ 32) after from rel (all_small after to b) (small from rel c) (and_true _ _ inside).1

pub still_bounded : (s : Span) (k : CellKey) → IsBoundedBacks s → IsBoundedKey k → in_span s k ≡ true → IsBoundedBacks (narrowed false s k)
still_bounded (span.Rows kind low high) k b c inside = absurd b
still_bounded (span.Backs to after) (cell_key.Row k) b c inside = cc inside
still_bounded (span.Backs to after) (cell_key.Counter n) b c inside = cc inside
still_bounded (span.Backs to after) (cell_key.Back t from rel) b c inside = c
