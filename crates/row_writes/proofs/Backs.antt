-- What writes at ways back leave at each cell key.
use Rattle.std.proofs.Common.{◌≡◌, ℕ, ◌+◌, ◌-◌, ◌<◌, List, [], ◌∷◌, ◌++◌, Bool, true, false, length, take, drop, get_or, nat_eq, refl, sym, ap, subst, ◌∙◌, Option, Some, None, arith}
use Rattle.std.specs.Prelude.{cond, not, ◌&&◌, ◌||◌}
use Rattle.std.specs.List.{list_any}
use Rattle.std.specs.declared.cmp.Ordering.{Ordering}
use Rattle.std.specs.declared.cmp.Ordering.TheVariants.{Less, Equal, Greater}
use Rattle.std.specs.Ordering.{is_eq, ordering_then, nat_cmp}
use Rattle.std.specs.Cmp.{tied_itself, nat_cmp_total}
use Rattle.std.specs.Cmp.Lexicographic.{pointwise, nat_list_eq_equiv}
use Rattle.std.proofs.lemmas.List.{take-append-drop, take_more, take_all, length-drop}
use Rattle.std.proofs.lemmas.List.Folds.{list_any_more, list_any-append}
use Rattle.ident_rules.specs.declared.key.Key.{Key}
use Rattle.ident_rules.specs.IdOrder.{id_cmp, id_cmp_ties, then_equal, id_is}
use Rattle.ident_rules.specs.IdOrder.{is_equal}
use Rattle.ident_rules.specs.Key.{key_cmp, key_cmp_total}
use Rattle.world_cells.specs.declared.keys.CellKey.{CellKey}
use Rattle.world_cells.specs.declared.cells.Cell.{Cell}
use Rattle.world_cells.specs.declared.cells.Cell.TheVariants as cell
use Rattle.world_cells.specs.declared.sets.Written.{Written}
use Rattle.world_cells.specs.CellOrder.{same_cell_key, cell_key_cmp-IsAntisymmetric}
use Rattle.world_cells.specs.CellLaws.{overlay-put}
use Rattle.world_cells.specs.Reads.{overlay}
use Rattle.store_model.specs.Valid.{same_id}
use Rattle.view_reads.specs.Places.{Wrote}
use Rattle.row_writes.specs.WritesBacks.{back_from, is_back_of, WritesBacks, turned, TurnsBacks}

-- ---- keys that tie

pub same_then : (o p : Ordering) → is_eq (ordering_then o p) ≡ (is_eq o && is_eq p)
same_then Less p = refl
same_then Equal p = refl
same_then Greater p = refl

cell_key_is : (j k : CellKey) → same_cell_key j k ≡ true → j ≡ k
cell_key_is j k e = cell_key_cmp-IsAntisymmetric j k (is_equal _ e)

-- the ways back from two ids tie as the ids do
same_back : (kind : ℕ) (from : Key) (rel : ℕ) (x y : List ℕ) → same_cell_key (back_from kind from rel x) (back_from kind from rel y) ≡ same_id x y
same_back kind from rel x y =
    ap (λ o. is_eq (ordering_then (ordering_then o (id_cmp x y)) (ordering_then (key_cmp from from) (nat_cmp rel rel)))) (tied_itself nat_cmp_total kind)
    ∙ ap (λ o. is_eq (ordering_then (id_cmp x y) (ordering_then o (nat_cmp rel rel)))) (tied_itself key_cmp_total from)
    ∙ ap (λ o. is_eq (ordering_then (id_cmp x y) o)) (tied_itself nat_cmp_total rel)
    ∙ then_equal (id_cmp x y)

same_test : (a b : Bool) → (a ≡ true → b ≡ true) → (b ≡ true → a ≡ true) → a ≡ b
same_test true b f g = sym (f refl)
same_test false true f g = g refl
same_test false false f g = refl

turned_round : (x y : List ℕ) → pointwise nat_eq x y ≡ pointwise nat_eq y x
turned_round x y = same_test _ _ (λ e. sym (nat_list_eq_equiv.symm x y) ∙ e) (λ e. nat_list_eq_equiv.symm x y ∙ e)

-- the way back from an id is one of those from the kept ids exactly where the id is kept
kept_test : (kind : ℕ) (from : Key) (rel : ℕ) (x : List ℕ) (kept : List (List ℕ))
    → is_back_of kind from rel kept (back_from kind from rel x) ≡ list_any (λ y. pointwise nat_eq y x) kept
kept_test kind from rel x [] = refl
kept_test kind from rel x (y ∷ kept) =
    ap (λ b. b || is_back_of kind from rel kept (back_from kind from rel x)) (same_back kind from rel x y ∙ sym (id_cmp_ties x y) ∙ turned_round x y)
    ∙ ap (λ b. pointwise nat_eq y x || b) (kept_test kind from rel x kept)

-- ---- one more id

put_more : (a s k : Bool) (c b : Option Cell) → (s ≡ true → k ≡ false) → cond s c (cond (a && not k) c b) ≡ cond ((a || s) && not k) c b
put_more true true true c b h = cc (h refl)
put_more false true true c b h = cc (h refl)
put_more true true false c b h = refl
put_more false true false c b h = refl
put_more true false k c b h = refl
put_more false false k c b h = refl

pass_more : (a s k : Bool) (c b : Option Cell) → (s ≡ true → k ≡ true) → cond (a && not k) c b ≡ cond ((a || s) && not k) c b
pass_more true s k c b h = refl
pass_more false false k c b h = refl
pass_more false true true c b h = refl
pass_more false true false c b h = cc (h refl)

-- whether a key that ties with the way back from an id is one of those from the kept ids
kept_there : (kind : ℕ) (from : Key) (rel : ℕ) (x : List ℕ) (kept : List (List ℕ)) (b : Bool) → list_any (λ y. pointwise nat_eq y x) kept ≡ b
    → (k : CellKey) → same_cell_key k (back_from kind from rel x) ≡ true → is_back_of kind from rel kept k ≡ b
kept_there kind from rel x kept b is k same = ap (is_back_of kind from rel kept) (cell_key_is k (back_from kind from rel x) same) ∙ kept_test kind from rel x kept ∙ is

one_more : (kind : ℕ) (from : Key) (rel : ℕ) (ids : List (List ℕ)) (i : ℕ) (x : List ℕ) → i < length ids → x ≡ get_or ids i x → (k : CellKey)
    → (is_back_of kind from rel (take i ids) k || same_cell_key k (back_from kind from rel x)) ≡ is_back_of kind from rel (take (i + 1) ids) k
one_more kind from rel ids i x below at k =
    ap (λ y. is_back_of kind from rel (take i ids) k || same_cell_key k (back_from kind from rel y)) at
    ∙ sym (list_any_more (λ id. same_cell_key k (back_from kind from rel id)) ids i x below)

-- the ways back from no id
pub wrote_none : (kind : ℕ) (from : Key) (rel : ℕ) (kept : List (List ℕ)) (c : Option Cell) (start : List Written) → WritesBacks kind from rel [] kept c start start
wrote_none kind from rel kept c start f k = refl

-- an id that is not kept, whose way back is written
pub wrote_more : (kind : ℕ) (from : Key) (rel : ℕ) (ids kept : List (List ℕ)) (c : Option Cell) (start old new : List Written) (i : ℕ) (x : List ℕ)
    → i < length ids → x ≡ get_or ids i x → list_any (λ y. pointwise nat_eq y x) kept ≡ false
    → (key : CellKey) → key ≡ back_from kind from rel x → Wrote old key c new
    → WritesBacks kind from rel (take i ids) kept c start old → WritesBacks kind from rel (take (i + 1) ids) kept c start new
wrote_more kind from rel ids kept c start old new i x below at lost key is wrote before f k =
    overlay-put f old new (back_from kind from rel x) c (subst (λ (key : CellKey). Wrote old key c new) is wrote) k
    ∙ ap (cond (same_cell_key k (back_from kind from rel x)) c) (before f k)
    ∙ put_more (is_back_of kind from rel (take i ids) k) (same_cell_key k (back_from kind from rel x)) (is_back_of kind from rel kept k) c (overlay f start k) (kept_there kind from rel x kept false lost k)
    ∙ ap (λ b. cond (b && not (is_back_of kind from rel kept k)) c (overlay f start k)) (one_more kind from rel ids i x below at k)

-- an id that is kept
pub wrote_same : (kind : ℕ) (from : Key) (rel : ℕ) (ids kept : List (List ℕ)) (c : Option Cell) (start old : List Written) (i : ℕ) (x : List ℕ)
    → i < length ids → x ≡ get_or ids i x → list_any (λ y. pointwise nat_eq y x) kept ≡ true
    → WritesBacks kind from rel (take i ids) kept c start old → WritesBacks kind from rel (take (i + 1) ids) kept c start old
wrote_same kind from rel ids kept c start old i x below at there before f k =
    before f k
    ∙ pass_more (is_back_of kind from rel (take i ids) k) (same_cell_key k (back_from kind from rel x)) (is_back_of kind from rel kept k) c (overlay f start k) (kept_there kind from rel x kept true there k)
    ∙ ap (λ b. cond (b && not (is_back_of kind from rel kept k)) c (overlay f start k)) (one_more kind from rel ids i x below at k)

-- ---- one link

-- the front of a list, and what is behind it
front_or_rest : (kind : ℕ) (from : Key) (rel n : ℕ) (ids : List (List ℕ)) (k : CellKey)
    → is_back_of kind from rel ids k ≡ (is_back_of kind from rel (take n ids) k || is_back_of kind from rel (drop n ids) k)
front_or_rest kind from rel n ids k =
    ap (λ l. is_back_of kind from rel l k) (sym (take-append-drop n ids))
    ∙ list_any-append (λ id. same_cell_key k (back_from kind from rel id)) (take n ids) (drop n ids)

-- what both lists share is neither removed nor put
shared_stays : (a o n : Bool) (c : Option Cell) → cond (n && not (a || o)) (Some cell.Back) (cond (o && not (a || n)) None c) ≡ turned (a || o) (a || n) c
shared_stays true true true c = refl
shared_stays true true false c = refl
shared_stays true false true c = refl
shared_stays true false false c = refl
shared_stays false o n c = refl

-- behind a front that both lists share, the ways back from the ids that go, and then those from the ids that come
pub turned_backs : (kind : ℕ) (from : Key) (rel : ℕ) (old new : List (List ℕ)) (n : ℕ) (gone come : List (List ℕ)) (before mid after : List Written)
    → take n old ≡ take n new → gone ≡ drop n old → come ≡ drop n new
    → WritesBacks kind from rel gone new None before mid → WritesBacks kind from rel come old (Some cell.Back) mid after → TurnsBacks kind from rel old new before after
turned_backs kind from rel old new n gone come before mid after shared is_gone is_come removed put f k =
    let was : is_back_of kind from rel old k ≡ (is_back_of kind from rel (take n old) k || is_back_of kind from rel (drop n old) k) = front_or_rest kind from rel n old k in
    let is : is_back_of kind from rel new k ≡ (is_back_of kind from rel (take n old) k || is_back_of kind from rel (drop n new) k) =
    front_or_rest kind from rel n new k ∙ ap (λ l. is_back_of kind from rel l k || is_back_of kind from rel (drop n new) k) (sym shared) in
    subst (λ (l : List (List ℕ)). WritesBacks kind from rel l old (Some cell.Back) mid after) is_come put f k
    ∙ ap (cond (is_back_of kind from rel (drop n new) k && not (is_back_of kind from rel old k)) (Some cell.Back))
    (subst (λ (l : List (List ℕ)). WritesBacks kind from rel l new None before mid) is_gone removed f k)
    ∙ ap (λ b. cond (is_back_of kind from rel (drop n new) k && not b) (Some cell.Back) (cond (is_back_of kind from rel (drop n old) k && not (is_back_of kind from rel new k)) None (overlay f before k))) was
    ∙ ap (λ b. cond (is_back_of kind from rel (drop n new) k && not (is_back_of kind from rel (take n old) k || is_back_of kind from rel (drop n old) k)) (Some cell.Back)
    (cond (is_back_of kind from rel (drop n old) k && not b) None (overlay f before k))) is
    ∙ shared_stays (is_back_of kind from rel (take n old) k) (is_back_of kind from rel (drop n old) k) (is_back_of kind from rel (drop n new) k) (overlay f before k)
    ∙ ap (λ b. turned b (is_back_of kind from rel (take n old) k || is_back_of kind from rel (drop n new) k) (overlay f before k)) (sym was)
    ∙ ap (λ b. turned (is_back_of kind from rel old k) b (overlay f before k)) (sym is)

-- ---- a shared front

-- all that is behind a place, as a slice from there has it
pub rest_from : (n : ℕ) (ids : List (List ℕ)) → take (length ids - n) (drop n ids) ≡ drop n ids
rest_from n ids = take_all (length ids - n) (drop n ids) (omega (arith, length-drop n ids))

-- one more id that is the same in both lists
pub shared_more : (left right : List (List ℕ)) (i : ℕ) (x y : List ℕ) → i < length left → i < length right → x ≡ get_or left i x → y ≡ get_or right i y
    → pointwise nat_eq x y ≡ true → take i left ≡ take i right → take (i + 1) left ≡ take (i + 1) right
shared_more left right i x y in_left in_right at_left at_right same so_far =
    take_more left i x in_left
    ∙ ap (λ l. l ++ get_or left i x ∷ []) so_far
    ∙ ap (λ z. take i right ++ z ∷ []) (sym at_left ∙ id_is x y (sym (id_cmp_ties x y) ∙ same) ∙ at_right)
    ∙ sym (take_more right i y in_right)
