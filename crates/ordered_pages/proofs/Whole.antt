-- A tree with one change.
use Rattle.std.proofs.Common.{◌≡◌, ℕ, zero, suc, ◌<◌, ◌≤◌, ◌+◌, List, [], ◌∷◌, ◌++◌, Bool, true, false, cond, refl, sym, ap, subst, ◌∙◌, length, get_or, take, drop, Some, None, Option, arith, length-append, inl, inr}
use Rattle.std.specs.Prelude.{not, ⊤}
use Rattle.std.proofs.lemmas.List.{get_or_default}
use Rattle.std.specs.List.{flat_map}
use Rattle.std.specs.Ordering.{is_eq}
use Rattle.std.specs.declared.cmp.Ordering.TheVariants.{Equal}
use Rattle.std.specs.FinMap.Entries.{find, find-put, find-where_key, is_sorted-put, is_sorted-where_key}
use Rattle.world_cells.specs.declared.keys.CellKey.{CellKey}
use Rattle.world_cells.specs.declared.cells.Cell.{Cell}
use Rattle.world_cells.specs.CellOrder.{cell_key_cmp, cell_key_cmp_total, same_cell_key}
use Rattle.world_cells.specs.Lists.{IsIn}
use Rattle.world_cells.specs.CellLaws.{cell_key_is}
use Rattle.ordered_pages.specs.declared.changes.Change.{Change}
use Rattle.ordered_pages.specs.declared.changes.Change.TheVariants as change
use Rattle.ordered_pages.specs.Entries.{Entry, AreRising, Each}
use Rattle.ordered_pages.specs.Tree.{IsTree, IsBough, IsBranch, IsLeaf, leaves_below, leaves_of, entries_in}
use Rattle.ordered_pages.specs.Changes.{written, IsReplaced, IsShared}
use Rattle.ordered_pages.specs.Changed.{key_of, put_of, after, IsChangedIn, IsTreeChanged}
use Rattle.ordered_pages.proofs.Trees.{flat_append, flat_flat, in_tree, split_list}
use Rattle.ordered_pages.proofs.Blocks.{each_at}
use Rattle.ordered_pages.proofs.Sorts.{turned}

abbrev Branch : Type 0
Branch = List (List Entry)

abbrev Bough : Type 0
Bough = List Branch

abbrev below : Bough → List Entry
below g = flat_map (λ b. flat_map (λ l. flat_map (λ e. e ∷ []) l) b) g

abbrev LeafReplaced : List Entry → List (List Entry) → Type 0
LeafReplaced l ls = IsReplaced (λ e es. ⊤) l ls

abbrev BranchReplaced : Branch → List Branch → Type 0
BranchReplaced b bs = IsReplaced LeafReplaced b bs

abbrev BoughReplaced : Bough → List Bough → Type 0
BoughReplaced g gs = IsReplaced BranchReplaced g gs

-- ---- cells after a change

same_back : (j k : CellKey) → same_cell_key j k ≡ same_cell_key k j
same_back j k = ap is_eq (cell_key_cmp_total.antisymm j k) ∙ turned (cell_key_cmp k j)

alike_key : (k q x : CellKey) → cell_key_cmp q x ≡ Equal → not (same_cell_key k x) ≡ not (same_cell_key k q)
alike_key k q x e = ap (λ j. not (same_cell_key k j)) (sym (cell_key_is q x (ap is_eq e)))

cond_not : {A : Type 0} (b : Bool) (x y : A) → cond (not b) x y ≡ cond b y x
cond_not true x y = refl
cond_not false x y = refl

pub find_written : (q k : CellKey) (c : Option Cell) (es : List Entry) → find cell_key_cmp q (written k c es) ≡ cond (same_cell_key q k) c (find cell_key_cmp q es)
find_written q k (Some c) es = find-put cell_key_cmp cell_key_cmp_total q k c es
find_written q k None es =
    find-where_key cell_key_cmp (λ x. not (same_cell_key k x)) q (λ x e. alike_key k q x e) es
    ∙ cond_not (same_cell_key k q) (find cell_key_cmp q es) None ∙ ap (λ b. cond b None (find cell_key_cmp q es)) (same_back k q)

pub rising_written : (k : CellKey) (c : Option Cell) (es : List Entry) → AreRising es → AreRising (written k c es)
rising_written k (Some c) es h = is_sorted-put cell_key_cmp cell_key_cmp_total k c es h
rising_written k None es h = is_sorted-where_key cell_key_cmp (λ x. not (same_cell_key k x)) es h

-- ---- members

pub in_left : {A : Type 0} (xs ys : List A) (x : A) → IsIn xs x → IsIn (xs ++ ys) x
in_left [] ys x h = absurd h
in_left (y ∷ xs) ys x (inl e) = inl e
in_left (y ∷ xs) ys x (inr h) = inr (in_left xs ys x h)

pub in_right : {A : Type 0} (xs ys : List A) (x : A) → IsIn ys x → IsIn (xs ++ ys) x
in_right [] ys x h = h
in_right (y ∷ xs) ys x h = inr (in_right xs ys x h)

by_append : {A P : Type 0} (xs ys : List A) (x : A) → IsIn (xs ++ ys) x → (IsIn xs x → P) → (IsIn ys x → P) → P
by_append [] ys x h f g = g h
by_append (y ∷ xs) ys x (inl e) f g = f (inl e)
by_append (y ∷ xs) ys x (inr h) f g = by_append xs ys x h (λ i. f (inr i)) g

in_take : {A : Type 0} (n : ℕ) (xs : List A) (x : A) → IsIn (take n xs) x → IsIn xs x
in_take zero xs x h = absurd h
in_take (suc n) [] x h = absurd h
in_take (suc n) (y ∷ xs) x (inl e) = inl e
in_take (suc n) (y ∷ xs) x (inr h) = inr (in_take n xs x h)

in_drop : {A : Type 0} (n : ℕ) (xs : List A) (x : A) → IsIn (drop n xs) x → IsIn xs x
in_drop zero xs x h = h
in_drop (suc n) [] x h = absurd h
in_drop (suc n) (y ∷ xs) x h = inr (in_drop n xs x h)

-- ---- leaves that are shared

more_entries : (leaves : List (List Entry)) → Each IsLeaf leaves → length leaves ≤ length (entries_in leaves)
more_entries [] h = omega arith
more_entries (l ∷ leaves) h = let some = h.0.some in let rest = more_entries leaves h.1 in omega (arith, length-append l (entries_in leaves))

each_append : {A : Type 0} (P : A → Type 0) (xs ys : List A) → Each P xs → Each P ys → Each P (xs ++ ys)
each_append P [] ys h i = i
each_append P (x ∷ xs) ys h i = (h.0, each_append P xs ys h.1 i)

each_below : (g : Bough) → Each IsBranch g → Each IsLeaf (leaves_below g)
each_below [] h = tt
each_below (b ∷ g) h = each_append IsLeaf b (leaves_below g) h.0.each (each_below g h.1)

pub each_leaf : (root : List Bough) → Each IsBough root → Each IsLeaf (leaves_of root)
each_leaf [] h = tt
each_leaf (g ∷ root) h = each_append IsLeaf (leaves_below g) (leaves_of root) (each_below g h.0.each) (each_leaf root h.1)

few_after : (c : Change) → length (after c []) ≤ 1
few_after (change.Put held) = omega arith
few_after (change.Remove k) = omega arith

-- of a tree without cells
shared_none : (c : Change) (new : List Bough) → IsTree new → entries_in (leaves_of new) ≡ after c [] → IsShared 2 (leaves_of []) (leaves_of new)
shared_none c new tree is =
    let few = few_after c in
    let more = more_entries (leaves_of new) (each_leaf new tree.sound) in
    let few_leaves : length (leaves_of new) ≤ 2 = let same = ap length is in omega arith in
    record { made = leaves_of new; few = few_leaves; from = λ x h. inr h }

-- of branches in the place of one
shared_branch : (b : Branch) (bs : List Branch) → BranchReplaced b bs → IsShared 2 b (flat_map (λ x. x) bs)
shared_branch b bs s = record {
  made = s.made;
  few = s.few;
  from = λ x h.
      by_append (take s.at b) (s.made ++ drop (s.at + 1) b) x (subst (λ (ls : List (List Entry)). IsIn ls x) s.is h) (λ i. inl (in_take s.at b x i))
      (λ i. by_append s.made (drop (s.at + 1) b) x i (λ j. inr j) (λ j. inl (in_drop (s.at + 1) b x j)));
}

-- of items of which one made room for others
shared_some : {A : Type 0} (leaves : A → List (List Entry)) (old new : List A) (at : ℕ) (made : List A) (d : A) → at < length old → new ≡ take at old ++ (made ++ drop (at + 1) old)
    → IsShared 2 (leaves (get_or old at d)) (flat_map leaves made) → IsShared 2 (flat_map leaves old) (flat_map leaves new)
shared_some leaves old new at made d lt is s =
    let b = leaves (get_or old at d) in
    let front = flat_map leaves (take at old) in
    let back = flat_map leaves (drop (at + 1) old) in
    let whole : flat_map leaves old ≡ front ++ (b ++ back) = split_list leaves old at d lt in
    let parts : flat_map leaves new ≡ front ++ (flat_map leaves made ++ back) =
    ap (flat_map leaves) is ∙ flat_append leaves (take at old) (made ++ drop (at + 1) old) ∙ ap (λ ls. front ++ ls) (flat_append leaves made (drop (at + 1) old)) in
    record {
      made = s.made;
      few = s.few;
      from = λ x h.
          by_append front _ x (subst (λ (ls : List (List Entry)). IsIn ls x) parts h)
          (λ i. inl (subst (λ (ls : List (List Entry)). IsIn ls x) (sym whole) (in_left front (b ++ back) x i)))
          (λ i. by_append (flat_map leaves made) back x i
          (λ j. elim (s.from x j) [
            | inl k ↦ inl (subst (λ (ls : List (List Entry)). IsIn ls x) (sym whole) (in_right front (b ++ back) x (in_left b back x k)))
            | inr k ↦ inr k
          ])
          (λ j. inl (subst (λ (ls : List (List Entry)). IsIn ls x) (sym whole) (in_right front (b ++ back) x (in_right b back x j)))));
    }

-- of boughs in the place of one
shared_bough : (g : Bough) (gs : List Bough) → 0 < length g → BoughReplaced g gs → IsShared 2 (leaves_below g) (leaves_of gs)
shared_bough g gs some s =
    let lt = s.there some in
    subst (λ (ls : List (List Entry)). IsShared 2 (leaves_below g) ls) (sym (flat_flat (λ b. b) gs))
    (shared_some (λ b. b) g (flat_map (λ x. x) gs) s.at s.made [] lt s.is
    (shared_branch (get_or g s.at []) s.made (s.keeps (get_or g s.at []) lt (get_or_default g s.at [] _ lt))))

pub tree_changed : (c : Change) (old new : List Bough) → IsTree old → IsChangedIn below IsBough BoughReplaced c old new → IsTreeChanged c old new
tree_changed c old new tree one =
    let is : entries_in (leaves_of new) ≡ after c (entries_in (leaves_of old)) = sym (in_tree new) ∙ one.entries ∙ ap (after c) (in_tree old) in
    let new_tree : IsTree new = record { sound = one.sound; rising = subst AreRising (sym is) (rising_written (key_of c) (put_of c) (entries_in (leaves_of old)) tree.rising) } in
    record {
      tree = new_tree;
      entries = is;
      cells = λ k. ap (find cell_key_cmp k) is ∙ find_written k (key_of c) (put_of c) (entries_in (leaves_of old));
      shared = by_old old new tree new_tree is one;
    }
  where
    by_old : (old new : List Bough) → IsTree old → IsTree new → entries_in (leaves_of new) ≡ after c (entries_in (leaves_of old)) → IsChangedIn below IsBough BoughReplaced c old new → IsShared 2 (leaves_of old) (leaves_of new)
    by_old [] new tree new_tree is one = shared_none c new new_tree is
    by_old (g ∷ old) new tree new_tree is one =
        let lt = one.there (omega arith) in
        let here = get_or (g ∷ old) one.at [] in
        let bough : IsBough here = each_at IsBough (g ∷ old) one.at [] tree.sound lt in
        shared_some leaves_below (g ∷ old) new one.at one.made [] lt one.is
        (shared_bough here one.made bough.some (one.keeps here lt (get_or_default (g ∷ old) one.at [] _ lt)))
