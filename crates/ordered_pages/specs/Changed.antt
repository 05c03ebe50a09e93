-- What one change makes of a node and of a list of nodes.
use Rattle.std.specs.Prelude.{◌≡◌, ◌≤◌, ◌<◌, ◌+◌, ℕ, List, [], ◌∷◌, ◌++◌, length, get_or, take, drop, cond, Some, None, Option}
use Rattle.std.specs.List.{flat_map}
use Rattle.std.specs.Arc.{arc_value}
use Rattle.world_cells.specs.declared.keys.CellKey.{CellKey}
use Rattle.world_cells.specs.declared.cells.Cell.{Cell}
use Rattle.ordered_pages.specs.declared.changes.Change.{Change}
use Rattle.ordered_pages.specs.declared.changes.Change.TheVariants as change
use Rattle.ordered_pages.specs.Entries.{Entry, Each, IsNode}
use Rattle.ordered_pages.specs.Changes.{written, IsShared, IsReplaced}
use Rattle.ordered_pages.specs.Tree.{IsTree, map_of, leaves_of, entries_in}
use Rattle.world_cells.specs.CellOrder.{same_cell_key}

abbrev pub key_of : Change → CellKey
key_of (change.Put held) = (arc_value {X = Entry} held.now).0
key_of (change.Remove k) = k.now

-- the cell that is put
abbrev pub put_of : Change → Option Cell
put_of (change.Put held) = Some (arc_value {X = Entry} held.now).1
put_of (change.Remove k) = None

-- the entry that is put, if one is
abbrev pub put_entries : Change → List Entry
put_entries (change.Put held) = arc_value held.now ∷ []
put_entries (change.Remove k) = []

-- the entries after a change
abbrev pub after : Change → List Entry → List Entry
after c es = written (key_of c) (put_of c) es

pub record IsChanged {A : Type 0} (f : A → List Entry) (P : A → Type 0) (R : A → List A → Type 0) (change : Change) (old : A) (new : List A) : Type 0 where
  pub entries : flat_map f new ≡ after change (f old)
  pub sound : Each P new
  pub few : length new ≤ 2
  pub keeps : R old new

-- a node of which an item was changed: none, one or two nodes with what stays of its items
abbrev pub IsNodeChanged : {A : Type 0} → (A → List Entry) → (A → Type 0) → (A → List A → Type 0) → Change → List A → List (List A) → Type 0
IsNodeChanged f P R change old new = IsChanged (λ s. flat_map f s) (λ s. IsNode P s) (λ s ss. IsReplaced R s ss) change old new

-- a list of nodes of which one was changed
pub record IsChangedIn {A : Type 0} (f : A → List Entry) (P : A → Type 0) (R : A → List A → Type 0) (change : Change) (old new : List A) : Type 0 where
  pub entries : flat_map f new ≡ after change (flat_map f old)
  pub sound : Each P new
  pub few : length new ≤ length old + 1
  pub at : ℕ
  pub made : List A
  pub few_made : length made ≤ 2
  pub there : 0 < length old → at < length old
  pub is : new ≡ take at old ++ (made ++ drop (at + 1) old)
  pub keeps : (x : A) → at < length old → x ≡ get_or old at x → R x made

-- a tree with one change, whose leaves are those of the old one but at most two
pub record IsTreeChanged (c : Change) (old new : List (List (List (List Entry)))) : Type 0 where
  pub tree : IsTree new
  pub entries : entries_in (leaves_of new) ≡ after c (entries_in (leaves_of old))
  pub cells : (k : CellKey) → map_of (leaves_of new) k ≡ cond (same_cell_key k (key_of c)) (put_of c) (map_of (leaves_of old) k)
  pub shared : IsShared 2 (leaves_of old) (leaves_of new)

-- a tree with what a write puts at its key, or without what stood there
pub record IsWritten (key : CellKey) (cell : Option Cell) (old new : List (List (List (List Entry)))) : Type 0 where
  pub tree : IsTree new
  pub cells : (k : CellKey) → map_of (leaves_of new) k ≡ cond (same_cell_key k key) cell (map_of (leaves_of old) k)
  pub shared : IsShared 2 (leaves_of old) (leaves_of new)

-- none, one or two nodes with the same items
pub record IsHalved {A : Type 0} (P : A → Type 0) (items : List A) (new : List (List A)) : Type 0 where
  pub same : flat_map (λ x. x) new ≡ items
  pub sound : Each (IsNode P) new
  pub few : length new ≤ 2
