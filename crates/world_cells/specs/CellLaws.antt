-- Laws of cells: keys that tie, stores under writes, and what a span's first and last cell say of worlds that agree on it.
use Rattle.std.proofs.Common.{◌≡◌, ℕ, List, Bool, true, false, refl, sym, ap, ◌∙◌, Some, None, Option}
use Rattle.std.proofs.lemmas.Bool.{and_from}
use Rattle.std.specs.Prelude.{cond, option_map, unwrap_or, IsTrue, not, ◌&&◌}
use Rattle.std.specs.declared.cmp.Ordering.{Ordering}
use Rattle.std.specs.declared.cmp.Ordering.TheVariants.{Less, Equal, Greater}
use Rattle.std.specs.Ordering.{is_eq, is_lt, ordering_then, ordering_reverse, nat_cmp, eq_by_cmp}
use Rattle.std.specs.Cmp.{tied_itself}
use Rattle.std.specs.FinMap.Entries.{find, put, find-put}
use Rattle.ident_rules.specs.declared.key.Key.{Key}
use Rattle.ident_rules.specs.IdOrder.{is_equal, then_equal}
use Rattle.ident_rules.specs.Key.{key_cmp, same_key}
use Rattle.world_cells.specs.declared.keys.CellKey.{CellKey}
use Rattle.world_cells.specs.declared.keys.CellKey.TheVariants as cell_key
use Rattle.world_cells.specs.declared.cells.Cell.{Cell}
use Rattle.world_cells.specs.declared.spans.Span.{Span}
use Rattle.world_cells.specs.declared.sets.Part.{Part}
use Rattle.world_cells.specs.declared.sets.ReadSet.{ReadSet}
use Rattle.world_cells.specs.declared.sets.Written.{Written}
use Rattle.world_cells.specs.CellOrder.{cell_key_cmp, cell_key_cmp_total, cell_key_cmp-IsAntisymmetric, same_cell_key}
use Rattle.world_cells.specs.Reads.{Cells, covers, in_part, AgreeOn, entries_of, overlay, Leads, IsFirstIn, IsLastIn}

-- ---- keys that tie

-- cell keys that tie are equal
pub cell_key_is : (j k : CellKey) → same_cell_key j k ≡ true → j ≡ k
cell_key_is j k e = cell_key_cmp-IsAntisymmetric j k (is_equal _ e)

-- a row's cell key ties with another's as their keys do
pub same_row_cell : (q r : Key) → same_cell_key (cell_key.Row q) (cell_key.Row r) ≡ same_key q r
same_row_cell q r = then_equal (key_cmp q r)

-- a counter's cell key ties with another's as their types do
pub same_counter_cell : (m n : ℕ) → same_cell_key (cell_key.Counter m) (cell_key.Counter n) ≡ eq_by_cmp nat_cmp m n
same_counter_cell m n = refl

-- ---- stores under writes

pub map_cond : {A B : Type 0} (f : A → B) (b : Bool) (x y : A) → f (cond b x y) ≡ cond b (f x) (f y)
map_cond f true x y = refl
map_cond f false x y = refl

-- the store under entries with one more
pub overlay_entry : (f : Cells) (es : List (CellKey × Option Cell)) (key : CellKey) (c : Option Cell) (k : CellKey)
    → unwrap_or (find cell_key_cmp k (put cell_key_cmp key c es)) (f k) ≡ cond (same_cell_key k key) c (unwrap_or (find cell_key_cmp k es) (f k))
overlay_entry f es key c k =
    ap (λ o. unwrap_or o (f k)) (find-put cell_key_cmp cell_key_cmp_total k key c es)
    ∙ map_cond (λ o. unwrap_or o (f k)) (same_cell_key k key) (Some c) (find cell_key_cmp k es)

-- the store under writes whose entries are some others with one more
pub overlay_entries : (f : Cells) (new : List Written) (es : List (CellKey × Option Cell)) (key : CellKey) (c : Option Cell)
    → entries_of new ≡ put cell_key_cmp key c es → (k : CellKey) → overlay f new k ≡ cond (same_cell_key k key) c (unwrap_or (find cell_key_cmp k es) (f k))
overlay_entries f new es key c is k = ap (λ es. unwrap_or (find cell_key_cmp k es) (f k)) is ∙ overlay_entry f es key c k

-- the store under one more write
pub overlay-put : (f : Cells) (old new : List Written) (key : CellKey) (c : Option Cell)
    → entries_of new ≡ put cell_key_cmp key c (entries_of old) → (k : CellKey) → overlay f new k ≡ cond (same_cell_key k key) c (overlay f old k)
overlay-put f old new key c is k = overlay_entries f new (entries_of old) key c is k

-- one more write leads on to one more change
pub leads-put : (f g h : Cells) (old new : List Written) (key : CellKey) (c : Option Cell) → entries_of new ≡ put cell_key_cmp key c (entries_of old)
    → Leads f old g → ((k : CellKey) → h k ≡ cond (same_cell_key k key) c (g k)) → Leads f new h
leads-put f g h old new key c is leads changed k = overlay-put f old new key c is k ∙ ap (cond (same_cell_key k key) c) (leads k) ∙ sym (changed k)

-- ---- worlds that agree

-- what a look at a covered key answers is the cell of each world that agrees
pub looks_alike : (f g h : Cells) (reads : ReadSet) (writes : List Written) (k : CellKey) → IsTrue (covers reads k) → AgreeOn reads f g → Leads f writes h → overlay g writes k ≡ h k
looks_alike f g h reads writes k covered agree leads = ap (unwrap_or (find cell_key_cmp k (entries_of writes))) (sym (agree k covered)) ∙ leads k

-- ---- spans

not_less : (o : Ordering) → is_lt o ≡ true → not (is_lt (ordering_reverse o)) ≡ true
not_less Less e = refl
not_less Equal e = cc
not_less Greater e = cc

not_less_itself : (k : CellKey) → not (is_lt (cell_key_cmp k k)) ≡ true
not_less_itself k = ap (λ o. not (is_lt o)) (tied_itself cell_key_cmp_total k)

not_less_back : (j k : CellKey) → is_lt (cell_key_cmp j k) ≡ true → not (is_lt (cell_key_cmp k j)) ≡ true
not_less_back j k below = ap (λ o. not (is_lt o)) (cell_key_cmp_total.antisymm k j) ∙ not_less (cell_key_cmp j k) below

-- the part of a span up to the cell that was found first
abbrev pub part_to : Span → Option (CellKey × Cell) → Part
part_to span found = record { span = span; found = option_map (λ p. p.0) found; from_top = false }

-- the part of a span from the top down to the cell that was found last
abbrev pub part_from : Span → Option (CellKey × Cell) → Part
part_from span found = record { span = span; found = option_map (λ p. p.0) found; from_top = true }

-- what was found first is the first in each world that agrees on the part
pub first_alike : (f g h : Cells) (reads : ReadSet) (writes : List Written) (span : Span) (found : Option (CellKey × Cell))
    → ((j : CellKey) → IsTrue (in_part (part_to span found) j) → IsTrue (covers reads j))
    → AgreeOn reads f g → Leads f writes h → IsFirstIn (overlay g writes) span found → IsFirstIn h span found
first_alike f g h reads writes span None read agree leads none = λ j inside.
    sym (looks_alike f g h reads writes j (read j (and_from _ _ inside refl)) agree leads) ∙ none j inside
first_alike f g h reads writes span (Some (k, c)) read agree leads first = (
  first.0,
  sym (looks_alike f g h reads writes k (read k (and_from _ _ first.0 (not_less_itself k))) agree leads) ∙ first.1,
  λ j inside below. sym (looks_alike f g h reads writes j (read j (and_from _ _ inside (not_less_back j k below))) agree leads) ∙ first.2 j inside below,
)

-- what was found last is the last in each world that agrees on the part
pub last_alike : (f g h : Cells) (reads : ReadSet) (writes : List Written) (span : Span) (found : Option (CellKey × Cell))
    → ((j : CellKey) → IsTrue (in_part (part_from span found) j) → IsTrue (covers reads j))
    → AgreeOn reads f g → Leads f writes h → IsLastIn (overlay g writes) span found → IsLastIn h span found
last_alike f g h reads writes span None read agree leads none = λ j inside.
    sym (looks_alike f g h reads writes j (read j (and_from _ _ inside refl)) agree leads) ∙ none j inside
last_alike f g h reads writes span (Some (k, c)) read agree leads last = (
  last.0,
  sym (looks_alike f g h reads writes k (read k (and_from _ _ last.0 (not_less_itself k))) agree leads) ∙ last.1,
  λ j inside above. sym (looks_alike f g h reads writes j (read j (and_from _ _ inside (not_less_back k j above))) agree leads) ∙ last.2 j inside above,
)
