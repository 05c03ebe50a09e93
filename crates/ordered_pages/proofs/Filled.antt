-- A tree that is filled from the last cell to the first.
use Rattle.std.proofs.Common.{◌≡◌, List, [], ◌∷◌, ◌++◌, map, true, ap, subst, ◌∙◌, Some, append_assoc}
use Rattle.std.specs.Ordering.{is_lt}
use Rattle.world_cells.specs.declared.keys.CellKey.{CellKey}
use Rattle.world_cells.specs.CellOrder.{cell_key_cmp}
use Rattle.world_cells.specs.Reads.{AreRisingKeys}
use Rattle.view_reads.specs.SpanLaws.{less_trans}
use Rattle.ordered_pages.specs.declared.changes.Change.{Change}
use Rattle.ordered_pages.specs.Entries.{Entry}
use Rattle.ordered_pages.specs.Changes.{written}
use Rattle.ordered_pages.specs.Changed.{key_of, put_of, after, IsTreeChanged}
use Rattle.ordered_pages.specs.Prepared.{IsFilled}
use Rattle.ordered_pages.proofs.Written.{AllAbove, put_before}

above_more : (j k : CellKey) (es : List Entry) → is_lt (cell_key_cmp j k) ≡ true → AllAbove k es → AllAbove j es
above_more j k [] less h = tt
above_more j k (e ∷ es) less h = (less_trans j k e.0 less h.0, above_more j k es less h.1)

above_rest : (e : Entry) (es : List Entry) → AreRisingKeys (map (λ (x : Entry). x.0) (e ∷ es)) → AllAbove e.0 es
above_rest e [] h = tt
above_rest e (f ∷ es) h = (h.0, above_more e.0 f.0 es h.0 (above_rest f es h.1))

rising_back : (xs ys : List Entry) → AreRisingKeys (map (λ (x : Entry). x.0) (xs ++ ys)) → AreRisingKeys (map (λ (x : Entry). x.0) ys)
rising_back [] ys h = h
rising_back (x ∷ []) [] h = tt
rising_back (x ∷ []) (y ∷ ys) h = h.1
rising_back (x ∷ z ∷ xs) ys h = rising_back (z ∷ xs) ys h.1

pub all_more : (cells before left rest : List Entry) (e : Entry) → cells ≡ before ++ rest → before ≡ left ++ e ∷ [] → cells ≡ left ++ e ∷ rest
all_more cells before left rest e all popped = all ∙ ap (λ xs. xs ++ rest) popped ∙ append_assoc left (e ∷ []) rest

pub filled_more : (cells left rest : List Entry) (e : Entry) (c : Change) (old new : List (List (List (List Entry)))) → AreRisingKeys (map (λ (x : Entry). x.0) cells) → cells ≡ left ++ e ∷ rest
    → key_of c ≡ e.0 → put_of c ≡ Some e.1 → IsFilled rest old → IsTreeChanged c old new → IsFilled (e ∷ rest) new
filled_more cells left rest e c old new rising all key put filled one = record {
  tree = one.tree;
  entries =
      one.entries ∙ ap (after c) filled.entries ∙ ap (λ k. written k (put_of c) rest) key ∙ ap (λ o. written e.0 o rest) put
      ∙ put_before e.0 e.1 rest (above_rest e rest (rising_back left (e ∷ rest) (subst (λ (es : List Entry). AreRisingKeys (map (λ (x : Entry). x.0) es)) all rising)));
}
