-- The first links that lead to a key say whether another row links to it.
use Rattle.std.proofs.Common.{◌≡◌, ℕ, ◌-◌, ◌^◌, ◌<◌, ◌≤◌, List, [], ◌∷◌, Bool, true, false, refl, sym, ap, subst, ◌∙◌, Some, None, Option, Result, Ok, Err, length, arith, inl, inr}
use Rattle.std.specs.Prelude.{◌&&◌, ◌||◌, not, IsTrue, is_some, if◌then◌else◌}
use Rattle.std.specs.Option.{option_map_or}
use Rattle.std.specs.List.{list_any, range_with_len}
use Rattle.std.specs.Borrow.{Bor}
use Rattle.std.specs.declared.cmp.Ordering.{Ordering}
use Rattle.std.specs.declared.cmp.Ordering.TheVariants.{Less, Equal, Greater}
use Rattle.std.specs.Ordering.{is_eq, is_lt, ordering_then, ordering_reverse, nat_cmp}
use Rattle.std.specs.Cmp.{tied_itself, ranked}
use Rattle.std.proofs.lemmas.Bool.{or_left}
use Rattle.ident_rules.specs.declared.key.Key.{Key}
use Rattle.ident_rules.specs.declared.memory.NoMemory.{NoMemory}
use Rattle.ident_rules.specs.IdOrder.{is_equal}
use Rattle.ident_rules.specs.Key.{key_cmp, key_cmp_total, same_key, key_is, turned_key}
use Rattle.resource_schema.specs.declared.schema.Schema.{Schema}
use Rattle.world_cells.specs.declared.rows.Row.{Row}
use Rattle.world_cells.specs.declared.keys.CellKey.{CellKey}
use Rattle.world_cells.specs.declared.keys.CellKey.TheVariants as cell_key
use Rattle.world_cells.specs.declared.cells.Cell.{Cell}
use Rattle.world_cells.specs.declared.cells.Cell.TheVariants as cell
use Rattle.world_cells.specs.declared.spans.Span.TheVariants as span
use Rattle.world_cells.specs.CellOrder.{cell_key_cmp}
use Rattle.world_cells.specs.Lists.{IsIn}
use Rattle.world_cells.specs.Reads.{Cells, link_cmp, in_span, IsFirstIn}
use Rattle.world_cells.specs.World.{World, row_at, cell_at, links_to}
use Rattle.store_model.specs.LinkLaws.{passes, find_in, find_of_in, link_somewhere}
use Rattle.store_model.specs.Valid.{IsValid}
use Rattle.store_model.specs.Change.{is_referenced}
use Rattle.store_model.specs.Reach.{is_back_to}
use Rattle.view_reads.specs.Narrowing.{is_behind}
use Rattle.view_reads.specs.Recording.{Recording, LookedFirst, found_key}
use Rattle.view_reads.specs.RecordingLaws.{first_follows, only_part}
use Rattle.trial_steps.specs.Steps.{LooksAt}
use Rattle.row_change.specs.WaysBack.{link_found, FitsLink, IsFirstLink}
use Rattle.trial_steps.specs.StepLaws.{looks_still}

-- ---- tests

and_left : (a b : Bool) → (a && b) ≡ true → a ≡ true
and_left true b e = refl
and_left false b e = cc e

and_right : (a b : Bool) → (a && b) ≡ true → b ≡ true
and_right true b e = e
and_right false b e = cc e

and_both : (a b : Bool) → a ≡ true → b ≡ true → (a && b) ≡ true
and_both true b e h = h
and_both false b e h = cc e

-- ---- what a look into the ways back from a key looks at

back_in : (key : Key) (after : Option (Key × ℕ)) (k : CellKey) → in_span (span.Backs key after) k ≡ true → IsTrue (is_back_to (key ∷ []) k)
back_in key after (cell_key.Row k) e = cc e
back_in key after (cell_key.Back to from rel) e = or_left (same_key to key) false (turned_key to key ∙ and_left (same_key key to) _ e)
back_in key after (cell_key.Counter n) e = cc e

pub looks_back : {V : Type 0} (cells : V → Cells) (old : Recording V) (key : Key) (after : Option (Key × ℕ)) (result : Result (Option (Bor CellKey × Bor Cell)) NoMemory) (new : Recording V)
    → LookedFirst cells old (span.Backs key after) result new → LooksAt (is_back_to (key ∷ [])) old new
looks_back cells old key after (Ok found) new looked = record {
  follows = first_follows cells old (span.Backs key after) found new looked;
  writes = looked.1.writes;
  within = λ k more less. back_in key after k (and_left (in_span (span.Backs key after) k) _ (only_part old.reads new.reads (span.Backs key after) (found_key found) false looked.1.reads k more less));
}
looks_back cells old key after (Err e) new looked = looks_still (is_back_to (key ∷ [])) old new looked

-- ---- the first link that is found

in_backs : (key from : Key) (after : Option (Key × ℕ)) (rel : ℕ) → is_behind after (from, rel) ≡ true → in_span (span.Backs key after) (cell_key.Back key from rel) ≡ true
in_backs key from after rel behind = and_both (same_key key key) _ (ap is_eq (tied_itself key_cmp_total key)) behind

below_cell : (key a from : Key) (r rel : ℕ) → is_lt (link_cmp (a, r) (from, rel)) ≡ true → is_lt (cell_key_cmp (cell_key.Back key a r) (cell_key.Back key from rel)) ≡ true
below_cell key a from r rel below = ap (λ o. is_lt (ordering_then o (ordering_then (key_cmp a from) (nat_cmp r rel)))) (tied_itself key_cmp_total key) ∙ below

pub first_found : (f : Cells) (key : Key) (after : Option (Key × ℕ)) (found : Option (CellKey × Cell)) → IsFirstIn f (span.Backs key after) found → IsFirstLink f key after (link_found found)
first_found f key after None none = λ from rel behind. none (cell_key.Back key from rel) (in_backs key from after rel behind)
first_found f key after (Some (cell_key.Row k, c)) first = absurd (false_true first.0)
  where
    false_true : false ≡ true → ⊥
    false_true e = cc e
first_found f key after (Some (cell_key.Back to from rel, c)) first =
    let same : key ≡ to = key_is key to (and_left (same_key key to) _ first.0) in (
      and_right (same_key key to) (is_behind after (from, rel)) first.0,
      (c, ap (λ q. f (cell_key.Back q from rel)) same ∙ first.1),
      λ a r behind below. first.2 (cell_key.Back key a r) (in_backs key a after r behind)
          (subst (λ (q : Key). is_lt (cell_key_cmp (cell_key.Back key a r) (cell_key.Back q from rel)) ≡ true) same (below_cell key a from r rel below)),
    )
first_found f key after (Some (cell_key.Counter n, c)) first = absurd (false_true first.0)
  where
    false_true : false ≡ true → ⊥
    false_true e = cc e

-- ---- lists

none_passes : {A : Type 0} (p : A → Bool) (xs : List A) → ((x : A) → IsIn xs x → p x ≡ false) → list_any p xs ≡ false
none_passes p [] each = refl
none_passes p (y ∷ xs) each = ap (λ b. b || list_any p xs) (each y (inl refl)) ∙ none_passes p xs (λ x among. each x (inr among))

-- ---- rows that link to the key

back_none : (b : Bool) → (if b then Some cell.Back else None) ≡ None → b ≡ false
back_none true e = cc e
back_none false e = refl

back_some : (b : Bool) (c : Cell) → (if b then Some cell.Back else None) ≡ Some c → b ≡ true
back_some true c e = refl
back_some false c e = cc e

-- no way back from the key leads to another row
none_leads : (schema : Schema) (now : World) (key : Key) → IsValid schema now
    → ((from : Key) (rel : ℕ) → same_key key from ≡ false → cell_at schema now (cell_key.Back key from rel) ≡ None) → is_referenced schema now key ≡ false
none_leads schema now key valid none =
    none_passes (λ e. not (same_key key e.0) && list_any (λ rel. links_to schema e.1 rel key) (range_with_len 0 (length e.1.links))) now.rows (λ e among. at e among (same_key key e.0) refl)
  where
    at : (e : Key × Row) → IsIn now.rows e → (b : Bool) → same_key key e.0 ≡ b → (not (same_key key e.0) && list_any (λ rel. links_to schema e.1 rel key) (range_with_len 0 (length e.1.links))) ≡ false
    at e among true same = ap (λ b. not b && list_any (λ rel. links_to schema e.1 rel key) (range_with_len 0 (length e.1.links))) same
    at e among false apart =
        ap (λ b. not b && list_any (λ rel. links_to schema e.1 rel key) (range_with_len 0 (length e.1.links))) apart
        ∙ none_passes (λ rel. links_to schema e.1 rel key) (range_with_len 0 (length e.1.links)) (λ rel _.
        ap (λ (o : Option Row). option_map_or (λ row. links_to schema row rel key) o false) (sym (find_of_in key_cmp key_cmp_total now.rows e valid.rows_sorted among))
        ∙ back_none (option_map_or (λ row. links_to schema row rel key) (row_at now e.0) false) (none e.0 rel apart))

-- one leads to another row
some_leads : (schema : Schema) (now : World) (key from : Key) (rel : ℕ) (c : Cell) → same_key key from ≡ false → cell_at schema now (cell_key.Back key from rel) ≡ Some c → is_referenced schema now key ≡ true
some_leads schema now key from rel c apart there = by (row_at now from) refl (back_some (option_map_or (λ row. links_to schema row rel key) (row_at now from) false) c there)
  where
    by : (o : Option Row) → row_at now from ≡ o → option_map_or (λ row. links_to schema row rel key) (row_at now from) false ≡ true → is_referenced schema now key ≡ true
    by None is leads = let none : false ≡ true = subst (λ (o : Option Row). option_map_or (λ row. links_to schema row rel key) o false ≡ true) is leads in cc none
    by (Some row) is leads =
        let found = find_in from now.rows row is in
        let links : links_to schema row rel key ≡ true = subst (λ (o : Option Row). option_map_or (λ row. links_to schema row rel key) o false ≡ true) is leads in
        passes (λ e. not (same_key key e.0) && list_any (λ rel. links_to schema e.1 rel key) (range_with_len 0 (length e.1.links))) now.rows (found.0, row) found.1
        (and_both (not (same_key key found.0)) (list_any (λ rel. links_to schema row rel key) (range_with_len 0 (length row.links)))
        (subst (λ q. not (same_key key q) ≡ true) found.2 (ap not apart)) (link_somewhere schema row rel key links))

-- ---- what the first links say

-- there is none
pub none_first : (schema : Schema) (now : World) (key : Key) → IsValid schema now → IsFirstLink (cell_at schema now) key None None → false ≡ is_referenced schema now key
none_first schema now key valid first = sym (none_leads schema now key valid (λ from rel apart. first from rel refl))

-- it is another row's
pub other_first : (schema : Schema) (now : World) (key : Key) (after : Option (Key × ℕ)) (l : Key × ℕ) → IsFirstLink (cell_at schema now) key after (Some l) → same_key key l.0 ≡ false
    → true ≡ is_referenced schema now key
other_first schema now key after l first apart = sym (some_leads schema now key l.0 l.1 first.1.0 apart first.1.1)

-- it is the key's own row's, and then the first behind all of those says it
pub own_first : (schema : Schema) (now : World) (key : Key) (top : ℕ) (l : Key × ℕ) (other : Option (Key × ℕ)) → IsValid schema now → IsFirstLink (cell_at schema now) key None (Some l) → key ≡ l.0
    → IsFirstLink (cell_at schema now) key (Some (key, top)) other → ((m : Key × ℕ) → other ≡ Some m → m.1 ≤ top) → is_some other ≡ is_referenced schema now key
own_first schema now key top l None valid first own behind fits = sym (none_leads schema now key valid (λ from rel apart. by from rel apart (key_cmp key from) refl))
  where
    by : (from : Key) (rel : ℕ) → same_key key from ≡ false → (o : Ordering) → key_cmp key from ≡ o → cell_at schema now (cell_key.Back key from rel) ≡ None
    by from rel apart Less is = behind from rel (ap (λ o. is_lt (ordering_then o (nat_cmp top rel))) is)
    by from rel apart Equal is = let no : true ≡ false = sym (ap is_eq is) ∙ apart in cc no
    by from rel apart Greater is =
        let before : key_cmp from l.0 ≡ Less = ap (key_cmp from) (sym own) ∙ key_cmp_total.antisymm from key ∙ ap ordering_reverse is in
        first.2 from rel refl (ap (λ o. is_lt (ordering_then o (nat_cmp rel l.1))) before)
own_first schema now key top l (Some m) valid first own behind fits = other_first schema now key (Some (key, top)) m behind (apart (same_key key m.0) refl)
  where
    past : (o : Ordering) → o ≡ nat_cmp top m.1 → is_lt o ≡ true → ⊥
    past Less is lt = let above : top < m.1 = ranked top m.1 Less is in let most : m.1 ≤ top = fits m refl in omega (arith, above, most)
    past Equal is lt = cc lt
    past Greater is lt = cc lt

    apart : (b : Bool) → same_key key m.0 ≡ b → same_key key m.0 ≡ false
    apart false is = is
    apart true is = absurd (past (nat_cmp top m.1) refl (ap (λ o. is_lt (ordering_then o (nat_cmp top m.1))) (sym (is_equal (key_cmp key m.0) is)) ∙ behind.0))

-- ---- keys that differ, and numbers of 32 bits

not_so : (b : Bool) → not b ≡ true → b ≡ false
not_so true e = cc e
not_so false e = refl

so : (b : Bool) → not b ≡ false → b ≡ true
so true e = refl
so false e = cc e

pub is_apart : (key from : Key) → not (same_key from key) ≡ true → same_key key from ≡ false
is_apart key from e = turned_key key from ∙ not_so (same_key from key) e

pub is_own : (key from : Key) → not (same_key from key) ≡ false → key ≡ from
is_own key from e = sym (key_is from key (so (same_key from key) e))

pub fits_top : (other : Option (Key × ℕ)) → FitsLink other → (m : Key × ℕ) → other ≡ Some m → m.1 ≤ 2 ^ 32 - 1
fits_top other fits m is = let below : m.1 < 2 ^ 32 = subst FitsLink is fits in omega (arith, below)
