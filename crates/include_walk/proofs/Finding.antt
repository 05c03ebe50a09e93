-- The rows at the reached keys are those that are included, and what was looked at is within reach.
use Rattle.std.proofs.Common.{◌≡◌, ℕ, ◌<◌, length, get_or, List, [], ◌∷◌, Bool, true, false, map, Option, Some, None, refl, sym, ap, subst, ◌∙◌, ◌⊎◌, inl, inr}
use Rattle.std.specs.Prelude.{⊤, ◌||◌, ◌&&◌, ◌↔◌, not, is_some, IsTrue}
use Rattle.std.specs.List.{list_any, AllByRecursion, cons_option}
use Rattle.std.specs.List.Sorted.{IsStrictlySortedBy}
use Rattle.std.specs.Ordering.{is_lt}
use Rattle.std.specs.declared.cmp.Ordering.TheVariants.{Less}
use Rattle.std.proofs.lemmas.Bool.{or_left, or_right}
use Rattle.ident_rules.specs.declared.key.Key.{Key}
use Rattle.ident_rules.specs.Key.{key_cmp, same_key, key_is, key_itself}
use Rattle.resource_schema.specs.declared.schema.Schema.{Schema}
use Rattle.world_cells.specs.declared.keys.CellKey.{CellKey}
use Rattle.world_cells.specs.declared.keys.CellKey.TheVariants as cell_key
use Rattle.world_cells.specs.declared.rows.Row.{Row}
use Rattle.world_cells.specs.Lists.{IsIn}
use Rattle.world_cells.specs.World.{World, row_at, has_row}
use Rattle.task_forms.specs.declared.queries.Path.{Path}
use Rattle.store_model.specs.Valid.{IsValid}
use Rattle.store_model.specs.Pages.{rows_at}
use Rattle.store_model.specs.Included.{has_key, along, reached_keys, included}
use Rattle.store_model.specs.Reach.{is_row_in, reach_walk}
use Rattle.store_model.specs.Laws.{Pairwise, HasLesserKey, AreIncluded}
use Rattle.include_walk.specs.Sets.{Takes, AreSame}
use Rattle.include_walk.specs.Reading.{is_row_there, reach_along}
use Rattle.include_walk.proofs.Adding.{has_both}
use Rattle.include_walk.proofs.Stepping.{by_bool, by_either, along_there}
use Rattle.include_walk.proofs.Along.{among_paths}
use Rattle.include_walk.proofs.Kept.{kept_tells, is_kept}

and_parts : (a b : Bool) → (a && b) ≡ true → (a ≡ true) × (b ≡ true)
and_parts true b e = (refl, e)
and_parts false b e = cc e

both : (a b : Bool) → a ≡ true → b ≡ true → (a && b) ≡ true
both true b e f = f
both false b e f = cc e

not_back : (b : Bool) → b ≡ false → not b ≡ true
not_back true e = cc e
not_back false e = refl

-- ---- rows at keys

module _ (schema : Schema) (w : World) (valid : IsValid schema w) where
  at_tells : (keys : List Key) (row : Row) → IsIn (rows_at w keys) row → (has_key keys row.key ≡ true) × (row_at w row.key ≡ Some row)
  at_tells [] row h = absurd h
  at_tells (k ∷ keys) row h = by_found (row_at w k) refl h (at_tells keys row)
    where
      by_found : (o : Option Row) → row_at w k ≡ o → IsIn (cons_option (row_at w k) (rows_at w keys)) row → (IsIn (rows_at w keys) row → (has_key keys row.key ≡ true) × (row_at w row.key ≡ Some row))
          → (has_key (k ∷ keys) row.key ≡ true) × (row_at w row.key ≡ Some row)
      by_found None e h tell =
          let rest = tell (subst (λ (o : Option Row). IsIn (cons_option o (rows_at w keys)) row) e h) in
          (or_right (same_key row.key k) _ rest.0, rest.1)
      by_found (Some y) e h tell = first (subst (λ (o : Option Row). IsIn (cons_option o (rows_at w keys)) row) e h)
        where
          first : IsIn (y ∷ rows_at w keys) row → (has_key (k ∷ keys) row.key ≡ true) × (row_at w row.key ≡ Some row)
          first (inl is) =
              let own : row.key ≡ k = ap (λ (r : Row). r.key) (sym is) ∙ (valid.rows k y e).own_key in
              (or_left _ _ (ap (λ (j : Key). same_key j k) own ∙ key_itself k), ap (row_at w) own ∙ e ∙ ap (λ (r : Row). Some r) is)
          first (inr h) = let rest = tell h in (or_right (same_key row.key k) _ rest.0, rest.1)

  at_has : (keys : List Key) (k : Key) (row : Row) → has_key keys k ≡ true → row_at w k ≡ Some row → IsIn (rows_at w keys) row
  at_has [] k row e found = cc e
  at_has (j ∷ keys) k row e found = by_either (same_key k j) (has_key keys k) e
      (λ same. subst (λ (o : Option Row). IsIn (cons_option o (rows_at w keys)) row) (sym (ap (row_at w) (sym (key_is k j same)) ∙ found)) (inl refl))
      (λ later. behind (row_at w j) (at_has keys k row later found))
    where
      behind : (o : Option Row) → IsIn (rows_at w keys) row → IsIn (cons_option o (rows_at w keys)) row
      behind None h = h
      behind (Some y) h = inr h

  all_lesser : (k : Key) (row : Row) (keys : List Key) → row.key ≡ k → AllByRecursion (λ j. key_cmp k j ≡ Less) keys → AllByRecursion (HasLesserKey row) (rows_at w keys)
  all_lesser k row [] own less = tt
  all_lesser k row (j ∷ keys) own less = by_found (row_at w j) refl (all_lesser k row keys own less.1)
    where
      by_found : (o : Option Row) → row_at w j ≡ o → AllByRecursion (HasLesserKey row) (rows_at w keys) → AllByRecursion (HasLesserKey row) (cons_option (row_at w j) (rows_at w keys))
      by_found None e rest = subst (λ (o : Option Row). AllByRecursion (HasLesserKey row) (cons_option o (rows_at w keys))) (sym e) rest
      by_found (Some y) e rest = subst (λ (o : Option Row). AllByRecursion (HasLesserKey row) (cons_option o (rows_at w keys))) (sym e) (
        ap (λ (i : Key). is_lt (key_cmp i y.key)) own ∙ ap (λ (i : Key). is_lt (key_cmp k i)) (valid.rows j y e).own_key ∙ ap is_lt less.0,
        rest,
      )

  rising_rows : (keys : List Key) → IsStrictlySortedBy key_cmp keys → Pairwise HasLesserKey (rows_at w keys)
  unfolding IsStrictlySortedBy
  rising_rows [] rising = tt
  rising_rows (k ∷ keys) rising = by_found (row_at w k) refl (rising_rows keys rising.1)
    where
      by_found : (o : Option Row) → row_at w k ≡ o → Pairwise HasLesserKey (rows_at w keys) → Pairwise HasLesserKey (cons_option (row_at w k) (rows_at w keys))
      by_found None e rest = subst (λ (o : Option Row). Pairwise HasLesserKey (cons_option o (rows_at w keys))) (sym e) rest
      by_found (Some row) e rest = subst (λ (o : Option Row). Pairwise HasLesserKey (cons_option o (rows_at w keys))) (sym e) (all_lesser k row keys (valid.rows k row e).own_key rising.0, rest)

  -- ---- what is included

  module _ (primaries : List Key) (paths : List Path) where
    abbrev kept : Key → Bool
    kept k = has_key (reached_keys schema w primaries paths) k && not (has_key primaries k)

    module _ (reached left keys : List Key) (same : AreSame reached (reached_keys schema w primaries paths)) (takes : Takes reached primaries left) (all : keys ≡ left) where
      kept_is : (k : Key) → has_key keys k ≡ kept k
      kept_is k = ap (λ (ks : List Key). has_key ks k) all ∙ takes k ∙ ap (λ b. b && not (has_key primaries k)) (same k)

      -- by the laws of what is included
      pub found_is : (rows : List Row) → IsStrictlySortedBy key_cmp keys → rows ≡ rows_at w keys
          → ((s : Schema) (v : World) (ks : List Key) (ps : List Path) (a b : List Row) → AreIncluded s v ks ps a → AreIncluded s v ks ps b → a ≡ b)
          → ((s : Schema) (v : World) (ks : List Key) (ps : List Path) → IsValid s v → AreIncluded s v ks ps (included s v ks ps)) → rows ≡ included schema w primaries paths
      found_is rows rising is one law =
          let lawful = law schema w primaries paths valid in
          is ∙ one schema w primaries paths (rows_at w keys) (included schema w primaries paths) (record {
            rising = rising_rows keys rising;
            exactly = λ row. (
              λ h. let tells = at_tells keys row h in (lawful.exactly row).0 (is_kept schema w valid kept row.key row (sym (kept_is row.key) ∙ tells.0) tells.1),
              λ h. let tells = kept_tells schema w valid kept row ((lawful.exactly row).1 h) in at_has keys row.key row (kept_is row.key ∙ tells.0) tells.1,
            );
          }) lawful

    -- ---- what is within reach

    named : (q : Key) (rows : List Row) (row : Row) → IsIn rows row → row.key ≡ q → list_any (same_key q) (map (λ (r : Row). r.key) rows) ≡ true
    named q [] row h own = absurd h
    named q (y ∷ rows) row (inl is) own = or_left _ _ (ap (same_key q) (ap (λ (r : Row). r.key) is ∙ own) ∙ key_itself q)
    named q (y ∷ rows) row (inr h) own = or_right (same_key q y.key) _ (named q rows row h own)

    some_row : (q : Key) (o : Option Row) → is_some o ≡ true → row_at w q ≡ o → kept q ≡ true → is_row_in (map (λ (r : Row). r.key) (included schema w primaries paths)) (cell_key.Row q) ≡ true
    some_row q None there e passes = cc there
    some_row q (Some row) there e passes = named q (included schema w primaries paths) row (is_kept schema w valid kept q row passes e) (valid.rows q row e).own_key

    reach_of : (q : Key) → has_key (reached_keys schema w primaries paths) q ≡ true → has_row w q ≡ true → reach_walk schema primaries paths w (cell_key.Row q) ≡ true
    reach_of q reached there = by_bool (has_key primaries q)
        (λ primary. or_left _ _ primary)
        (λ other. or_right (has_key primaries q) _ (some_row q (row_at w q) there refl (both _ _ reached (not_back _ other))))

    -- along one of the paths
    pub path_in_reach : (j : ℕ) (path : Path) (k : CellKey) → j < length paths → path ≡ get_or paths j path → reach_along schema primaries path.rels w k ≡ true → reach_walk schema primaries paths w k ≡ true
    path_in_reach j path (cell_key.Row q) lt is e = by_either (has_key primaries q) _ e
        (λ primary. or_left _ _ primary)
        (λ on_path. let parts = and_parts _ _ on_path in reach_of q (among_paths schema w primaries paths j path q lt is parts.0) parts.1)
    path_in_reach j path (cell_key.Back to from rel) lt is e = cc e
    path_in_reach j path (cell_key.Counter n) lt is e = cc e

    there_all : (ps : List Path) (q : Key) → has_key (reached_keys schema w primaries ps) q ≡ true → has_row w q ≡ true
    there_all [] q e = cc e
    there_all (p ∷ ps) q e = by_either (has_key (along schema w p.rels primaries) q) (has_key (reached_keys schema w primaries ps) q)
        (sym (has_both (along schema w p.rels primaries) (reached_keys schema w primaries ps) q) ∙ e)
        (λ here. along_there schema w p.rels primaries q valid here) (λ later. there_all ps q later)

    -- the rows that are given
    pub rows_in_reach : (reached left keys : List Key) (k : CellKey) → AreSame reached (reached_keys schema w primaries paths) → Takes reached primaries left → keys ≡ left → is_row_in keys k ≡ true → reach_walk schema primaries paths w k ≡ true
    rows_in_reach reached left keys (cell_key.Row q) same takes all e =
        let parts = and_parts _ _ (sym (kept_is reached left keys same takes all q) ∙ e) in
        reach_of q parts.0 (there_all paths q parts.0)
    rows_in_reach reached left keys (cell_key.Back to from rel) same takes all e = cc e
    rows_in_reach reached left keys (cell_key.Counter n) same takes all e = cc e
