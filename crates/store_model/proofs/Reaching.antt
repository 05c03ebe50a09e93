-- The keys that are computed are those that are reached.
use Rattle.std.proofs.Common.{◌≡◌, ℕ, ◌≤◌, List, [], ◌∷◌, Bool, true, false, length, take, refl, sym, ap, subst, ◌∙◌, Some, None, Option, arith, inl, inr, suc, zero}
use Rattle.std.specs.Prelude.{◌&&◌, not}
use Rattle.std.specs.Option.{option_map_or}
use Rattle.std.specs.List.{list_any}
use Rattle.std.specs.Cmp.{eq_by_cmp_equiv}
use Rattle.std.specs.Ordering.{is_lt}
use Rattle.std.specs.FinMap.Entries.{where_key, is_sorted-where_key}
use Rattle.std.proofs.lemmas.List.Folds.{list_any-append}
use Rattle.ident_rules.specs.declared.key.Key.{Key}
use Rattle.resource_schema.specs.declared.schema.Schema.{Schema}
use Rattle.world_cells.specs.declared.rows.Row.{Row}
use Rattle.task_forms.specs.declared.queries.Path.{Path}
use Rattle.ident_rules.specs.Key.{key_cmp, key_cmp_total, same_key, key_is}
use Rattle.world_cells.specs.World.{World, row_at, linked, links_to}
use Rattle.world_cells.specs.Lists.{IsIn}
use Rattle.store_model.specs.Included.{HasLink, IsReached, IsReachedAlong, IsReachedFrom, step, along, reached_keys, has_key, included}
use Rattle.store_model.specs.Valid.{IsValid}
use Rattle.store_model.specs.Laws.{HasLesserKey, IsIncluded, AreIncluded}
use Rattle.store_model.proofs.Basics.{not_is_true, not_true, true_is_not_false, one_passes, any_flat_map, in_map, from_map, in_filter, from_filter, pairwise_values}
use Rattle.store_model.specs.LinkLaws.{passes, find_in, find_of_in}
use Rattle.std.proofs.lemmas.Bool.{or_cases, and_from, and_parts, or_left, or_right}

module _ (schema : Schema) (w : World) where
  keys_of_row : (row : Option Row) (rel : ℕ) (to : Key) → list_any (same_key to) (option_map_or (λ r. linked schema r rel) row []) ≡ option_map_or (λ r. links_to schema r rel to) row false
  keys_of_row None rel to = refl
  keys_of_row (Some row) rel to = refl

  has_step : (rel : ℕ) (keys : List Key) (to : Key) → has_key (step schema w rel keys) to ≡ list_any (λ from. option_map_or (λ r. links_to schema r rel to) (row_at w from) false) keys
  has_step rel keys to = any_flat_map (same_key to) (λ from. option_map_or (λ r. linked schema r rel) (row_at w from) []) keys
      ∙ ap (λ p. list_any p keys) (λ i from. keys_of_row (row_at w from) rel to i)

  -- what a step reaches is linked from one of the keys
  step_from : (rel : ℕ) (keys : List Key) (to : Key) → has_key (step schema w rel keys) to ≡ true → (from : Key) × IsIn keys from × HasLink schema w from rel to
  step_from rel keys to e = one_passes _ keys (sym (has_step rel keys to) ∙ e)

  step_to : (rel : ℕ) (keys : List Key) (from to : Key) → IsIn keys from → HasLink schema w from rel to → has_key (step schema w rel keys) to ≡ true
  step_to rel keys from to among link = has_step rel keys to ∙ passes _ keys from among link

  -- each of the keys is among them
  pub itself : (k : Key) (keys : List Key) → IsIn keys k → has_key keys k ≡ true
  itself k keys among = passes (same_key k) keys k among ((eq_by_cmp_equiv key_cmp_total).refl k)

  pub along_sound : (path : List ℕ) (keys : List Key) (to : Key) → has_key (along schema w path keys) to ≡ true → IsReachedAlong schema w path keys to
  along_sound [] keys to e = cc
  along_sound (rel ∷ path) keys to e =
      let next = step schema w rel keys in
      elim (or_cases (has_key next to) (has_key (along schema w path next) to) (sym (list_any-append (same_key to) next (along schema w path next)) ∙ e)) [
        | inl here ↦ let one = step_from rel keys to here in record { from = one.0; among = one.1; steps = 1; some_step = omega arith; within = omega arith; reached = (to, one.2, refl) }
        | inr later ↦
            let rest = along_sound path next to later in
            let one = step_from rel keys rest.from (itself rest.from next rest.among) in
            record { from = one.0; among = one.1; steps = suc rest.steps; some_step = omega arith; within = (let h = rest.within in omega arith); reached = (rest.from, one.2, rest.reached) }
      ]

  pub along_complete : (path : List ℕ) (keys : List Key) (from to : Key) (n : ℕ) → IsIn keys from → suc n ≤ length path → IsReached schema w from (take (suc n) path) to → has_key (along schema w path keys) to ≡ true
  along_complete [] keys from to n among within reached = absurd (omega arith)
  along_complete (rel ∷ path) keys from to zero among within reached =
      let next = step schema w rel keys in
      let link : HasLink schema w from rel to = subst (λ k. HasLink schema w from rel k) reached.2 reached.1 in
      list_any-append (same_key to) next (along schema w path next) ∙ or_left (has_key next to) (has_key (along schema w path next) to) (step_to rel keys from to among link)
  along_complete (rel ∷ path) keys from to (suc n) among within reached =
      let next = step schema w rel keys in
      let one = one_passes (same_key reached.0) next (step_to rel keys from reached.0 among reached.1) in
      let mid : IsIn next reached.0 = subst (λ (k : Key). IsIn next k) (sym (key_is reached.0 one.0 one.2)) one.1 in
      list_any-append (same_key to) next (along schema w path next) ∙ or_right (has_key next to) (has_key (along schema w path next) to) (along_complete path next reached.0 to n mid (omega arith) reached.2)

  pub reached_sound : (primaries : List Key) (paths : List Path) (to : Key) → has_key (reached_keys schema w primaries paths) to ≡ true → IsReachedFrom schema w primaries paths to
  reached_sound primaries paths to e =
      let one = one_passes _ paths (sym (any_flat_map (same_key to) (λ p. along schema w p.rels primaries) paths) ∙ e) in
      record { path = one.0; asked = one.1; along = along_sound one.0.rels primaries to one.2 }

  -- a key that is reached by a prefix is among what is computed along the whole path
  along_reached : (path : List ℕ) (keys : List Key) (to : Key) → IsReachedAlong schema w path keys to → has_key (along schema w path keys) to ≡ true
  along_reached path keys to r = by r.steps r.some_step r.within r.reached
    where
      by : (n : ℕ) → 1 ≤ n → n ≤ length path → IsReached schema w r.from (take n path) to → has_key (along schema w path keys) to ≡ true
      by zero some within reached = absurd (omega arith)
      by (suc n) some within reached = along_complete path keys r.from to n r.among within reached

  pub reached_complete : (primaries : List Key) (paths : List Path) (to : Key) → IsReachedFrom schema w primaries paths to → has_key (reached_keys schema w primaries paths) to ≡ true
  reached_complete primaries paths to r =
      any_flat_map (same_key to) (λ p. along schema w p.rels primaries) paths
      ∙ passes (λ p. has_key (along schema w p.rels primaries) to) paths r.path r.asked (along_reached r.path.rels primaries to r.along)

  -- ---- included rows

  -- an entry of a valid world is what a look-up finds, and its row stands at its own key
  pub entry_is : IsValid schema w → (e : Key × Row) → IsIn w.rows e → (row_at w e.0 ≡ Some e.1) × (e.1.key ≡ e.0)
  entry_is valid e among =
      let found = find_of_in key_cmp key_cmp_total w.rows e valid.rows_sorted among in
      (found, (valid.rows e.0 e.1 found).own_key)

  -- a row of the world is among its entries
  pub among_entries : (row : Row) → row_at w row.key ≡ Some row → IsIn w.rows (row.key, row)
  among_entries row is =
      let found = find_in row.key w.rows row is in
      subst (λ (k : Key). IsIn w.rows (k, row)) (sym found.2) found.1

  module _ (primaries : List Key) (paths : List Path) where
    abbrev shown_key : Key → Bool
    shown_key k = has_key (reached_keys schema w primaries paths) k && not (has_key primaries k)

    included_from : IsValid schema w → (row : Row) → IsIn (included schema w primaries paths) row → IsIncluded schema w primaries paths row
    included_from valid row among =
        let one = from_map (λ (e : Key × Row). e.1) (where_key key_cmp shown_key w.rows) row among in
        let found = from_filter (λ (e : Key × Row). shown_key e.0) w.rows one.0 one.1 in
        let entry = entry_is valid one.0 found.0 in
        let at : one.0.0 ≡ row.key = sym entry.1 ∙ ap (λ (r : Row). r.key) one.2 in
        let tests = and_parts _ _ found.1 in
        let here : row_at w one.0.0 ≡ Some row = entry.0 ∙ ap Some one.2 in
        record {
          of_world = subst (λ (k : Key). row_at w k ≡ Some row) at here;
          reached = subst (λ (k : Key). IsReachedFrom schema w primaries paths k) at (reached_sound primaries paths one.0.0 tests.0);
          no_primary = λ primary.
              let yes = itself row.key primaries primary in
              let no : has_key primaries row.key ≡ false = subst (λ (k : Key). has_key primaries k ≡ false) at (not_is_true _ tests.1) in
              absurd (true_is_not_false (sym yes ∙ no));
        }

    in_included : (row : Row) → IsIncluded schema w primaries paths row → IsIn (included schema w primaries paths) row
    in_included row is =
        let among = among_entries row is.of_world in
        let no : not (has_key primaries row.key) ≡ true = not_true _ (λ e.
        let one = one_passes (same_key row.key) primaries e in
        is.no_primary (subst (λ (k : Key). IsIn primaries k) (sym (key_is row.key one.0 one.2)) one.1)) in
        in_map (λ (e : Key × Row). e.1) (where_key key_cmp shown_key w.rows) (row.key, row) (
        in_filter (λ (e : Key × Row). shown_key e.0) w.rows (row.key, row) among (
        and_from _ _ (reached_complete primaries paths row.key is.reached) no))

    pub included_exactly : IsValid schema w → AreIncluded schema w primaries paths (included schema w primaries paths)
    included_exactly valid = record {
      rising = pairwise_values key_cmp HasLesserKey (where_key key_cmp shown_key w.rows) (λ d e p q less.
          let one = (entry_is valid d (from_filter (λ (e : Key × Row). shown_key e.0) w.rows d p).0).1 in
          let other = (entry_is valid e (from_filter (λ (e : Key × Row). shown_key e.0) w.rows e q).0).1 in
          ap (λ k. is_lt (key_cmp k e.1.key)) one ∙ ap (λ k. is_lt (key_cmp d.0 k)) other ∙ less)
          (is_sorted-where_key key_cmp shown_key w.rows valid.rows_sorted);
      exactly = λ row. (included_from valid row, in_included row);
    }
