-- Looks at the rows of some keys, one key after another.
use Rattle.std.proofs.Common.{◌≡◌, ℕ, ◌+◌, ◌<◌, ◌≤◌, List, [], ◌∷◌, ◌++◌, Option, length, get_or, take, drop, sym, ap, subst, ◌∙◌}
use Rattle.std.specs.Prelude.{IsTrue}
use Rattle.std.specs.List.{cons_option}
use Rattle.std.proofs.lemmas.List.{take_more, take_all, take-append-drop}
use Rattle.std.proofs.lemmas.List.Elements.{filter_map-append}
use Rattle.ident_rules.specs.declared.key.Key.{Key}
use Rattle.store_model.specs.Reach.{is_row_in}
use Rattle.view_reads.specs.Recording.{Recording}
use Rattle.resource_schema.specs.declared.schema.Schema.{Schema}
use Rattle.world_cells.specs.declared.rows.Row.{Row}
use Rattle.world_cells.specs.Reads.{Cells}
use Rattle.world_cells.specs.World.{row_at}
use Rattle.store_model.specs.Pages.{rows_at}
use Rattle.trial_steps.specs.Steps.{LooksAt, Sees}
use Rattle.trial_steps.specs.StepLaws.{looks_more, looks_rows_on, row_in_left, sees_before, sees_after}

module _ {V : Type 0} (keys : List Key) (i : ℕ) where
  pub looks_next : (key : Key) (a b c : Recording V) → i < length keys → key ≡ get_or keys i key → LooksAt (is_row_in (take i keys)) a b → LooksAt (is_row_in (key ∷ [])) b c → LooksAt (is_row_in (take (i + 1) keys)) a c
  looks_next key a b c lt is f g = subst (λ (ks : List Key). LooksAt (is_row_in ks) a c) (ap (λ (k : Key). take i keys ++ k ∷ []) is ∙ sym (take_more keys i key lt)) (looks_rows_on (take i keys) (key ∷ []) a b c f g)

  pub looks_some : (a b : Recording V) → LooksAt (is_row_in (take i keys)) a b → LooksAt (is_row_in keys) a b
  looks_some a b f = looks_more (is_row_in (take i keys)) (is_row_in keys) a b
      (λ k e. subst (λ (ks : List Key). IsTrue (is_row_in ks k)) (take-append-drop i keys) (row_in_left (take i keys) (drop i keys) k e)) f

-- ---- rows at keys

module _ {V : Type 0} (schema : Schema) (cells : V → Cells) where
  pub rows_seen : (keys : List Key) (i : ℕ) (key : Key) (a b c : Recording V) (rows more : List Row) (found : Option Row) → i < length keys → key ≡ get_or keys i key
      → LooksAt (is_row_in (take i keys)) a b → LooksAt (is_row_in (key ∷ [])) b c
      → Sees schema cells a b (λ now. rows ≡ rows_at now (take i keys)) → Sees schema cells b c (λ now. found ≡ row_at now key) → more ≡ rows ++ cons_option found []
      → Sees schema cells a c (λ now. more ≡ rows_at now (take (i + 1) keys))
  rows_seen keys i key a b c rows more found lt is ab bc first second pushed = λ w now behind leads.
      pushed ∙ ap (λ xs. xs ++ cons_option found []) (sees_before schema cells (is_row_in (key ∷ [])) a b c (λ now. rows ≡ rows_at now (take i keys)) bc first w now behind leads)
      ∙ ap (λ o. rows_at now (take i keys) ++ cons_option o []) (sees_after schema cells (is_row_in (take i keys)) a b c (λ now. found ≡ row_at now key) ab second w now behind leads)
      ∙ sym (ap (rows_at now) (take_more keys i key lt ∙ ap (λ (k : Key). take i keys ++ k ∷ []) (sym is)) ∙ filter_map-append (row_at now) (take i keys) (key ∷ []))

  pub rows_end : (keys : List Key) (i : ℕ) (a b : Recording V) (rows : List Row) → length keys ≤ i → Sees schema cells a b (λ now. rows ≡ rows_at now (take i keys)) → Sees schema cells a b (λ now. rows ≡ rows_at now keys)
  rows_end keys i a b rows le seen = λ w now behind leads. subst (λ (ks : List Key). rows ≡ rows_at now ks) (take_all i keys le) (seen w now behind leads)
