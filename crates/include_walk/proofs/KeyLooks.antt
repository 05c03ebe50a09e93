-- Looks at the rows of some keys, one key after another.
use Rattle.std.proofs.Common.{◌≡◌, ℕ, ◌+◌, ◌<◌, List, [], ◌∷◌, ◌++◌, length, get_or, take, drop, sym, ap, subst, ◌∙◌}
use Rattle.std.specs.Prelude.{IsTrue}
use Rattle.std.proofs.lemmas.List.{take_more, take-append-drop}
use Rattle.ident_rules.specs.declared.key.Key.{Key}
use Rattle.world_cells.specs.declared.keys.CellKey.{CellKey}
use Rattle.store_model.specs.Reach.{is_row_in}
use Rattle.view_reads.specs.Recording.{Recording}
use Rattle.trial_steps.specs.Steps.{LooksAt}
use Rattle.trial_steps.specs.StepLaws.{looks_more, looks_rows_on, row_in_left}

module _ {V : Type 0} (keys : List Key) (i : ℕ) where
  pub looks_next : (key : Key) (a b c : Recording V) → i < length keys → key ≡ get_or keys i key → LooksAt (is_row_in (take i keys)) a b → LooksAt (is_row_in (key ∷ [])) b c → LooksAt (is_row_in (take (i + 1) keys)) a c
  looks_next key a b c lt is f g = subst (λ (ks : List Key). LooksAt (is_row_in ks) a c) (ap (λ (k : Key). take i keys ++ k ∷ []) is ∙ sym (take_more keys i key lt)) (looks_rows_on (take i keys) (key ∷ []) a b c f g)

  pub looks_some : (a b : Recording V) → LooksAt (is_row_in (take i keys)) a b → LooksAt (is_row_in keys) a b
  looks_some a b f = looks_more (is_row_in (take i keys)) (is_row_in keys) a b
      (λ k e. subst (λ (ks : List Key). IsTrue (is_row_in ks k)) (take-append-drop i keys) (row_in_left (take i keys) (drop i keys) k e)) f
