-- A walk over the pairs of a query.
use Rattle.std.proofs.Common.{◌≡◌, ℕ, List, [], ◌∷◌, map, Ok, Err, ap, refl, ◌∙◌}
use Rattle.resource_schema.specs.declared.schema.Schema.{Schema}
use Rattle.resource_schema.specs.declared.targets.Target.{Target}
use Rattle.error_objects.specs.declared.refusals.Refusal.{Refusal}
use Rattle.request_model.specs.declared.forms.Asked.{Asked}
use Rattle.request_model.specs.Results.{◌>>=◌}
use Rattle.request_model.specs.Queries.{decoded_text, with_pair, with_pairs}

-- pairs, decoded
abbrev pub decoded : List (List ℕ × List ℕ) → List (List ℕ × List ℕ)
decoded pairs = map (λ p. (decoded_text p.0, decoded_text p.1)) pairs

module _ (schema : Schema) (t : Target) (first asked : Asked) (all left : List (List ℕ × List ℕ)) (so_far : with_pairs schema t first all ≡ with_pairs schema t asked (decoded left)) where
  module _ (name value n v : List ℕ) (more : List (List ℕ × List ℕ)) (here : left ≡ (name, value) ∷ more) (named : n ≡ decoded_text name) (valued : v ≡ decoded_text value) where
    at_pair : with_pairs schema t first all ≡ ◌>>=◌ (with_pair schema t asked (n, v)) (λ a. with_pairs schema t a (decoded more))
    at_pair =
        let pair_is : (decoded_text name, decoded_text value) ≡ (n, v) = rw (named, valued) refl in
        so_far ∙ ap (λ l. with_pairs schema t asked (decoded l)) here
        ∙ ap (λ p. ◌>>=◌ (with_pair schema t asked p) (λ a. with_pairs schema t a (decoded more))) pair_is

    -- one more was read
    pub pairs-more : (a : Asked) → with_pair schema t asked (n, v) ≡ Ok a → with_pairs schema t first all ≡ with_pairs schema t a (decoded more)
    pairs-more a good = at_pair ∙ ap (λ r. ◌>>=◌ r (λ a. with_pairs schema t a (decoded more))) good

    -- the next one is refused
    pub pairs-stop : (e : Refusal) → with_pair schema t asked (n, v) ≡ Err e → with_pairs schema t first all ≡ Err e
    pairs-stop e bad = at_pair ∙ ap (λ r. ◌>>=◌ r (λ a. with_pairs schema t a (decoded more))) bad

  -- none is left
  pub pairs-end : left ≡ [] → with_pairs schema t first all ≡ Ok asked
  pairs-end here = so_far ∙ ap (λ l. with_pairs schema t asked (decoded l)) here
