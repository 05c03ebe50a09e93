-- Laws of links.
use Rattle.std.specs.Prelude.{◌≡◌, ℕ, ◌++◌, List, [], ◌∷◌, codes}
use Rattle.std.proofs.lemmas.List.{append_assoc}
use Rattle.form_urlencoded.specs.Form.{extend_pairs}
use Rattle.request_model.specs.Links.{path_with_query}

-- a query begins with its `?`
pub with_query_is : (path : List ℕ) (pairs : List (List ℕ × List ℕ)) → path_with_query path pairs ≡ path ++ 63 ∷ extend_pairs [] pairs
with_query_is path pairs = append_assoc path (codes "?") (extend_pairs [] pairs)
