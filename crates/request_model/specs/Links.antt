-- The links of documents (JSON:API 1.1, "Links"; their form is of this project).
use Rattle.std.specs.Prelude.{ℕ, ◌++◌, List, [], codes}
use Rattle.form_urlencoded.specs.Form.{extend_pairs}

-- `/TYPE`
abbrev pub collection_link : List ℕ → List ℕ
collection_link kind = codes "/" ++ kind

-- `/TYPE/ID`
abbrev pub resource_link : List ℕ → List ℕ → List ℕ
resource_link kind id = collection_link kind ++ codes "/" ++ id

-- `/TYPE/ID/REL`
abbrev pub related_link : List ℕ → List ℕ → List ℕ → List ℕ
related_link kind id rel = resource_link kind id ++ codes "/" ++ rel

-- `/TYPE/ID/relationships/REL`
abbrev pub relationship_link : List ℕ → List ℕ → List ℕ → List ℕ
relationship_link kind id rel = resource_link kind id ++ codes "/relationships/" ++ rel

-- the path, `?` and the pairs as a form
abbrev pub path_with_query : List ℕ → List (List ℕ × List ℕ) → List ℕ
path_with_query path pairs = path ++ codes "?" ++ extend_pairs [] pairs
