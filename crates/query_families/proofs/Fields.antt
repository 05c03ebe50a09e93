-- Fields by their names.
use Rattle.std.proofs.Common.{◌≡◌, ℕ, ◌||◌, Bool, true, false, List, get_or, Some, None, refl, ap, sym, ◌∙◌}
use Rattle.std.specs.Prelude.{is_some}
use Rattle.std.specs.Str.{bytes_eq}
use Rattle.std.proofs.lemmas.List.Quantifiers.{position-Some}
use Rattle.std.proofs.lemmas.Slice.Eq.{bytes_eq-Decides}
use Rattle.resource_schema.specs.declared.kinds.Attribute.{Attribute}
use Rattle.resource_schema.specs.declared.kinds.Relationship.{Relationship}
use Rattle.resource_schema.specs.Kinds.{number_of_attribute, number_of_relationship}
use Rattle.request_model.specs.Words.{some_if}

pub attribute-found : (attributes : List Attribute) (text : List ℕ) (place : ℕ) (a : Attribute) → number_of_attribute attributes text ≡ Some place → a ≡ get_or attributes place a
    → Some a.name ≡ some_if (is_some (number_of_attribute attributes text)) text
attribute-found attributes text place a found is =
    let there = position-Some (λ a. bytes_eq a.name text) attributes place a found in
    let same = (bytes_eq-Decides (get_or attributes place a).name text).0 there.1 in
    ap (λ (b : Attribute). Some b.name) is ∙ ap Some same ∙ ap (λ o. some_if (is_some o) text) (sym found)

pub relationship-found : (relationships : List Relationship) (text : List ℕ) (place : ℕ) (r : Relationship) → number_of_relationship relationships text ≡ Some place → r ≡ get_or relationships place r
    → Some r.name ≡ some_if (is_some (number_of_relationship relationships text)) text
relationship-found relationships text place r found is =
    let there = position-Some (λ r. bytes_eq r.name text) relationships place r found in
    let same = (bytes_eq-Decides (get_or relationships place r).name text).0 there.1 in
    ap (λ (s : Relationship). Some s.name) is ∙ ap Some same ∙ ap (λ o. some_if (is_some o) text) (sym found)

-- of two tests, the first holds
pub first_some : (a b : Bool) (text name : List ℕ) → Some name ≡ some_if a text → Some name ≡ some_if (a || b) text
first_some true b text name e = e
first_some false b text name e = cc e

pub first_none : (a b : Bool) (text : List ℕ) → None ≡ some_if a text → some_if b text ≡ some_if (a || b) text
first_none true b text e = cc e
first_none false b text e = refl
