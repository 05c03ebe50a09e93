-- The extensions that the parameters of a media type name, one parameter after another.
use Rattle.std.proofs.Common.{◌≡◌, ◌&&◌, ◌||◌, Bool, true, false, List, ℕ, [], ◌∷◌, ◌++◌, refl, sym, ap, ◌∙◌}
use Rattle.std.specs.Prelude.{codes, filter, not, if◌then◌else◌}
use Rattle.std.specs.List.{list_all, list_any, flat_map}
use Rattle.std.proofs.lemmas.List.Elements.{filter-append}
use Rattle.std.proofs.lemmas.List.Folds.{list_all-append, list_any-append}
use Rattle.request_model.specs.declared.forms.Param.{Param}
use Rattle.request_model.specs.Words.{parts_at, is_any, space}
use Rattle.request_model.specs.Negotiation.{is_atomic, is_named}

-- the URIs of a parameter
abbrev uris : Param → List (List ℕ)
uris p = parts_at space p.value

-- a parameter `ext`
abbrev is_ext : Param → Bool
is_ext p = is_named (codes "ext") p

abbrev found : List Param → List (List ℕ)
found ps = filter is_any (flat_map uris (filter is_ext ps))

found-then : (p : Param) (ps : List Param) (b : Bool) → is_ext p ≡ b → found (p ∷ ps) ≡ (if b then filter is_any (uris p) ++ found ps else found ps)
found-then p ps true h = ap (λ c. filter is_any (flat_map uris (if c then p ∷ filter is_ext ps else filter is_ext ps))) h ∙ filter-append is_any (uris p) (flat_map uris (filter is_ext ps))
found-then p ps false h = ap (λ c. filter is_any (flat_map uris (if c then p ∷ filter is_ext ps else filter is_ext ps))) h

all-then : (p : Param) (ps : List Param) (b : Bool) → is_ext p ≡ b
    → list_all is_atomic (found (p ∷ ps)) ≡ ((not b || list_all is_atomic (filter is_any (uris p))) && list_all is_atomic (found ps))
all-then p ps true h = ap (list_all is_atomic) (found-then p ps true h) ∙ list_all-append is_atomic (filter is_any (uris p)) (found ps)
all-then p ps false h = ap (list_all is_atomic) (found-then p ps false h)

any-then : (p : Param) (ps : List Param) (b : Bool) → is_ext p ≡ b
    → list_any is_atomic (found (p ∷ ps)) ≡ ((b && list_any is_atomic (filter is_any (uris p))) || list_any is_atomic (found ps))
any-then p ps true h = ap (list_any is_atomic) (found-then p ps true h) ∙ list_any-append is_atomic (filter is_any (uris p)) (found ps)
any-then p ps false h = ap (list_any is_atomic) (found-then p ps false h)

-- no URI is another one where none of any parameter is
pub all_atomic-is : (ps : List Param)
    → list_all (λ p. not (is_named (codes "ext") p) || list_all is_atomic (filter is_any (parts_at space p.value))) ps
    ≡ list_all is_atomic (filter is_any (flat_map (λ p. parts_at space p.value) (filter (is_named (codes "ext")) ps)))
all_atomic-is [] = refl
all_atomic-is (p ∷ ps) =
    ap (λ r. (not (is_ext p) || list_all is_atomic (filter is_any (uris p))) && r) (all_atomic-is ps) ∙ sym (all-then p ps (is_ext p) refl)

-- a URI is the extension where one of a parameter is
pub any_atomic-is : (ps : List Param)
    → list_any (λ p. is_named (codes "ext") p && list_any is_atomic (filter is_any (parts_at space p.value))) ps
    ≡ list_any is_atomic (filter is_any (flat_map (λ p. parts_at space p.value) (filter (is_named (codes "ext")) ps)))
any_atomic-is [] = refl
any_atomic-is (p ∷ ps) =
    ap (λ r. (is_ext p && list_any is_atomic (filter is_any (uris p))) || r) (any_atomic-is ps) ∙ sym (any-then p ps (is_ext p) refl)
