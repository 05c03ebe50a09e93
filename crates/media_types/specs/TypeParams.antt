-- The parameters of types of JSON:API, by which such types are judged (JSON:API 1.1, "Content Negotiation").
use Rattle.std.specs.Prelude.{ℕ, ◌||◌, ◌&&◌, Bool, not, List, Option, Some, None, codes, filter}
use Rattle.std.specs.List.{list_all, list_any, flat_map}
use Rattle.request_model.specs.declared.forms.Media.{Media}
use Rattle.request_model.specs.declared.forms.Need.{Need}
use Rattle.request_model.specs.declared.forms.Param.{Param}
use Rattle.request_model.specs.Words.{parts_at, space, is_any, some_if}
use Rattle.request_model.specs.Negotiation.{is_json_api, is_named, is_atomic, needs_atomic}

-- the parameters, where it is a media type of JSON:API
abbrev pub json_api_params : Option Media → Option (List Param)
json_api_params None = None
json_api_params (Some m) = some_if (is_json_api m) m.params

-- the URIs of the parameters `ext`
abbrev pub uris_of : List Param → List (List ℕ)
uris_of params = filter is_any (flat_map (λ p. parts_at space p.value) (filter (is_named (codes "ext")) params))

-- no parameter but `ext` and `profile`, and no extension that is not supported
abbrev pub are_good : List Param → Bool
are_good params = list_all (λ p. is_named (codes "ext") p || is_named (codes "profile") p) params && list_all is_atomic (uris_of params)

-- without the weight
abbrev pub without_q : List Param → List Param
without_q params = filter (λ p. not (is_named (codes "q") p)) params

-- a type of JSON:API with these parameters serves
abbrev pub params_serve : Need → List Param → Bool
params_serve n params = are_good params && (not (needs_atomic n) || list_any is_atomic (uris_of params))
