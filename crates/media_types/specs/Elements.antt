-- The elements of Accept, one after another (RFC 9110, section 12.5.1; JSON:API 1.1, "Server Responsibilities").
use Rattle.std.specs.Prelude.{ℕ, ◌||◌, Bool, not, if◌then◌else◌, List, Option, Some, None, filter}
use Rattle.std.specs.List.{list_any, filter_map}
use Rattle.request_model.specs.declared.forms.Media.{Media}
use Rattle.request_model.specs.Words.{is_any}
use Rattle.request_model.specs.MediaTypes.{media_of}
use Rattle.request_model.specs.Negotiation.{is_json_api, is_good, without_weight}
use Rattle.media_types.specs.declared.accepting.Element.{Element}
use Rattle.media_types.specs.declared.accepting.Element.TheVariants.{Other, Refused, Accepted}

-- how a media type is judged as an element
abbrev pub element_of_media : Option Media → Element
element_of_media None = Other
element_of_media (Some m) = if is_json_api m then (if is_good (without_weight m) then Accepted else Refused) else Other

-- how a text is judged as an element
abbrev pub element_of : List ℕ → Element
element_of text = element_of_media (media_of text)

-- the types of JSON:API among elements
abbrev pub types_of : List (List ℕ) → List Media
types_of elements = filter is_json_api (filter_map media_of elements)

-- some type is a good one
abbrev pub some_good : List Media → Bool
some_good types = list_any (λ m. is_good (without_weight m)) types

-- some such type is a good one, or there is none
abbrev pub accepts : List Media → Bool
accepts types = some_good types || not (is_any types)
