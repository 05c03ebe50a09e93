-- Content negotiation (JSON:API 1.1, "Content Negotiation"; RFC 9110, sections 8.3, 8.4 and 12.5.1).
use Rattle.std.specs.Prelude.{ℕ, ◌||◌, ◌&&◌, Bool, true, false, not, if◌then◌else◌, List, [], ◌∷◌, codes, filter, map, Option, Some, None}
use Rattle.std.specs.List.{list_all, list_any, filter_map, flat_map, join_with_byte}
use Rattle.std.specs.Str.{bytes_eq, str_eq_ignore_ascii_case}
use Rattle.http_messages.specs.declared.messages.Field.{Field}
use Rattle.request_model.specs.declared.forms.Media.{Media}
use Rattle.request_model.specs.declared.forms.Param.{Param}
use Rattle.request_model.specs.declared.forms.Need.{Need}
use Rattle.request_model.specs.declared.forms.Need.TheVariants as need
use Rattle.request_model.specs.declared.forms.ContentVerdict.{ContentVerdict}
use Rattle.request_model.specs.declared.forms.ContentVerdict.TheVariants.{Good, BadType, BadEncoding}
use Rattle.request_model.specs.Words.{parts_at, comma, space, is_any}
use Rattle.request_model.specs.MediaTypes.{media_of, unquoted_pieces}

-- the values of the fields of one name, in order (RFC 9110, section 5.3)
abbrev pub field_values : List ℕ → List Field → List (List ℕ)
field_values name fields = map (λ f. f.value) (filter (λ f. str_eq_ignore_ascii_case f.name name) fields)

-- ---- types of JSON:API

-- the media type of JSON:API (JSON:API 1.1, "JSON:API Media Type"), in any case
abbrev pub is_json_api : Media → Bool
is_json_api m = str_eq_ignore_ascii_case m.main (codes "application") && str_eq_ignore_ascii_case m.sub (codes "vnd.api+json")

-- a parameter of this name, in any case
abbrev pub is_named : List ℕ → Param → Bool
is_named name p = str_eq_ignore_ascii_case p.name name

-- the URIs of the parameters `ext`, between spaces (JSON:API 1.1, "Extensions")
abbrev pub extensions_of : Media → List (List ℕ)
extensions_of m = filter is_any (flat_map (λ p. parts_at space p.value) (filter (is_named (codes "ext")) m.params))

-- the extension of the atomic operations
abbrev pub is_atomic : List ℕ → Bool
is_atomic uri = bytes_eq uri (codes "https://jsonapi.org/ext/atomic")

-- no parameter but `ext` and `profile`, and no extension that is not supported
abbrev pub is_good : Media → Bool
is_good m = list_all (λ p. is_named (codes "ext") p || is_named (codes "profile") p) m.params && list_all is_atomic (extensions_of m)

-- ---- Content-Type and Content-Encoding

-- content is needed
abbrev pub needs_body : Need → Bool
needs_body need.Nothing = false
needs_body need.Document = true
needs_body need.Atomic = true

-- the extension is needed
abbrev pub needs_atomic : Need → Bool
needs_atomic need.Nothing = false
needs_atomic need.Document = false
needs_atomic need.Atomic = true

-- a JSON:API type is a good one, and names the extension where that is needed; another type, or none, serves where no body is needed
abbrev pub serves : Need → Option Media → Bool
serves n None = not (needs_body n)
serves n (Some m) = if is_json_api m then is_good m && (not (needs_atomic n) || list_any is_atomic (extensions_of m)) else not (needs_body n)

-- at most one field Content-Type, whose type serves
abbrev pub serve : Need → List (List ℕ) → Bool
serve n [] = serves n None
serve n (v ∷ []) = serves n (media_of v)
serve n (v ∷ w ∷ values) = false

-- no coding (RFC 9110, section 8.4.1)
abbrev pub is_identity : List ℕ → Bool
is_identity coding = str_eq_ignore_ascii_case coding (codes "identity")

-- the type is judged before the encoding (RFC 9110, section 15.5.16)
abbrev pub content : List Field → Need → ContentVerdict
content fields n =
    if not (serve n (field_values (codes "content-type") fields)) then BadType
    else (if needs_body n && not (list_all is_identity (field_values (codes "content-encoding") fields)) then BadEncoding
    else Good)

-- ---- Accept (RFC 9110, section 12.5.1)

-- the weight is left aside (RFC 9110, section 12.4.2)
abbrev pub without_weight : Media → Media
without_weight m = record m { params = filter (λ p. not (is_named (codes "q") p)) m.params }

-- the elements that are media types of JSON:API
abbrev pub accepted_types : List Field → List Media
accepted_types fields = filter is_json_api (filter_map media_of (unquoted_pieces comma (join_with_byte comma (field_values (codes "accept") fields))))

-- some such type is a good one, or there is none
abbrev pub acceptable : List Field → Bool
acceptable fields = list_any (λ m. is_good (without_weight m)) (accepted_types fields) || not (is_any (accepted_types fields))
