-- Request targets (RFC 9112, section 3.2), and the URLs of a schema (of this project, within JSON:API 1.1, "Fetching Data").
use Rattle.std.specs.Prelude.{ℕ, ◌<◌, ⊤, ◌||◌, ◌==◌, Bool, if◌then◌else◌, List, [], ◌∷◌, codes, length, drop, Option, Some, None, option_map}
use Rattle.std.specs.Option.{option_or}
use Rattle.std.specs.List.{position_or_len}
use Rattle.std.specs.Str.{bytes_eq, is_utf8}
use Rattle.percent_encoding.specs.Percent.{percent_decode}
use Rattle.ident_rules.specs.declared.key.Key.{Key}
use Rattle.resource_schema.specs.declared.schema.Schema.{Schema}
use Rattle.resource_schema.specs.declared.targets.Target.{Target}
use Rattle.resource_schema.specs.declared.targets.Target.TheVariants as target
use Rattle.http_messages.specs.declared.messages.Allow.{Allow}
use Rattle.http_messages.specs.declared.messages.Allow.TheVariants as allow
use Rattle.request_model.specs.declared.forms.Need.{Need}
use Rattle.request_model.specs.declared.forms.Need.TheVariants as need
use Rattle.task_forms.specs.Fit.{IsKnownKey}
use Rattle.request_model.specs.Words.{parts_at, halves_at, slash, question_mark, begins, begins_in_any_case, some_if}
use Rattle.resource_schema.specs.SchemaRules.{is_one_of}
use Rattle.request_model.specs.Options.{◌>>=◌}
use Rattle.resource_schema.specs.Kinds.{number_of_kind, relationship_of, relationships_of, is_many}
use Rattle.ident_rules.specs.Id.{is_id}

-- ---- a request target as path and query

-- an empty path is `/` (RFC 9110, section 4.2.3)
abbrev pub rooted : List ℕ → List ℕ
rooted text = if begins (codes "/") text then text else slash ∷ text

-- what stands behind the authority of a target in absolute form (RFC 9112, section 3.2.2)
abbrev pub behind_authority : List ℕ → List ℕ
behind_authority text = drop (position_or_len (λ b. b == slash || b == question_mark) text) text

-- the origin form of a target of a scheme
abbrev pub of_scheme : List ℕ → List ℕ → Option (List ℕ)
of_scheme scheme text = some_if (begins_in_any_case scheme text) (rooted (behind_authority (drop (length scheme) text)))

-- the target in origin form (RFC 9112, section 3.2.1)
abbrev pub origin_form : List ℕ → Option (List ℕ)
origin_form text = option_or (some_if (begins (codes "/") text) text) (option_or (of_scheme (codes "http://") text) (of_scheme (codes "https://") text))

-- path and query, where the target has a path (RFC 3986, section 3.4)
abbrev pub split_target : List ℕ → Option (List ℕ × List ℕ)
split_target text = option_map (halves_at question_mark) (origin_form text)

-- ---- paths

-- the text that a segment stands for (RFC 3986, section 2.1)
abbrev pub decode_segment : List ℕ → Option (List ℕ)
decode_segment segment = some_if (is_utf8 (percent_decode segment)) (percent_decode segment)

-- the type that a segment names
abbrev pub kind_at : Schema → List ℕ → Option ℕ
kind_at schema segment = do
  name ← decode_segment segment
  number_of_kind schema name

-- the resource that two segments name
abbrev pub key_at : Schema → List ℕ → List ℕ → Option Key
key_at schema kind_segment id_segment = do
  kind ← kind_at schema kind_segment
  id ← decode_segment id_segment
  some_if (is_id id) (record { kind = kind; id = id })

-- the relationship of a resource that a segment names
abbrev pub relationship_at : Schema → Key → List ℕ → Option ℕ
relationship_at schema key segment = do
  name ← decode_segment segment
  relationship_of schema key.kind name

-- `/operations` or a collection
abbrev pub top_target : Schema → List ℕ → Option Target
top_target schema segment =
    if bytes_eq segment (codes "operations") then Some target.Operations else option_map target.Collection (kind_at schema segment)

-- the resources that a relationship leads to (JSON:API 1.1, "Related Resource Links")
abbrev pub related_target : Schema → List ℕ → List ℕ → List ℕ → Option Target
related_target schema kind id rel = do
  key ← key_at schema kind id
  option_map (target.Related key) (relationship_at schema key rel)

-- a relationship itself (JSON:API 1.1, "Relationship URLs")
abbrev pub linkage_target : Schema → List ℕ → List ℕ → List ℕ → Option Target
linkage_target schema kind id rel = do
  key ← key_at schema kind id
  option_map (target.Linkage key) (relationship_at schema key rel)

-- by what stands between the slashes of a path; the first piece is what stands before its first slash
abbrev pub target_of_pieces : Schema → List (List ℕ) → Option Target
target_of_pieces schema ([] ∷ a ∷ []) = top_target schema a
target_of_pieces schema ([] ∷ a ∷ b ∷ []) = option_map target.Resource (key_at schema a b)
target_of_pieces schema ([] ∷ a ∷ b ∷ c ∷ []) = related_target schema a b c
target_of_pieces schema ([] ∷ a ∷ b ∷ c ∷ d ∷ []) = if bytes_eq c (codes "relationships") then linkage_target schema a b d else None
target_of_pieces schema _ = None

-- the target of a path, where there is one
abbrev pub target_of_path : Schema → List ℕ → Option Target
target_of_path schema path = target_of_pieces schema (parts_at slash path)

-- the numbers of a target are those of the schema, and its id keeps the rule
abbrev pub IsKnownTarget : Schema → Target → Type 0
IsKnownTarget schema (target.Collection kind) = kind < length schema
IsKnownTarget schema (target.Resource key) = IsKnownKey schema key
IsKnownTarget schema (target.Related key rel) = IsKnownKey schema key × (rel < length (relationships_of schema key.kind))
IsKnownTarget schema (target.Linkage key rel) = IsKnownKey schema key × (rel < length (relationships_of schema key.kind))
IsKnownTarget schema target.Operations = ⊤

-- ---- methods

-- what a target allows (RFC 9110, section 10.2.1)
abbrev pub allow_of : Schema → Target → Allow
allow_of schema (target.Collection kind) = allow.Collection
allow_of schema (target.Resource key) = allow.Resource
allow_of schema (target.Related key rel) = allow.Related
allow_of schema (target.Linkage key rel) = if is_many schema key.kind rel then allow.Many else allow.One
allow_of schema target.Operations = allow.Operations

-- the methods of each (JSON:API 1.1, "Fetching Data" and "Creating, Updating and Deleting Resources")
abbrev pub allowed_methods : Allow → List (List ℕ)
allowed_methods allow.Nothing = []
allowed_methods allow.Collection = codes "GET" ∷ codes "HEAD" ∷ codes "POST" ∷ []
allowed_methods allow.Resource = codes "GET" ∷ codes "HEAD" ∷ codes "PATCH" ∷ codes "DELETE" ∷ []
allowed_methods allow.Related = codes "GET" ∷ codes "HEAD" ∷ []
allowed_methods allow.One = codes "GET" ∷ codes "HEAD" ∷ codes "PATCH" ∷ []
allowed_methods allow.Many = codes "GET" ∷ codes "HEAD" ∷ codes "PATCH" ∷ codes "POST" ∷ codes "DELETE" ∷ []
allowed_methods allow.Operations = codes "POST" ∷ []

-- the methods with a body
abbrev pub body_methods : Allow → List (List ℕ)
body_methods allow.Nothing = []
body_methods allow.Collection = codes "POST" ∷ []
body_methods allow.Resource = codes "PATCH" ∷ []
body_methods allow.Related = []
body_methods allow.One = codes "PATCH" ∷ []
body_methods allow.Many = codes "PATCH" ∷ codes "POST" ∷ codes "DELETE" ∷ []
body_methods allow.Operations = codes "POST" ∷ []

-- the target answers this method
abbrev pub allows : Allow → List ℕ → Bool
allows a method = is_one_of (allowed_methods a) method

-- `/operations` needs the extension of the atomic operations, other bodies are documents
abbrev pub body_of : Allow → Need
body_of allow.Operations = need.Atomic
body_of _ = need.Document

-- what a method needs as content (RFC 9110, section 9.3)
abbrev pub need_of : Allow → List ℕ → Need
need_of a method = if is_one_of (body_methods a) method then body_of a else need.Nothing
