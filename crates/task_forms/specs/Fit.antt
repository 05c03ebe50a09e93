-- Which tasks are fit for a schema: what a store may be asked (of this project).
use Rattle.std.specs.Prelude.{◌≡◌, ℕ, ◌+◌, ◌<◌, ◌≤◌, ◌^◌, Bool, true, false, IsTrue, List, [], ◌∷◌, map, length, Some, None, MatchOption, IfSome, Option, ⊤, slice_get, option_map}
use Rattle.std.specs.List.{AllByRecursion, AllZip}
use Rattle.std.specs.Str.Parse.{AllDigits}
use Rattle.std.specs.Str.{is_utf8}
use Rattle.ident_rules.specs.declared.key.Key.{Key}
use Rattle.resource_schema.specs.declared.schema.Schema.{Schema}
use Rattle.resource_schema.specs.declared.values.AttrValue.{AttrValue}
use Rattle.resource_schema.specs.declared.values.Place.{Place}
use Rattle.task_forms.specs.declared.operations.TheConstants.{LID_LIMIT}
use Rattle.task_forms.specs.declared.operations.Named.{Named}
use Rattle.task_forms.specs.declared.operations.Named.TheVariants as named
use Rattle.task_forms.specs.declared.operations.Member.{Member}
use Rattle.task_forms.specs.declared.queries.SortKey.{SortKey}
use Rattle.task_forms.specs.declared.queries.Page.{Page}
use Rattle.task_forms.specs.declared.queries.Query.{Query}
use Rattle.task_forms.specs.declared.tasks.TheConstants.{OPERATION_LIMIT}
use Rattle.task_forms.specs.declared.tasks.Fetch.{Fetch}
use Rattle.resource_schema.specs.declared.targets.Target.TheVariants as target
use Rattle.task_forms.specs.declared.tasks.ReplyForm.{ReplyForm}
use Rattle.task_forms.specs.declared.tasks.ReplyForm.TheVariants as reply_form
use Rattle.task_forms.specs.declared.operations.Operation.{Operation}
use Rattle.task_forms.specs.declared.operations.Operation.TheVariants.{Create, Update, Remove, SetLinks, AddLinks, DropLinks}
use Rattle.task_forms.specs.declared.tasks.Task.{Task}
use Rattle.task_forms.specs.declared.tasks.Task.TheVariants as task
use Rattle.ident_rules.specs.Id.{is_id}
use Rattle.resource_schema.specs.Forms.{HasForm}
use Rattle.resource_schema.specs.Kinds.{attributes_of, relationships_of}

-- numbers that strictly rise
abbrev pub AreRising : List ℕ → Type 0
AreRising [] = ⊤
AreRising (n ∷ []) = ⊤
AreRising (n ∷ m ∷ more) = (n < m) × AreRising (m ∷ more)

-- ---- ids and names

abbrev pub IsId : List ℕ → Type 0
IsId id = IsTrue (is_id id)

-- the type that a resource is named with
abbrev pub kind_of : Named → ℕ
kind_of (named.Id key) = key.kind
kind_of (named.Lid kind lid) = kind

abbrev pub IsKnownKey : Schema → Key → Type 0
IsKnownKey schema key = (key.kind < length schema) × IsId key.id

-- UTF-8
abbrev pub IsText : List ℕ → Type 0
IsText text = IsTrue (is_utf8 text)

-- a new resource's local id is a text of 1 to `LID_LIMIT` bytes
abbrev pub IsLid : List ℕ → Type 0
IsLid lid = (0 < length lid) × (length lid ≤ LID_LIMIT) × IsText lid

-- A local id that stands for a resource is a text of any length; where it is not bound, the store says so.
abbrev pub IsNamed : Schema → Named → Type 0
IsNamed schema (named.Id key) = IsKnownKey schema key
IsNamed schema (named.Lid kind lid) = (kind < length schema) × IsText lid

-- a client's id is not of digits alone, and its type has client ids
pub record FitsClientId (schema : Schema) (kind : ℕ) (id : List ℕ) : Type 0 where
  pub is_id : IsId id
  pub reserved : ¬ AllDigits 10 id
  pub allowed : option_map (λ k. k.client_ids) (slice_get schema kind) ≡ Some true

-- ---- members

-- each has its place as index, from n on
abbrev pub AreIndexed : ℕ → List Member → Type 0
AreIndexed n [] = ⊤
AreIndexed n (m ∷ members) = (m.index ≡ Some n) × AreIndexed (n + 1) members

-- at most one member without an index, or fewer than 2^32 with theirs
abbrev pub FitsCount : Bool → List Member → Type 0
FitsCount false members = (length members ≤ 1) × AllByRecursion (λ m. m.index ≡ None) members
FitsCount true members = (length members < 2 ^ 32) × AreIndexed 0 members

-- a linkage of a type's relationship
pub record FitsLinkage (schema : Schema) (kind rel : ℕ) (members : List Member) : Type 0 where
  pub known : rel < length (relationships_of schema kind)
  pub named : AllByRecursion (λ m. IsNamed schema m.named) members
  pub of_target : IfSome (slice_get (relationships_of schema kind) rel) (λ r. AllByRecursion (λ m. kind_of m.named ≡ r.target) members × FitsCount r.many members)

pub record FitsLinks (schema : Schema) (kind : ℕ) (links : List (ℕ × List Member)) : Type 0 where
  pub rising : AreRising (map (λ l. l.0) links)
  pub each : AllByRecursion (λ l. FitsLinkage schema kind l.0 l.1) links

-- ---- operations

-- a value of a known attribute, of its form
abbrev pub FitsValue : Schema → ℕ → ℕ × AttrValue → Type 0
FitsValue schema kind v = MatchOption (slice_get (attributes_of schema kind) v.0) ⊥ (λ a. HasForm a v.1)

pub record FitsValues (schema : Schema) (kind : ℕ) (values : List (ℕ × AttrValue)) : Type 0 where
  pub rising : AreRising (map (λ v. v.0) values)
  pub each : AllByRecursion (FitsValue schema kind) values

abbrev pub IsMany : Schema → ℕ → ℕ → Type 0
IsMany schema kind rel = option_map (λ r. r.many) (slice_get (relationships_of schema kind) rel) ≡ Some true

pub record FitsCreate (schema : Schema) (kind : ℕ) (id lid : Option (List ℕ)) (values : List AttrValue) (links : List (ℕ × List Member)) : Type 0 where
  pub known : kind < length schema
  pub client_id : MatchOption id ⊤ (FitsClientId schema kind)
  pub local_id : MatchOption lid ⊤ IsLid
  pub all_values : AllZip HasForm (attributes_of schema kind) values
  pub linkages : FitsLinks schema kind links

abbrev pub FitsOperation : Schema → Operation → Type 0
FitsOperation schema (Create kind id lid values links) = FitsCreate schema kind id lid values links
FitsOperation schema (Update who values links) = IsNamed schema who.named × FitsValues schema (kind_of who.named) values × FitsLinks schema (kind_of who.named) links
FitsOperation schema (Remove who) = IsNamed schema who.named
FitsOperation schema (SetLinks who rel members) = IsNamed schema who.named × FitsLinkage schema (kind_of who.named) rel members
FitsOperation schema (AddLinks who rel members) = IsNamed schema who.named × FitsLinkage schema (kind_of who.named) rel members × IsMany schema (kind_of who.named) rel
FitsOperation schema (DropLinks who rel members) = IsNamed schema who.named × FitsLinkage schema (kind_of who.named) rel members × IsMany schema (kind_of who.named) rel

abbrev pub FitsForm : ReplyForm → List Operation → Type 0
FitsForm reply_form.Created (Create kind id lid values links ∷ []) = ⊤
FitsForm reply_form.Created _ = ⊥
FitsForm reply_form.Updated (Update who values links ∷ []) = ⊤
FitsForm reply_form.Updated _ = ⊥
FitsForm reply_form.Empty operations = length operations ≡ 1
FitsForm reply_form.Results operations = (1 ≤ length operations) × (length operations ≤ OPERATION_LIMIT)

-- ---- fetches

-- each step of a path is a relationship of the type reached so far
abbrev pub FollowsFrom : Schema → ℕ → List ℕ → Type 0
FollowsFrom schema kind [] = ⊤
FollowsFrom schema kind (rel ∷ path) = MatchOption (slice_get (relationships_of schema kind) rel) ⊥ (λ r. FollowsFrom schema r.target path)

abbrev pub FitsCursor : Schema → ℕ → List SortKey → Place → Type 0
FitsCursor schema kind sort place = AllZip (λ s v. FitsValue schema kind (s.attribute, v)) sort place.values × IsId place.id

-- a page of resources of a type in an order; it may have both cursors
pub record FitsPage (schema : Schema) (kind : ℕ) (sort : List SortKey) (page : Page) : Type 0 where
  pub keys : AllByRecursion (λ s. s.attribute < length (attributes_of schema kind)) sort
  pub size : page.size < 2 ^ 16
  pub after : IfSome page.after (FitsCursor schema kind sort)
  pub before : IfSome page.before (FitsCursor schema kind sort)

-- a query whose primary data is of a type
pub record FitsQuery (schema : Schema) (kind : ℕ) (query : Query) : Type 0 where
  pub page : FitsPage schema kind query.sort query.page
  pub paths : IfSome query.include (AllByRecursion (λ p. FollowsFrom schema kind p.rels))
  pub fields : AllByRecursion (λ f. f.0 < length schema) query.fields

-- a query at a relationship of a known resource
abbrev pub FitsRelated : Schema → Key → ℕ → Query → Type 0
FitsRelated schema key rel query = IsKnownKey schema key × MatchOption (slice_get (relationships_of schema key.kind) rel) ⊥ (λ r. FitsQuery schema r.target query)

-- linkage is fetched without paths, an order or a cursor
pub record IsBare (query : Query) : Type 0 where
  pub no_include : query.include ≡ None
  pub no_sort : query.sort ≡ []
  pub no_after : query.page.after ≡ None
  pub no_before : query.page.before ≡ None

abbrev pub FitsFetch : Schema → Fetch → Type 0
FitsFetch schema fetch = elim (fetch.target) [
  | target.Collection kind ↦ (kind < length schema) × FitsQuery schema kind fetch.query
  | target.Resource key ↦ IsKnownKey schema key × FitsQuery schema key.kind fetch.query
  | target.Related key rel ↦ FitsRelated schema key rel fetch.query
  | target.Linkage key rel ↦ FitsRelated schema key rel fetch.query × IsBare fetch.query
  | target.Operations ↦ ⊥
]

abbrev pub IsFit : Schema → Task → Type 0
IsFit schema (task.Fetch fetch) = FitsFetch schema fetch
IsFit schema (task.Change operations form) = AllByRecursion (FitsOperation schema) operations × FitsForm form operations
