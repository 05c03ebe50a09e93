-- Laws of the store, in the words of its subject.
use Rattle.std.specs.Prelude.{◌≡◌, ◌≢◌, ◌≤◌, ◌↔◌, ◌⊎◌, ℕ, not, Bool, true, false, ⊤, IsTrue, IfSome, MatchOption, is_some, codes, List, [], ◌∷◌, ◌++◌, length, Some, None, Option, Result, Ok, Err}
use Rattle.std.specs.List.{AllByRecursion, zip}
use Rattle.std.specs.Ordering.{is_lt}
use Rattle.ident_rules.specs.declared.key.Key.{Key}
use Rattle.ident_rules.specs.Key.{key_cmp}
use Rattle.resource_schema.specs.declared.schema.Schema.{Schema}
use Rattle.resource_schema.specs.declared.values.Place.{Place}
use Rattle.resource_schema.specs.declared.kinds.Relationship.{Relationship}
use Rattle.resource_schema.specs.Kinds.{relationships_of}
use Rattle.world_cells.specs.declared.rows.Link.{Link}
use Rattle.world_cells.specs.declared.rows.Row.{Row}
use Rattle.world_cells.specs.Lists.{IsIn}
use Rattle.world_cells.specs.World.{World, row_at}
use Rattle.error_objects.specs.declared.refusals.Blame.{Blame}
use Rattle.error_objects.specs.declared.refusals.Blame.TheVariants as blame
use Rattle.error_objects.specs.declared.refusals.Refusal.{Refusal}
use Rattle.error_objects.specs.Refusals.{IsSourced}
use Rattle.error_objects.specs.ErrorReply.{error_reply}
use Rattle.task_forms.specs.declared.operations.Operation.{Operation}
use Rattle.task_forms.specs.declared.operations.Operation.TheVariants.{Create, Update, Remove, SetLinks, AddLinks, DropLinks}
use Rattle.task_forms.specs.declared.queries.Page.{Page}
use Rattle.task_forms.specs.declared.queries.Path.{Path}
use Rattle.task_forms.specs.declared.queries.SortKey.{SortKey}
use Rattle.task_forms.specs.declared.tasks.ReplyForm.{ReplyForm}
use Rattle.task_forms.specs.declared.tasks.ReplyForm.TheVariants as reply_form
use Rattle.task_forms.specs.declared.tasks.Fetch.{Fetch}
use Rattle.task_forms.specs.declared.tasks.Task.TheVariants as task
use Rattle.request_model.specs.Documents.{is_by_path}
use Rattle.store_model.specs.Change.{Lids, refused, done}
use Rattle.store_model.specs.Run.{Ran, run, operation_pointer, refusal_under}
use Rattle.store_model.specs.Answer.{answer, effect}
use Rattle.serde_json.specs.Data.{Data, null, array}
use Rattle.serde_json.specs.View.{items_of}
use Rattle.serde_json.specs.Written.{compact_text}
use Rattle.json_forms.specs.Plain.{IsPlain}
use Rattle.http_messages.specs.declared.messages.Reply.{Reply}
use Rattle.resource_schema.specs.declared.targets.Target.{Target}
use Rattle.resource_schema.specs.declared.targets.Target.TheVariants as target
use Rattle.task_forms.specs.declared.queries.Query.{Query}
use Rattle.store_model.specs.Resource.{Fields, object_of, identifier, linkage, is_shown, relationship_object, relationship_members, resource}
use Rattle.store_model.specs.Document.{resources, meta_member, document, primary_rows, included_rows}
use Rattle.store_model.specs.declared.pages.Selected.{Selected}
use Rattle.store_model.specs.Pages.{page_of, place_cmp, place_of, first_item, last_item, ends_at_cursor, is_range}
use Rattle.store_model.specs.Included.{IsReachedFrom}

-- each item stands in a relation to all that follow it
abbrev pub Pairwise : {A : Type 0} → (A → A → Type 0) → List A → Type 0
Pairwise R [] = ⊤
Pairwise R (x ∷ xs) = AllByRecursion (R x) xs × Pairwise R xs

-- ---- blame

-- the path names the resource of a plain request, and of no operation in a list
abbrev pub IsPlaced : Bool → Operation → Type 0
IsPlaced in_list (Create kind id lid values links) = ⊤
IsPlaced in_list (Update who values links) = is_by_path who.place ≡ not in_list
IsPlaced in_list (Remove who) = is_by_path who.place ≡ not in_list
IsPlaced in_list (SetLinks who rel members) = is_by_path who.place ≡ not in_list
IsPlaced in_list (AddLinks who rel members) = is_by_path who.place ≡ not in_list
IsPlaced in_list (DropLinks who rel members) = is_by_path who.place ≡ not in_list

abbrev pub is_list_form : ReplyForm → Bool
is_list_form reply_form.Created = false
is_list_form reply_form.Updated = false
is_list_form reply_form.Empty = false
is_list_form reply_form.Results = true

-- ---- all or nothing (Atomic Operations extension, "Processing")

-- The operations are done one after another, none refused, from a world with its local ids to another.
abbrev pub AreDone : Schema → World → Lids → List Operation → World → Lids → Type 0
AreDone schema w lids [] v bound = (w ≡ v) × (lids ≡ bound)
AreDone schema w lids (operation ∷ operations) v bound =
    (refused schema w lids operation ≡ None) × AreDone schema ((done schema w lids operation).world) ((done schema w lids operation).lids) operations v bound

-- a pointer that is blamed begins with another
abbrev pub IsUnder : List ℕ → Blame → Type 0
IsUnder at (blame.Pointer p) = (rest : List ℕ) × (p ≡ at ++ rest)
IsUnder at (blame.Parameter p) = ⊤
IsUnder at (blame.Header p) = ⊤
IsUnder at blame.Nothing = ⊤

-- One operation is the first that is refused: those before it are done, and its refusal is told of the request, its pointer
-- beginning with the operation's.
pub record IsFirstRefused (schema : Schema) (form : ReplyForm) (w : World) (operations : List Operation) (r : Refusal) : Type 0 where
  pub earlier : List Operation
  pub operation : Operation
  pub later : List Operation
  pub split : operations ≡ earlier ++ operation ∷ later
  pub world : World
  pub lids : Lids
  pub are_done : AreDone schema w [] earlier world lids
  pub why : Refusal
  pub is_refused : refused schema world lids operation ≡ Some why
  pub told : r ≡ refusal_under (operation_pointer form (length earlier)) why
  pub under : IsUnder (operation_pointer form (length earlier)) r.blame

-- Either all operations are done, and the world after them is the effect; or one is the first refused, the world stays and
-- the reply is its error.
abbrev pub IsAllOrNothing : Schema → World → List Operation → ReplyForm → Result Ran Refusal → Type 0
IsAllOrNothing schema w operations form (Ok ran) = ((lids : Lids) × AreDone schema w [] operations ran.world lids) × (effect schema w (task.Change operations form) ≡ ran.world)
IsAllOrNothing schema w operations form (Err r) =
    IsFirstRefused schema form w operations r × (effect schema w (task.Change operations form) ≡ w) × (answer schema w (task.Change operations form) ≡ error_reply r)

-- ---- included rows (JSON:API 1.1, "Inclusion of Related Resources")

-- one row's key stands before another's
abbrev pub HasLesserKey : Row → Row → Type 0
HasLesserKey a b = IsTrue (is_lt (key_cmp a.key b.key))

-- a row of the world that is reached from a primary by a path that was asked for, and is no primary
pub record IsIncluded (schema : Schema) (w : World) (primaries : List Key) (paths : List Path) (row : Row) : Type 0 where
  pub of_world : row_at w row.key ≡ Some row
  pub reached : IsReachedFrom schema w primaries paths row.key
  pub no_primary : ¬ IsIn primaries row.key

-- the included rows, each once, in the order of their keys
pub record AreIncluded (schema : Schema) (w : World) (primaries : List Key) (paths : List Path) (rows : List Row) : Type 0 where
  pub rising : Pairwise HasLesserKey rows
  pub exactly : (row : Row) → IsIn rows row ↔ IsIncluded schema w primaries paths row

-- ---- rows of a type, and rows at keys

-- the rows of the world that are of a type
abbrev pub AreRowsOf : World → ℕ → List Row → Type 0
AreRowsOf w kind rows = (row : Row) → IsIn rows row ↔ ((row_at w row.key ≡ Some row) × (row.key.kind ≡ kind))

-- the rows of the world that stand at some keys
abbrev pub AreRowsAt : World → List Key → List Row → Type 0
AreRowsAt w keys rows = (row : Row) → IsIn rows row ↔ ((row_at w row.key ≡ Some row) × IsIn keys row.key)

-- ---- pages (JSON:API 1.1, "Sorting" and "Pagination"; Cursor Pagination profile)

-- ids tell the rows apart
abbrev pub AreApart : List Row → Type 0
AreApart rows = (a b : Row) → IsIn rows a → IsIn rows b → a.key.id ≡ b.key.id → a ≡ b

-- one row stands before another
abbrev pub StandsBefore : List SortKey → Row → Row → Type 0
StandsBefore sort a b = IsTrue (is_lt (place_cmp sort (place_of sort a) (place_of sort b)))

-- the same rows, each before all that follow it
pub record AreSorted (sort : List SortKey) (rows listed : List Row) : Type 0 where
  pub in_order : Pairwise (StandsBefore sort) listed
  pub same_rows : (row : Row) → IsIn listed row ↔ IsIn rows row

-- behind the one cursor, and before the other, as far as they are given
abbrev pub IsAskedFor : List SortKey → Option Place → Option Place → Place → Type 0
IsAskedFor sort after before p = IfSome after (λ cursor. IsTrue (is_lt (place_cmp sort cursor p))) × IfSome before (λ cursor. IsTrue (is_lt (place_cmp sort p cursor)))

-- a row stands before all that are shown, or behind them all
abbrev pub StandsOutside : List SortKey → Bool → List Row → Row → Type 0
StandsOutside sort true shown row = AllByRecursion (StandsBefore sort row) shown
StandsOutside sort false shown row = AllByRecursion (λ other. StandsBefore sort other row) shown

-- A row for which a full page has no room: it stands behind all that are shown, or before them where the page ends at a cursor.
abbrev pub HasNoRoom : List SortKey → Page → List Row → Row → Type 0
HasNoRoom sort page shown row = (length shown ≡ page.size) × StandsOutside sort (ends_at_cursor page) shown row

-- a range is cut short: a row between its cursors has no room
pub record IsCutShort (sort : List SortKey) (page : Page) (rows shown : List Row) : Type 0 where
  pub range : IsTrue (is_range page)
  pub row : Row
  pub among : IsIn rows row
  pub between : IsAskedFor sort page.after page.before (place_of sort row)
  pub no_room : HasNoRoom sort page shown row

-- a row stands before the first that is shown
pub record HasEarlier (sort : List SortKey) (rows shown : List Row) : Type 0 where
  pub first : Row
  pub is_first : first_item shown ≡ Some first
  pub row : Row
  pub among : IsIn rows row
  pub earlier : StandsBefore sort row first

-- a row stands behind the last that is shown
pub record HasLater (sort : List SortKey) (rows shown : List Row) : Type 0 where
  pub last : Row
  pub is_last : last_item shown ≡ Some last
  pub row : Row
  pub among : IsIn rows row
  pub later : StandsBefore sort last row

-- One page of some rows: in order, at most the size, each asked for, and none that is asked for left out while there is room.
pub record IsPage (sort : List SortKey) (page : Page) (rows : List Row) (shown : Selected) : Type 0 where
  pub in_order : Pairwise (StandsBefore sort) shown.rows
  pub short : length shown.rows ≤ page.size
  pub asked : (row : Row) → IsIn shown.rows row → IsIn rows row × IsAskedFor sort page.after page.before (place_of sort row)
  pub whole : (row : Row) → IsIn rows row → IsAskedFor sort page.after page.before (place_of sort row) → IsIn shown.rows row ⊎ HasNoRoom sort page shown.rows row
  pub has_earlier : IsTrue shown.before ↔ HasEarlier sort rows shown.rows
  pub has_later : IsTrue shown.after ↔ HasLater sort rows shown.rows
  pub is_cut_short : IsTrue shown.truncated ↔ IsCutShort sort page rows shown.rows

-- ---- compound documents (JSON:API 1.1, "Compound Documents")

-- a linkage that names a resource: its identifier, or an array that has it
abbrev pub NamesResource : Schema → Key → Data → Type 0
NamesResource schema key d = (d ≡ identifier schema key) ⊎ ((ds : List Data) × (d ≡ array (items_of ds)) × IsIn ds (identifier schema key))

-- A relationship of a row names a resource, and the row's resource object has that relationship unless a field set leaves it out.
pub record ShowsLink (schema : Schema) (fields : Fields) (row : Row) (to : Key) : Type 0 where
  pub relationship : Relationship
  pub link : Link
  pub stands : IsIn (zip (relationships_of schema row.key.kind) row.links) (relationship, link)
  pub names : NamesResource schema to (linkage schema relationship.target link)
  pub shown : IsTrue (is_shown fields row.key.kind relationship.name) → IsIn (relationship_members schema row fields) (relationship.name, relationship_object schema row.key relationship link)

-- a chain of links between rows that are shown
abbrev pub IsChain : Schema → Fields → List Row → Row → List Row → Row → Type 0
IsChain schema fields shown from [] to = from ≡ to
IsChain schema fields shown from (next ∷ chain) to = ShowsLink schema fields from next.key × IsIn shown next × IsChain schema fields shown next chain to

-- a chain from a primary to a row
pub record IsChained (schema : Schema) (fields : Fields) (primaries shown : List Row) (to : Row) : Type 0 where
  pub from : Row
  pub primary : IsIn primaries from
  pub chain : List Row
  pub linked : IsChain schema fields shown from chain to

-- "Full linkage": each resource stands once and is a row of the one world, and each that is included is reached from a primary
-- by links that are shown between resources that are shown.
pub record IsFullyLinked (schema : Schema) (w : World) (fields : Fields) (primaries more : List Row) : Type 0 where
  pub once : Pairwise (λ a b. a.key ≢ b.key) (primaries ++ more)
  pub of_world : AllByRecursion (λ row. row_at w row.key ≡ Some row) (primaries ++ more)
  pub chained : (row : Row) → IsIn more row → IsChained schema fields primaries (primaries ++ more) row

-- primary data that is one resource object, or null
abbrev pub IsOneOrNull : Schema → Query → List Row → Data → Type 0
IsOneOrNull schema query [] d = d ≡ null
IsOneOrNull schema query (row ∷ []) d = d ≡ resource schema row query.fields
IsOneOrNull schema query (row ∷ other ∷ rows) d = ⊥

-- the member `included` of these rows, exactly where paths were asked for
abbrev pub included_part : Schema → Query → List Row → Option (List Path) → List (List ℕ × Data)
included_part schema query more None = []
included_part schema query more (Some paths) = (codes "included", resources schema query more) ∷ []

abbrev pub links_part : Option Data → List (List ℕ × Data)
links_part None = []
links_part (Some links) = (codes "links", links) ∷ []

-- A document whose resource objects are those of its primary rows, as an array or alone, and of its included rows.
pub record ShowsRows (schema : Schema) (query : Query) (primaries more : List Row) (d : Data) : Type 0 where
  pub primary : Data
  pub links : Option Data
  pub truncated : Bool
  pub is : d ≡ object_of ((codes "data", primary) ∷ (included_part schema query more query.include ++ (links_part links ++ meta_member truncated)))
  pub shows : (primary ≡ resources schema query primaries) ⊎ IsOneOrNull schema query primaries primary

-- the targets whose documents show resources, and not linkage alone
abbrev pub ShowsResources : Target → Type 0
ShowsResources (target.Collection kind) = ⊤
ShowsResources (target.Resource key) = ⊤
ShowsResources (target.Related key rel) = ⊤
ShowsResources (target.Linkage key rel) = ⊥
ShowsResources target.Operations = ⊤

-- ---- replies

-- A body that is empty, or the compact text of a value without floats, the members of whose objects stand in byte order.
abbrev pub HasPlainBody : Reply → Type 0
HasPlainBody reply = (reply.body ≡ []) ⊎ ((d : Data) × IsPlain d × (reply.body ≡ compact_text d))

-- ---- what some laws say, in short

-- each refusal of a run names the source that its code asks for
abbrev pub NamesSources : Schema → ReplyForm → World → List Operation → Type 0
NamesSources schema form w operations = (r : Refusal) → run schema form w operations ≡ Err r → IsSourced (is_list_form form) r

-- the page of rows is what a page is
abbrev pub PageIsExact : List SortKey → Page → List Row → Type 0
PageIsExact sort page rows = IsPage sort page rows (page_of sort page rows)

-- the rows of a document, its primary ones and its included ones, are fully linked
abbrev pub DocumentIsLinked : Schema → World → Fetch → Type 0
DocumentIsLinked schema w fetch = IsFullyLinked schema w fetch.query.fields (primary_rows schema w fetch.query fetch.target) (included_rows schema w fetch)

-- the document shows these rows
abbrev pub DocumentShows : Schema → World → Fetch → Type 0
DocumentShows schema w fetch =
    IfSome (document schema w fetch) (ShowsRows schema fetch.query (primary_rows schema w fetch.query fetch.target) (included_rows schema w fetch))
