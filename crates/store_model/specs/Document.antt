-- The document that answers a fetch, or none where its resource is not there (JSON:API 1.1, "Fetching Data").
use Rattle.std.specs.Prelude.{ℕ, ◌++◌, ◌||◌, Bool, true, false, if◌then◌else◌, List, [], ◌∷◌, map, Some, None, Option, codes, slice_get, option_map}
use Rattle.std.specs.Option.{option_map_or}
use Rattle.std.specs.Cmp.Lexicographic.{slice_cmp}
use Rattle.std.specs.Ordering.{nat_cmp, is_gt}
use Rattle.std.specs.Str.{bytes_eq}
use Rattle.serde_json.specs.Data.{Data, null, boolean, string, array}
use Rattle.serde_json.specs.View.{items_of}
use Rattle.resource_schema.specs.declared.schema.Schema.{Schema}
use Rattle.resource_schema.specs.declared.targets.Target.{Target}
use Rattle.resource_schema.specs.declared.targets.Target.TheVariants as target
use Rattle.resource_schema.specs.Kinds.{relationships_of, target_of}
use Rattle.world_cells.specs.declared.rows.Row.{Row}
use Rattle.world_cells.specs.declared.rows.Link.{Link}
use Rattle.world_cells.specs.declared.rows.Link.TheVariants.{One, Many}
use Rattle.world_cells.specs.World.{World, row_at, linked, link_at}
use Rattle.task_forms.specs.declared.queries.Query.{Query}
use Rattle.task_forms.specs.declared.queries.Path.{Path}
use Rattle.task_forms.specs.declared.tasks.Fetch.{Fetch}
use Rattle.request_model.specs.Links.{path_with_query}
use Rattle.request_model.specs.Cursors.{cursor_text}
use Rattle.store_model.specs.Pages.{place_of, page_of, rows_of, rows_at, first_item, last_item}
use Rattle.store_model.specs.declared.pages.Selected.{Selected}
use Rattle.error_objects.specs.ErrorReply.{only}
use Rattle.store_model.specs.Included.{included}
use Rattle.store_model.specs.Resource.{object_of, linkage, resource, collection_path, related_path}

-- ---- links of a page (Cursor Pagination profile, "Links")

-- the query parameters that the profile names cursors by
abbrev pub is_cursor : List ℕ → Bool
is_cursor name = bytes_eq name (codes "page[after]") || bytes_eq name (codes "page[before]")

-- a pair before those of the same name and of greater ones
abbrev pub insert_pair : List ℕ × List ℕ → List (List ℕ × List ℕ) → List (List ℕ × List ℕ)
insert_pair p [] = p ∷ []
insert_pair p (q ∷ pairs) = if is_gt (slice_cmp nat_cmp p.0 q.0) then q ∷ insert_pair p pairs else p ∷ q ∷ pairs

-- the pairs but for cursors, with this one, in byte order of names
abbrev pub pairs_with : List (List ℕ × List ℕ) → List ℕ → List ℕ → List (List ℕ × List ℕ)
pairs_with [] name text = (name, text) ∷ []
pairs_with (p ∷ pairs) name text = if is_cursor p.0 then pairs_with pairs name text else insert_pair p (pairs_with pairs name text)

-- the path with the request's pairs, and a cursor at a row
abbrev pub link_text : List ℕ → Query → List ℕ → Row → List ℕ
link_text path query name row = path_with_query path (pairs_with query.pairs name (cursor_text (place_of query.sort row)))

-- a link with the row's cursor, where a row stands beyond it
abbrev pub page_link : List ℕ → Query → List ℕ → Option Row → Bool → Data
page_link path query name None there = null
page_link path query name (Some row) true = string (link_text path query name row)
page_link path query name (Some row) false = null

abbrev pub page_links : List ℕ → Query → Selected → Data
page_links path query page = object_of (
    (codes "next", page_link path query (codes "page[after]") (last_item page.rows) page.after)
    ∷ (codes "prev", page_link path query (codes "page[before]") (first_item page.rows) page.before)
    ∷ [])

-- ---- documents ("Document Structure", "Compound Documents")

-- resource objects of rows, in their order
abbrev pub resources : Schema → Query → List Row → Data
resources schema query rows = array (items_of (map (λ row. resource schema row query.fields) rows))

-- `included` is there exactly where paths were asked for
abbrev pub included_member : Schema → World → Query → List Row → Option (List Path) → List (List ℕ × Data)
included_member schema w query primaries None = []
included_member schema w query primaries (Some paths) = (codes "included", resources schema query (included schema w (map (λ row. row.key) primaries) paths)) ∷ []

-- what a document tells of a range that is cut short (Cursor Pagination profile, "Range Pagination")
abbrev pub truncated_data : Data
truncated_data = only (codes "page") (only (codes "rangeTruncated") (boolean true))

-- `meta` is there exactly where a range is cut short
abbrev pub meta_member : Bool → List (List ℕ × Data)
meta_member true = (codes "meta", truncated_data) ∷ []
meta_member false = []

-- a page of rows, with its links
abbrev pub page_document : Schema → World → Query → List ℕ → List Row → Data
page_document schema w query path rows =
    let page = page_of query.sort query.page rows in
    object_of (
    (codes "data", resources schema query page.rows)
    ∷ (included_member schema w query page.rows query.include
    ++ (codes "links", page_links path query page) ∷ meta_member page.truncated))

-- one row, or null
abbrev pub row_document : Schema → World → Query → Option Row → Data
row_document schema w query None = object_of ((codes "data", null) ∷ included_member schema w query [] query.include)
row_document schema w query (Some row) = object_of ((codes "data", resource schema row query.fields) ∷ included_member schema w query (row ∷ []) query.include)

abbrev pub relationship_name : Schema → ℕ → ℕ → List ℕ
relationship_name schema kind rel = option_map_or (λ r. r.name) (slice_get (relationships_of schema kind) rel) []

-- what a row's link leads to: one resource or null, or a page ("Fetching Resources")
abbrev pub linked_document : Schema → World → Query → Row → ℕ → Link → Data
linked_document schema w query row rel (One x) = row_document schema w query (first_item (rows_at w (linked schema row rel)))
linked_document schema w query row rel (Many xs) = page_document schema w query (related_path schema row.key (relationship_name schema row.key.kind rel)) (rows_at w (linked schema row rel))

abbrev pub related_document : Schema → World → Query → ℕ → Row → Data
related_document schema w query rel row = linked_document schema w query row rel (link_at row rel)

-- the linkage alone ("Fetching Relationships")
abbrev pub linkage_document : Schema → ℕ → Row → Data
linkage_document schema rel row = object_of ((codes "data", linkage schema (target_of schema row.key.kind rel) (link_at row rel)) ∷ [])

-- the document of a target
abbrev pub target_document : Schema → World → Query → Target → Option Data
target_document schema w query (target.Collection kind) = Some (page_document schema w query (collection_path schema kind) (rows_of w kind))
target_document schema w query (target.Resource key) = option_map (λ row. row_document schema w query (Some row)) (row_at w key)
target_document schema w query (target.Related key rel) = option_map (related_document schema w query rel) (row_at w key)
target_document schema w query (target.Linkage key rel) = option_map (linkage_document schema rel) (row_at w key)
target_document schema w query target.Operations = None

abbrev pub document : Schema → World → Fetch → Option Data
document schema w fetch = target_document schema w fetch.query fetch.target

-- ---- the resources of a document

-- the rows that a link leads to: the one, or those of one page
abbrev pub linked_rows : Schema → World → Query → Row → ℕ → Link → List Row
linked_rows schema w query row rel (One x) = rows_at w (linked schema row rel)
linked_rows schema w query row rel (Many xs) = (page_of query.sort query.page (rows_at w (linked schema row rel))).rows

-- the rows whose resource objects are the primary data
abbrev pub primary_rows : Schema → World → Query → Target → List Row
primary_rows schema w query (target.Collection kind) = (page_of query.sort query.page (rows_of w kind)).rows
primary_rows schema w query (target.Resource key) = option_map_or (λ row. row ∷ []) (row_at w key) []
primary_rows schema w query (target.Related key rel) = option_map_or (λ row. linked_rows schema w query row rel (link_at row rel)) (row_at w key) []
primary_rows schema w query (target.Linkage key rel) = []
primary_rows schema w query target.Operations = []

-- the rows that are included beside them
abbrev pub included_rows : Schema → World → Fetch → List Row
included_rows schema w fetch = option_map_or (included schema w (map (λ row. row.key) (primary_rows schema w fetch.query fetch.target))) fetch.query.include []
