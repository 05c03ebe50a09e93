-- Documents of rows that were gathered, and the parts of their texts.
use Rattle.std.specs.Prelude.{ℕ, Bool, true, false, ◌++◌, List, [], ◌∷◌, Some, None, Option, codes}
use Rattle.serde_json.specs.Data.{Data, null}
use Rattle.serde_json.specs.Written.{compact_text}
use Rattle.resource_schema.specs.declared.schema.Schema.{Schema}
use Rattle.world_cells.specs.declared.rows.Row.{Row}
use Rattle.task_forms.specs.declared.queries.Query.{Query}
use Rattle.document_texts.specs.Texts.{link_data}
use Rattle.store_model.specs.declared.pages.Selected.{Selected}
use Rattle.store_model.specs.Document.{resources, page_links, meta_member}
use Rattle.store_model.specs.Resource.{object_of, resource}

-- the links of a page, each of which may be null
abbrev pub links_data : Option (List ℕ) → Option (List ℕ) → Data
links_data next prev = object_of ((codes "next", link_data next) ∷ (codes "prev", link_data prev) ∷ [])

-- the rows beside the primary ones as a member, where paths were asked for
abbrev pub beside_member : Schema → Query → Option (List Row) → List (List ℕ × Data)
beside_member schema query None = []
beside_member schema query (Some rows) = (codes "included", resources schema query rows) ∷ []

-- the document of a page with these links
abbrev pub page_object : Schema → Query → List Row → Option (List Row) → Data → Bool → Data
page_object schema query rows beside links truncated =
    object_of ((codes "data", resources schema query rows) ∷ (beside_member schema query beside ++ (codes "links", links) ∷ meta_member truncated))

-- the document of a page
abbrev pub page_data : Schema → Query → List ℕ → Selected → Option (List Row) → Data
page_data schema query path page beside = page_object schema query page.rows beside (page_links path query page) page.truncated

-- the resource object of a row, or null
abbrev pub row_object : Schema → Query → Option Row → Data
row_object schema query None = null
row_object schema query (Some row) = resource schema row query.fields

-- the document of a row, or null
abbrev pub one_data : Schema → Query → Option Row → Option (List Row) → Data
one_data schema query row beside = object_of ((codes "data", row_object schema query row) ∷ beside_member schema query beside)

-- ---- texts

-- the member `included` behind other members
abbrev pub beside_text : Schema → Query → Option (List Row) → List ℕ
beside_text schema query None = []
beside_text schema query (Some rows) = codes ",\"included\":" ++ compact_text (resources schema query rows)

-- the member `meta` behind other members
abbrev pub meta_text : Bool → List ℕ
meta_text true = codes ",\"meta\":{\"page\":{\"rangeTruncated\":true}}"
meta_text false = []
