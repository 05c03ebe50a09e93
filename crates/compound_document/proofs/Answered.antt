-- The documents of gathered rows are those that answer fetches.
use Rattle.std.proofs.Common.{◌≡◌, ℕ, List, [], ◌∷◌, ◌++◌, true, false, Option, Some, None, refl, sym, ap, ◌∙◌}
use Rattle.std.specs.Prelude.{codes}
use Rattle.std.specs.Option.{option_and_then}
use Rattle.std.specs.List.{cons_option}
use Rattle.resource_schema.specs.declared.schema.Schema.{Schema}
use Rattle.resource_schema.specs.Kinds.{target_of}
use Rattle.world_cells.specs.declared.rows.Link.{Link}
use Rattle.world_cells.specs.declared.rows.Link.TheVariants.{One, Many}
use Rattle.world_cells.specs.declared.rows.Row.{Row}
use Rattle.world_cells.specs.World.{World, ids_of, link_at, linked, row_at}
use Rattle.task_forms.specs.declared.queries.Path.{Path}
use Rattle.task_forms.specs.declared.queries.Query.{Query}
use Rattle.store_model.specs.declared.pages.Selected.{Selected}
use Rattle.store_model.specs.Document.{included_member, linked_document, linked_rows, page_document, page_links, relationship_name, resources, row_document, meta_member}
use Rattle.store_model.specs.Pages.{first_item, page_of, rows_at}
use Rattle.store_model.specs.Resource.{object_of, related_path}
use Rattle.compound_document.specs.Documents.{beside_member, one_data, page_data, row_object}
use Rattle.compound_document.specs.Gathering.{gathered, key_list, keys_in}
use Rattle.compound_document.specs.Linked.{is_many_link, of_kind}

beside_is : (schema : Schema) (w : World) (query : Query) (primaries : List Row) (include : Option (List Path)) → beside_member schema query (gathered schema w (keys_in primaries) include) ≡ included_member schema w query primaries include
beside_is schema w query primaries None = refl
beside_is schema w query primaries (Some paths) = refl

-- the document of a page
pub page_is : (schema : Schema) (w : World) (query : Query) (path : List ℕ) (rows : List Row) (page : Selected) → page ≡ page_of query.sort query.page rows
    → page_data schema query path page (gathered schema w (keys_in page.rows) query.include) ≡ page_document schema w query path rows
page_is schema w query path rows page is =
    ap (λ (p : Selected). page_data schema query path p (gathered schema w (keys_in p.rows) query.include)) is
    ∙ (let page = page_of query.sort query.page rows in
    ap (λ ms. object_of ((codes "data", resources schema query page.rows) ∷ (ms ++ (codes "links", page_links path query page) ∷ meta_member page.truncated))) (beside_is schema w query page.rows query.include))

-- the document of a row, or null
pub one_is : (schema : Schema) (w : World) (query : Query) (row : Option Row) → one_data schema query row (gathered schema w (key_list row) query.include) ≡ row_document schema w query row
one_is schema w query None = ap (λ ms. object_of ((codes "data", row_object schema query None) ∷ ms)) (beside_is schema w query [] query.include)
one_is schema w query (Some row) = ap (λ ms. object_of ((codes "data", row_object schema query (Some row)) ∷ ms)) (beside_is schema w query (row ∷ []) query.include)

-- ---- related resources

module _ (schema : Schema) (w : World) (query : Query) (row : Row) (rel : ℕ) where
  -- of a to-many relationship
  pub many_is : (link : Link) (path : List ℕ) (page : Selected) → is_many_link link ≡ true → path ≡ related_path schema row.key (relationship_name schema row.key.kind rel) → page ≡ page_of query.sort query.page (rows_at w (linked schema row rel))
      → page_data schema query path page (gathered schema w (keys_in page.rows) query.include) ≡ linked_document schema w query row rel link
  many_is (One x) path page many at is = cc many
  many_is (Many xs) path page many at is = page_is schema w query path (rows_at w (linked schema row rel)) page is ∙ ap (λ p. page_document schema w query p (rows_at w (linked schema row rel))) at

  one_key : (kind : ℕ) (link : Link) → is_many_link link ≡ false → option_and_then (row_at w) (first_item (of_kind kind (ids_of link))) ≡ first_item (rows_at w (of_kind kind (ids_of link)))
  one_key kind (One None) one = refl
  one_key kind (One (Some x)) one = by_found (row_at w (record { kind = kind; id = x }))
    where
      by_found : (o : Option Row) → o ≡ first_item (cons_option o [])
      by_found None = refl
      by_found (Some r) = refl
  one_key kind (Many xs) one = cc one

  -- of a to-one relationship
  pub linked_is : (found : Option Row) → is_many_link (link_at row rel) ≡ false → found ≡ option_and_then (row_at w) (first_item (linked schema row rel))
      → one_data schema query found (gathered schema w (key_list found) query.include) ≡ linked_document schema w query row rel (link_at row rel)
  linked_is found one is = by_link (link_at row rel) refl
    where
      at_first : found ≡ first_item (rows_at w (linked schema row rel))
      at_first = is ∙ one_key (target_of schema row.key.kind rel) (link_at row rel) one

      by_link : (link : Link) → link_at row rel ≡ link → one_data schema query found (gathered schema w (key_list found) query.include) ≡ linked_document schema w query row rel link
      by_link (One x) e = one_is schema w query found ∙ ap (row_document schema w query) at_first
      by_link (Many xs) e = cc (one, ap is_many_link e)

-- the rows of a to-one relationship
pub rows_one : (schema : Schema) (w : World) (query : Query) (row : Row) (rel : ℕ) (link : Link) → is_many_link link ≡ false → link_at row rel ≡ link
    → linked_rows schema w query row rel link ≡ cons_option (option_and_then (row_at w) (first_item (linked schema row rel))) []
rows_one schema w query row rel (Many xs) one at = cc one
rows_one schema w query row rel (One x) one at =
    ap (λ l. rows_at w (of_kind (target_of schema row.key.kind rel) (ids_of l))) at
    ∙ by_one x
    ∙ ap (λ l. cons_option (option_and_then (row_at w) (first_item (of_kind (target_of schema row.key.kind rel) (ids_of l)))) []) (sym at)
  where
    by_one : (x : Option (List ℕ)) → rows_at w (of_kind (target_of schema row.key.kind rel) (ids_of (One x))) ≡ cons_option (option_and_then (row_at w) (first_item (of_kind (target_of schema row.key.kind rel) (ids_of (One x))))) []
    by_one None = refl
    by_one (Some i) = refl
