-- The body of each reply is empty, or the compact text of a plain value.
use Rattle.std.proofs.Common.{◌≡◌, ℕ, ◌+◌, List, [], ◌∷◌, ◌++◌, Bool, true, false, refl, Some, None, Option, inl, inr}
use Rattle.std.specs.Prelude.{◌⊎◌, ⊤, IsTrue, IfSome, MatchOption, map, option_map, slice_get, codes, Result, Ok, Err}
use Rattle.std.specs.Option.{option_and_then}
use Rattle.std.specs.List.{AllByRecursion, list_any, zip}
use Rattle.serde_json.specs.Data.{Data, null, boolean, string, array, item, no_items}
use Rattle.serde_json.specs.View.{items_of}
use Rattle.serde_json.specs.Written.{compact_text}
use Rattle.json_forms.specs.Plain.{IsPlain}
use Rattle.http_messages.specs.declared.messages.Content.{Content}
use Rattle.ident_rules.specs.declared.key.Key.{Key}
use Rattle.resource_schema.specs.declared.schema.Schema.{Schema}
use Rattle.resource_schema.specs.declared.kinds.Relationship.{Relationship}
use Rattle.resource_schema.specs.declared.targets.Target.{Target}
use Rattle.resource_schema.specs.declared.targets.Target.TheVariants as target
use Rattle.resource_schema.specs.Kinds.{relationships_of, target_of}
use Rattle.resource_schema.specs.SchemaRules.{is_schema}
use Rattle.world_cells.specs.declared.rows.Row.{Row}
use Rattle.world_cells.specs.declared.rows.Link.{Link}
use Rattle.world_cells.specs.declared.rows.Link.TheVariants.{One, Many}
use Rattle.world_cells.specs.Lists.{IsIn}
use Rattle.world_cells.specs.World.{World, row_at, link_at, linked}
use Rattle.error_objects.specs.declared.refusals.Blame.{Blame}
use Rattle.error_objects.specs.declared.refusals.Blame.TheVariants as blame
use Rattle.error_objects.specs.declared.refusals.Refusal.{Refusal}
use Rattle.error_objects.specs.declared.codes.Code.TheVariants as code
use Rattle.error_objects.specs.Refusals.{refusal}
use Rattle.error_objects.specs.Codes.{Told, told}
use Rattle.error_objects.specs.ErrorReply.{only, source_of, error_object, error_document}
use Rattle.task_forms.specs.declared.operations.Operation.{Operation}
use Rattle.task_forms.specs.declared.queries.Path.{Path}
use Rattle.task_forms.specs.declared.queries.Query.{Query}
use Rattle.task_forms.specs.declared.tasks.Fetch.{Fetch}
use Rattle.task_forms.specs.declared.tasks.ReplyForm.{ReplyForm}
use Rattle.task_forms.specs.declared.tasks.ReplyForm.TheVariants as reply_form
use Rattle.task_forms.specs.declared.tasks.Task.{Task}
use Rattle.task_forms.specs.declared.tasks.Task.TheVariants as task
use Rattle.task_forms.specs.Fit.{FitsOperation, FitsQuery, FitsFetch, IsFit}
use Rattle.store_model.specs.Valid.{IsValid}
use Rattle.store_model.specs.Change.{Lids, refused, done, outcome}
use Rattle.store_model.specs.Run.{Ran, run, run_from, and_then, after_one, operation_pointer}
use Rattle.store_model.specs.Pages.{page_of, rows_of, rows_at, first_item, last_item}
use Rattle.store_model.specs.Included.{included}
use Rattle.store_model.specs.Resource.{object_of, resource, collection_path, related_path}
use Rattle.store_model.specs.Document.{resources, truncated_data, meta_member, page_link, page_links, included_member, page_document, row_document, linked_document, related_document, relationship_name, linkage_document, target_document, document}
use Rattle.store_model.specs.Answer.{target_content, document_reply, row_data, row_body, first_of_rows, is_create, result_data, results_data, results_reply, done_reply, run_reply, answer}
use Rattle.store_model.specs.Laws.{HasPlainBody}
use Rattle.store_model.proofs.Basics.{all_in}
use Rattle.store_model.proofs.Lawful.{operation_keeps}
use Rattle.store_model.proofs.Paging.{page_exact}
use Rattle.store_model.proofs.PlainResources.{items_plain, linkage_plain, resource_plain}
use Rattle.store_model.proofs.Reaching.{included_exactly}
use Rattle.store_model.proofs.WorldRows.{rows_of_exactly, rows_at_exactly, rows_of_apart, linked_apart}

only_plain : (name : List ℕ) (d : Data) → IsPlain d → IsPlain (only name d)
only_plain name d h = ((tt, tt), (h, tt))

-- ---- errors

source_plain : (b : Blame) → IfSome (source_of b) IsPlain
source_plain blame.Nothing = tt
source_plain (blame.Pointer text) = only_plain (codes "pointer") (string text) tt
source_plain (blame.Parameter text) = only_plain (codes "parameter") (string text) tt
source_plain (blame.Header text) = only_plain (codes "header") (string text) tt

error_plain : (t : Told) (source : Option Data) → IfSome source IsPlain → IsPlain (error_object t source)
error_plain t None h = (((refl, (refl, tt)), ((refl, tt), (tt, tt))), (tt, (tt, (tt, tt))))
error_plain t (Some d) h = (((refl, (refl, (refl, tt))), ((refl, (refl, tt)), ((refl, tt), (tt, tt)))), (tt, (h, (tt, (tt, tt)))))

error_document_plain : (r : Refusal) → IsPlain (error_document r)
error_document_plain r = only_plain (codes "errors") (array (item (error_object (told r.code) (source_of r.blame)) no_items)) (error_plain (told r.code) (source_of r.blame) (source_plain r.blame), tt)

module _ (schema : Schema) (rules : IsTrue (is_schema schema)) where
  -- ---- documents

  module _ (w : World) (valid : IsValid schema w) (query : Query) where
    abbrev OfWorld : List Row → Type 0
    OfWorld rows = (row : Row) → IsIn rows row → row_at w row.key ≡ Some row

    row_plain : (row : Row) → row_at w row.key ≡ Some row → IsPlain (resource schema row query.fields)
    row_plain row is = resource_plain schema rules w row.key row query.fields (valid.rows row.key row is)

    resources_plain : (rows : List Row) → OfWorld rows → IsPlain (resources schema query rows)
    resources_plain rows of_world = items_plain (λ row. resource schema row query.fields) rows (all_in (λ row. IsPlain (resource schema row query.fields)) rows (λ row among. row_plain row (of_world row among)))

    included_plain : (primaries : List Key) (paths : List Path) → IsPlain (resources schema query (included schema w primaries paths))
    included_plain primaries paths = resources_plain (included schema w primaries paths) (λ row among. (((included_exactly schema w primaries paths valid).exactly row).0 among).of_world)

    link_plain : (path name : List ℕ) (row : Option Row) (there : Bool) → IsPlain (page_link path query name row there)
    link_plain path name None there = tt
    link_plain path name (Some row) true = tt
    link_plain path name (Some row) false = tt

    truncated_plain : IsPlain truncated_data
    truncated_plain = only_plain (codes "page") (only (codes "rangeTruncated") (boolean true)) (only_plain (codes "rangeTruncated") (boolean true) tt)

    -- data, included where it was asked for, links, and meta where a range is cut short
    with_links : (primary links : Data) (primaries : List Row) (o : Option (List Path)) (truncated : Bool) → IsPlain primary → IsPlain links
        → IsPlain (object_of ((codes "data", primary) ∷ (included_member schema w query primaries o ++ (codes "links", links) ∷ meta_member truncated)))
    with_links primary links primaries None false p q = (((refl, tt), (tt, tt)), (p, (q, tt)))
    with_links primary links primaries None true p q = (((refl, (refl, tt)), ((refl, tt), (tt, tt))), (p, (q, (truncated_plain, tt))))
    with_links primary links primaries (Some paths) false p q = (((refl, (refl, tt)), ((refl, tt), (tt, tt))), (p, (included_plain (map (λ row. row.key) primaries) paths, (q, tt))))
    with_links primary links primaries (Some paths) true p q =
        (((refl, (refl, (refl, tt))), ((refl, (refl, tt)), ((refl, tt), (tt, tt)))), (p, (included_plain (map (λ row. row.key) primaries) paths, (q, (truncated_plain, tt)))))

    without_links : (primary : Data) (primaries : List Row) (o : Option (List Path)) → IsPlain primary → IsPlain (object_of ((codes "data", primary) ∷ included_member schema w query primaries o))
    without_links primary primaries None p = ((tt, tt), (p, tt))
    without_links primary primaries (Some paths) p = (((refl, tt), (tt, tt)), (p, (included_plain (map (λ row. row.key) primaries) paths, tt)))

    page_plain : (path : List ℕ) (rows : List Row) → OfWorld ((page_of query.sort query.page rows).rows) → IsPlain (page_document schema w query path rows)
    page_plain path rows of_world =
        let page = page_of query.sort query.page rows in
        with_links (resources schema query ((page_of query.sort query.page rows).rows)) (page_links path query (page_of query.sort query.page rows)) ((page_of query.sort query.page rows).rows) query.include page.truncated (resources_plain ((page_of query.sort query.page rows).rows) of_world)
        (((refl, tt), (tt, tt)), (link_plain path (codes "page[after]") (last_item page.rows) page.after, (link_plain path (codes "page[before]") (first_item page.rows) page.before, tt)))

    first_plain : (rows : List Row) → OfWorld rows → IsPlain (row_document schema w query (first_item rows))
    first_plain [] of_world = without_links null [] query.include tt
    first_plain (row ∷ rows) of_world = without_links (resource schema row query.fields) (row ∷ []) query.include (row_plain row (of_world row (inl refl)))

    collection_world : (kind : ℕ) → OfWorld ((page_of query.sort query.page (rows_of w kind)).rows)
    collection_world kind row among =
        let page = page_exact query.sort (rows_of w kind) (rows_of_apart schema w valid kind) query.page in
        ((rows_of_exactly schema w valid kind row).0 (page.asked row among).0).0

    related_world : (from : Row) (rel : ℕ) → OfWorld ((page_of query.sort query.page (rows_at w (linked schema from rel))).rows)
    related_world from rel row among =
        let page = page_exact query.sort (rows_at w (linked schema from rel)) (linked_apart schema w valid from rel) query.page in
        ((rows_at_exactly schema w valid (linked schema from rel) row).0 (page.asked row among).0).0

    linked_plain : (row : Row) (rel : ℕ) (link : Link) → IsPlain (linked_document schema w query row rel link)
    linked_plain row rel (One x) = first_plain (rows_at w (linked schema row rel)) (λ r among. ((rows_at_exactly schema w valid (linked schema row rel) r).0 among).0)
    linked_plain row rel (Many xs) = page_plain (related_path schema row.key (relationship_name schema row.key.kind rel)) (rows_at w (linked schema row rel)) (related_world row rel)

    target_plain : (t : Target) → IfSome (target_document schema w query t) IsPlain
    target_plain (target.Collection kind) = page_plain (collection_path schema kind) (rows_of w kind) (collection_world kind)
    target_plain (target.Resource key) =
        elim (row_at w key) as (λ o. row_at w key ≡ o → IfSome (option_map (λ row. row_document schema w query (Some row)) o) IsPlain) [
          | None ↦ λ e. tt
          | Some row ↦ λ e. without_links (resource schema row query.fields) (row ∷ []) query.include (resource_plain schema rules w key row query.fields (valid.rows key row e))
        ] refl
    target_plain (target.Related key rel) = elim (row_at w key) as (λ o. IfSome (option_map (related_document schema w query rel) o) IsPlain) [ None ↦ tt | Some row ↦ linked_plain row rel (link_at row rel) ]
    target_plain (target.Linkage key rel) = elim (row_at w key) as (λ o. IfSome (option_map (linkage_document schema rel) o) IsPlain) [
      | None ↦ tt
      | Some row ↦ ((tt, tt), (linkage_plain schema (target_of schema row.key.kind rel) (link_at row rel), tt))
    ]
    target_plain target.Operations = tt

  document_body : (c : Content) (o : Option Data) → IfSome o IsPlain → HasPlainBody (document_reply c o)
  document_body c None h = inr (error_document (refusal code.NotFound), error_document_plain (refusal code.NotFound), refl)
  document_body c (Some d) h = inr (d, h, refl)

  -- ---- changes

  abbrev IsPlainRow : Option Row → Type 0
  IsPlainRow o = IfSome o (λ row. IsPlain (resource schema row []))

  abbrev HasPlainRows : Result Ran Refusal → Type 0
  HasPlainRows (Ok ran) = AllByRecursion IsPlainRow ran.rows
  HasPlainRows (Err r) = ⊤

  after_plain : (row : Option Row) (r : Result Ran Refusal) → IsPlainRow row → HasPlainRows r → HasPlainRows (after_one row r)
  after_plain row (Ok ran) h rest = (h, rest)
  after_plain row (Err r) h rest = tt

  found_plain : (w : World) (o : Option Key) → IsValid schema w → IsPlainRow (option_and_then (row_at w) o)
  found_plain w None valid = tt
  found_plain w (Some key) valid = elim (row_at w key) as (λ o. row_at w key ≡ o → IsPlainRow o) [ None ↦ λ e. tt | Some row ↦ λ e. resource_plain schema rules w key row [] (valid.rows key row e) ] refl

  run_plain : (form : ReplyForm) (i : ℕ) (w : World) (lids : Lids) (operations : List Operation) → IsValid schema w → AllByRecursion (FitsOperation schema) operations → HasPlainRows (run_from schema form i w lids operations)
  run_plain form i w lids [] valid fits = tt
  run_plain form i w lids (operation ∷ operations) valid fits =
      let changed = done schema w lids operation in
      elim (refused schema w lids operation) as (λ o. refused schema w lids operation ≡ o → HasPlainRows (and_then (operation_pointer form i) (outcome o (done schema w lids operation)) (λ changed. run_from schema form (i + 1) changed.world changed.lids operations))) [
        | None ↦ λ none.
            let kept = operation_keeps schema w lids operation valid fits.0 none in
            after_plain (option_and_then (row_at changed.world) changed.key) (run_from schema form (i + 1) changed.world changed.lids operations) (found_plain changed.world changed.key kept) (run_plain form (i + 1) changed.world changed.lids operations kept fits.1)
        | Some r ↦ λ e. tt
      ] refl

  row_data_plain : (row : Row) → IsPlain (resource schema row []) → IsPlain (row_data schema row)
  row_data_plain row h = only_plain (codes "data") (resource schema row []) h

  first_row_plain : (rows : List (Option Row)) → AllByRecursion IsPlainRow rows → IsPlainRow (first_of_rows rows)
  first_row_plain [] h = tt
  first_row_plain (row ∷ rows) h = h.0

  body_plain : (o : Option Row) → IsPlainRow o → (row_body schema o ≡ []) ⊎ ((d : Data) × IsPlain d × (row_body schema o ≡ compact_text d))
  body_plain None h = inl refl
  body_plain (Some row) h = inr (row_data schema row, row_data_plain row h, refl)

  result_plain : (b : Bool) (o : Option Row) → IsPlainRow o → IsPlain (result_data schema b o)
  result_plain true None h = (tt, tt)
  result_plain true (Some row) h = row_data_plain row h
  result_plain false o h = (tt, tt)

  zip_plain : (operations : List Operation) (rows : List (Option Row)) → AllByRecursion IsPlainRow rows → AllByRecursion (λ (o : Operation × Option Row). IsPlain (result_data schema (is_create o.0) o.1)) (zip operations rows)
  zip_plain [] rows h = tt
  zip_plain (o ∷ operations) [] h = tt
  zip_plain (o ∷ operations) (row ∷ rows) h = (result_plain (is_create o) row h.0, zip_plain operations rows h.1)

  results_plain : (operations : List Operation) (rows : List (Option Row)) → AllByRecursion IsPlainRow rows → IsPlain (results_data schema operations rows)
  results_plain operations rows h = only_plain (codes "atomic:results") (array (items_of (map (λ (o : Operation × Option Row). result_data schema (is_create o.0) o.1) (zip operations rows))))
      (items_plain (λ (o : Operation × Option Row). result_data schema (is_create o.0) o.1) (zip operations rows) (zip_plain operations rows h))

  results_body : (b : Bool) (d : Data) → IsPlain d → HasPlainBody (results_reply b d)
  results_body true d h = inr (d, h, refl)
  results_body false d h = inl refl

  done_body : (form : ReplyForm) (operations : List Operation) (rows : List (Option Row)) → AllByRecursion IsPlainRow rows → HasPlainBody (done_reply schema form operations rows)
  done_body reply_form.Created operations rows h = body_plain (first_of_rows rows) (first_row_plain rows h)
  done_body reply_form.Updated operations rows h = body_plain (first_of_rows rows) (first_row_plain rows h)
  done_body reply_form.Empty operations rows h = inl refl
  done_body reply_form.Results operations rows h = results_body (list_any is_create operations) (results_data schema operations rows) (results_plain operations rows h)

  run_body : (form : ReplyForm) (operations : List Operation) (r : Result Ran Refusal) → HasPlainRows r → HasPlainBody (run_reply schema form operations r)
  run_body form operations (Ok ran) h = done_body form operations ran.rows h
  run_body form operations (Err r) h = inr (error_document r, error_document_plain r, refl)

  -- ---- replies

  pub document_plain : (w : World) (fetch : Fetch) → IsValid schema w → IfSome (document schema w fetch) IsPlain
  document_plain w fetch valid = target_plain w valid fetch.query fetch.target

  pub reply_plain : (w : World) (t : Task) → IsValid schema w → IsFit schema t → HasPlainBody (answer schema w t)
  reply_plain w (task.Fetch fetch) valid fits = document_body (target_content schema fetch.target) (document schema w fetch) (target_plain w valid fetch.query fetch.target)
  reply_plain w (task.Change operations form) valid fits = run_body form operations (run schema form w operations) (run_plain form 0 w [] operations valid fits.0)
