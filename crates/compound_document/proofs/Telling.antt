-- What a fetch tells, from its steps.
use Rattle.std.proofs.Common.{◌≡◌, ℕ, List, [], ◌∷◌, Bool, true, false, Option, Some, None, refl, sym, ap, subst, ◌∙◌}
use Rattle.std.specs.Prelude.{codes, if◌then◌else◌, option_map}
use Rattle.std.specs.Option.{option_and_then, option_map_or}
use Rattle.std.specs.List.{cons_option}
use Rattle.std.proofs.lemmas.Bool.{or_left}
use Rattle.serde_json.specs.Written.{compact_text}
use Rattle.error_objects.specs.declared.codes.Code.TheVariants as code
use Rattle.error_objects.specs.ErrorReply.{only, error_reply}
use Rattle.error_objects.specs.Refusals.{refusal}
use Rattle.http_messages.specs.declared.messages.Content.{Content}
use Rattle.http_messages.specs.declared.messages.Content.TheVariants as content
use Rattle.http_messages.specs.declared.messages.Reply.{Reply}
use Rattle.ident_rules.specs.declared.key.Key.{Key}
use Rattle.resource_schema.specs.declared.schema.Schema.{Schema}
use Rattle.resource_schema.specs.declared.targets.Target.{Target}
use Rattle.resource_schema.specs.declared.targets.Target.TheVariants as target
use Rattle.resource_schema.specs.Kinds.{is_many, target_of}
use Rattle.world_cells.specs.declared.keys.CellKey.{CellKey}
use Rattle.world_cells.specs.declared.rows.Link.{Link}
use Rattle.world_cells.specs.declared.rows.Link.TheVariants.{One, Many}
use Rattle.world_cells.specs.declared.rows.Row.{Row}
use Rattle.world_cells.specs.Reads.{Cells}
use Rattle.world_cells.specs.World.{World, link_at, linked, row_at}
use Rattle.task_forms.specs.declared.queries.Query.{Query}
use Rattle.store_model.specs.declared.pages.Selected.{Selected}
use Rattle.store_model.specs.Valid.{IsValid}
use Rattle.store_model.specs.Answer.{document_reply, ok_reply}
use Rattle.store_model.specs.Document.{linkage_document, linked_rows, page_document, primary_rows, related_document, relationship_name, row_document}
use Rattle.store_model.specs.Laws.{AreRowsAt, AreRowsOf, PageIsExact}
use Rattle.store_model.specs.Pages.{first_item, page_of, rows_at, rows_of}
use Rattle.store_model.specs.Reach.{is_row_in, linked_keys_of, of_kind, reach_page, reach_target}
use Rattle.store_model.specs.Resource.{collection_path, linkage, related_path}
use Rattle.page_select.specs.Chosen.{AreListed}
use Rattle.view_reads.specs.Recording.{Recording}
use Rattle.trial_steps.specs.Runners.{TellsRead}
use Rattle.trial_steps.specs.StepLaws.{row_in_left, row_in_right}
use Rattle.compound_document.specs.Documents.{one_data, page_data}
use Rattle.compound_document.specs.Fetches.{alone_reply, reach_of, reply_of, reply_with}
use Rattle.compound_document.specs.Gathering.{gathered, key_list, keys_in, reach_beside}
use Rattle.compound_document.specs.Linked.{is_many_link}
use Rattle.compound_document.proofs.Runs.{told_so, told_then}
use Rattle.compound_document.proofs.Listed.{linked_listed}
use Rattle.compound_document.proofs.Within.{page_within, listed_within, first_within, beside_within}
use Rattle.compound_document.proofs.Answered.{page_is, one_is, many_is, linked_is, rows_one}

module _ {V : Type 0} (schema : Schema) (cells : V → Cells) (query : Query) where
  -- rows beside the primary ones of a target are within its reach
  beside_in : (w : World) (at : Target) (rows : List Row) (k : CellKey) → primary_rows schema w query at ≡ rows → (is_row_in (keys_in rows) k ≡ true → reach_target schema w query at k ≡ true)
      → reach_beside schema (keys_in rows) query.include w k ≡ true → reach_of schema query at w k ≡ true
  beside_in w at rows k is primary e =
      beside_within schema w (keys_in (primary_rows schema w query at)) query.include (reach_target schema w query at) k
      (λ here. primary (subst (λ (rs : List Row). is_row_in (keys_in rs) k ≡ true) is here))
      (subst (λ (rs : List Row). reach_beside schema (keys_in rs) query.include w k ≡ true) (sym is) e)

  -- ---- collections

  pub collection_told : (kind : ℕ) (page : Selected) (path : List ℕ) (a b c : Recording V) (r : Reply)
      → ((w : World) → IsValid schema w → PageIsExact query.sort query.page (rows_of w kind)) → ((w : World) → IsValid schema w → AreRowsOf w kind (rows_of w kind)) → path ≡ collection_path schema kind
      → TellsRead schema cells (reach_page (of_kind kind) query.sort query.page) (λ now. page ≡ page_of query.sort query.page (rows_of now kind)) a b
      → TellsRead schema cells (reach_beside schema (keys_in page.rows) query.include) (λ now. r ≡ ok_reply content.Page (page_data schema query path page (gathered schema now (keys_in page.rows) query.include))) b c
      → TellsRead schema cells (reach_of schema query (target.Collection kind)) (λ now. r ≡ reply_of schema query (target.Collection kind) now) a c
  collection_told kind page path a b c r exact of_type at first second =
      told_then schema cells (reach_page (of_kind kind) query.sort query.page) (reach_beside schema (keys_in page.rows) query.include) (reach_of schema query (target.Collection kind))
      (λ now. page ≡ page_of query.sort query.page (rows_of now kind))
      (λ now. r ≡ ok_reply content.Page (page_data schema query path page (gathered schema now (keys_in page.rows) query.include)))
      (λ now. r ≡ reply_of schema query (target.Collection kind) now) a b c
      (λ now valid is told. told ∙ ap (ok_reply content.Page) (page_is schema now query path (rows_of now kind) page is ∙ ap (λ p. page_document schema now query p (rows_of now kind)) at))
      (λ now k valid is e. or_left _ _ e)
      (λ now k valid is e. beside_in now (target.Collection kind) page.rows k (sym (ap (λ (p : Selected). p.rows) is))
      (λ here. page_within now kind query.sort query.page (exact now valid) (of_type now valid) k (subst (λ (p : Selected). is_row_in (keys_in p.rows) k ≡ true) is here)) e)
      first second

  -- ---- one resource

  module _ (key : Key) where
    at_key : (now : World) (row : Row) → IsValid schema now → Some row ≡ row_at now key → row.key ≡ key
    at_key now row valid is = (valid.rows key row (sym is)).own_key

    pub nothing_told : (at : Target) (a b : Recording V) (r : Reply) → ((w : World) → None ≡ row_at w key → reply_of schema query at w ≡ error_reply (refusal code.NotFound)) → ((w : World) (k : CellKey) → is_row_in (key ∷ []) k ≡ true → reach_target schema w query at k ≡ true)
        → r ≡ error_reply (refusal code.NotFound)
        → TellsRead schema cells (λ now. is_row_in (key ∷ [])) (λ now. None ≡ row_at now key) a b → TellsRead schema cells (reach_of schema query at) (λ now. r ≡ reply_of schema query at now) a b
    nothing_told at a b r none within is found =
        told_so schema cells (λ now. is_row_in (key ∷ [])) (reach_of schema query at) (λ now. None ≡ row_at now key) (λ now. r ≡ reply_of schema query at now) a b
        (λ now valid gone. is ∙ sym (none now gone))
        (λ now k valid gone e. or_left _ _ (within now k e))
        found

    pub no_resource : (w : World) → None ≡ row_at w key → reply_of schema query (target.Resource key) w ≡ error_reply (refusal code.NotFound)
    no_resource w gone = ap (λ o. document_reply content.Plain (option_map (λ x. row_document schema w query (Some x)) o)) (sym gone)

    pub no_linkage : (rel : ℕ) (w : World) → None ≡ row_at w key → reply_of schema query (target.Linkage key rel) w ≡ error_reply (refusal code.NotFound)
    no_linkage rel w gone = ap (λ o. document_reply content.Plain (option_map (linkage_document schema rel) o)) (sym gone)

    pub no_related : (rel : ℕ) (w : World) → None ≡ row_at w key → reply_of schema query (target.Related key rel) w ≡ error_reply (refusal code.NotFound)
    no_related rel w gone = ap (λ o. document_reply (if is_many schema key.kind rel then content.Page else content.Plain) (option_map (related_document schema w query rel) o)) (sym gone)

    pub resource_told : (row : Row) (a b c : Recording V) (r : Reply) → TellsRead schema cells (λ now. is_row_in (key ∷ [])) (λ now. Some row ≡ row_at now key) a b
        → TellsRead schema cells (reach_beside schema (key_list (Some row)) query.include) (λ now. r ≡ ok_reply content.Plain (one_data schema query (Some row) (gathered schema now (key_list (Some row)) query.include))) b c
        → TellsRead schema cells (reach_of schema query (target.Resource key)) (λ now. r ≡ reply_of schema query (target.Resource key) now) a c
    resource_told row a b c r first second =
        told_then schema cells (λ now. is_row_in (key ∷ [])) (reach_beside schema (key_list (Some row)) query.include) (reach_of schema query (target.Resource key))
        (λ now. Some row ≡ row_at now key)
        (λ now. r ≡ ok_reply content.Plain (one_data schema query (Some row) (gathered schema now (key_list (Some row)) query.include)))
        (λ now. r ≡ reply_of schema query (target.Resource key) now) a b c
        (λ now valid is told. told ∙ ap (ok_reply content.Plain) (one_is schema now query (Some row)) ∙ ap (λ o. document_reply content.Plain (option_map (λ x. row_document schema now query (Some x)) o)) is)
        (λ now k valid is e. or_left _ _ e)
        (λ now k valid is e. beside_in now (target.Resource key) (row ∷ []) k (ap (λ o. option_map_or (λ x. x ∷ []) o []) (sym is))
        (λ here. subst (λ (j : Key). is_row_in (j ∷ []) k ≡ true) (at_key now row valid is) here) e)
        first second

    alone_is : (now : World) → query.include ≡ None → (found : Option Row) → alone_reply schema query found ≡ document_reply content.Plain (option_map (λ x. row_document schema now query (Some x)) found)
    alone_is now none None = refl
    alone_is now none (Some row) = ap (λ include. ok_reply content.Plain (one_data schema query (Some row) (gathered schema now (row.key ∷ []) include))) (sym none) ∙ ap (ok_reply content.Plain) (one_is schema now query (Some row))

    pub alone_told : (a b : Recording V) (r : Reply) → query.include ≡ None
        → TellsRead schema cells (λ now. is_row_in (key ∷ [])) (λ now. r ≡ alone_reply schema query (row_at now key)) a b
        → TellsRead schema cells (reach_of schema query (target.Resource key)) (λ now. r ≡ reply_of schema query (target.Resource key) now) a b
    alone_told a b r none told =
        told_so schema cells (λ now. is_row_in (key ∷ [])) (reach_of schema query (target.Resource key)) (λ now. r ≡ alone_reply schema query (row_at now key)) (λ now. r ≡ reply_of schema query (target.Resource key) now) a b
        (λ now valid is. is ∙ alone_is now none (row_at now key))
        (λ now k valid is e. or_left _ _ e)
        told

    -- ---- a relationship

    pub linkage_told : (rel : ℕ) (row : Row) (link : Link) (kind : ℕ) (body : List ℕ) (a b : Recording V) (r : Reply) → kind ≡ target_of schema row.key.kind rel → link ≡ link_at row rel
        → body ≡ compact_text (only (codes "data") (linkage schema kind link)) → r ≡ reply_with content.Plain body → TellsRead schema cells (λ now. is_row_in (key ∷ [])) (λ now. Some row ≡ row_at now key) a b
        → TellsRead schema cells (reach_of schema query (target.Linkage key rel)) (λ now. r ≡ reply_of schema query (target.Linkage key rel) now) a b
    linkage_told rel row link kind body a b r kind_is at text is found =
        told_so schema cells (λ now. is_row_in (key ∷ [])) (reach_of schema query (target.Linkage key rel)) (λ now. Some row ≡ row_at now key) (λ now. r ≡ reply_of schema query (target.Linkage key rel) now) a b
        (λ now valid there. is ∙ ap (reply_with content.Plain) (text ∙ (λ i. compact_text (only (codes "data") (linkage schema (kind_is i) (at i))))) ∙ ap (λ o. document_reply content.Plain (option_map (linkage_document schema rel) o)) there)
        (λ now k valid there e. or_left _ _ e)
        found

    -- ---- related resources

    module _ (rel : ℕ) (row : Row) (a b c d : Recording V) (r : Reply) (shown : Content) (found : TellsRead schema cells (λ now. is_row_in (key ∷ [])) (λ now. Some row ≡ row_at now key) a b) (shows : shown ≡ (if is_many schema key.kind rel then content.Page else content.Plain)) where
      abbrev related : World → CellKey → Bool
      related now = reach_target schema now query (target.Related key rel)

      key_within : (now : World) (k : CellKey) → is_row_in (key ∷ []) k ≡ true → related now k ≡ true
      key_within now k e = row_in_left (key ∷ []) (linked_keys_of schema (row_at now key) rel) k e

      linked_within : (now : World) (k : CellKey) → Some row ≡ row_at now key → is_row_in (linked schema row rel) k ≡ true → related now k ≡ true
      linked_within now k there e = row_in_right (key ∷ []) (linked_keys_of schema (row_at now key) rel) k (subst (λ (o : Option Row). is_row_in (linked_keys_of schema o rel) k ≡ true) there e)

      related_is : (now : World) → Some row ≡ row_at now key → ok_reply shown (related_document schema now query rel row) ≡ reply_of schema query (target.Related key rel) now
      related_is now there = ap (λ s. ok_reply s (related_document schema now query rel row)) shows ∙ ap (λ o. document_reply (if is_many schema key.kind rel then content.Page else content.Plain) (option_map (related_document schema now query rel) o)) there

      abbrev IsChosen : Selected → World → Type 0
      IsChosen page now = (Some row ≡ row_at now key) × (page ≡ page_of query.sort query.page (rows_at now (linked schema row rel)))

      abbrev IsLinked : Option Row → World → Type 0
      IsLinked to now = (Some row ≡ row_at now key) × (to ≡ option_and_then (row_at now) (first_item (linked schema row rel)))

      pub many_told : (page : Selected) (path : List ℕ) → ((w : World) → IsValid schema w → PageIsExact query.sort query.page (rows_at w (linked schema row rel))) → ((w : World) → IsValid schema w → AreRowsAt w (linked schema row rel) (rows_at w (linked schema row rel)))
          → is_many_link (link_at row rel) ≡ true → path ≡ related_path schema row.key (relationship_name schema row.key.kind rel)
          → TellsRead schema cells (λ now. is_row_in (linked schema row rel)) (λ now. AreListed (linked schema row rel) → page ≡ page_of query.sort query.page (rows_at now (linked schema row rel))) b c
          → TellsRead schema cells (reach_beside schema (keys_in page.rows) query.include) (λ now. r ≡ ok_reply shown (page_data schema query path page (gathered schema now (keys_in page.rows) query.include))) c d
          → TellsRead schema cells (reach_of schema query (target.Related key rel)) (λ now. r ≡ reply_of schema query (target.Related key rel) now) a d
      many_told page path exact at many path_is selected second =
          told_then schema cells related (reach_beside schema (keys_in page.rows) query.include) (reach_of schema query (target.Related key rel)) (IsChosen page)
          (λ now. r ≡ ok_reply shown (page_data schema query path page (gathered schema now (keys_in page.rows) query.include)))
          (λ now. r ≡ reply_of schema query (target.Related key rel) now) a c d
          (λ now valid is told. told ∙ ap (ok_reply shown) (many_is schema now query row rel (link_at row rel) path page many path_is is.1) ∙ related_is now is.0)
          (λ now k valid is e. or_left _ _ e)
          (λ now k valid is e. beside_in now (target.Related key rel) page.rows k (primary_is now is)
          (λ here. linked_within now k is.0 (listed_within now (linked schema row rel) query.sort query.page (exact now valid) (at now valid) k (subst (λ (p : Selected). is_row_in (keys_in p.rows) k ≡ true) is.1 here))) e)
          (told_then schema cells (λ now. is_row_in (key ∷ [])) (λ now. is_row_in (linked schema row rel)) related (λ now. Some row ≡ row_at now key)
          (λ now. AreListed (linked schema row rel) → page ≡ page_of query.sort query.page (rows_at now (linked schema row rel))) (IsChosen page) a b c
          (λ now valid there is. (there, is (linked_listed schema now valid key row rel (sym there))))
          (λ now k valid there e. key_within now k e)
          (λ now k valid there e. linked_within now k there e)
          found selected)
          second
        where
          rows_many : (now : World) (link : Link) → is_many_link link ≡ true → linked_rows schema now query row rel link ≡ (page_of query.sort query.page (rows_at now (linked schema row rel))).rows
          rows_many now (One x) m = cc m
          rows_many now (Many xs) m = refl

          primary_is : (now : World) → IsChosen page now → primary_rows schema now query (target.Related key rel) ≡ page.rows
          primary_is now is =
              ap (λ o. option_map_or (λ x. linked_rows schema now query x rel (link_at x rel)) o []) (sym is.0)
              ∙ rows_many now (link_at row rel) many ∙ sym (ap (λ (p : Selected). p.rows) is.1)

      pub one_told : (to : Option Row) → is_many_link (link_at row rel) ≡ false
          → TellsRead schema cells (λ now. is_row_in (linked schema row rel)) (λ now. to ≡ option_and_then (row_at now) (first_item (linked schema row rel))) b c
          → TellsRead schema cells (reach_beside schema (key_list to) query.include) (λ now. r ≡ ok_reply shown (one_data schema query to (gathered schema now (key_list to) query.include))) c d
          → TellsRead schema cells (reach_of schema query (target.Related key rel)) (λ now. r ≡ reply_of schema query (target.Related key rel) now) a d
      one_told to one looked second =
          told_then schema cells related (reach_beside schema (key_list to) query.include) (reach_of schema query (target.Related key rel)) (IsLinked to)
          (λ now. r ≡ ok_reply shown (one_data schema query to (gathered schema now (key_list to) query.include)))
          (λ now. r ≡ reply_of schema query (target.Related key rel) now) a c d
          (λ now valid is told. told ∙ ap (ok_reply shown) (linked_is schema now query row rel to one is.1) ∙ related_is now is.0)
          (λ now k valid is e. or_left _ _ e)
          (λ now k valid is e. beside_in now (target.Related key rel) (cons_option to []) k (primary_is now is)
          (λ here. linked_within now k is.0 (first_within schema now valid (linked schema row rel) k (subst (λ (o : Option Row). is_row_in (key_list o) k ≡ true) is.1 (subst (λ (ks : List Key). is_row_in ks k ≡ true) (sym (keys_are to)) here))))
          (subst (λ (ks : List Key). reach_beside schema ks query.include now k ≡ true) (keys_are to) e))
          (told_then schema cells (λ now. is_row_in (key ∷ [])) (λ now. is_row_in (linked schema row rel)) related (λ now. Some row ≡ row_at now key)
          (λ now. to ≡ option_and_then (row_at now) (first_item (linked schema row rel))) (IsLinked to) a b c
          (λ now valid there is. (there, is))
          (λ now k valid there e. key_within now k e)
          (λ now k valid there e. linked_within now k there e)
          found looked)
          second
        where
          keys_are : (o : Option Row) → key_list o ≡ keys_in (cons_option o [])
          keys_are None = refl
          keys_are (Some x) = refl

          primary_is : (now : World) → IsLinked to now → primary_rows schema now query (target.Related key rel) ≡ cons_option to []
          primary_is now is =
              ap (λ o. option_map_or (λ x. linked_rows schema now query x rel (link_at x rel)) o []) (sym is.0)
              ∙ rows_one schema now query row rel (link_at row rel) one refl ∙ ap (λ o. cons_option o []) (sym is.1)
