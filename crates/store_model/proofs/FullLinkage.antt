-- The rows of a document are fully linked.
use Rattle.std.proofs.Common.{◌≡◌, ◌≢◌, ℕ, ◌≤◌, List, [], ◌∷◌, ◌++◌, true, false, length, take, refl, sym, ap, subst, ◌∙◌, Some, None, Option, inl, inr, zero, suc, arith}
use Rattle.std.specs.Prelude.{IsTrue, IfSome, is_some, map, option_map, codes}
use Rattle.std.specs.Option.{option_map_or}
use Rattle.std.specs.Ordering.{is_lt}
use Rattle.std.specs.Cmp.{tied_itself}
use Rattle.std.specs.List.{cons_option}
use Rattle.std.proofs.lemmas.List.{length-map}
use Rattle.ident_rules.specs.declared.key.Key.{Key}
use Rattle.ident_rules.specs.Key.{key_cmp, key_cmp_total, same_key, key_is}
use Rattle.resource_schema.specs.declared.schema.Schema.{Schema}
use Rattle.resource_schema.specs.Kinds.{target_of}
use Rattle.resource_schema.specs.declared.targets.Target.{Target}
use Rattle.resource_schema.specs.declared.targets.Target.TheVariants as target
use Rattle.world_cells.specs.declared.rows.Row.{Row}
use Rattle.world_cells.specs.declared.rows.Link.{Link}
use Rattle.world_cells.specs.declared.rows.Link.TheVariants.{One, Many}
use Rattle.world_cells.specs.Lists.{IsIn}
use Rattle.world_cells.specs.World.{World, row_at, has_row, link_at, linked, links_to, ids_of}
use Rattle.task_forms.specs.declared.queries.Path.{Path}
use Rattle.task_forms.specs.declared.queries.Query.{Query}
use Rattle.task_forms.specs.declared.queries.SortKey.{SortKey}
use Rattle.task_forms.specs.declared.tasks.Fetch.{Fetch}
use Rattle.store_model.specs.Valid.{IsValid}
use Rattle.store_model.specs.Pages.{first_item, place_cmp, place_cmp_total, place_of, page_of, rows_of, rows_at}
use Rattle.store_model.specs.Included.{HasLink, IsReached, IsReachedFrom, included, has_key}
use Rattle.serde_json.specs.Data.{Data, null}
use Rattle.store_model.specs.Resource.{Fields, object_of, resource, collection_path, related_path}
use Rattle.store_model.specs.Document.{meta_member, resources, page_links, included_member, page_document, row_document, linked_document, related_document, relationship_name, target_document, document, linked_rows, primary_rows, included_rows}
use Rattle.store_model.specs.Laws.{Pairwise, AreApart, StandsBefore, HasLesserKey, IsChain, IsChained, IsFullyLinked, ShowsResources, ShowsRows, included_part}
use Rattle.store_model.proofs.Basics.{false_or_true, one_passes, in_left, in_right, in_append, in_map, from_map, all_in, in_all}
use Rattle.store_model.proofs.Paging.{page_exact}
use Rattle.store_model.proofs.Reaching.{included_exactly, itself}
use Rattle.store_model.proofs.WorldRows.{rows_of_exactly, rows_at_exactly, rows_of_apart, linked_apart, one_row}
use Rattle.store_model.proofs.ShownLinks.{shows_link}

-- ---- pairs

pairwise_weaker : {A : Type 0} (P Q : A → A → Type 0) (xs : List A) → ((x y : A) → IsIn xs x → IsIn xs y → P x y → Q x y) → Pairwise P xs → Pairwise Q xs
pairwise_weaker P Q [] f h = tt
pairwise_weaker P Q (x ∷ xs) f h = (all_in (Q x) xs (λ y among. f x y (inl refl) (inr among) (in_all (P x) xs y h.0 among)), pairwise_weaker P Q xs (λ a b p q. f a b (inr p) (inr q)) h.1)

pairwise_append : {A : Type 0} (P : A → A → Type 0) (xs ys : List A) → Pairwise P xs → Pairwise P ys → ((x y : A) → IsIn xs x → IsIn ys y → P x y) → Pairwise P (xs ++ ys)
pairwise_append P [] ys h g cross = g
pairwise_append P (x ∷ xs) ys h g cross = (
  all_in (P x) (xs ++ ys) (λ y among. elim (in_append xs ys y among) [ inl left ↦ in_all (P x) xs y h.0 left | inr right ↦ cross x y (inl refl) right ]),
  pairwise_append P xs ys h.1 g (λ a b p q. cross a b (inr p) q),
)

-- one item, or none
pairwise_short : {A : Type 0} (P : A → A → Type 0) (xs : List A) → length xs ≤ 1 → Pairwise P xs
pairwise_short P [] h = tt
pairwise_short P (x ∷ []) h = (tt, tt)
pairwise_short P (x ∷ y ∷ xs) h = absurd (omega arith)

less_differs : (a b : Row) → HasLesserKey a b → a.key ≢ b.key
less_differs a b less e =
    let tied : is_lt (key_cmp a.key a.key) ≡ false = ap is_lt (tied_itself key_cmp_total a.key) in
    let same : is_lt (key_cmp a.key a.key) ≡ true = subst (λ (k : Key). is_lt (key_cmp a.key k) ≡ true) (sym e) less in
    cc (sym tied ∙ same)

before_differs : (sort : List SortKey) (a b : Row) → StandsBefore sort a b → a ≢ b
before_differs sort a b less e =
    let tied : is_lt (place_cmp sort (place_of sort a) (place_of sort a)) ≡ false = ap is_lt (tied_itself (place_cmp_total sort) (place_of sort a)) in
    let same : is_lt (place_cmp sort (place_of sort a) (place_of sort a)) ≡ true = subst (λ (r : Row). StandsBefore sort a r) (sym e) less in
    cc (sym tied ∙ same)

-- at most as many rows as keys
rows_at_short : (w : World) (keys : List Key) (n : ℕ) → length keys ≤ n → length (rows_at w keys) ≤ n
rows_at_short w [] n h = omega arith
rows_at_short w (k ∷ keys) zero h = absurd (omega arith)
rows_at_short w (k ∷ keys) (suc n) h =
    let rest = rows_at_short w keys n (omega arith) in
    elim (row_at w k) as (λ o. length (cons_option o (rows_at w keys)) ≤ suc n) [ None ↦ omega arith | Some row ↦ omega arith ]

one_id : (x : Option (List ℕ)) → length (ids_of (One x)) ≤ 1
one_id None = omega arith
one_id (Some x) = omega arith

-- a to-one link leads to at most one row
one_row_at_most : (schema : Schema) (w : World) (row : Row) (rel : ℕ) (x : Option (List ℕ)) → link_at row rel ≡ One x → length (rows_at w (linked schema row rel)) ≤ 1
one_row_at_most schema w row rel x is = rows_at_short w (linked schema row rel) 1 (
    subst (λ n. n ≤ 1) (sym (length-map (ids_of (link_at row rel)) (λ x. record { kind = target_of schema row.key.kind rel; id = x }))) (subst (λ (l : Link). length (ids_of l) ≤ 1) (sym is) (one_id x)))

module _ (schema : Schema) (w : World) (valid : IsValid schema w) where
  -- ---- primary rows

  -- rows of the world, each once
  abbrev AreFine : List Row → Type 0
  AreFine rows = Pairwise (λ a b. a.key ≢ b.key) rows × ((row : Row) → IsIn rows row → row_at w row.key ≡ Some row)

  page_fine : (query : Query) (rows : List Row) → AreApart rows → ((row : Row) → IsIn rows row → row_at w row.key ≡ Some row) → AreFine ((page_of query.sort query.page rows).rows)
  page_fine query rows apart of_world =
      let page = page_exact query.sort rows apart query.page in (
        pairwise_weaker (StandsBefore query.sort) (λ a b. a.key ≢ b.key) ((page_of query.sort query.page rows).rows) (λ a b p q less e.
            before_differs query.sort a b less (one_row schema w valid a b (of_world a (page.asked a p).0) (of_world b (page.asked b q).0) e)) page.in_order,
        λ row among. of_world row (page.asked row among).0,
      )

  rows_at_world : (keys : List Key) (row : Row) → IsIn (rows_at w keys) row → row_at w row.key ≡ Some row
  rows_at_world keys row among = ((rows_at_exactly schema w valid keys row).0 among).0

  link_fine : (query : Query) (row : Row) (rel : ℕ) (link : Link) → link_at row rel ≡ link → AreFine (linked_rows schema w query row rel link)
  link_fine query row rel (One x) is = (
    pairwise_short (λ a b. a.key ≢ b.key) (rows_at w (linked schema row rel)) (one_row_at_most schema w row rel x is),
    rows_at_world (linked schema row rel),
  )
  link_fine query row rel (Many xs) is = page_fine query (rows_at w (linked schema row rel)) (linked_apart schema w valid row rel) (rows_at_world (linked schema row rel))

  none_fine : AreFine []
  none_fine = (tt, λ row among. elim among [ ])

  primaries_fine : (query : Query) (t : Target) → AreFine (primary_rows schema w query t)
  primaries_fine query (target.Collection kind) = page_fine query (rows_of w kind) (rows_of_apart schema w valid kind) (λ row among. ((rows_of_exactly schema w valid kind row).0 among).0)
  primaries_fine query (target.Resource key) =
      elim (row_at w key) as (λ o. row_at w key ≡ o → AreFine (option_map_or (λ row. row ∷ []) o [])) [
        | None ↦ λ e. none_fine
        | Some row ↦ λ e. (
          (tt, tt),
          λ r among. elim among [
            | inl is ↦ subst (λ (r : Row). row_at w r.key ≡ Some r) is (ap (row_at w) ((valid.rows key row e).own_key) ∙ e)
            | inr never ↦ elim never [ ]
          ],
        )
      ] refl
  primaries_fine query (target.Related key rel) =
      elim (row_at w key) as (λ o. AreFine (option_map_or (λ row. linked_rows schema w query row rel (link_at row rel)) o [])) [
        | None ↦ none_fine
        | Some row ↦ link_fine query row rel (link_at row rel) refl
      ]
  primaries_fine query (target.Linkage key rel) = none_fine
  primaries_fine query target.Operations = none_fine

  -- ---- chains

  -- a row that a link of a row leads to
  linked_row : (row : Row) (rel : ℕ) (to : Key) → row_at w row.key ≡ Some row → HasLink schema w row.key rel to → IsTrue (links_to schema row rel to) × ((next : Row) × (row_at w to ≡ Some next))
  linked_row row rel to is link =
      let leads : IsTrue (links_to schema row rel to) = subst (λ o. IsTrue (option_map_or (λ r. links_to schema r rel to) o false)) is link in
      let there : IsTrue (has_row w to) = (valid.rows row.key row is).leads_to_rows rel to leads in
      (leads, elim (row_at w to) as (λ o. IsTrue (is_some o) → (next : Row) × (o ≡ Some next)) [ None ↦ λ h. cc h | Some next ↦ λ h. (next, refl) ] there)

  -- from a row, along the first steps of a path, over rows each of which is shown
  chain_from : (fields : Fields) (shown : List Row) (path : List ℕ) (steps : ℕ) (from to : Row) → row_at w from.key ≡ Some from → row_at w to.key ≡ Some to
      → ((n : ℕ) (k : Key) (row : Row) → 1 ≤ n → n ≤ length path → IsReached schema w from.key (take n path) k → row_at w k ≡ Some row → IsIn shown row)
      → steps ≤ length path → IsReached schema w from.key (take steps path) to.key → (chain : List Row) × IsChain schema fields shown from chain to
  chain_from fields shown path zero from to here there each within reached = ([], one_row schema w valid from to here there reached)
  chain_from fields shown [] (suc n) from to here there each within reached = absurd (omega arith)
  chain_from fields shown (rel ∷ path) (suc n) from to here there each within reached =
      let one = linked_row from rel reached.0 here reached.1 in
      let next = one.1.0 in
      let own : one.1.0.key ≡ reached.0 = (valid.rows reached.0 one.1.0 one.1.1).own_key in
      let at : row_at w one.1.0.key ≡ Some one.1.0 = ap (row_at w) own ∙ one.1.1 in
      let rest = chain_from fields shown path n one.1.0 to at there
      (λ m k row some short more is. each (suc m) k row (omega arith) (omega arith) (reached.0, reached.1, subst (λ (q : Key). IsReached schema w q (take m path) k) own more) is)
      (omega arith) (subst (λ (q : Key). IsReached schema w q (take n path) to.key) (sym own) reached.2) in
      let leads : IsTrue (links_to schema from rel one.1.0.key) = subst (λ (q : Key). IsTrue (links_to schema from rel q)) (sym own) one.0 in
      let is_shown : IsIn shown one.1.0 = each 1 reached.0 one.1.0 (omega arith) (omega arith) (reached.0, reached.1, refl) one.1.1 in
      (one.1.0 ∷ rest.0, (shows_link schema w fields from.key from rel one.1.0.key (valid.rows from.key from here) leads, is_shown, rest.1))

  module _ (fields : Fields) (primaries : List Row) (fine : AreFine primaries) where
    abbrev keys : List Key
    keys = map (λ (row : Row). row.key) primaries

    -- a primary stands at each of their keys
    primary_at : (k : Key) → IsIn keys k → (row : Row) × IsIn primaries row × (row.key ≡ k)
    primary_at k among = from_map (λ (row : Row). row.key) primaries k among

    module _ (paths : List Path) where
      abbrev more : List Row
      more = included schema w keys paths

      reached_is_shown : (k : Key) (row : Row) → IsReachedFrom schema w keys paths k → row_at w k ≡ Some row → IsIn (primaries ++ more) row
      reached_is_shown k row reached is =
          let own : row.key ≡ k = (valid.rows k row is).own_key in
          let at : row_at w row.key ≡ Some row = ap (row_at w) own ∙ is in
          elim (false_or_true (has_key keys row.key)) [
            | inl primary ↦
                let one = one_passes (same_key row.key) keys primary in
                let here = primary_at one.0 one.1 in
                let same : here.0 ≡ row = one_row schema w valid here.0 row (fine.1 here.0 here.1) at (here.2 ∙ sym (key_is row.key one.0 one.2)) in
                in_left primaries more row (subst (λ (r : Row). IsIn primaries r) same here.1)
            | inr none ↦ in_right primaries more row (((included_exactly schema w keys paths valid).exactly row).1 (record {
              of_world = at;
              reached = subst (λ (q : Key). IsReachedFrom schema w keys paths q) (sym own) reached;
              no_primary = λ primary. cc (sym (itself schema w row.key keys primary) ∙ none);
            }))
          ]

      chained_is : (row : Row) → IsIn more row → IsChained schema fields primaries (primaries ++ more) row
      chained_is row among =
          let is = ((included_exactly schema w keys paths valid).exactly row).0 among in
          let along = is.reached.along in
          let first = primary_at is.reached.along.from is.reached.along.among in
          let chain = chain_from fields (primaries ++ more) is.reached.path.rels is.reached.along.steps first.0 row (fine.1 first.0 first.1) is.of_world
          (λ n k r some within reached there. reached_is_shown k r (record {
            path = is.reached.path;
            asked = is.reached.asked;
            along = record { from = is.reached.along.from; among = is.reached.along.among; steps = n; some_step = some; within = within; reached = subst (λ (q : Key). IsReached schema w q (take n is.reached.path.rels) k) first.2 reached };
          }) there)
          is.reached.along.within (subst (λ (q : Key). IsReached schema w q (take is.reached.along.steps is.reached.path.rels) row.key) (sym first.2) is.reached.along.reached) in
          record { from = first.0; primary = first.1; chain = chain.0; linked = chain.1 }

      with_included : IsFullyLinked schema w fields primaries more
      with_included =
          let all = included_exactly schema w keys paths valid in
          record {
            once = pairwise_append (λ a b. a.key ≢ b.key) primaries more fine.0 (pairwise_weaker HasLesserKey (λ a b. a.key ≢ b.key) more (λ a b p q less. less_differs a b less) all.rising) (λ a b p q e.
                ((all.exactly b).0 q).no_primary (subst (λ (k : Key). IsIn keys k) e (in_map (λ (row : Row). row.key) primaries a p)));
            of_world = all_in (λ row. row_at w row.key ≡ Some row) (primaries ++ more) (λ row among. elim (in_append primaries more row among) [ inl left ↦ fine.1 row left | inr right ↦ ((all.exactly row).0 right).of_world ]);
            chained = chained_is;
          }

    without_included : IsFullyLinked schema w fields primaries []
    without_included = record {
      once = pairwise_append (λ a b. a.key ≢ b.key) primaries [] fine.0 tt (λ a b p q. elim q [ ]);
      of_world = all_in (λ row. row_at w row.key ≡ Some row) (primaries ++ []) (λ row among. elim (in_append primaries [] row among) [ inl left ↦ fine.1 row left | inr right ↦ elim right [ ] ]);
      chained = λ row among. elim among [ ];
    }

  pub fully_linked : (fetch : Fetch) → IsFullyLinked schema w fetch.query.fields (primary_rows schema w fetch.query fetch.target) (included_rows schema w fetch)
  fully_linked fetch = by (fetch.query.include)
    where
      by : (o : Option (List Path)) → IsFullyLinked schema w fetch.query.fields (primary_rows schema w fetch.query fetch.target) (option_map_or (included schema w (map (λ row. row.key) (primary_rows schema w fetch.query fetch.target))) o [])
      by None = without_included fetch.query.fields (primary_rows schema w fetch.query fetch.target) (primaries_fine fetch.query fetch.target)
      by (Some paths) = with_included fetch.query.fields (primary_rows schema w fetch.query fetch.target) (primaries_fine fetch.query fetch.target) paths

-- ---- what a document shows

same_included : (schema : Schema) (w : World) (query : Query) (primaries : List Row) (o : Option (List Path)) (links : List (List ℕ × Data))
    → included_member schema w query primaries o ++ links ≡ included_part schema query (option_map_or (included schema w (map (λ row. row.key) primaries)) o []) o ++ links
same_included schema w query primaries None links = refl
same_included schema w query primaries (Some paths) links = refl

no_links : (schema : Schema) (w : World) (query : Query) (primaries : List Row) (o : Option (List Path))
    → included_member schema w query primaries o ≡ included_part schema query (option_map_or (included schema w (map (λ row. row.key) primaries)) o []) o ++ []
no_links schema w query primaries None = refl
no_links schema w query primaries (Some paths) = refl

module _ (schema : Schema) (w : World) (query : Query) where
  -- the included rows beside some primaries
  abbrev beside : List Row → List Row
  beside primaries = option_map_or (included schema w (map (λ row. row.key) primaries)) query.include []

  page_shows : (path : List ℕ) (rows : List Row) → ShowsRows schema query ((page_of query.sort query.page rows).rows) (beside ((page_of query.sort query.page rows).rows)) (page_document schema w query path rows)
  page_shows path rows =
      let page = page_of query.sort query.page rows in
      record {
        primary = resources schema query ((page_of query.sort query.page rows).rows);
        links = Some (page_links path query (page_of query.sort query.page rows));
        truncated = (page_of query.sort query.page rows).truncated;
        is = ap (λ ms. object_of ((codes "data", resources schema query ((page_of query.sort query.page rows).rows)) ∷ ms)) (same_included schema w query page.rows query.include ((codes "links", page_links path query page) ∷ meta_member page.truncated));
        shows = inl refl;
      }

  row_shows : (rows : List Row) → length rows ≤ 1 → ShowsRows schema query rows (beside rows) (row_document schema w query (first_item rows))
  row_shows [] h = record { primary = null; links = None; truncated = false; is = ap (λ ms. object_of ((codes "data", null) ∷ ms)) (no_links schema w query [] query.include); shows = inr refl }
  row_shows (row ∷ []) h = record {
    primary = resource schema row query.fields;
    links = None;
    truncated = false;
    is = ap (λ ms. object_of ((codes "data", resource schema row query.fields) ∷ ms)) (no_links schema w query (row ∷ []) query.include);
    shows = inr refl;
  }
  row_shows (row ∷ other ∷ rows) h = absurd (omega arith)

  link_shows : (row : Row) (rel : ℕ) (link : Link) → link_at row rel ≡ link → ShowsRows schema query (linked_rows schema w query row rel link) (beside (linked_rows schema w query row rel link)) (linked_document schema w query row rel link)
  link_shows row rel (One x) is = row_shows (rows_at w (linked schema row rel)) (one_row_at_most schema w row rel x is)
  link_shows row rel (Many xs) is = page_shows (related_path schema row.key (relationship_name schema row.key.kind rel)) (rows_at w (linked schema row rel))

  target_shows : (t : Target) → ShowsResources t → IfSome (target_document schema w query t) (ShowsRows schema query (primary_rows schema w query t) (beside (primary_rows schema w query t)))
  target_shows (target.Collection kind) h = page_shows (collection_path schema kind) (rows_of w kind)
  target_shows (target.Resource key) h =
      elim (row_at w key) as (λ o. IfSome (option_map (λ row. row_document schema w query (Some row)) o) (ShowsRows schema query (option_map_or (λ row. row ∷ []) o []) (beside (option_map_or (λ row. row ∷ []) o [])))) [
        | None ↦ tt
        | Some row ↦ row_shows (row ∷ []) (omega arith)
      ]
  target_shows (target.Related key rel) h =
      elim (row_at w key) as (λ o. IfSome (option_map (related_document schema w query rel) o) (ShowsRows schema query (option_map_or (λ row. linked_rows schema w query row rel (link_at row rel)) o []) (beside (option_map_or (λ row. linked_rows schema w query row rel (link_at row rel)) o [])))) [
        | None ↦ tt
        | Some row ↦ link_shows row rel (link_at row rel) refl
      ]
  target_shows (target.Linkage key rel) h = absurd h
  target_shows target.Operations h = tt

-- each document with resources shows its primary rows and its included rows
pub document_shows : (schema : Schema) (w : World) (fetch : Fetch) → ShowsResources fetch.target → IfSome (document schema w fetch) (ShowsRows schema fetch.query (primary_rows schema w fetch.query fetch.target) (included_rows schema w fetch))
document_shows schema w fetch h = target_shows schema w fetch.query fetch.target h
