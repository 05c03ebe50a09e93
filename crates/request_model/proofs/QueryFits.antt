-- Queries that were read fit their target.
use Rattle.std.specs.Prelude.{ℕ, ◌<◌, ◌^◌, ◌&&◌, ◌++◌, Bool, true, false, nat_le, nat_lt, if◌then◌else◌, IsTrue, List, [], ◌∷◌, codes, length, map, drop, is_some, Option, Some, None, Ok, IfSome, MatchOption, slice_get, ⊤}
use Rattle.std.specs.Option.{option_map_or}
use Rattle.std.specs.List.{AllByRecursion, list_all}
use Rattle.std.specs.Char.{is_ascii_digit}
use Rattle.std.specs.Str.{bytes_eq}
use Rattle.std.specs.Str.Parse.{digits_value}
use Rattle.std.proofs.Common.{◌≡◌, refl, arith, subst}
use Rattle.std.proofs.lemmas.Bool.Decides.{nat_tests}
use Rattle.std.proofs.lemmas.Bool.{and_parts}
use Rattle.resource_schema.specs.declared.schema.Schema.{Schema}
use Rattle.resource_schema.specs.declared.kinds.Relationship.{Relationship}
use Rattle.resource_schema.specs.declared.values.Form.{Form}
use Rattle.resource_schema.specs.declared.values.Place.{Place}
use Rattle.resource_schema.specs.declared.targets.Target.{Target}
use Rattle.resource_schema.specs.declared.targets.Target.TheVariants as target
use Rattle.resource_schema.specs.Kinds.{number_of_kind, attributes_of, attribute_of, relationships_of, relationship_of, target_of, is_field}
use Rattle.task_forms.specs.declared.queries.Path.{Path}
use Rattle.task_forms.specs.declared.queries.SortKey.{SortKey}
use Rattle.task_forms.specs.declared.queries.Query.{Query}
use Rattle.task_forms.specs.declared.queries.TheConstants.{PAGE_SIZE_LIMIT, PATH_LENGTH_LIMIT, PATH_LIMIT, SORT_LIMIT}
use Rattle.task_forms.specs.Fit.{FollowsFrom, FitsCursor, FitsQuery, IsBare, FitsFetch}
use Rattle.error_objects.specs.declared.codes.Code.TheVariants as code
use Rattle.error_objects.specs.Refusals.{at_parameter}
use Rattle.request_model.specs.declared.forms.Asked.{Asked}
use Rattle.request_model.specs.declared.forms.Parameter.{Parameter}
use Rattle.request_model.specs.declared.forms.Parameter.TheVariants as parameter
use Rattle.request_model.specs.Words.{some_if, all_some, begins, parts_at, comma, dot}
use Rattle.request_model.specs.Targets.{IsKnownTarget}
use Rattle.request_model.specs.Results.{err_if}
use Rattle.request_model.specs.Cursors.{place_of_cursor}
use Rattle.task_forms.specs.Queries.{first_page, no_query}
use Rattle.request_model.specs.Queries.{size_digits, pairs_of, parameter_of, has_resources, is_page, primary_kind, knows, known_parameter, in_brackets, field_set_named, listed, rels_from, include_path, paths_of, field_set_of, sort_key_of, sort_keys_of, are_distinct, page_size_of, with_query, or_bad, with_parameter, has_name, with_pair, with_pairs, sort_forms, place_at, query_of}
use Rattle.request_model.specs.ReadingLaws.{bind-Ok, then-Ok, map-Ok, err_if-Ok, ok_or-Ok, bind-Some, map-Some, some_if-Some, some_or_none, all_some-zip}
use Rattle.request_model.proofs.Zips.{zip-right, all-always, position-found}
use Rattle.request_model.proofs.CursorFits.{within-found, cursor-fits}

-- ---- values

-- the type that a relationship leads to
leads_to : (P : ℕ → Type 0) (o : Option Relationship) (r : Relationship) → o ≡ Some r → P (option_map_or (λ r. r.target) o 0) → MatchOption o ⊥ (λ r. P r.target)
leads_to P None r e p = cc e
leads_to P (Some s) r e p = p

rels_from-follow : (schema : Schema) (kind : ℕ) (names : List (List ℕ)) (rels : List ℕ) → rels_from schema kind names ≡ Some rels → FollowsFrom schema kind rels
rels_from-follow schema kind [] rels e = let same : rels ≡ [] = cc e in rw same tt
rels_from-follow schema kind (name ∷ names) rels e =
    let a = bind-Some (relationship_of schema kind name) _ rels e in
    let b = map-Some (λ rels. a.0 ∷ rels) (rels_from schema (target_of schema kind a.0) names) rels a.2 in
    let rest = rels_from-follow schema (target_of schema kind a.0) names b.0 b.1 in
    let found = position-found (λ r. bytes_eq r.name name) (relationships_of schema kind) a.0 a.1 in
    subst (FollowsFrom schema kind) b.2 (leads_to (λ k. FollowsFrom schema k b.0) (slice_get (relationships_of schema kind) a.0) found.0 found.1 rest)

path_of-follows : (schema : Schema) (kind : ℕ) (text : List ℕ) (p : Path) → include_path schema kind text ≡ Some p → FollowsFrom schema kind p.rels
path_of-follows schema kind text p e =
    let a = map-Some (λ rels. record { rels = rels }) (if nat_le (length (parts_at dot text)) PATH_LENGTH_LIMIT then rels_from schema kind (parts_at dot text) else None) p e in
    let b = some_or_none (nat_le (length (parts_at dot text)) PATH_LENGTH_LIMIT) (rels_from schema kind (parts_at dot text)) a.0 a.1 in
    subst (λ p. FollowsFrom schema kind p.rels) a.2 (rels_from-follow schema kind (parts_at dot text) a.0 b.1)

paths_of-follow : (schema : Schema) (kind : ℕ) (value : List ℕ) (paths : List Path) → paths_of schema kind value ≡ Some paths → AllByRecursion (λ p. FollowsFrom schema kind p.rels) paths
paths_of-follow schema kind value paths e =
    let a = some_or_none (nat_le (length (listed value)) PATH_LIMIT) (all_some (map (include_path schema kind) (listed value))) paths e in
    zip-right (λ t. ⊤) _ (λ p. FollowsFrom schema kind p.rels) (listed value) paths (λ text p t q. path_of-follows schema kind text p q) (all-always (λ t. ⊤) (listed value) (λ t. tt)) (all_some-zip (include_path schema kind) (listed value) paths a.1)

field_set-known : (schema : Schema) (name value : List ℕ) (fs : ℕ × List (List ℕ)) → field_set_of schema name value ≡ Some fs → fs.0 < length schema
field_set-known schema name value fs e =
    let a = bind-Some (number_of_kind schema name) _ fs e in
    let b = some_if-Some (list_all (is_field schema a.0) (listed value)) (a.0, listed value) fs a.2 in
    subst (λ f. f.0 < length schema) b.1 (position-found (λ k. bytes_eq k.name name) schema a.0 a.1).3

sort_key-known : (schema : Schema) (kind : ℕ) (text : List ℕ) (s : SortKey) → sort_key_of schema kind text ≡ Some s → s.attribute < length (attributes_of schema kind)
sort_key-known schema kind text s e =
    let name = if begins (codes "-") text then drop 1 text else text in
    let a = map-Some (λ n. record { attribute = n; descending = begins (codes "-") text }) (attribute_of schema kind (if begins (codes "-") text then drop 1 text else text)) s e in
    subst (λ s. s.attribute < length (attributes_of schema kind)) a.2 (position-found (λ a. bytes_eq a.name name) (attributes_of schema kind) a.0 a.1).3

sort_keys-known : (schema : Schema) (kind : ℕ) (value : List ℕ) (keys : List SortKey) → sort_keys_of schema kind value ≡ Some keys → AllByRecursion (λ s. s.attribute < length (attributes_of schema kind)) keys
sort_keys-known schema kind value keys e =
    let a = bind-Some (all_some (map (sort_key_of schema kind) (parts_at comma value))) _ keys e in
    let b = some_if-Some (nat_le (length a.0) SORT_LIMIT && are_distinct (map (λ k. k.attribute) a.0)) a.0 keys a.2 in
    subst (AllByRecursion (λ s. s.attribute < length (attributes_of schema kind))) b.1
    (zip-right (λ t. ⊤) _ (λ s. s.attribute < length (attributes_of schema kind)) (parts_at comma value) a.0 (λ text s t q. sort_key-known schema kind text s q) (all-always (λ t. ⊤) (parts_at comma value) (λ t. tt)) (all_some-zip (sort_key_of schema kind) (parts_at comma value) a.0 a.1))

small : (n : ℕ) → nat_le n PAGE_SIZE_LIMIT ≡ true → n < 2 ^ 16
small n e = grind (arith, nat_tests, e)

page_size-small : (value : List ℕ) (n : ℕ) → page_size_of value ≡ Some n → n < 2 ^ 16
page_size-small value n e =
    let m = digits_value 10 value in
    let a = some_if-Some (nat_lt 0 (length value) && nat_le (length value) size_digits && list_all is_ascii_digit value && nat_le 1 (digits_value 10 value) && nat_le (digits_value 10 value) PAGE_SIZE_LIMIT) (digits_value 10 value) n e in
    let last = and_parts (nat_lt 0 (length value) && nat_le (length value) size_digits && list_all is_ascii_digit value && nat_le 1 (digits_value 10 value)) (nat_le (digits_value 10 value) PAGE_SIZE_LIMIT) a.0 in
    subst (λ n. n < 2 ^ 16) a.1 (small (digits_value 10 value) last.1)

-- ---- from left to right

-- what is asked so far fits the target
record AskedFits (schema : Schema) (t : Target) (asked : Asked) : Type 0 where
  sort : AllByRecursion (λ s. s.attribute < length (attributes_of schema (primary_kind schema t))) asked.query.sort
  size : asked.query.page.size < 2 ^ 16
  paths : IfSome asked.query.include (AllByRecursion (λ p. FollowsFrom schema (primary_kind schema t) p.rels))
  fields : AllByRecursion (λ f. f.0 < length schema) asked.query.fields
  no_resources : has_resources t ≡ false → asked.query.include ≡ None
  no_sort : is_page schema t ≡ false → asked.query.sort ≡ []
  no_after : is_page schema t ≡ false → asked.after ≡ None
  no_before : is_page schema t ≡ false → asked.before ≡ None

all-push : {X : Type 0} (P : X → Type 0) (xs : List X) (x : X) → AllByRecursion P xs → P x → AllByRecursion P (xs ++ x ∷ [])
all-push P [] x a p = (p, tt)
all-push P (y ∷ ys) x a p = (a.0, all-push P ys x a.1 p)

module _ (schema : Schema) (t : Target) where
  with_parameter-fits : (asked more : Asked) (name value : List ℕ) (p : Parameter) → AskedFits schema t asked → knows schema t p ≡ true → with_parameter schema (primary_kind schema t) asked name value p ≡ Ok more → AskedFits schema t more
  with_parameter-fits asked more name value parameter.Include fits known e =
      let a = map-Ok (λ paths. with_query asked (record asked.query { include = Some paths })) (or_bad code.BadInclude name (paths_of schema (primary_kind schema t) value)) more e in
      let paths = paths_of-follow schema (primary_kind schema t) value a.0 (ok_or-Ok (paths_of schema (primary_kind schema t) value) (at_parameter code.BadInclude name) a.0 a.1) in
      subst (AskedFits schema t) a.2 (record { sort = fits.sort; size = fits.size; paths = paths; fields = fits.fields; no_resources = λ h. cc (known, h); no_sort = fits.no_sort; no_after = fits.no_after; no_before = fits.no_before })
  with_parameter-fits asked more name value parameter.Fields fits known e =
      let a = map-Ok (λ fs. with_query asked (record asked.query { fields = asked.query.fields ++ fs ∷ [] })) (or_bad code.BadFields name (field_set_named schema name value)) more e in
      let named = bind-Some (in_brackets (codes "fields") name) (λ type. field_set_of schema type value) a.0 (ok_or-Ok (field_set_named schema name value) (at_parameter code.BadFields name) a.0 a.1) in
      let one = field_set-known schema named.0 value a.0 named.2 in
      subst (AskedFits schema t) a.2 (record { sort = fits.sort; size = fits.size; paths = fits.paths; fields = all-push (λ f. f.0 < length schema) asked.query.fields a.0 fits.fields one; no_resources = fits.no_resources; no_sort = fits.no_sort; no_after = fits.no_after; no_before = fits.no_before })
  with_parameter-fits asked more name value parameter.Sort fits known e =
      let a = map-Ok (λ keys. with_query asked (record asked.query { sort = keys })) (or_bad code.BadSort name (sort_keys_of schema (primary_kind schema t) value)) more e in
      let keys = sort_keys-known schema (primary_kind schema t) value a.0 (ok_or-Ok (sort_keys_of schema (primary_kind schema t) value) (at_parameter code.BadSort name) a.0 a.1) in
      subst (AskedFits schema t) a.2 (record { sort = keys; size = fits.size; paths = fits.paths; fields = fits.fields; no_resources = fits.no_resources; no_sort = λ h. cc (known, h); no_after = fits.no_after; no_before = fits.no_before })
  with_parameter-fits asked more name value parameter.PageSize fits known e =
      let a = map-Ok (λ n. with_query asked (record asked.query { page = record first_page { size = n } })) (or_bad code.BadPageSize name (page_size_of value)) more e in
      let size = page_size-small value a.0 (ok_or-Ok (page_size_of value) (at_parameter code.BadPageSize name) a.0 a.1) in
      subst (AskedFits schema t) a.2 (record { sort = fits.sort; size = size; paths = fits.paths; fields = fits.fields; no_resources = fits.no_resources; no_sort = fits.no_sort; no_after = fits.no_after; no_before = fits.no_before })
  with_parameter-fits asked more name value parameter.PageAfter fits known e =
      let same : record asked { after = Some value } ≡ more = cc e in
      subst (AskedFits schema t) same (record { sort = fits.sort; size = fits.size; paths = fits.paths; fields = fits.fields; no_resources = fits.no_resources; no_sort = fits.no_sort; no_after = λ h. cc (known, h); no_before = fits.no_before })
  with_parameter-fits asked more name value parameter.PageBefore fits known e =
      let same : record asked { before = Some value } ≡ more = cc e in
      subst (AskedFits schema t) same (record { sort = fits.sort; size = fits.size; paths = fits.paths; fields = fits.fields; no_resources = fits.no_resources; no_sort = fits.no_sort; no_after = fits.no_after; no_before = λ h. cc (known, h) })

  with_pair-fits : (asked more : Asked) (pair : List ℕ × List ℕ) → AskedFits schema t asked → with_pair schema t asked pair ≡ Ok more → AskedFits schema t more
  with_pair-fits asked more pair fits e =
      let a = bind-Ok (or_bad code.UnknownParameter pair.0 (known_parameter schema t pair.0)) _ more e in
      let b = then-Ok (err_if (has_name pair.0 asked.query.pairs) (at_parameter code.RepeatedParameter pair.0)) _ more a.2 in
      let c = bind-Ok (with_parameter schema (primary_kind schema t) asked pair.0 pair.1 a.0) _ more b.2 in
      let f = bind-Some (parameter_of pair.0) (λ p. some_if (knows schema t p) p) a.0 (ok_or-Ok (known_parameter schema t pair.0) (at_parameter code.UnknownParameter pair.0) a.0 a.1) in
      let g = some_if-Some (knows schema t f.0) f.0 a.0 f.2 in
      let known : knows schema t a.0 ≡ true = subst (λ p. knows schema t p ≡ true) g.1 g.0 in
      let h = with_parameter-fits asked c.0 pair.0 pair.1 a.0 fits known c.1 in
      let same : with_query c.0 (record c.0.query { pairs = asked.query.pairs ++ pair ∷ [] }) ≡ more = cc c.2 in
      subst (AskedFits schema t) same (record { sort = h.sort; size = h.size; paths = h.paths; fields = h.fields; no_resources = h.no_resources; no_sort = h.no_sort; no_after = h.no_after; no_before = h.no_before })

  with_pairs-fit : (pairs : List (List ℕ × List ℕ)) (asked more : Asked) → AskedFits schema t asked → with_pairs schema t asked pairs ≡ Ok more → AskedFits schema t more
  with_pairs-fit [] asked more fits e = let same : asked ≡ more = cc e in subst (AskedFits schema t) same fits
  with_pairs-fit (pair ∷ pairs) asked more fits e =
      let a = bind-Ok (with_pair schema t asked pair) _ more e in
      with_pairs-fit pairs a.0 more (with_pair-fits asked a.0 pair fits a.1) a.2

-- ---- cursors

no_place : (forms : List (Form × Bool)) (name : List ℕ) (o : Option (List ℕ)) (p : Option Place) → place_at forms name o ≡ Ok p → o ≡ None → p ≡ None
no_place forms name None p e n = cc e
no_place forms name (Some text) p e n = cc n

place_at-fits : (schema : Schema) (kind : ℕ) (keys : List SortKey) (name : List ℕ) (o : Option (List ℕ)) (p : Option Place) → AllByRecursion (λ s. s.attribute < length (attributes_of schema kind)) keys
    → place_at (sort_forms schema kind keys) name o ≡ Ok p → IfSome p (FitsCursor schema kind keys)
place_at-fits schema kind keys name None p known e = let same : None ≡ p = cc e in subst (λ p. IfSome p (FitsCursor schema kind keys)) same tt
place_at-fits schema kind keys name (Some text) p known e =
    let a = map-Ok Some (or_bad code.BadCursor name (place_of_cursor (sort_forms schema kind keys) text)) p e in
    subst (λ p. IfSome p (FitsCursor schema kind keys)) a.2 (cursor-fits schema kind keys text a.0 known (ok_or-Ok (place_of_cursor (sort_forms schema kind keys) text) (at_parameter code.BadCursor name) a.0 a.1))

-- ---- the query

-- a target's query: it fits the type of the primary data, and asks for nothing that the target does not know
pub record QueryFits (schema : Schema) (t : Target) (query : Query) : Type 0 where
  pub fits : FitsQuery schema (primary_kind schema t) query
  pub bare : has_resources t ≡ false → is_page schema t ≡ false → IsBare query

pub query_of-fits : (schema : Schema) (t : Target) (text : List ℕ) (query : Query) → query_of schema t text ≡ Ok query → QueryFits schema t query
query_of-fits schema t text query e =
    let a = bind-Ok (with_pairs schema t (record { query = no_query; after = None; before = None }) (pairs_of text)) _ query e in
    let forms = sort_forms schema (primary_kind schema t) a.0.query.sort in
    let c = bind-Ok (place_at (sort_forms schema (primary_kind schema t) a.0.query.sort) (codes "page[after]") a.0.after) _ query a.2 in
    let f = bind-Ok (place_at (sort_forms schema (primary_kind schema t) a.0.query.sort) (codes "page[before]") a.0.before) _ query c.2 in
    let same : record a.0.query { page = record a.0.query.page { after = c.0; before = f.0 } } ≡ query = cc f.2 in
    let start : AskedFits schema t (record { query = no_query; after = None; before = None }) = record { sort = tt; size = omega arith; paths = tt; fields = tt; no_resources = λ h. refl; no_sort = λ h. refl; no_after = λ h. refl; no_before = λ h. refl } in
    let asked = with_pairs-fit schema t (pairs_of text) (record { query = no_query; after = None; before = None }) a.0 start a.1 in
    let fits : FitsQuery schema (primary_kind schema t) (record a.0.query { page = record a.0.query.page { after = c.0; before = f.0 } }) = record {
      page = record {
        keys = asked.sort;
        size = asked.size;
        after = place_at-fits schema (primary_kind schema t) a.0.query.sort (codes "page[after]") a.0.after c.0 asked.sort c.1;
        before = place_at-fits schema (primary_kind schema t) a.0.query.sort (codes "page[before]") a.0.before f.0 asked.sort f.1;
      };
      paths = asked.paths;
      fields = asked.fields;
    } in
    subst (QueryFits schema t) same (record {
      fits = fits;
      bare = λ r p. record {
        no_include = asked.no_resources r;
        no_sort = asked.no_sort p;
        no_after = no_place forms (codes "page[after]") a.0.after c.0 c.1 (asked.no_after p);
        no_before = no_place forms (codes "page[before]") a.0.before f.0 f.1 (asked.no_before p);
      };
    })

-- ---- fetches

related-fits : (schema : Schema) (kind rel : ℕ) (query : Query) → rel < length (relationships_of schema kind) → FitsQuery schema (target_of schema kind rel) query
    → MatchOption (slice_get (relationships_of schema kind) rel) ⊥ (λ r. FitsQuery schema r.target query)
related-fits schema kind rel query known fits =
    let found = within-found (relationships_of schema kind) rel known in
    leads_to (λ k. FitsQuery schema k query) (slice_get (relationships_of schema kind) rel) found.0 found.1 fits

-- a query of a known target that is not the operations
pub fetch-fits : (schema : Schema) (t : Target) (query : Query) → IsKnownTarget schema t → (t ≡ target.Operations → ⊥) → QueryFits schema t query → FitsFetch schema (record { target = t; query = query })
fetch-fits schema (target.Collection kind) query known other q = (known, q.fits)
fetch-fits schema (target.Resource key) query known other q = (known, q.fits)
fetch-fits schema (target.Related key rel) query known other q = (known.0, related-fits schema key.kind rel query known.1 q.fits)
fetch-fits schema (target.Linkage key rel) query known other q = ((known.0, related-fits schema key.kind rel query known.1 q.fits), q.bare refl refl)
fetch-fits schema target.Operations query known other q = absurd (other refl)
