-- A refusal names the source that its code asks for.
use Rattle.std.specs.Prelude.{ℕ, ◌^◌, ◌==◌, ◌&&◌, Bool, true, false, not, nat_le, nat_lt, if◌then◌else◌, List, [], ◌∷◌, codes, length, map, decimal, is_some, Option, Some, None, Result, Ok, Err, IfErr, slice_get, option_map, ⊤}
use Rattle.std.specs.Option.{ok_or}
use Rattle.std.specs.List.{enumerate_from, list_all}
use Rattle.std.specs.Char.{is_ascii_digit}
use Rattle.std.specs.Str.{bytes_eq}
use Rattle.std.proofs.Common.{◌≡◌, refl, sym, subst}
use Rattle.serde_json.specs.Data.{Data, null, boolean, number, string, array, object}
use Rattle.serde_json.specs.Find.{get, as_array, as_object, as_str}
use Rattle.ident_rules.specs.Id.{is_id}
use Rattle.http_messages.specs.declared.messages.Message.{Message}
use Rattle.json_forms.specs.Json.{json_of, items_list, text_at}
use Rattle.json_forms.specs.Pointer.{◌//◌}
use Rattle.resource_schema.specs.declared.schema.Schema.{Schema}
use Rattle.resource_schema.specs.declared.values.Form.{Form}
use Rattle.resource_schema.specs.declared.targets.Target.{Target}
use Rattle.resource_schema.specs.declared.targets.Target.TheVariants as target
use Rattle.resource_schema.specs.Kinds.{kind_name, number_of_kind, attributes_of, attribute_of, relationship_of, has_client_ids, target_of, is_many}
use Rattle.task_forms.specs.declared.operations.Named.{Named}
use Rattle.task_forms.specs.declared.operations.Where.TheVariants as stands
use Rattle.task_forms.specs.declared.operations.Who.{Who}
use Rattle.task_forms.specs.declared.operations.Member.{Member}
use Rattle.task_forms.specs.declared.operations.Operation.TheVariants.{SetLinks, AddLinks, DropLinks}
use Rattle.task_forms.specs.Fit.{kind_of}
use Rattle.error_objects.specs.declared.codes.Code.TheVariants as code
use Rattle.error_objects.specs.declared.refusals.Refusal.{Refusal}
use Rattle.error_objects.specs.Refusals.{refusal, at_pointer, at_parameter, at_header, IsSourced}
use Rattle.request_model.specs.declared.forms.Asked.{Asked}
use Rattle.request_model.specs.declared.forms.ContentVerdict.{ContentVerdict}
use Rattle.request_model.specs.declared.forms.ContentVerdict.TheVariants.{Good, BadType, BadEncoding}
use Rattle.request_model.specs.declared.forms.Parameter.{Parameter}
use Rattle.request_model.specs.declared.forms.Parameter.TheVariants as parameter
use Rattle.request_model.specs.declared.forms.Op.{Op}
use Rattle.request_model.specs.declared.forms.Op.TheVariants as op
use Rattle.request_model.specs.declared.forms.Aim.{Aim}
use Rattle.request_model.specs.declared.forms.Aim.TheVariants as aim
use Rattle.request_model.specs.declared.forms.Act.{Act}
use Rattle.request_model.specs.declared.forms.Act.TheVariants as act
use Rattle.request_model.specs.Cursors.{place_of_cursor}
use Rattle.request_model.specs.Words.{result_map, all_ok}
use Rattle.request_model.specs.Results.{◌>>=◌, ◌>>◌, err_if}
use Rattle.request_model.specs.Values.{value_from}
use Rattle.request_model.specs.Targets.{target_of_path, allow_of, need_of}
use Rattle.request_model.specs.Negotiation.{content, acceptable}
use Rattle.task_forms.specs.Queries.{no_query}
use Rattle.request_model.specs.Queries.{pairs_of, query_of, no_parameter, known_parameter, or_bad, with_parameter, has_name, primary_kind, with_pair, with_pairs, sort_forms, place_at, paths_of, field_set_named, sort_keys_of, page_size_of}
use Rattle.request_model.specs.Documents.{bad_document, object_at, text_member, fields_at, named_in, keeps_rule, identifier_from, one_linkage, indexed, many_linkage, linkage_from, given_value, given_values, given_link, given_links, all_values, kind_named, resource_kind, client_id, is_lid, local_id, create_of, name_member, same_named, own_name, lid_in, target_of_update, who_of, update_of}
use Rattle.request_model.specs.OperationLists.{op_of, op_at, optional_text, aim_of_ref, ref_aim, href_aim, aim_by, if_many, act_of, with_data, operation_by, operation_of, absent, list_pointer, operations_of}
use Rattle.request_model.specs.Plans.{body_value, primary_data, by_path, data_pointer, update_task, change_of, judged, is_fetch, none_or_err, fetch_of, change_without_query, task_of, is_list_target}

-- ---- errors of readings, by their parts

module _ {E : Type 0} (P : E → Type 0) where
  bind-err : {A B : Type 0} (r : Result A E) (f : A → Result B E) → IfErr r P → ((x : A) → IfErr (f x) P) → IfErr (◌>>=◌ r f) P
  bind-err (Ok x) f p q = q x
  bind-err (Err e) f p q = p

  then-err : {A B : Type 0} (r : Result A E) (s : Result B E) → IfErr r P → IfErr s P → IfErr (◌>>◌ r s) P
  then-err (Ok x) s p q = q
  then-err (Err e) s p q = p

  map-err : {A B : Type 0} (f : A → B) (r : Result A E) → IfErr r P → IfErr (result_map f r) P
  map-err f (Ok x) p = tt
  map-err f (Err e) p = p

  ok_or-err : {A : Type 0} (o : Option A) (e : E) → P e → IfErr (ok_or o e) P
  ok_or-err None e p = p
  ok_or-err (Some x) e p = tt

  err_if-err : (b : Bool) (e : E) → P e → IfErr (err_if b e) P
  err_if-err true e p = p
  err_if-err false e p = tt

  test-err : {A : Type 0} (b : Bool) (r s : Result A E) → IfErr r P → IfErr s P → IfErr (if b then r else s) P
  test-err true r s p q = p
  test-err false r s p q = q

  all_ok-err : {X A : Type 0} (f : X → Result A E) (xs : List X) → ((x : X) → IfErr (f x) P) → IfErr (all_ok (map f xs)) P
  all_ok-err f [] q = tt
  all_ok-err {X} {A} f (x ∷ xs) q = by_first (f x) (q x) (all_ok-err f xs q) where
    by_first : (r : Result A E) → IfErr r P → IfErr (all_ok (map f xs)) P → IfErr (all_ok (r ∷ map f xs)) P
    by_first (Err e) p rest = p
    by_first (Ok y) p rest = map-err (λ ys. y ∷ ys) (all_ok (map f xs)) rest

-- ---- documents

module _ (in_list : Bool) where
  abbrev Sourced : Refusal → Type 0
  Sourced = IsSourced in_list

  object_at-sourced : (at : List ℕ) (d : Data) → IfErr (object_at at d) Sourced
  object_at-sourced at d = ok_or-err Sourced (as_object d) (bad_document at) tt

  text_member-sourced : (at name : List ℕ) (d : Data) → IfErr (text_member at name d) Sourced
  text_member-sourced at name d = bind-err Sourced (ok_or (get name d) (bad_document at)) _ (ok_or-err Sourced (get name d) (bad_document at) tt) (λ m. ok_or-err Sourced (as_str m) (bad_document (at // name)) tt)

  fields_at-sourced : (at : List ℕ) (o : Option Data) → IfErr (fields_at at o) Sourced
  fields_at-sourced at None = tt
  fields_at-sourced at (Some d) = map-err Sourced _ (object_at at d) (object_at-sourced at d)

  identifier-sourced : (schema : Schema) (kind : ℕ) (at : List ℕ) (d : Data) → IfErr (identifier_from schema kind at d) Sourced
  identifier-sourced schema kind at d =
      bind-err Sourced (ok_or (text_at (codes "type") d) (bad_document at)) _ (ok_or-err Sourced (text_at (codes "type") d) (bad_document at) tt) (λ type.
      bind-err Sourced (ok_or (named_in kind d) (bad_document at)) _ (ok_or-err Sourced (named_in kind d) (bad_document at) tt) (λ name.
      then-err Sourced (err_if (not (bytes_eq type (kind_name schema kind))) (at_pointer code.WrongTarget (at // codes "type"))) _ (err_if-err Sourced (not (bytes_eq type (kind_name schema kind))) (at_pointer code.WrongTarget (at // codes "type")) tt)
      (then-err Sourced (err_if (not (keeps_rule name)) (at_pointer code.RelatedNotFound (at // codes "id"))) (Ok name) (err_if-err Sourced (not (keeps_rule name)) (at_pointer code.RelatedNotFound (at // codes "id")) tt) tt)))

  abbrev alone : Named → List Member
  alone n = record { named = n; index = None } ∷ []

  one_linkage-sourced : (schema : Schema) (kind : ℕ) (at : List ℕ) (d : Data) → IfErr (one_linkage schema kind at d) Sourced
  one_linkage-sourced schema kind at null = tt
  one_linkage-sourced schema kind at (boolean b) = map-err Sourced alone (identifier_from schema kind at (boolean b)) (identifier-sourced schema kind at (boolean b))
  one_linkage-sourced schema kind at (number n) = map-err Sourced alone (identifier_from schema kind at (number n)) (identifier-sourced schema kind at (number n))
  one_linkage-sourced schema kind at (string s) = map-err Sourced alone (identifier_from schema kind at (string s)) (identifier-sourced schema kind at (string s))
  one_linkage-sourced schema kind at (array ds) = map-err Sourced alone (identifier_from schema kind at (array ds)) (identifier-sourced schema kind at (array ds))
  one_linkage-sourced schema kind at (object ms) = map-err Sourced alone (identifier_from schema kind at (object ms)) (identifier-sourced schema kind at (object ms))

  many_linkage-sourced : (schema : Schema) (kind : ℕ) (at : List ℕ) (d : Data) → IfErr (many_linkage schema kind at d) Sourced
  many_linkage-sourced schema kind at d =
      bind-err Sourced (ok_or (as_array d) (bad_document at)) _ (ok_or-err Sourced (as_array d) (bad_document at) tt) (λ items.
      then-err Sourced (err_if (nat_le (2 ^ 32) (length (items_list items))) (bad_document at)) _ (err_if-err Sourced (nat_le (2 ^ 32) (length (items_list items))) (bad_document at) tt)
      (all_ok-err Sourced (indexed schema kind at) (enumerate_from 0 (items_list items)) (λ p. map-err Sourced _ (identifier_from schema kind (at // decimal p.0) p.1) (identifier-sourced schema kind (at // decimal p.0) p.1))))

  linkage-sourced : (schema : Schema) (kind rel : ℕ) (at : List ℕ) (d : Data) → IfErr (linkage_from schema kind rel at d) Sourced
  linkage-sourced schema kind rel at d =
      test-err Sourced (is_many schema kind rel) (many_linkage schema (target_of schema kind rel) at d) (one_linkage schema (target_of schema kind rel) at d) (many_linkage-sourced schema (target_of schema kind rel) at d) (one_linkage-sourced schema (target_of schema kind rel) at d)

  given_value-sourced : (schema : Schema) (kind : ℕ) (group : List ℕ) (m : List ℕ × Data) → IfErr (given_value schema kind group m) Sourced
  given_value-sourced schema kind group m =
      bind-err Sourced (ok_or (attribute_of schema kind m.0) (at_pointer code.UnknownField (group // m.0))) _ (ok_or-err Sourced (attribute_of schema kind m.0) (at_pointer code.UnknownField (group // m.0)) tt) (λ n.
      bind-err Sourced (ok_or (slice_get (attributes_of schema kind) n) (at_pointer code.UnknownField (group // m.0))) _ (ok_or-err Sourced (slice_get (attributes_of schema kind) n) (at_pointer code.UnknownField (group // m.0)) tt) (λ a.
      bind-err Sourced (ok_or (value_from a.form a.nullable m.1) (at_pointer code.BadValue (group // m.0))) _ (ok_or-err Sourced (value_from a.form a.nullable m.1) (at_pointer code.BadValue (group // m.0)) tt) (λ v. tt)))

  given_values-sourced : (schema : Schema) (kind : ℕ) (at : List ℕ) (d : Data) → IfErr (given_values schema kind at d) Sourced
  given_values-sourced schema kind at d =
      bind-err Sourced (fields_at (at // codes "attributes") (get (codes "attributes") d)) _ (fields_at-sourced (at // codes "attributes") (get (codes "attributes") d)) (λ fields.
      all_ok-err Sourced (given_value schema kind (at // codes "attributes")) fields (given_value-sourced schema kind (at // codes "attributes")))

  given_link-sourced : (schema : Schema) (kind : ℕ) (group : List ℕ) (m : List ℕ × Data) → IfErr (given_link schema kind group m) Sourced
  given_link-sourced schema kind group m =
      bind-err Sourced (ok_or (relationship_of schema kind m.0) (at_pointer code.UnknownField (group // m.0))) _ (ok_or-err Sourced (relationship_of schema kind m.0) (at_pointer code.UnknownField (group // m.0)) tt) (λ rel.
      bind-err Sourced (ok_or (get (codes "data") m.1) (bad_document (group // m.0))) _ (ok_or-err Sourced (get (codes "data") m.1) (bad_document (group // m.0)) tt) (λ link.
      bind-err Sourced (linkage_from schema kind rel (group // m.0 // codes "data") link) _ (linkage-sourced schema kind rel (group // m.0 // codes "data") link) (λ members. tt)))

  given_links-sourced : (schema : Schema) (kind : ℕ) (at : List ℕ) (d : Data) → IfErr (given_links schema kind at d) Sourced
  given_links-sourced schema kind at d =
      bind-err Sourced (fields_at (at // codes "relationships") (get (codes "relationships") d)) _ (fields_at-sourced (at // codes "relationships") (get (codes "relationships") d)) (λ fields.
      all_ok-err Sourced (given_link schema kind (at // codes "relationships")) fields (given_link-sourced schema kind (at // codes "relationships")))

  -- what is not found is named in a list alone
  not_found : (at : List ℕ) → in_list ≡ true → Sourced (at_pointer code.NotFound at)
  not_found at e = subst (λ b. IsSourced b (at_pointer code.NotFound at)) (sym e) tt

  abbrev ListWithout : {A : Type 0} → Option A → Type 0
  ListWithout None = in_list ≡ true
  ListWithout (Some x) = ⊤

  resource_kind-sourced : (schema : Schema) (endpoint : Option ℕ) (at : List ℕ) (d : Data) → ListWithout endpoint → IfErr (resource_kind schema endpoint at d) Sourced
  resource_kind-sourced schema endpoint at d without =
      then-err Sourced (object_at at d) _ (object_at-sourced at d)
      (bind-err Sourced (text_member at (codes "type") d) _ (text_member-sourced at (codes "type") d) (λ name. by_endpoint endpoint name without)) where
        by_endpoint : (o : Option ℕ) (name : List ℕ) → ListWithout o → IfErr (kind_named schema o at name) Sourced
        by_endpoint (Some kind) name w = test-err Sourced (bytes_eq name (kind_name schema kind)) (Ok kind) (Err (at_pointer code.TypeMismatch (at // codes "type"))) tt tt
        by_endpoint None name w = ok_or-err Sourced (number_of_kind schema name) (at_pointer code.NotFound (at // codes "type")) (not_found (at // codes "type") w)

  client_id-sourced : (schema : Schema) (kind : ℕ) (at : List ℕ) (o : Option Data) → IfErr (client_id schema kind at o) Sourced
  client_id-sourced schema kind at None = tt
  client_id-sourced schema kind at (Some d) =
      bind-err Sourced (ok_or (as_str d) (bad_document at)) _ (ok_or-err Sourced (as_str d) (bad_document at) tt) (λ id.
      then-err Sourced (err_if (not (has_client_ids schema kind)) (at_pointer code.ClientIdUnsupported at)) _ (err_if-err Sourced (not (has_client_ids schema kind)) (at_pointer code.ClientIdUnsupported at) tt)
      (then-err Sourced (err_if (not (is_id id)) (at_pointer code.BadId at)) _ (err_if-err Sourced (not (is_id id)) (at_pointer code.BadId at) tt)
      (then-err Sourced (err_if (list_all is_ascii_digit id) (at_pointer code.ReservedId at)) (Ok (Some id)) (err_if-err Sourced (list_all is_ascii_digit id) (at_pointer code.ReservedId at) tt) tt)))

  local_id-sourced : (at : List ℕ) (o : Option Data) → IfErr (local_id at o) Sourced
  local_id-sourced at None = tt
  local_id-sourced at (Some d) =
      bind-err Sourced (ok_or (as_str d) (bad_document at)) _ (ok_or-err Sourced (as_str d) (bad_document at) tt) (λ lid.
      then-err Sourced (err_if (not (is_lid lid)) (bad_document at)) (Ok (Some lid)) (err_if-err Sourced (not (is_lid lid)) (bad_document at) tt) tt)

  create_of-sourced : (schema : Schema) (endpoint : Option ℕ) (at : List ℕ) (d : Data) → ListWithout endpoint → IfErr (create_of schema endpoint at d) Sourced
  create_of-sourced schema endpoint at d without =
      bind-err Sourced (resource_kind schema endpoint at d) _ (resource_kind-sourced schema endpoint at d without) (λ kind.
      bind-err Sourced (client_id schema kind (at // codes "id") (get (codes "id") d)) _ (client_id-sourced schema kind (at // codes "id") (get (codes "id") d)) (λ id.
      bind-err Sourced (local_id (at // codes "lid") (get (codes "lid") d)) _ (local_id-sourced (at // codes "lid") (get (codes "lid") d)) (λ lid.
      bind-err Sourced (given_values schema kind at d) _ (given_values-sourced schema kind at d) (λ given.
      bind-err Sourced (given_links schema kind at d) _ (given_links-sourced schema kind at d) (λ links.
      bind-err Sourced (ok_or (all_values schema kind given) (at_pointer code.MissingField at)) _ (ok_or-err Sourced (all_values schema kind given) (at_pointer code.MissingField at) tt) (λ values. tt))))))

  own_name-sourced : (kind : ℕ) (at : List ℕ) (id lid : Option Data) → IfErr (own_name kind at id lid) Sourced
  own_name-sourced kind at (Some id) None = map-err Sourced _ (ok_or (as_str id) (bad_document (at // codes "id"))) (ok_or-err Sourced (as_str id) (bad_document (at // codes "id")) tt)
  own_name-sourced kind at None (Some lid) = map-err Sourced _ (ok_or (as_str lid) (bad_document (at // codes "lid"))) (ok_or-err Sourced (as_str lid) (bad_document (at // codes "lid")) tt)
  own_name-sourced kind at (Some id) (Some lid) = tt
  own_name-sourced kind at None None = tt

  target_of_update-sourced : (endpoint : Option Who) (at : List ℕ) (n : Named) → ListWithout endpoint → IfErr (target_of_update endpoint at n) Sourced
  target_of_update-sourced (Some who) at n without = test-err Sourced (same_named who.named n) (Ok who) (Err (at_pointer code.IdMismatch (at // name_member n))) tt tt
  target_of_update-sourced None at n without = test-err Sourced (keeps_rule n) (Ok (record { named = n; place = stands.Data })) (Err (at_pointer code.NotFound (at // codes "id"))) tt (not_found (at // codes "id") without)

  of_named : (endpoint : Option Who) → ListWithout endpoint → ListWithout (option_map (λ who. kind_of who.named) endpoint)
  of_named None without = without
  of_named (Some who) without = tt

  who_of-sourced : (kind : ℕ) (endpoint : Option Who) (at : List ℕ) (d : Data) → ListWithout endpoint → IfErr (who_of kind endpoint at d) Sourced
  who_of-sourced kind endpoint at d without =
      bind-err Sourced (own_name kind at (get (codes "id") d) (lid_in endpoint d)) _ (own_name-sourced kind at (get (codes "id") d) (lid_in endpoint d)) (λ name.
      target_of_update-sourced endpoint at name without)

  update_of-sourced : (schema : Schema) (endpoint : Option Who) (at : List ℕ) (d : Data) → ListWithout endpoint → IfErr (update_of schema endpoint at d) Sourced
  update_of-sourced schema endpoint at d without =
      bind-err Sourced (resource_kind schema (option_map (λ who. kind_of who.named) endpoint) at d) _ (resource_kind-sourced schema (option_map (λ who. kind_of who.named) endpoint) at d (of_named endpoint without)) (λ kind.
      bind-err Sourced (who_of kind endpoint at d) _ (who_of-sourced kind endpoint at d without) (λ who.
      bind-err Sourced (given_values schema kind at d) _ (given_values-sourced schema kind at d) (λ values.
      bind-err Sourced (given_links schema kind at d) _ (given_links-sourced schema kind at d) (λ links. tt))))

-- ---- lists of operations

abbrev Listed : Refusal → Type 0
Listed = IsSourced true

op_at-sourced : (at : List ℕ) (d : Data) → IfErr (op_at at d) Listed
op_at-sourced at d = bind-err Listed (text_member at (codes "op") d) _ (text_member-sourced true at (codes "op") d) (λ text. ok_or-err Listed (op_of text) (bad_document (at // codes "op")) tt)

optional_text-sourced : (at : List ℕ) (o : Option Data) → IfErr (optional_text at o) Listed
optional_text-sourced at None = tt
optional_text-sourced at (Some d) = map-err Listed _ (ok_or (as_str d) (bad_document at)) (ok_or-err Listed (as_str d) (bad_document at) tt)

aim_of_ref-sourced : (schema : Schema) (at : List ℕ) (who : Who) (o : Option (List ℕ)) → IfErr (aim_of_ref schema at who o) Listed
aim_of_ref-sourced schema at who None = tt
aim_of_ref-sourced schema at who (Some name) =
    map-err Listed _ (ok_or (relationship_of schema (kind_of who.named) name) (at_pointer code.NotFound (at // codes "relationship"))) (ok_or-err Listed (relationship_of schema (kind_of who.named) name) (at_pointer code.NotFound (at // codes "relationship")) tt)

ref_aim-sourced : (schema : Schema) (at : List ℕ) (d : Data) → IfErr (ref_aim schema at d) Listed
ref_aim-sourced schema at d =
    bind-err Listed (ok_or (text_at (codes "type") d) (bad_document at)) _ (ok_or-err Listed (text_at (codes "type") d) (bad_document at) tt) (λ type.
    then-err Listed (ok_or (named_in 0 d) (bad_document at)) _ (ok_or-err Listed (named_in 0 d) (bad_document at) tt)
    (bind-err Listed (optional_text at (get (codes "relationship") d)) _ (optional_text-sourced at (get (codes "relationship") d)) (λ rel.
    bind-err Listed (ok_or (number_of_kind schema type) (at_pointer code.NotFound (at // codes "type"))) _ (ok_or-err Listed (number_of_kind schema type) (at_pointer code.NotFound (at // codes "type")) tt) (λ kind.
    bind-err Listed (ok_or (named_in kind d) (bad_document at)) _ (ok_or-err Listed (named_in kind d) (bad_document at) tt) (λ name.
    then-err Listed (err_if (not (keeps_rule name)) (at_pointer code.NotFound (at // codes "id"))) _ (err_if-err Listed (not (keeps_rule name)) (at_pointer code.NotFound (at // codes "id")) tt)
    (aim_of_ref-sourced schema at (record { named = name; place = stands.Ref }) rel))))))

href_aim-sourced : (schema : Schema) (at : List ℕ) (d : Data) → IfErr (href_aim schema at d) Listed
href_aim-sourced schema at d =
    bind-err Listed (ok_or (as_str d) (bad_document at)) _ (ok_or-err Listed (as_str d) (bad_document at) tt) (λ path.
    bind-err Listed (ok_or (target_of_path schema path) (at_pointer code.NotFound at)) _ (ok_or-err Listed (target_of_path schema path) (at_pointer code.NotFound at) tt) (λ t. tt))

aim_by-sourced : (schema : Schema) (word : Op) (at : List ℕ) (ref href : Option Data) → IfErr (aim_by schema word at ref href) Listed
aim_by-sourced schema word at (Some ref) (Some href) = tt
aim_by-sourced schema word at (Some ref) None = ref_aim-sourced schema (at // codes "ref") ref
aim_by-sourced schema word at None (Some href) = href_aim-sourced schema (at // codes "href") href
aim_by-sourced schema op.Remove at None None = tt
aim_by-sourced schema op.Add at None None = tt
aim_by-sourced schema op.Update at None None = tt

if_many-sourced : (schema : Schema) (at : List ℕ) (who : Who) (rel : ℕ) (does : Act) → IfErr (if_many schema at who rel does) Listed
if_many-sourced schema at who rel does = test-err Listed (is_many schema (kind_of who.named) rel) (Ok does) (Err (bad_document (at // codes "op"))) tt tt

act_of-sourced : (schema : Schema) (at : List ℕ) (d : Data) (word : Op) (aimed : Aim) → IfErr (act_of schema at d word aimed) Listed
act_of-sourced schema at d op.Add aim.Nothing = tt
act_of-sourced schema at d op.Add (aim.Collection kind) = tt
act_of-sourced schema at d op.Add (aim.Resource who) = tt
act_of-sourced schema at d op.Add (aim.Relationship who rel) = if_many-sourced schema at who rel (act.Adds who rel)
act_of-sourced schema at d op.Add aim.Elsewhere = tt
act_of-sourced schema at d op.Update aim.Nothing = tt
act_of-sourced schema at d op.Update (aim.Collection kind) = tt
act_of-sourced schema at d op.Update (aim.Resource who) = tt
act_of-sourced schema at d op.Update (aim.Relationship who rel) = tt
act_of-sourced schema at d op.Update aim.Elsewhere = tt
act_of-sourced schema at d op.Remove aim.Nothing = tt
act_of-sourced schema at d op.Remove (aim.Collection kind) = tt
act_of-sourced schema at d op.Remove (aim.Resource who) = tt
act_of-sourced schema at d op.Remove (aim.Relationship who rel) = if_many-sourced schema at who rel (act.Drops who rel)
act_of-sourced schema at d op.Remove aim.Elsewhere = tt

-- in a list every refusal may name what is not found
always : {A : Type 0} (o : Option A) → ListWithout true o
always None = refl
always (Some x) = tt

with_data-sourced : (schema : Schema) (at : List ℕ) (does : Act) (d : Data) → IfErr (with_data schema at does d) Listed
with_data-sourced schema at (act.Creates endpoint) d = create_of-sourced true schema endpoint at d (always endpoint)
with_data-sourced schema at (act.Updates endpoint) d = update_of-sourced true schema endpoint at d (always endpoint)
with_data-sourced schema at (act.Removes who) d = tt
with_data-sourced schema at (act.Adds who rel) d = map-err Listed (AddLinks who rel) (linkage_from schema (kind_of who.named) rel at d) (linkage-sourced true schema (kind_of who.named) rel at d)
with_data-sourced schema at (act.Sets who rel) d = map-err Listed (SetLinks who rel) (linkage_from schema (kind_of who.named) rel at d) (linkage-sourced true schema (kind_of who.named) rel at d)
with_data-sourced schema at (act.Drops who rel) d = map-err Listed (DropLinks who rel) (linkage_from schema (kind_of who.named) rel at d) (linkage-sourced true schema (kind_of who.named) rel at d)

operation_by-sourced : (schema : Schema) (at : List ℕ) (does : Act) (o : Option Data) → IfErr (operation_by schema at does o) Listed
operation_by-sourced schema at (act.Removes who) o = tt
operation_by-sourced schema at (act.Creates endpoint) None = tt
operation_by-sourced schema at (act.Creates endpoint) (Some d) = with_data-sourced schema (at // codes "data") (act.Creates endpoint) d
operation_by-sourced schema at (act.Updates endpoint) None = tt
operation_by-sourced schema at (act.Updates endpoint) (Some d) = with_data-sourced schema (at // codes "data") (act.Updates endpoint) d
operation_by-sourced schema at (act.Adds who rel) None = tt
operation_by-sourced schema at (act.Adds who rel) (Some d) = with_data-sourced schema (at // codes "data") (act.Adds who rel) d
operation_by-sourced schema at (act.Sets who rel) None = tt
operation_by-sourced schema at (act.Sets who rel) (Some d) = with_data-sourced schema (at // codes "data") (act.Sets who rel) d
operation_by-sourced schema at (act.Drops who rel) None = tt
operation_by-sourced schema at (act.Drops who rel) (Some d) = with_data-sourced schema (at // codes "data") (act.Drops who rel) d

operation_of-sourced : (schema : Schema) (at : List ℕ) (d : Data) → IfErr (operation_of schema at d) Listed
operation_of-sourced schema at d =
    then-err Listed (object_at at d) _ (object_at-sourced true at d)
    (bind-err Listed (op_at at d) _ (op_at-sourced at d) (λ word.
    bind-err Listed (aim_by schema word at (get (codes "ref") d) (get (codes "href") d)) _ (aim_by-sourced schema word at (get (codes "ref") d) (get (codes "href") d)) (λ aimed.
    bind-err Listed (act_of schema at d word aimed) _ (act_of-sourced schema at d word aimed) (λ does.
    operation_by-sourced schema at does (get (codes "data") d)))))

absent-sourced : (name : List ℕ) (d : Data) → IfErr (absent name d) Listed
absent-sourced name d = err_if-err Listed (is_some (get name d)) (bad_document ([] // name)) tt

operations_of-sourced : (schema : Schema) (d : Data) → IfErr (operations_of schema d) Listed
operations_of-sourced schema d =
    then-err Listed (object_at [] d) _ (object_at-sourced true [] d)
    (then-err Listed (absent (codes "atomic:results") d) _ (absent-sourced (codes "atomic:results") d)
    (then-err Listed (absent (codes "data") d) _ (absent-sourced (codes "data") d)
    (then-err Listed (absent (codes "included") d) _ (absent-sourced (codes "included") d)
    (bind-err Listed (ok_or (get (codes "atomic:operations") d) (bad_document [])) _ (ok_or-err Listed (get (codes "atomic:operations") d) (bad_document []) tt) (λ found.
    bind-err Listed (ok_or (as_array found) (bad_document list_pointer)) _ (ok_or-err Listed (as_array found) (bad_document list_pointer) tt) (λ items.
    then-err Listed (err_if (length (items_list items) == 0) (bad_document list_pointer)) _ (err_if-err Listed (length (items_list items) == 0) (bad_document list_pointer) tt)
    (then-err Listed (err_if (nat_lt 1000 (length (items_list items))) (at_pointer code.TooManyOperations list_pointer)) _ (err_if-err Listed (nat_lt 1000 (length (items_list items))) (at_pointer code.TooManyOperations list_pointer) tt)
    (all_ok-err Listed (λ p. operation_of schema (list_pointer // decimal p.0) p.1) (enumerate_from 0 (items_list items)) (λ p. operation_of-sourced schema (list_pointer // decimal p.0) p.1)))))))))

-- ---- queries

module _ (in_list : Bool) where
  abbrev Asks : Refusal → Type 0
  Asks = IsSourced in_list

  with_parameter-sourced : (schema : Schema) (kind : ℕ) (asked : Asked) (name value : List ℕ) (p : Parameter) → IfErr (with_parameter schema kind asked name value p) Asks
  with_parameter-sourced schema kind asked name value parameter.Include = map-err Asks _ (or_bad code.BadInclude name (paths_of schema kind value)) (ok_or-err Asks (paths_of schema kind value) (at_parameter code.BadInclude name) tt)
  with_parameter-sourced schema kind asked name value parameter.Fields = map-err Asks _ (or_bad code.BadFields name (field_set_named schema name value)) (ok_or-err Asks (field_set_named schema name value) (at_parameter code.BadFields name) tt)
  with_parameter-sourced schema kind asked name value parameter.Sort = map-err Asks _ (or_bad code.BadSort name (sort_keys_of schema kind value)) (ok_or-err Asks (sort_keys_of schema kind value) (at_parameter code.BadSort name) tt)
  with_parameter-sourced schema kind asked name value parameter.PageSize = map-err Asks _ (or_bad code.BadPageSize name (page_size_of value)) (ok_or-err Asks (page_size_of value) (at_parameter code.BadPageSize name) tt)
  with_parameter-sourced schema kind asked name value parameter.PageAfter = tt
  with_parameter-sourced schema kind asked name value parameter.PageBefore = tt

  with_pair-sourced : (schema : Schema) (t : Target) (asked : Asked) (pair : List ℕ × List ℕ) → IfErr (with_pair schema t asked pair) Asks
  with_pair-sourced schema t asked pair =
      bind-err Asks (or_bad code.UnknownParameter pair.0 (known_parameter schema t pair.0)) _ (ok_or-err Asks (known_parameter schema t pair.0) (at_parameter code.UnknownParameter pair.0) tt) (λ known.
      then-err Asks (err_if (has_name pair.0 asked.query.pairs) (at_parameter code.RepeatedParameter pair.0)) _ (err_if-err Asks (has_name pair.0 asked.query.pairs) (at_parameter code.RepeatedParameter pair.0) tt)
      (bind-err Asks (with_parameter schema (primary_kind schema t) asked pair.0 pair.1 known) _ (with_parameter-sourced schema (primary_kind schema t) asked pair.0 pair.1 known) (λ more. tt)))

  with_pairs-sourced : (schema : Schema) (t : Target) (asked : Asked) (pairs : List (List ℕ × List ℕ)) → IfErr (with_pairs schema t asked pairs) Asks
  with_pairs-sourced schema t asked [] = tt
  with_pairs-sourced schema t asked (pair ∷ pairs) = bind-err Asks (with_pair schema t asked pair) _ (with_pair-sourced schema t asked pair) (λ more. with_pairs-sourced schema t more pairs)

  place_at-sourced : (forms : List (Form × Bool)) (name : List ℕ) (o : Option (List ℕ)) → IfErr (place_at forms name o) Asks
  place_at-sourced forms name None = tt
  place_at-sourced forms name (Some text) = map-err Asks _ (or_bad code.BadCursor name (place_of_cursor forms text)) (ok_or-err Asks (place_of_cursor forms text) (at_parameter code.BadCursor name) tt)

  query_of-sourced : (schema : Schema) (t : Target) (text : List ℕ) → IfErr (query_of schema t text) Asks
  query_of-sourced schema t text =
      bind-err Asks (with_pairs schema t (record { query = no_query; after = None; before = None }) (pairs_of text)) _ (with_pairs-sourced schema t (record { query = no_query; after = None; before = None }) (pairs_of text)) (λ asked.
      bind-err Asks (place_at (sort_forms schema (primary_kind schema t) asked.query.sort) (codes "page[after]") asked.after) _ (place_at-sourced (sort_forms schema (primary_kind schema t) asked.query.sort) (codes "page[after]") asked.after) (λ after.
      bind-err Asks (place_at (sort_forms schema (primary_kind schema t) asked.query.sort) (codes "page[before]") asked.before) _ (place_at-sourced (sort_forms schema (primary_kind schema t) asked.query.sort) (codes "page[before]") asked.before) (λ before. tt)))

  no_parameter-sourced : (pairs : List (List ℕ × List ℕ)) → IfErr (none_or_err (no_parameter pairs)) Asks
  no_parameter-sourced [] = tt
  no_parameter-sourced (pair ∷ pairs) = tt

  -- ---- bodies

  body_value-sourced : (bytes : List ℕ) → IfErr (body_value bytes) Asks
  body_value-sourced bytes = ok_or-err Asks (json_of bytes) (refusal code.BadJson) refl

  primary_data-sourced : (bytes : List ℕ) → IfErr (primary_data bytes) Asks
  primary_data-sourced bytes = bind-err Asks (body_value bytes) _ (body_value-sourced bytes) (λ d. ok_or-err Asks (get (codes "data") d) (bad_document []) tt)

  judged-sourced : (j : ContentVerdict) → IfErr (judged j) Asks
  judged-sourced Good = tt
  judged-sourced BadType = tt
  judged-sourced BadEncoding = tt

-- ---- tasks

change_of-sourced : (schema : Schema) (method body : List ℕ) (t : Target) → IfErr (change_of schema method body t) (IsSourced (is_list_target t))
change_of-sourced schema method body (target.Collection kind) =
    bind-err (IsSourced false) (primary_data body) _ (primary_data-sourced false body) (λ d.
    bind-err (IsSourced false) (create_of schema (Some kind) data_pointer d) _ (create_of-sourced false schema (Some kind) data_pointer d tt) (λ operation. tt))
change_of-sourced schema method body (target.Resource key) =
    test-err (IsSourced false) (bytes_eq method (codes "DELETE")) _ (update_task schema key body) tt
    (bind-err (IsSourced false) (primary_data body) _ (primary_data-sourced false body) (λ d.
    bind-err (IsSourced false) (update_of schema (Some (by_path key)) data_pointer d) _ (update_of-sourced false schema (Some (by_path key)) data_pointer d tt) (λ operation. tt)))
change_of-sourced schema method body (target.Related key rel) = refl
change_of-sourced schema method body (target.Linkage key rel) =
    bind-err (IsSourced false) (primary_data body) _ (primary_data-sourced false body) (λ d.
    bind-err (IsSourced false) (linkage_from schema key.kind rel data_pointer d) _ (linkage-sourced false schema key.kind rel data_pointer d) (λ members. tt))
change_of-sourced schema method body target.Operations =
    bind-err (IsSourced true) (body_value body) _ (body_value-sourced true body) (λ d.
    bind-err (IsSourced true) (operations_of schema d) _ (operations_of-sourced schema d) (λ operations. tt))

-- a refusal of a request to a target
task_of-sourced : (schema : Schema) (m : Message) (t : Target) (query : List ℕ) → IfErr (task_of schema m t query) (IsSourced (is_list_target t))
task_of-sourced schema m t query =
    then-err (IsSourced (is_list_target t)) (judged (content m.fields (need_of (allow_of schema t) m.method))) _ (judged-sourced (is_list_target t) (content m.fields (need_of (allow_of schema t) m.method)))
    (then-err (IsSourced (is_list_target t)) (err_if (not (acceptable m.fields)) (at_header code.NotAcceptable (codes "Accept"))) _ (err_if-err (IsSourced (is_list_target t)) (not (acceptable m.fields)) (at_header code.NotAcceptable (codes "Accept")) refl)
    (test-err (IsSourced (is_list_target t)) (is_fetch m.method) (fetch_of schema t query) (change_without_query schema m.method m.body t query)
    (map-err (IsSourced (is_list_target t)) _ (query_of schema t query) (query_of-sourced (is_list_target t) schema t query))
    (then-err (IsSourced (is_list_target t)) (none_or_err (no_parameter (pairs_of query))) _ (no_parameter-sourced (is_list_target t) (pairs_of query)) (change_of-sourced schema m.method m.body t))))

from_err : {A : Type 0} (P : Refusal → Type 0) (r : Result A Refusal) (e : Refusal) → IfErr r P → r ≡ Err e → P e
from_err P (Ok x) e p is = cc is
from_err P (Err f) e p is = let same : f ≡ e = cc is in subst P same p

pub refused-sourced : (schema : Schema) (m : Message) (t : Target) (query : List ℕ) (r : Refusal) → task_of schema m t query ≡ Err r → IsSourced (is_list_target t) r
refused-sourced schema m t query r e = from_err (IsSourced (is_list_target t)) (task_of schema m t query) r (task_of-sourced schema m t query) e
