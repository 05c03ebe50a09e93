-- Resources that were read fit: new ones and changed ones.
use Rattle.std.specs.Prelude.{ℕ, ◌&&◌, ◌<◌, ◌+◌, Bool, true, false, not, nat_lt, nat_le, if◌then◌else◌, List, [], ◌∷◌, codes, length, Option, Some, None, Ok, Err, IfSome, MatchOption, slice_get, option_map, suc, ⊤}
use Rattle.std.specs.Option.{ok_or, option_or, option_map_or}
use Rattle.std.specs.List.{AllZip, AllByRecursion, list_all, enumerate_from}
use Rattle.std.specs.Char.{is_ascii_digit}
use Rattle.std.specs.Str.{bytes_eq, is_utf8}
use borrow.Author.Tests.{ltb-true, leb-true}
use Rattle.std.specs.Str.Parse.{AllDigits}
use Rattle.std.specs.Ordering.{nat_cmp, eq_by_cmp}
use Rattle.std.specs.FinMap.Entries.{find}
use Rattle.std.proofs.Common.{◌≡◌, refl, sym, ap, ◌∙◌, arith, subst, cond}
use Rattle.std.proofs.lemmas.Bool.Decides.{nat_tests}
use Rattle.std.proofs.lemmas.Bool.{and_parts}
use Rattle.std.proofs.lemmas.Str.Parse.{digit_at}
use Rattle.serde_json.specs.Data.{Data}
use Rattle.serde_json.specs.Find.{get, as_str}
use Rattle.ident_rules.specs.Id.{is_id}
use Rattle.json_forms.specs.Order.{IsInByteOrder}
use Rattle.json_forms.specs.Pointer.{◌//◌}
use Rattle.resource_schema.specs.declared.schema.Schema.{Schema}
use Rattle.resource_schema.specs.declared.kinds.Kind.{Kind}
use Rattle.resource_schema.specs.declared.kinds.Attribute.{Attribute}
use Rattle.resource_schema.specs.declared.values.AttrValue.{AttrValue}
use Rattle.resource_schema.specs.declared.values.AttrValue.TheVariants as value
use Rattle.resource_schema.specs.Forms.{HasForm, has_form}
use Rattle.resource_schema.specs.Kinds.{attributes_of, kind_name, number_of_kind, has_client_ids}
use Rattle.resource_schema.specs.SchemaLaws.{kind_at-parts}
use Rattle.resource_schema.specs.SchemaRules.{is_schema, is_attribute}
use Rattle.task_forms.specs.declared.operations.TheConstants.{LID_LIMIT}
use Rattle.task_forms.specs.declared.operations.Named.{Named}
use Rattle.task_forms.specs.declared.operations.Named.TheVariants as named
use Rattle.task_forms.specs.declared.operations.Where.TheVariants as stands
use Rattle.task_forms.specs.declared.operations.Who.{Who}
use Rattle.task_forms.specs.declared.operations.Operation.{Operation}
use Rattle.task_forms.specs.declared.operations.Operation.TheVariants.{Create, Update}
use Rattle.task_forms.specs.declared.tasks.ReplyForm.TheVariants as reply_form
use Rattle.task_forms.specs.Fit.{kind_of, IsNamed, IsLid, FitsClientId, FitsValue, FitsValues, FitsLinks, FitsCreate, FitsOperation, FitsForm}
use Rattle.error_objects.specs.declared.codes.Code.TheVariants as code
use Rattle.error_objects.specs.Refusals.{at_pointer}
use Rattle.request_model.specs.Words.{some_if}
use Rattle.request_model.specs.Results.{err_if}
use Rattle.request_model.specs.Documents.{bad_document, object_at, text_member, keeps_rule, given_values, given_links, value_or_default, all_values, kind_named, resource_kind, client_id, is_lid, local_id, create_of, name_member, same_named, own_name, lid_in, target_of_update, who_of, update_of}
use Rattle.request_model.specs.ReadingLaws.{bind-Ok, then-Ok, map-Ok, err_if-Ok, negated, ok_or-Ok, all_some-zip}
use Rattle.request_model.proofs.Zips.{position-found}
use Rattle.request_model.proofs.LinkageFits.{rule-IsNamed}
use Rattle.request_model.proofs.FieldFits.{given_values-fit, given_links-fit}

-- ---- the type

-- the type of the endpoint, where it has one
kind_named-is : (schema : Schema) (kind : ℕ) (at name : List ℕ) (n : ℕ) → kind_named schema (Some kind) at name ≡ Ok n → n ≡ kind
kind_named-is schema kind at name n e = by_test (bytes_eq name (kind_name schema kind)) e where
  by_test : (b : Bool) → (if b then Ok kind else Err (at_pointer code.TypeMismatch (at // codes "type"))) ≡ Ok n → n ≡ kind
  by_test true e = cc e
  by_test false e = cc e

-- the type that data name is known
kind_named-known : (schema : Schema) (endpoint : Option ℕ) (at name : List ℕ) (n : ℕ) → IfSome endpoint (λ k. k < length schema) → kind_named schema endpoint at name ≡ Ok n → n < length schema
kind_named-known schema (Some kind) at name n known e = rw (kind_named-is schema kind at name n e) known
kind_named-known schema None at name n known e =
    (position-found (λ k. bytes_eq k.name name) schema n (ok_or-Ok (number_of_kind schema name) (at_pointer code.NotFound (at // codes "type")) n e)).3

-- what a type was named with
resource_kind-named : (schema : Schema) (endpoint : Option ℕ) (at : List ℕ) (d : Data) (n : ℕ) → resource_kind schema endpoint at d ≡ Ok n → (name : List ℕ) × (kind_named schema endpoint at name ≡ Ok n)
resource_kind-named schema endpoint at d n e =
    let a = then-Ok (object_at at d) _ n e in
    let b = bind-Ok (text_member at (codes "type") d) _ n a.2 in
    (b.0, b.2)

-- ---- a new resource

allowed_from : (schema : Schema) (kind : ℕ) → has_client_ids schema kind ≡ true → option_map (λ k. k.client_ids) (slice_get schema kind) ≡ Some true
allowed_from schema kind e = by_look (slice_get schema kind) e where
  by_look : (o : Option Kind) → option_map_or (λ k. k.client_ids) o false ≡ true → option_map (λ k. k.client_ids) o ≡ Some true
  by_look None e = cc e
  by_look (Some k) e = ap Some e

digits_pass : (id : List ℕ) → AllDigits 10 id → list_all is_ascii_digit id ≡ true
digits_pass [] a = refl
digits_pass (c ∷ cs) a =
    let range = digit_at (c ∷ []) 0 (a.0, tt) (omega arith) in
    let first : is_ascii_digit c ≡ true = grind (arith, nat_tests, range) in
    rw first (digits_pass cs a.1)

client_id-fits : (schema : Schema) (kind : ℕ) (at : List ℕ) (o : Option Data) (id : Option (List ℕ)) → client_id schema kind at o ≡ Ok id → MatchOption id ⊤ (FitsClientId schema kind)
client_id-fits schema kind at None id e = let same : id ≡ None = cc e in rw same tt
client_id-fits schema kind at (Some d) id e =
    let a = bind-Ok (ok_or (as_str d) (bad_document at)) _ id e in
    let b = then-Ok (err_if (not (has_client_ids schema kind)) (at_pointer code.ClientIdUnsupported at)) _ id a.2 in
    let c = then-Ok (err_if (not (is_id a.0)) (at_pointer code.BadId at)) _ id b.2 in
    let f = then-Ok (err_if (list_all is_ascii_digit a.0) (at_pointer code.ReservedId at)) (Ok (Some a.0)) id c.2 in
    let same : Some a.0 ≡ id = cc f.2 in
    let allowed = allowed_from schema kind (negated (has_client_ids schema kind) (err_if-Ok _ (at_pointer code.ClientIdUnsupported at) b.0 b.1)) in
    let rule : is_id a.0 ≡ true = negated (is_id a.0) (err_if-Ok _ (at_pointer code.BadId at) c.0 c.1) in
    let free : list_all is_ascii_digit a.0 ≡ false = err_if-Ok _ (at_pointer code.ReservedId at) f.0 f.1 in
    let fits : FitsClientId schema kind a.0 = record { is_id = rule; reserved = λ digits. cc (digits_pass a.0 digits, free); allowed = allowed } in
    subst (λ o. MatchOption o ⊤ (FitsClientId schema kind)) same fits

lid-fits : (lid : List ℕ) → is_lid lid ≡ true → IsLid lid
lid-fits lid e =
    let text = and_parts (nat_lt 0 (length lid) && nat_le (length lid) LID_LIMIT) (is_utf8 lid) e in
    let parts = and_parts (nat_lt 0 (length lid)) (nat_le (length lid) LID_LIMIT) text.0 in
    (ltb-true _ _ parts.0, leb-true _ _ parts.1, text.1)

local_id-fits : (at : List ℕ) (o : Option Data) (lid : Option (List ℕ)) → local_id at o ≡ Ok lid → MatchOption lid ⊤ IsLid
local_id-fits at None lid e = let same : lid ≡ None = cc e in rw same tt
local_id-fits at (Some d) lid e =
    let a = bind-Ok (ok_or (as_str d) (bad_document at)) _ lid e in
    let b = then-Ok (err_if (not (is_lid a.0)) (bad_document at)) (Ok (Some a.0)) lid a.2 in
    let same : Some a.0 ≡ lid = cc b.2 in
    let fits : IsLid a.0 = lid-fits a.0 (negated (is_lid a.0) (err_if-Ok _ (bad_document at) b.0 b.1)) in
    subst (λ o. MatchOption o ⊤ IsLid) same fits

-- a value that is found among those that are given has its attribute's form
found-fits : (schema : Schema) (kind n : ℕ) (given : List (ℕ × AttrValue)) (v : AttrValue) → AllByRecursion (FitsValue schema kind) given → find nat_cmp n given ≡ Some v → FitsValue schema kind (n, v)
found-fits schema kind n [] v a e = cc e
found-fits schema kind n (g ∷ given) v a e = by_test (eq_by_cmp nat_cmp n g.0) refl e (found-fits schema kind n given v a.1) where
  by_test : (b : Bool) → eq_by_cmp nat_cmp n g.0 ≡ b → cond b (Some g.1) (find nat_cmp n given) ≡ Some v → (find nat_cmp n given ≡ Some v → FitsValue schema kind (n, v)) → FitsValue schema kind (n, v)
  by_test true is e rest =
      let place : g.0 ≡ n = grind (arith, nat_tests, is) in
      let same : g.1 ≡ v = cc e in
      subst (λ m. FitsValue schema kind (m, v)) place (subst (λ w. FitsValue schema kind (g.0, w)) same a.0)
  by_test false is e rest = rest e

value-fits : (schema : Schema) (kind n : ℕ) (a : Attribute) (given : List (ℕ × AttrValue)) (v : AttrValue) → AllByRecursion (FitsValue schema kind) given → slice_get (attributes_of schema kind) n ≡ Some a → is_attribute a ≡ true
    → value_or_default given (n, a) ≡ Some v → HasForm a v
value-fits schema kind n a given v fits found rule e = by_given (find nat_cmp n given) refl e where
  by_null : (b : Bool) → a.nullable ≡ b → some_if b value.Null ≡ Some v → HasForm a v
  by_null true is e = let same : value.Null ≡ v = cc e in subst (λ w. HasForm a w) same is
  by_null false is e = cc e

  by_default : (o : Option AttrValue) → option_map_or (has_form a.form a.nullable) o true ≡ true → option_or o (some_if a.nullable value.Null) ≡ Some v → HasForm a v
  by_default None rule e = by_null a.nullable refl e
  by_default (Some w) rule e = let same : w ≡ v = cc e in subst (λ w. HasForm a w) same rule

  by_given : (o : Option AttrValue) → find nat_cmp n given ≡ o → option_or o (option_or a.default (some_if a.nullable value.Null)) ≡ Some v → HasForm a v
  by_given None is e = by_default a.default (and_parts _ _ rule).1 e
  by_given (Some w) is e =
      let same : w ≡ v = cc e in
      let kept : FitsValue schema kind (n, v) = found-fits schema kind n given v fits (is ∙ ap Some same) in
      subst (λ o. MatchOption o ⊥ (λ b. HasForm b v)) found kept

values-zip : (schema : Schema) (kind n : ℕ) (given : List (ℕ × AttrValue)) (attributes : List Attribute) (values : List AttrValue) → AllByRecursion (FitsValue schema kind) given
    → ((i : ℕ) → slice_get (attributes_of schema kind) (n + i) ≡ slice_get attributes i) → list_all is_attribute attributes ≡ true
    → AllZip (λ p v. value_or_default given p ≡ Some v) (enumerate_from n attributes) values → AllZip HasForm attributes values
values-zip schema kind n given [] [] fits places rules z = tt
values-zip schema kind n given [] (v ∷ values) fits places rules z = absurd z
values-zip schema kind n given (a ∷ attributes) [] fits places rules z = absurd z
values-zip schema kind n given (a ∷ attributes) (v ∷ values) fits places rules z =
    let parts = and_parts (is_attribute a) (list_all is_attribute attributes) rules in
    let here : n + 0 ≡ n = omega arith in
    let place : slice_get (attributes_of schema kind) n ≡ Some a = ap (slice_get (attributes_of schema kind)) (sym here) ∙ places 0 in (
      value-fits schema kind n a given v fits place parts.0 z.0,
      values-zip schema kind (n + 1) given attributes values fits (λ i. ap (slice_get (attributes_of schema kind)) (moved i) ∙ places (suc i)) parts.1 z.1,
    ) where
      moved : (i : ℕ) → (n + 1) + i ≡ n + suc i
      moved i = omega arith

attributes-keep : (schema : Schema) (kind : ℕ) → is_schema schema ≡ true → list_all is_attribute (attributes_of schema kind) ≡ true
attributes-keep schema kind rules = by_look (slice_get schema kind) refl where
  by_look : (o : Option Kind) → slice_get schema kind ≡ o → list_all is_attribute (option_map_or (λ (k : Kind). k.attributes) o []) ≡ true
  by_look None e = refl
  by_look (Some k) e = (kind_at-parts schema kind k rules e).attributes

all_values-fit : (schema : Schema) (kind : ℕ) (given : List (ℕ × AttrValue)) (values : List AttrValue) → is_schema schema ≡ true → AllByRecursion (FitsValue schema kind) given → all_values schema kind given ≡ Some values
    → AllZip HasForm (attributes_of schema kind) values
all_values-fit schema kind given values rules fits e =
    values-zip schema kind 0 given (attributes_of schema kind) values fits (λ i. ap (slice_get (attributes_of schema kind)) (none i)) (attributes-keep schema kind rules)
    (all_some-zip (value_or_default given) (enumerate_from 0 (attributes_of schema kind)) values e) where
      none : (i : ℕ) → 0 + i ≡ i
      none i = omega arith

-- a new resource fits, and is a Create
pub create_of-fits : (schema : Schema) (endpoint : Option ℕ) (at : List ℕ) (d : Data) (operation : Operation) → is_schema schema ≡ true → IsInByteOrder d → IfSome endpoint (λ k. k < length schema)
    → create_of schema endpoint at d ≡ Ok operation → FitsOperation schema operation × FitsForm reply_form.Created (operation ∷ [])
create_of-fits schema endpoint at d operation rules order known e =
    let a = bind-Ok (resource_kind schema endpoint at d) _ operation e in
    let b = bind-Ok (client_id schema a.0 (at // codes "id") (get (codes "id") d)) _ operation a.2 in
    let c = bind-Ok (local_id (at // codes "lid") (get (codes "lid") d)) _ operation b.2 in
    let f = bind-Ok (given_values schema a.0 at d) _ operation c.2 in
    let g = bind-Ok (given_links schema a.0 at d) _ operation f.2 in
    let h = bind-Ok (ok_or (all_values schema a.0 f.0) (at_pointer code.MissingField at)) _ operation g.2 in
    let same : Create a.0 b.0 c.0 h.0 g.0 ≡ operation = cc h.2 in
    let name = resource_kind-named schema endpoint at d a.0 a.1 in
    let values = given_values-fit schema a.0 at d f.0 rules order f.1 in
    let fits : FitsCreate schema a.0 b.0 c.0 h.0 g.0 = record {
      known = kind_named-known schema endpoint at name.0 a.0 known name.1;
      client_id = client_id-fits schema a.0 (at // codes "id") (get (codes "id") d) b.0 b.1;
      local_id = local_id-fits (at // codes "lid") (get (codes "lid") d) c.0 c.1;
      all_values = all_values-fit schema a.0 f.0 h.0 rules values.each (ok_or-Ok (all_values schema a.0 f.0) (at_pointer code.MissingField at) h.0 h.1);
      linkages = given_links-fit schema a.0 at d g.0 rules order g.1;
    } in
    subst (λ o. FitsOperation schema o × FitsForm reply_form.Created (o ∷ [])) same (fits, tt)

-- ---- an update

own_name-kind : (kind : ℕ) (at : List ℕ) (id lid : Option Data) (n : Named) → own_name kind at id lid ≡ Ok n → kind_of n ≡ kind
own_name-kind kind at (Some id) None n e = let a = map-Ok (λ t. named.Id (record { kind = kind; id = t })) (ok_or (as_str id) (bad_document (at // codes "id"))) n e in subst (λ n. kind_of n ≡ kind) a.2 refl
own_name-kind kind at None (Some lid) n e = let a = map-Ok (λ t. named.Lid kind t) (ok_or (as_str lid) (bad_document (at // codes "lid"))) n e in subst (λ n. kind_of n ≡ kind) a.2 refl
own_name-kind kind at (Some id) (Some lid) n e = cc e
own_name-kind kind at None None n e = cc e

-- the target of an update is named, with the type of the data
target-fits : (schema : Schema) (endpoint : Option Who) (at : List ℕ) (kind : ℕ) (typed : List ℕ) (n : Named) (who : Who) → IfSome endpoint (λ w. IsNamed schema w.named)
    → kind_named schema (option_map (λ w. kind_of w.named) endpoint) at typed ≡ Ok kind → kind_of n ≡ kind → target_of_update endpoint at n ≡ Ok who
    → IsNamed schema who.named × (kind_of who.named ≡ kind)
target-fits schema (Some w) at kind typed n who known k is e = by_test (same_named w.named n) e where
  by_test : (b : Bool) → (if b then Ok w else Err (at_pointer code.IdMismatch (at // name_member n))) ≡ Ok who → IsNamed schema who.named × (kind_of who.named ≡ kind)
  by_test true e = let same : w ≡ who = cc e in subst (λ w. IsNamed schema w.named × (kind_of w.named ≡ kind)) same (known, sym (kind_named-is schema (kind_of w.named) at typed kind k))
  by_test false e = cc e
target-fits schema None at kind typed n who known k is e = by_test (keeps_rule n) refl e where
  by_test : (b : Bool) → keeps_rule n ≡ b → (if b then Ok (record { named = n; place = stands.Data }) else Err (at_pointer code.NotFound (at // codes "id"))) ≡ Ok who → IsNamed schema who.named × (kind_of who.named ≡ kind)
  by_test true rule e =
      let same : record { named = n; place = stands.Data } ≡ who = cc e in
      let within : kind_of n < length schema = rw is (kind_named-known schema None at typed kind tt k) in
      subst (λ w. IsNamed schema w.named × (kind_of w.named ≡ kind)) same (rule-IsNamed schema n within rule, is)
  by_test false rule e = cc e

-- a changed resource fits, and is an Update
pub update_of-fits : (schema : Schema) (endpoint : Option Who) (at : List ℕ) (d : Data) (operation : Operation) → is_schema schema ≡ true → IsInByteOrder d → IfSome endpoint (λ w. IsNamed schema w.named)
    → update_of schema endpoint at d ≡ Ok operation → FitsOperation schema operation × FitsForm reply_form.Updated (operation ∷ [])
update_of-fits schema endpoint at d operation rules order known e =
    let a = bind-Ok (resource_kind schema (option_map (λ who. kind_of who.named) endpoint) at d) _ operation e in
    let c = bind-Ok (who_of a.0 endpoint at d) _ operation a.2 in
    let b = bind-Ok (own_name a.0 at (get (codes "id") d) (lid_in endpoint d)) _ c.0 c.1 in
    let f = bind-Ok (given_values schema a.0 at d) _ operation c.2 in
    let g = bind-Ok (given_links schema a.0 at d) _ operation f.2 in
    let same : Update c.0 f.0 g.0 ≡ operation = cc g.2 in
    let name = resource_kind-named schema (option_map (λ who. kind_of who.named) endpoint) at d a.0 a.1 in
    let who = target-fits schema endpoint at a.0 name.0 b.0 c.0 known name.1 (own_name-kind a.0 at (get (codes "id") d) (lid_in endpoint d) b.0 b.1) b.2 in
    let values = subst (λ k. FitsValues schema k f.0) (sym who.1) (given_values-fit schema a.0 at d f.0 rules order f.1) in
    let links = subst (λ k. FitsLinks schema k g.0) (sym who.1) (given_links-fit schema a.0 at d g.0 rules order g.1) in
    subst (λ o. FitsOperation schema o × FitsForm reply_form.Updated (o ∷ [])) same ((who.0, values, links), tt)
