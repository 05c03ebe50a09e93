-- A parameter that is read leaves the pairs as they are, and pairs are read one after another.
use Rattle.std.proofs.Common.{◌≡◌, ℕ, List, [], ◌∷◌, ◌++◌, true, false, Some, None, Result, Ok, Err, ap, sym, ◌∙◌}
use Rattle.resource_schema.specs.declared.schema.Schema.{Schema}
use Rattle.resource_schema.specs.declared.targets.Target.{Target}
use Rattle.error_objects.specs.declared.codes.Code.TheVariants as code
use Rattle.error_objects.specs.declared.refusals.Refusal.{Refusal}
use Rattle.error_objects.specs.Refusals.{at_parameter}
use Rattle.task_forms.specs.Queries.{first_page}
use Rattle.request_model.specs.declared.forms.Asked.{Asked}
use Rattle.request_model.specs.declared.forms.Parameter.{Parameter}
use Rattle.request_model.specs.declared.forms.Parameter.TheVariants as parameter
use Rattle.request_model.specs.Results.{◌>>=◌, ◌>>◌, err_if}
use Rattle.request_model.specs.Queries.{field_set_named, has_name, known_parameter, or_bad, page_size_of, paths_of, primary_kind, sort_keys_of, with_pair, with_parameter, with_query}
use Rattle.request_model.specs.ReadingLaws.{map-Ok}

module _ (schema : Schema) (kind : ℕ) (asked more : Asked) (name value : List ℕ) where
  pub pairs-kept : (p : Parameter) → with_parameter schema kind asked name value p ≡ Ok more → more.query.pairs ≡ asked.query.pairs
  pairs-kept parameter.Include e =
      let a = map-Ok (λ paths. with_query asked (record asked.query { include = Some paths })) (or_bad code.BadInclude name (paths_of schema kind value)) more e in
      ap (λ m. m.query.pairs) (sym a.2)
  pairs-kept parameter.Fields e =
      let a = map-Ok (λ fs. with_query asked (record asked.query { fields = asked.query.fields ++ fs ∷ [] })) (or_bad code.BadFields name (field_set_named schema name value)) more e in
      ap (λ m. m.query.pairs) (sym a.2)
  pairs-kept parameter.Sort e =
      let a = map-Ok (λ keys. with_query asked (record asked.query { sort = keys })) (or_bad code.BadSort name (sort_keys_of schema kind value)) more e in
      ap (λ m. m.query.pairs) (sym a.2)
  pairs-kept parameter.PageSize e =
      let a = map-Ok (λ n. with_query asked (record asked.query { page = record first_page { size = n } })) (or_bad code.BadPageSize name (page_size_of value)) more e in
      ap (λ m. m.query.pairs) (sym a.2)
  pairs-kept parameter.PageAfter e = let same : record asked { after = Some value } ≡ more = cc e in ap (λ m. m.query.pairs) (sym same)
  pairs-kept parameter.PageBefore e = let same : record asked { before = Some value } ≡ more = cc e in ap (λ m. m.query.pairs) (sym same)

module _ (schema : Schema) (t : Target) (asked : Asked) (name value : List ℕ) where
  abbrev on_known : Parameter → Result Asked Refusal
  on_known p = do
    err_if (has_name name asked.query.pairs) (at_parameter code.RepeatedParameter name)
    more ← with_parameter schema (primary_kind schema t) asked name value p
    Ok (with_query more (record more.query { pairs = asked.query.pairs ++ (name, value) ∷ [] }))

  abbrev on_more : Result Asked Refusal → Result Asked Refusal
  on_more r = ◌>>=◌ r (λ more. Ok (with_query more (record more.query { pairs = asked.query.pairs ++ (name, value) ∷ [] })))

  -- a name that the target does not know
  pub pair-unknown : known_parameter schema t name ≡ None → with_pair schema t asked (name, value) ≡ Err (at_parameter code.UnknownParameter name)
  pair-unknown e = ap (λ o. ◌>>=◌ (or_bad code.UnknownParameter name o) on_known) e

  module _ (p : Parameter) (known : known_parameter schema t name ≡ Some p) where
    so_known : with_pair schema t asked (name, value) ≡ on_known p
    so_known = ap (λ o. ◌>>=◌ (or_bad code.UnknownParameter name o) on_known) known

    -- a name that stood before
    pub pair-repeated : has_name name asked.query.pairs ≡ true → with_pair schema t asked (name, value) ≡ Err (at_parameter code.RepeatedParameter name)
    pair-repeated twice = so_known ∙ ap (λ b. ◌>>◌ (err_if b (at_parameter code.RepeatedParameter name)) (on_more (with_parameter schema (primary_kind schema t) asked name value p))) twice

    module _ (once : has_name name asked.query.pairs ≡ false) where
      so_once : with_pair schema t asked (name, value) ≡ on_more (with_parameter schema (primary_kind schema t) asked name value p)
      so_once = so_known ∙ ap (λ b. ◌>>◌ (err_if b (at_parameter code.RepeatedParameter name)) (on_more (with_parameter schema (primary_kind schema t) asked name value p))) once

      -- a value that is refused
      pub pair-refused : (r : Refusal) → with_parameter schema (primary_kind schema t) asked name value p ≡ Err r → with_pair schema t asked (name, value) ≡ Err r
      pair-refused r e = so_once ∙ ap on_more e

      -- a pair that is kept
      pub pair-read : (more : Asked) → with_parameter schema (primary_kind schema t) asked name value p ≡ Ok more
          → with_pair schema t asked (name, value) ≡ Ok (with_query more (record more.query { pairs = more.query.pairs ++ (name, value) ∷ [] }))
      pair-read more e =
          so_once ∙ ap on_more e
          ∙ ap (λ ps. Ok (with_query more (record more.query { pairs = ps ++ (name, value) ∷ [] }))) (sym (pairs-kept schema (primary_kind schema t) asked more name value p e))
