-- The text of the blog is that of a schema.
use Rattle.std.proofs.Common.{◌≡◌, ◌∙◌, true, None, Some, Err, is_some, is_ok, refl, ap, sym}
use Rattle.std.proofs.lemmas.Bool.{false≢true}
use Rattle.std.specs.Prelude.{codes}
use Rattle.std.specs.Option.{ok_or}
use Rattle.serde_json.specs.Data.{Data}
use Rattle.json_forms.specs.Json.{json_of}
use Rattle.resource_schema.specs.declared.faults.SchemaFault.{SchemaFault}
use Rattle.resource_schema.specs.declared.faults.Why.TheVariants as why
use Rattle.request_model.specs.Results.{◌>>=◌}
use Rattle.request_model.specs.SchemaFile.{fault, schema_of, schema_of_text}
use Rattle.workload_command.specs.Blog.{blog_text}
use Rattle.workload_command.proofs.OnLiterals.{schemas_on_literals}

is-json : is_some (json_of blog_text) ≡ true
unfolding schemas_on_literals
is-json = refl

is-schema : is_ok (schema_of_text blog_text) ≡ true
unfolding schemas_on_literals
is-schema = refl

pub no-other-text : None ≡ json_of blog_text → ⊥
no-other-text none = false≢true (ap is_some none ∙ is-json)

-- the value of the text gives no fault
pub no-fault : (d : Data) (f : SchemaFault) → Some d ≡ json_of blog_text → schema_of d ≡ Err f → ⊥
no-fault d f is wrong =
    let read : schema_of d ≡ schema_of_text blog_text = ap (λ o. ◌>>=◌ (ok_or o (fault (codes "/") why.NoJson)) schema_of) is in
    false≢true (sym (ap is_ok wrong) ∙ ap is_ok read ∙ is-schema)
