use Rattle.std.proofs.Common.{◌∙◌, ap, subst, sym}
use Rattle.std.specs.Option.{option_map}
use Rattle.serde_json.specs.View.{view}
use Rattle.json_forms.specs.Json.{json_of}
use Rattle.request_model.specs.SchemaFile.{schema_of}
use Rattle.schema_file.specs.Finds.{IsEnd}
use Rattle.workload_command.proofs.BlogRead.{no-fault, no-other-text}
use Rattle.workload_command.proofs.blog.blog_schema.Goals as goal

pub unreachable-requires : goal.unreachable-requires
unreachable-requires c =
    let text = ap json_of (c.as_bytes.ensures.value ∙ c.blog_text.ensures) in
    no-other-text (sym (ap (option_map view) c.in_default.is) ∙ (c.in_ok-value.ensures ∙ text))

pub unreachable-requires-in-Err-Fault : goal.unreachable-requires-in-Err-Fault
unreachable-requires-in-Err-Fault c =
    let text = ap json_of (c.as_bytes.ensures.value ∙ c.blog_text.ensures) in
    let d = view c.in-Some.value in
    no-fault d (record { place = c.in-Err-Fault.field-0-0; why = c.in-Err-Fault.field-0-1 })
    (sym (ap (option_map view) c.in-Some.is) ∙ (c.in_ok-value.ensures ∙ text))
    (subst (λ end. IsEnd end (schema_of d)) c.in-Err-Fault.field-0-is c.in-Err-Fault.ensures)
