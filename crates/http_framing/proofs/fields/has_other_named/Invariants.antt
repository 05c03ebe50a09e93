use Rattle.std.proofs.Common.{◌≡◌, drop}
use Rattle.std.specs.Prelude.{not}
use Rattle.std.specs.List.{list_any}
use Rattle.http_model.specs.Framings.{values_of, same_in_any_case}
use Rattle.http_framing.proofs.fields.has_other_named.Given as goal

abbrev pub invariant-loop-field : goal.invariant-loop-field
invariant-loop-field l =
    list_any (λ e. not (same_in_any_case e l.word)) (values_of l.name (drop l.field-index l.fields))
    ≡ list_any (λ e. not (same_in_any_case e l.word)) (values_of l.name l.fields)
