use Rattle.std.proofs.Common.{◌≡◌, drop}
use Rattle.std.specs.List.{list_any}
use Rattle.httparse.specs.Grammar.{trim_ows}
use Rattle.http_model.specs.Framings.{values_of, parts_of, same_in_any_case}
use Rattle.http_framing.proofs.fields.has_part_named.Given as goal

abbrev pub invariant-loop-field : goal.invariant-loop-field
invariant-loop-field l =
    list_any (λ o. same_in_any_case (trim_ows o) l.word) (parts_of (values_of l.name (drop l.field-index l.fields)))
    ≡ list_any (λ o. same_in_any_case (trim_ows o) l.word) (parts_of (values_of l.name l.fields))
