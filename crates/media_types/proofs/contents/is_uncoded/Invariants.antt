use Rattle.std.proofs.Common.{◌≡◌}
use Rattle.std.specs.Prelude.{codes}
use Rattle.std.specs.List.{list_all}
use Rattle.request_model.specs.Negotiation.{is_identity, field_values}
use Rattle.media_types.specs.ValuesLeft.{values_left}
use Rattle.media_types.proofs.contents.is_uncoded.Given as goal

abbrev pub invariant-loop-coding : goal.invariant-loop-coding
invariant-loop-coding l = list_all is_identity (values_left l.coding-iterator) ≡ list_all is_identity (field_values (codes "content-encoding") l.fields)
