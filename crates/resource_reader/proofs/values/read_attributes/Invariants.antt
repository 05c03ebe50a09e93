use Rattle.std.proofs.Common.{◌≡◌, map}
use Rattle.request_model.specs.Words.{all_ok}
use Rattle.request_model.specs.ReadingLaws.{onto}
use Rattle.request_model.specs.Documents.{given_value}
use Rattle.document_parts.specs.Walks.{members_in, seen}
use Rattle.resource_reader.specs.Fields.{fields_among, attributes_pointer}
use Rattle.resource_reader.proofs.values.read_attributes.Given as goal

abbrev pub invariant-loop-name : goal.invariant-loop-name
invariant-loop-name l =
    all_ok (map (given_value l.schema l.kind (attributes_pointer l.at)) (fields_among (members_in l.fn.members))) ≡ onto l.values.items (all_ok (map (given_value l.schema l.kind (attributes_pointer l.at)) (fields_among (seen l.name-iterator))))
