use Rattle.std.proofs.Common.{◌≡◌, map}
use Rattle.request_model.specs.Words.{all_ok}
use Rattle.request_model.specs.ReadingLaws.{onto}
use Rattle.request_model.specs.SchemaFile.{attribute_from}
use Rattle.document_parts.specs.Walks.{members_in, seen}
use Rattle.schema_file.proofs.kinds.read_attributes.Given as goal

abbrev pub invariant-loop-name : goal.invariant-loop-name
invariant-loop-name l =
    all_ok (map (attribute_from l.group) (members_in l.fn.members)) ≡ onto l.attributes.items (all_ok (map (attribute_from l.group) (seen l.name-iterator)))
