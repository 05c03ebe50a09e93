use Rattle.std.proofs.Common.{◌≡◌, map}
use Rattle.request_model.specs.Words.{all_ok}
use Rattle.request_model.specs.ReadingLaws.{onto}
use Rattle.request_model.specs.SchemaFile.{kind_from}
use Rattle.document_parts.specs.Walks.{members_in, seen}
use Rattle.schema_file.proofs.kinds.read_kinds.Given as goal

abbrev pub invariant-loop-name : goal.invariant-loop-name
invariant-loop-name l =
    all_ok (map (kind_from l.kinds) (members_in l.fn.types)) ≡ onto l.read.items (all_ok (map (kind_from l.kinds) (seen l.name-iterator)))
