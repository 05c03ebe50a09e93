use Rattle.std.proofs.Common.{◌≡◌, ◌++◌, map}
use Rattle.document_parts.specs.Walks.{members_in, seen}
use Rattle.schema_file.proofs.kinds.type_names.Given as goal

abbrev pub invariant-loop-name : goal.invariant-loop-name
invariant-loop-name l = map (λ t. t.0) (members_in l.types) ≡ l.names.items ++ map (λ t. t.0) (seen l.name-iterator)
