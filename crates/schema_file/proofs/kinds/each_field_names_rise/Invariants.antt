use Rattle.std.specs.List.{AllByRecursion}
use Rattle.request_model.specs.SchemaFile.{FieldNamesRise}
use Rattle.document_parts.specs.Walks.{members_in, seen}
use Rattle.schema_file.proofs.kinds.each_field_names_rise.Given as goal

abbrev pub invariant-loop-name : goal.invariant-loop-name
invariant-loop-name l = AllByRecursion (λ m. FieldNamesRise m.1) (seen l._name-iterator) → AllByRecursion (λ m. FieldNamesRise m.1) (members_in l.types)
