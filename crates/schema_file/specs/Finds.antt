-- What a reader of a schema file answers, against a definition that knows no want of memory.
use Rattle.std.specs.Prelude.{◌≡◌, ⊤, Result, Ok, Err}
use Rattle.resource_schema.specs.declared.faults.SchemaFault.{SchemaFault}
use Rattle.schema_file.specs.declared.faults.SchemaEnd.{SchemaEnd}
use Rattle.schema_file.specs.declared.faults.SchemaEnd.TheVariants.{Fault, NoMemory}

-- an end for this fault
abbrev pub IsFault : SchemaEnd → SchemaFault → Type 0
IsFault (Fault place why) f = f ≡ record { place = place; why = why }
IsFault NoMemory f = ⊤

-- an end by what the definition says
abbrev pub IsEnd : {T : Type 0} → SchemaEnd → Result T SchemaFault → Type 0
IsEnd (Fault place why) d = d ≡ Err (record { place = place; why = why })
IsEnd NoMemory d = ⊤

-- what the definition says
abbrev pub Finds : {T : Type 0} → Result T SchemaEnd → Result T SchemaFault → Type 0
Finds (Ok x) d = d ≡ Ok x
Finds (Err end) d = IsEnd end d
