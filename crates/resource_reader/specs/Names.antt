-- What a text names, before an id is judged.
use Rattle.std.specs.Prelude.{ℕ}
use Rattle.task_forms.specs.declared.operations.Named.{Named}
use Rattle.task_forms.specs.declared.operations.Named.TheVariants as named
use Rattle.resource_reader.specs.declared.identifiers.NameText.{NameText}
use Rattle.resource_reader.specs.declared.identifiers.NameText.TheVariants as name_text

abbrev pub named_by_name : ℕ → NameText → Named
named_by_name kind (name_text.Id text) = named.Id (record { kind = kind; id = text.now })
named_by_name kind (name_text.Lid text) = named.Lid kind text.now
