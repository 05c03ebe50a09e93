-- The word that is printed for each fault of a schema file (of this project).
use Rattle.std.specs.Prelude.{ℕ, List, codes}
use Rattle.resource_schema.specs.declared.faults.Why.{Why}
use Rattle.resource_schema.specs.declared.faults.Why.TheVariants as why

abbrev pub word_of : Why → List ℕ
word_of why.NoJson = codes "json"
word_of why.NotObject = codes "object"
word_of why.Empty = codes "empty"
word_of why.Limit = codes "limit"
word_of why.BadName = codes "name"
word_of why.Reserved = codes "reserved"
word_of why.Shared = codes "shared"
word_of why.BadFlag = codes "flag"
word_of why.BadType = codes "type"
word_of why.BadDefault = codes "default"
word_of why.BadKind = codes "kind"
word_of why.BadTarget = codes "target"
