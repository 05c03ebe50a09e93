-- What a reader of a list answers, against a definition that knows no want of memory.
use Rattle.std.specs.Prelude.{◌≡◌, ⊤, List, Result, Ok, Err, Vec}
use Rattle.std.specs.Global.{Global}
use Rattle.error_objects.specs.declared.refusals.Read.{Read}
use Rattle.error_objects.specs.declared.refusals.Read.TheVariants as read
use Rattle.error_objects.specs.declared.refusals.Refusal.{Refusal}

abbrev pub IsReadVec : {T : Type 0} → Read (Vec T Global) → Result (List T) Refusal → Type 0
IsReadVec (read.Good v) d = d ≡ Ok v.items
IsReadVec (read.Refused r) d = d ≡ Err r
IsReadVec read.NoMemory d = ⊤
