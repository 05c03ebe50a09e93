-- What comes of a binding.
use Rattle.std.specs.Prelude.{◌≡◌, ℕ, List, Some, None, is_some, true}
use Rattle.std.specs.FinMap.Entries.{find}
use Rattle.store_model.specs.Change.{Lids, lid_cmp, bind}
use Rattle.local_ids.specs.declared.bound.Bind.{Bind}
use Rattle.local_ids.specs.declared.bound.Bind.TheVariants.{Bound, Taken, NoMemory}

-- what the answer says of the local ids before and after
abbrev pub IsBind : Bind → Lids → Lids → ℕ → List ℕ → List ℕ → Type 0
IsBind Bound old new kind lid id = (find lid_cmp (kind, lid) old ≡ None) × (new ≡ bind old kind (Some lid) id)
IsBind Taken old new kind lid id = (is_some (find lid_cmp (kind, lid) old) ≡ true) × (new ≡ old)
IsBind NoMemory old new kind lid id = (find lid_cmp (kind, lid) old ≡ None) × (new ≡ old)
