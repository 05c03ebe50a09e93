-- What it says to open a source by its name, and to give it back.
use Rattle.std.specs.Prelude.{◌≡◌, ℕ, ◌<◌, ◌≤◌, List, [], ⊤, Result, Ok, Err, IfSome, IsSome, None}
use Rattle.std.specs.List.{find}
use Rattle.std.specs.Str.{bytes_eq}
use Rattle.std.specs.Option.{option_map}
use Rattle.std.specs.declared.option.Option.{Option}
use Rattle.outer_ends.specs.declared.traits.OpenEnd.{OpenEnd}
use Rattle.outer_ends.specs.declared.traits.OpenEnd.TheVariants as end
use Rattle.outer_ends.specs.Causes.{Rose, one_more}
use Rattle.outer_ends.specs.Told.{SourceTold, OpenerTold}

-- the bytes of the first file of that name, in a list of names and bytes
abbrev pub bytes_of : List ℕ → List (List ℕ × List ℕ) → Option (List ℕ)
bytes_of name files = option_map (λ file. file.1) (find (λ file. bytes_eq file.0 name) files)

-- a miss is answered only where the count of misses rose, and every other answer leaves it
abbrev pub HasMisses : {S : Type 0} → OpenerTold → OpenerTold → Result S OpenEnd → Type 0
HasMisses before now (Ok source) = now.misses ≡ before.misses
HasMisses before now (Err end.Missing) = (before.misses ≤ now.misses) × Rose before.misses now.misses
HasMisses before now (Err end.Failed) = now.misses ≡ before.misses

-- a fault is answered only where the count of faults rose, and every other answer leaves it
abbrev pub HasFaults : {S : Type 0} → OpenerTold → OpenerTold → Result S OpenEnd → Type 0
HasFaults before now (Ok source) = now.faults ≡ before.faults
HasFaults before now (Err end.Missing) = now.faults ≡ before.faults
HasFaults before now (Err end.Failed) = (before.faults ≤ now.faults) × Rose before.faults now.faults

-- a miss is one more miss, and a fault one more fault
abbrev pub CountsOne : {S : Type 0} → OpenerTold → OpenerTold → Result S OpenEnd → Type 0
CountsOne before now (Ok source) = ⊤
CountsOne before now (Err end.Missing) = now.misses ≡ one_more before.misses
CountsOne before now (Err end.Failed) = now.faults ≡ one_more before.faults

-- a source of which nothing was taken, where it tells what was, and which has not failed
pub record IsFresh (source : SourceTold) : Type 0 where
  pub nothing_taken : IfSome source.taken (λ bytes. bytes ≡ [])
  pub no_faults : source.faults ≡ 0

-- what `open` answers where the files are told: `found` are the bytes of the name, if there are any.
-- A source has just these bytes left, and a miss says that the name is not there; so without a fault
-- it is a miss exactly where the name is not there
abbrev pub Opens : {S : Type 0} → (S → SourceTold) → Option (List ℕ) → Result S OpenEnd → Type 0
Opens told found (Ok source) = IsSome found × ((told source).left ≡ found)
Opens told found (Err end.Missing) = found ≡ None
Opens told found (Err end.Failed) = ⊤

-- a source is given back: where it failed the count rises, and else it stays
pub record AddsFaults (given : SourceTold) (before now : OpenerTold) : Type 0 where
  pub later : before.faults ≤ now.faults
  pub kept : given.faults ≡ 0 → now.faults ≡ before.faults
  pub counted : 0 < given.faults → Rose before.faults now.faults
