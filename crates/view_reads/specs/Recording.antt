-- What a recorder has read and written, and what its calls answer and leave.
use Rattle.std.specs.Prelude.{◌≡◌, true, false, Bool, IsTrue, ◌++◌, List, [], ◌∷◌, Option, Result, Ok, Err}
use Rattle.std.specs.Borrow.{Bor}
use Rattle.std.specs.Option.{option_copied, option_map}
use Rattle.ident_rules.specs.declared.memory.NoMemory.{NoMemory}
use Rattle.world_cells.specs.declared.keys.CellKey.{CellKey}
use Rattle.world_cells.specs.declared.cells.Cell.{Cell}
use Rattle.world_cells.specs.declared.spans.Span.{Span}
use Rattle.world_cells.specs.declared.sets.ReadSet.{ReadSet}
use Rattle.world_cells.specs.declared.sets.Written.{Written}
use Rattle.view_reads.specs.Joining.{AddsPart}
use Rattle.world_cells.specs.Reads.{Cells, covers, overlay, IsFirstIn, IsLastIn}

-- the view below, what was read of it, and what was written over it
pub record Recording (V : Type 0) : Type 0 where
  pub store : V
  pub reads : ReadSet
  pub writes : List Written

-- the reads with one more key
abbrev pub read_key : ReadSet → CellKey → ReadSet
read_key reads key = record reads { keys = reads.keys ++ key ∷ [] }

-- The reads with one more part of a span, from its low end or from its top to the key that was found: covered is what was
-- covered and the part, nothing else. A part that goes on where the last one ended widens that one.
pub record ReadsPart (before : ReadSet) (span : Span) (found : Option CellKey) (from_top : Bool) (after : ReadSet) : Type 0 where
  pub keys : after.keys ≡ before.keys
  pub parts : AddsPart before.parts (record { span = span; found = found; from_top = from_top }) after.parts

-- what a look at a key answers and leaves
abbrev pub Looked : {V : Type 0} → (V → Cells) → Recording V → CellKey → Result (Option (Bor Cell)) NoMemory → Recording V → Type 0
Looked cells old key (Ok found) new = (option_copied found ≡ overlay (cells old.store) old.writes key) × (new ≡ record old { reads = read_key old.reads key })
Looked cells old key (Err e) new = new ≡ old

-- the keys and cells behind the references
abbrev pub pair_now : Bor CellKey × Bor Cell → CellKey × Cell
pair_now p = (p.0.now, p.1.now)

-- a look into a span leaves the view and the writes, and reads the part up to what was found
pub record LooksInto {V : Type 0} (before : Recording V) (span : Span) (found : Option CellKey) (from_top : Bool) (after : Recording V) : Type 0 where
  pub store : after.store ≡ before.store
  pub writes : after.writes ≡ before.writes
  pub reads : ReadsPart before.reads span found from_top after.reads

-- the key of what was found
abbrev pub found_key : Option (Bor CellKey × Bor Cell) → Option CellKey
found_key found = option_map (λ p. p.0.now) found

-- what a look into a span answers and leaves
abbrev pub LookedFirst : {V : Type 0} → (V → Cells) → Recording V → Span → Result (Option (Bor CellKey × Bor Cell)) NoMemory → Recording V → Type 0
LookedFirst cells old span (Ok found) new =
    IsFirstIn (overlay (cells old.store) old.writes) span (option_map pair_now found) × LooksInto old span (found_key found) false new
LookedFirst cells old span (Err e) new = new ≡ old

-- what a look into a span from its top answers and leaves
abbrev pub LookedLast : {V : Type 0} → (V → Cells) → Recording V → Span → Result (Option (Bor CellKey × Bor Cell)) NoMemory → Recording V → Type 0
LookedLast cells old span (Ok found) new =
    IsLastIn (overlay (cells old.store) old.writes) span (option_map pair_now found) × LooksInto old span (found_key found) true new
LookedLast cells old span (Err e) new = new ≡ old

-- a recording of the same view whose reads cover at least as much
pub record Follows {V : Type 0} (before after : Recording V) : Type 0 where
  pub store : after.store ≡ before.store
  pub reads : (k : CellKey) → IsTrue (covers before.reads k) → IsTrue (covers after.reads k)
