use Rattle.std.proofs.Common.{◌≡◌, ◌<◌, drop}
use Rattle.world_cells.specs.declared.slots.TheConstants.{SLOTS}
use Rattle.world_cells.specs.Slots.{with_bytes}
use Rattle.world_cells.proofs.slots.with_bytes.Given as goal

-- the bytes that are left lead on to the slot
abbrev pub invariant-loop-byte : goal.invariant-loop-byte
invariant-loop-byte l = record { within : l.now < SLOTS; left : with_bytes l.fn.slot l.bytes ≡ with_bytes l.now (drop l.byte-index l.bytes) }
