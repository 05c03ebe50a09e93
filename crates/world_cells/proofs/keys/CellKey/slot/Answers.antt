use Rattle.std.proofs.Common.{sym, ap, ◌∙◌, ◌++◌}
use Rattle.std.specs.Int.{w32, to_be_bytes}
use Rattle.world_cells.specs.Slots.{with_bytes, bytes_of_key, with_bytes-append, slot_of}
use Rattle.world_cells.proofs.keys.CellKey.slot.Goals as goal

pub returns-in-Back-clause-slot : goal.returns-in-Back-clause-slot
returns-in-Back-clause-slot c =
    let to = bytes_of_key c.in-Back.to in
    let from = bytes_of_key c.in-Back.from in
    let rel = to_be_bytes w32 c.in-Back.rel in
    c.with_number.ensures.slot
    ∙ ap (λ s. with_bytes s rel) (c.with_key-in-Back-2.ensures.slot ∙ ap (λ s. with_bytes s from) c.with_key-in-Back.ensures.slot)
    ∙ sym (with_bytes-append (with_bytes 1 to) from rel)
    ∙ sym (with_bytes-append 1 to (from ++ rel))
    ∙ ap slot_of (sym c.in-Back.is)
