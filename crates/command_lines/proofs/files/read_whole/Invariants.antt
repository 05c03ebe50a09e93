use Rattle.std.proofs.Common.{◌≡◌, ◌-◌, ◌+◌}
use Rattle.std.specs.Prelude.{vec_len}
use Rattle.std.specs.Io.KnownBytes.{Consumes}
use Rattle.command_lines.proofs.files.read_whole.Given as goal

abbrev pub invariant-reading : goal.invariant-reading
invariant-reading g l =
    let before = g.S.Source.told l.fn.source in
    let now = g.S.Source.told l.source in
    (now.faults ≡ before.faults) × Consumes before.left now.left l.bytes.items

abbrev pub decreases-reading : goal.decreases-reading
decreases-reading g l = l.limit + 1 - vec_len l.bytes
