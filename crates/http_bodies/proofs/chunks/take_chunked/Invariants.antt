use Rattle.std.proofs.Common.{◌≡◌, ◌-◌, ◌*◌, ◌≤◌, length}
use Rattle.http_bodies.specs.Pieces.{ChunksRead}
use Rattle.http_messages.specs.declared.limits.TheConstants.{BODY_LIMIT}
use Rattle.http_bodies.proofs.chunks.take_chunked.Given as goal

abbrev pub invariant-chunks : goal.invariant-chunks
invariant-chunks g l = record {
  read : ChunksRead l.fn.buffer l.buffer l.body.items l.place (g.S.Source.told l.fn.source) (g.S.Source.told l.source);
  count : (g.S.Source.told l.source).faults ≡ (g.S.Source.told l.fn.source).faults;
  within : length l.body.items ≤ BODY_LIMIT;
  low : l.place ≤ 1027 * length l.body.items;
}

abbrev pub decreases-chunks : goal.decreases-chunks
decreases-chunks g l = 1048577 - length l.body.items
