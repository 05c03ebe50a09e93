use Rattle.std.proofs.Common.{◌≡◌, ◌-◌, ◌<◌, ◌≤◌, [], length}
use Rattle.std.specs.Prelude.{vec_capacity}
use Rattle.http_bodies.specs.Parts.{Moved}
use Rattle.http_bodies.proofs.parts.take_part.Given as goal

abbrev pub invariant-reading : goal.invariant-reading
invariant-reading g l = record {
  moved : Moved l.fn.body.items l.body.items l.fn.buffer l.buffer (g.S.Source.told l.fn.source) (g.S.Source.told l.source);
  count : (g.S.Source.told l.source).faults ≡ (g.S.Source.told l.fn.source).faults;
  room : vec_capacity l.fn.body ≤ vec_capacity l.body;
  within : length l.body.items ≤ l.whole;
  used : length l.body.items < l.whole → l.buffer ≡ [];
}

abbrev pub decreases-reading : goal.decreases-reading
decreases-reading g l = l.whole - length l.body.items
