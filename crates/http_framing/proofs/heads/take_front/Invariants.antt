use Rattle.std.proofs.Common.{◌≡◌, ◌-◌, length}
use Rattle.http_framing.specs.Fills.{Adds}
use Rattle.http_messages.specs.declared.limits.TheConstants.{HEAD_LIMIT}
use Rattle.http_framing.proofs.heads.take_front.Given as goal

abbrev pub invariant-reading : goal.invariant-reading
invariant-reading g l = record {
  adds : Adds l.fn.buffer l.buffer (g.S.Source.told l.fn.source) (g.S.Source.told l.source);
  count : (g.S.Source.told l.source).faults ≡ (g.S.Source.told l.fn.source).faults;
}

abbrev pub decreases-reading : goal.decreases-reading
decreases-reading g l = HEAD_LIMIT - length l.buffer
