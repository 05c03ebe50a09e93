use Rattle.std.proofs.Common.{arith}
use Rattle.http_framing.proofs.CommaParts.{parts_some, parts_on, parts_at, parts_end}
use Rattle.http_framing.proofs.parts.comma_at.Goals as goal

pub loop-at-init : goal.loop-at-init
loop-at-init c = record { within = omega arith; parts = parts_some c.args.bytes.now }

pub returns-then-bytes-at-eq44-clause-parts : goal.returns-then-bytes-at-eq44-clause-parts
returns-then-bytes-at-eq44-clause-parts c = parts_at c.args.bytes.now c.loop-at.at c.loop-at-test.true c.if-bytes-at-eq44.true c.loop-at.invariant.parts

pub loop-at-preserved : goal.loop-at-preserved
loop-at-preserved c = record {
  within = omega arith;
  parts = parts_on c.args.bytes.now c.loop-at.at c.loop-at-test.true c.if-bytes-at-eq44.false c.loop-at.invariant.parts;
}

pub returns-clause-parts : goal.returns-clause-parts
returns-clause-parts c = parts_end c.args.bytes.now c.loop-at.at (omega arith) c.loop-at.invariant.parts
