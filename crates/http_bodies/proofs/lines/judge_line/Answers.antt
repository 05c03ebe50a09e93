use Rattle.std.proofs.Common.{subst}
use Rattle.httparse.specs.Grammar.{NeverHasChunkLine}
use Rattle.http_bodies.proofs.LineFronts.{has_line, no_line}
use Rattle.http_bodies.proofs.lines.judge_line.Goals as goal

pub returns-in-Ok-Complete : goal.returns-in-Ok-Complete
returns-in-Ok-Complete c = λ buffer same.
    let found = rw c.in-Ok-Complete.field-0-is at c.in-Ok-Complete.ensures.complete in
    has_line buffer c.args.bytes.now _ _ found.0 same found.1

pub returns-in-Err : goal.returns-in-Err
returns-in-Err c = λ buffer same.
    let never = subst NeverHasChunkLine same c.in-Err.ensures.invalid in
    (no_line _ never, never)
