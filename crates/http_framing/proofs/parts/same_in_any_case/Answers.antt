use Rattle.http_model.specs.Framings.{lower}
use Rattle.http_framing.proofs.SameBytes.{decided}
use Rattle.http_framing.proofs.parts.same_in_any_case.Goals as goal

pub returns : goal.returns
returns c = decided _ (lower c.args.a.now) (lower c.args.b.now) c.eq_ignore_ascii_case.ensures.test
