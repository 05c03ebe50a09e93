use Rattle.std.proofs.Common.{◌-◌, ◌∙◌, ap, drop, length, length-take, arith}
use Rattle.http_framing.proofs.RoomSteps.{used_less}
use Rattle.http_framing.proofs.buffer.Buffer.advance.Goals as goal

pub returns : goal.returns
returns c = used_less c.self.inside.room.items c.self.inside.start c.self.inside.end c.args.count (omega (arith, ap length c.self.view_is, length-take (c.self.inside.end - c.self.inside.start) (drop c.self.inside.start c.self.inside.room.items))) ∙ ap (drop c.args.count) c.self.view_is
