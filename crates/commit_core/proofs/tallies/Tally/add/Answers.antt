use Rattle.std.proofs.Common.{◌≡◌, ◌+◌, ◌<◌, ◌^◌, ap, arith, refl}
use Rattle.commit_core.proofs.Numbers.{tallied_more, tallied_still}
use Rattle.commit_core.proofs.tallies.Tally.add.Goals as goal

pub invariant_of-self : goal.invariant_of-self
invariant_of-self c =
    let same : c.self.inside.count ≡ c.args.self.now.count = ap (λ t. t.count) c.self.view_is in
    let room : c.args.self.now.count < 2 ^ 62 = c.requires.room in (
      omega (arith, same, room),
      tallied_more c.self.inside.count c.self.inside.log.log c.append.new.self.log (record { number = c.self.inside.count + 1; keys = c.args.keys.keys }) c.self.invariant.1 refl c.append.ensures.log,
    )

pub invariant_of-self-else-not-is_empty : goal.invariant_of-self-else-not-is_empty
invariant_of-self-else-not-is_empty c =
    let same : c.self.inside.count ≡ c.args.self.now.count = ap (λ t. t.count) c.self.view_is in
    let room : c.args.self.now.count < 2 ^ 62 = c.requires.room in
    (omega (arith, same, room), tallied_still c.self.inside.count c.self.inside.log.log c.self.invariant.1)
