use Rattle.std.proofs.Common.{◌∙◌, ap, List, ℕ, take}
use Rattle.std.specs.List.{slice_range}
use Rattle.http_framing.proofs.RoomSteps.{used_front}
use Rattle.http_messages.specs.declared.limits.TheConstants.{HEAD_LIMIT}
use Rattle.http_framing.proofs.buffer.Buffer.judge.Goals as goal

pub returns-clause-judged : goal.returns-clause-judged
returns-clause-judged c =
    let start = c.self.inside.start in
    c.judge.ensures c.args.self.now (
    ap (λ (l : List ℕ). slice_range l start c.min-end.result) c.deref.ensures.value
    ∙ ap (λ (k : ℕ). slice_range c.self.inside.room.items start k) c.min-end.ensures
    ∙ used_front HEAD_LIMIT c.self.inside.room.items start c.self.inside.end c.self.invariant.ordered
    ∙ ap (take HEAD_LIMIT) c.self.view_is
    )
