use Rattle.std.proofs.Common.{◌∙◌, ap, List, ℕ, take}
use Rattle.std.specs.List.{slice_range}
use Rattle.http_framing.proofs.RoomSteps.{used_front}
use Rattle.http_messages.specs.declared.limits.TheConstants.{TRAILER_LIMIT}
use Rattle.http_framing.proofs.buffer.Buffer.judge_section.Goals as goal

pub returns-clause-judged : goal.returns-clause-judged
returns-clause-judged c =
    let start = c.self.inside.start in
    c.judge_section.ensures c.args.self.now (
    ap (λ (l : List ℕ). slice_range l start c.min-end.result) c.deref.ensures.value
    ∙ ap (λ (k : ℕ). slice_range c.self.inside.room.items start k) c.min-end.ensures
    ∙ used_front TRAILER_LIMIT c.self.inside.room.items start c.self.inside.end c.self.invariant.ordered
    ∙ ap (take TRAILER_LIMIT) c.self.view_is
    )
