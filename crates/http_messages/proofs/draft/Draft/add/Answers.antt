use Rattle.std.proofs.Common.{sym, subst, ◌∙◌}
use Rattle.http_messages.specs.Draft.{Drafts}
use Rattle.http_messages.proofs.DraftLemmas.{drafts_sent, sends_held}
use Rattle.http_messages.proofs.draft.Draft.add.Goals as goal

pub returns-else-piece-room-clause-text : goal.returns-else-piece-room-clause-text
returns-else-piece-room-clause-text g c = λ start text d.
    let before = subst (λ s. Drafts start (g.K.Sink.told c.args.sink.now) text s) (sym c.self.view_is) d in
    let held = sends_held start _ _ text _ _ _ before (sym c.is_err.ensures.value ∙ c.if-is_err.false) c.send_more-front.ensures.sends in
    drafts_sent start _ _ _ (c.send_more-self-inside.ensures.sends start text held)
