use Rattle.std.proofs.Common.{◌≡◌, ap, subst, sym, ◌∙◌, Some}
use Rattle.ident_rules.specs.Owned.{is_among}
use Rattle.commit_core.specs.Serving.{StandsKept}
use Rattle.commit_core.proofs.Grown.{grows_none, grows_one, kinds_same, legal_now, legal_there, settled}
use Rattle.commit_core.proofs.services.Service.settle.Goals as goal

pub leave_with-pass-requires-clause-stands : goal.leave_with-pass-requires-clause-stands
leave_with-pass-requires-clause-stands g c =
    let e = c.enter-held.ensures in
    let h = c.enter-held.result in
    let kind = g.S.Answers.kind in
    let core = c.value.result.now in
    let stood = subst (λ x. StandsKept kind g.S.Means.meaning x h.view.first h.view.seen) (sym c.value.ensures.now) e.stands in
    let found = subst (λ x. h.view.kind ≡ Some (kind x.subject)) (sym c.value.ensures.now) e.kind in
    let same = kinds_same c.args.pass.view h.view e.seen.0 (kind c.args.self.now.subject) (kind core.subject) c.requires.own.1 found e.seen.2 in
    settled kind g.S.Means.meaning core c.settle.new.self c.args.self.now.subject c.args.pass.view h.view e.seen.0 same e.seen.1 e.seen.2 stood c.settle.ensures.subject c.settle.ensures.window
    c.number-by.result c.args.attempt.task c.in-Done.entry c.in-Done.ensures.settles

pub returns-in-Done-clause-grows : goal.returns-in-Done-clause-grows
returns-in-Done-clause-grows g c =
    let e = c.enter-held.ensures in
    let h = c.enter-held.result in
    let kind = g.S.Answers.kind in
    let core = c.value.result.now in
    let stood = subst (λ x. StandsKept kind g.S.Means.meaning x h.view.first h.view.seen) (sym c.value.ensures.now) e.stands in
    let found = subst (λ x. h.view.kind ≡ Some (kind x.subject)) (sym c.value.ensures.now) e.kind in
    let same = kinds_same c.args.pass.view h.view e.seen.0 (kind c.args.self.now.subject) (kind core.subject) c.requires.own.1 found e.seen.2 in
    let now = settled kind g.S.Means.meaning core c.settle.new.self c.args.self.now.subject c.args.pass.view h.view e.seen.0 same e.seen.1 e.seen.2 stood c.settle.ensures.subject c.settle.ensures.window
    c.number-by.result c.args.attempt.task c.in-Done.entry c.in-Done.ensures.settles in
    let among = ap (λ n. is_among n h.view.numbers) c.in-Done.ensures.settles.0 ∙ c.number-by.ensures.own in
    grows_one (g.S.Means.meaning (kind c.args.self.now.subject)) c.args.pass c.leave_with-pass.result h e.seen.0 e.lock.0 e.lock.1 e.seen.1 e.seen.2 e.mine c.leave_with-pass.ensures.lock.0 c.leave_with-pass.ensures.lock.1
    c.in-Done.entry among
    (legal_now kind g.S.Means.meaning core c.settle.new.self c.args.self.now.subject c.args.pass.view h.view e.seen.0 same e.seen.1 e.seen.2 stood c.settle.ensures.subject c.settle.ensures.window _ now)
    c.leave_with-pass.ensures.view

pub returns-in-NoMemory-clause-grows : goal.returns-in-NoMemory-clause-grows
returns-in-NoMemory-clause-grows g c =
    let e = c.enter-held.ensures in
    let h = c.enter-held.result in
    let kind = g.S.Answers.kind in
    let same = kinds_same c.args.pass.view h.view e.seen.0 (kind c.args.self.now.subject) (kind h.value.subject) c.requires.own.1 e.kind e.seen.2 in
    grows_none (g.S.Means.meaning (kind c.args.self.now.subject)) c.args.pass c.leave.result h e.seen.0 e.lock.0 e.lock.1 e.seen.1 e.seen.2 e.mine c.leave.ensures.lock.0 c.leave.ensures.lock.1
    (legal_there kind g.S.Means.meaning h.value h.value c.args.self.now.subject c.args.pass.view h.view e.seen.0 same e.seen.1 e.seen.2 e.stands) c.leave.ensures.view

pub returns-in-Worn-clause-grows : goal.returns-in-Worn-clause-grows
returns-in-Worn-clause-grows g c =
    let e = c.enter-held.ensures in
    let h = c.enter-held.result in
    let kind = g.S.Answers.kind in
    let same = kinds_same c.args.pass.view h.view e.seen.0 (kind c.args.self.now.subject) (kind h.value.subject) c.requires.own.1 e.kind e.seen.2 in
    grows_none (g.S.Means.meaning (kind c.args.self.now.subject)) c.args.pass c.leave-in-Worn.result h e.seen.0 e.lock.0 e.lock.1 e.seen.1 e.seen.2 e.mine c.leave-in-Worn.ensures.lock.0 c.leave-in-Worn.ensures.lock.1
    (legal_there kind g.S.Means.meaning h.value h.value c.args.self.now.subject c.args.pass.view h.view e.seen.0 same e.seen.1 e.seen.2 e.stands) c.leave-in-Worn.ensures.view
