use Rattle.commit_core.proofs.Grown.{grows_none, kinds_same, legal_there}
use Rattle.commit_core.proofs.services.Service.begin.Goals as goal

pub returns-clause-grows : goal.returns-clause-grows
returns-clause-grows g c =
    let e = c.enter-held.ensures in
    let h = c.enter-held.result in
    let kind = g.S.Answers.kind in
    let same = kinds_same c.args.pass.view h.view e.seen.0 (kind c.args.self.now.subject) (kind h.value.subject) c.requires.own.1 e.kind e.seen.2 in
    grows_none (g.S.Means.meaning (kind c.args.self.now.subject)) c.args.pass c.leave.result h e.seen.0 e.lock.0 e.lock.1 e.seen.1 e.seen.2 e.mine c.leave.ensures.lock.0 c.leave.ensures.lock.1
    (legal_there kind g.S.Means.meaning h.value h.value c.args.self.now.subject c.args.pass.view h.view e.seen.0 same e.seen.1 e.seen.2 e.stands) c.leave.ensures.view
