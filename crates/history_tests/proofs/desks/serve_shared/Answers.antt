use Rattle.history_tests.proofs.Passing.{new_own, one_is}
use Rattle.history_tests.proofs.desks.serve_shared.Goals as goal

pub serve_over-requires-clause-own : goal.serve_over-requires-clause-own
serve_over-requires-clause-own g c =
    let k = g.S.Answers.kind c.args.subject in
    let service = c.in_ok-service.service in
    let is = one_is c.args.first k service.lock c.in_ok-service.passes.items c.in-Some.pass c.in_ok-service.ensures.made c.in-Some.ensures in
    new_own g.S.Answers.kind service k 0 c.in-Some.pass is c.in_ok-service.ensures.kind
