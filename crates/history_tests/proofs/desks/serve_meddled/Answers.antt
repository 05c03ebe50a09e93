use Rattle.history_tests.proofs.Passing.{first_is, new_own, second_is}
use Rattle.history_tests.proofs.desks.serve_meddled.Goals as goal

pub meddle-requires-clause-one : goal.meddle-requires-clause-one
meddle-requires-clause-one g c =
    let k = g.S.Answers.kind c.args.subject in
    let service = c.in_ok-service.service in
    let is = first_is 0 k service.lock c.in_ok-service.passes.items c.in-Some.one c.in-Some.other c.in_ok-service.ensures.made c.in-Some.ensures in
    new_own g.S.Answers.kind service k 0 c.in-Some.one is c.in_ok-service.ensures.kind

pub meddle-requires-clause-other : goal.meddle-requires-clause-other
meddle-requires-clause-other g c =
    let k = g.S.Answers.kind c.args.subject in
    let service = c.in_ok-service.service in
    let is = second_is 0 k service.lock c.in_ok-service.passes.items c.in-Some.one c.in-Some.other c.in_ok-service.ensures.made c.in-Some.ensures in
    new_own g.S.Answers.kind service k 1 c.in-Some.other is c.in_ok-service.ensures.kind
