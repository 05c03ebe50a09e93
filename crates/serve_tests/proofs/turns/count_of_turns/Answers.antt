use Rattle.std.proofs.Common.{◌∙◌}
use Rattle.serve_tests.proofs.Passing.{all_two, first_is, new_own, second_is}
use Rattle.serve_tests.proofs.turns.count_of_turns.Goals as goal

pub serve_next-one-requires-clause-own : goal.serve_next-one-requires-clause-own
serve_next-one-requires-clause-own g c =
    let k = g.S.Answers.kind c.args.subject in
    let service = c.in_ok-service.service in
    let is = first_is k service.lock c.in_ok-service.passes.items c.in-Some.one c.in-Some.other c.in_ok-service.ensures.made c.in-Some.ensures in
    new_own g.S.Answers.kind service k 0 c.in-Some.one is c.in_ok-service.ensures.kind

pub serve_next-other-requires-clause-own : goal.serve_next-other-requires-clause-own
serve_next-other-requires-clause-own g c =
    let k = g.S.Answers.kind c.args.subject in
    let service = c.in_ok-service.service in
    let is = second_is k service.lock c.in_ok-service.passes.items c.in-Some.one c.in-Some.other c.in_ok-service.ensures.made c.in-Some.ensures in
    new_own g.S.Answers.kind service k 1 c.in-Some.other is c.in_ok-service.ensures.kind

pub close-core-requires-clause-all : goal.close-core-requires-clause-all
close-core-requires-clause-all g c =
    let k = g.S.Answers.kind c.args.subject in
    let service = c.in_ok-service.service in
    all_two service.lock k c.in_ok-service.passes.items c.in-Some.one c.in-Some.other c.serve_next-again.result c.serve_next-other.result c.join-whole.result c.in_ok-service.ensures.made c.in-Some.ensures
    (c.serve_next-again.ensures.numbers ∙ c.serve_next-one.ensures.numbers) c.serve_next-other.ensures.numbers c.join-whole.ensures.view
