use Rattle.serve_tests.proofs.Passing.{desk_numbers, desk_own}
use Rattle.serve_tests.proofs.turns.serve_next.Goals as goal

pub returns-clause-own : goal.returns-clause-own
returns-clause-own g c =
    desk_own g.S.Answers.kind c.args.service.now c.args.pass c.into_pass-pass.result.0 c.new-desk.result c.serve_worker-end.new.desk c.new-desk.ensures.is c.serve_worker-end.ensures.fixed c.into_pass-pass.ensures.lock c.into_pass-pass.ensures.kind

pub returns-clause-numbers : goal.returns-clause-numbers
returns-clause-numbers g c =
    desk_numbers g.S.Answers.kind c.args.service.now c.args.pass c.into_pass-pass.result.0 c.new-desk.result c.serve_worker-end.new.desk c.new-desk.ensures.is c.serve_worker-end.ensures.fixed c.into_pass-pass.ensures.pass
