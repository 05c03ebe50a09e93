use Rattle.std.proofs.Common.{ap, ◌∙◌}
use Rattle.ident_rules.specs.Owned.{is_among}
use Rattle.history_lock.specs.Numbers.{among_left, among_right}
use Rattle.lock_runs.proofs.runs.joined.Goals as goal

pub returns-in-LastFirst-clause-whole : goal.returns-in-LastFirst-clause-whole
returns-in-LastFirst-clause-whole c = λ n e. ap (λ v. is_among n v.numbers) c.join.ensures.view ∙ among_right n c.args.pass.view.numbers c.args.whole.view.numbers e

pub returns-in-LastFirst-clause-pass : goal.returns-in-LastFirst-clause-pass
returns-in-LastFirst-clause-pass c = λ n e. ap (λ v. is_among n v.numbers) c.join.ensures.view ∙ among_left n c.args.pass.view.numbers c.args.whole.view.numbers e

pub returns-in-LastSecond-clause-whole : goal.returns-in-LastSecond-clause-whole
returns-in-LastSecond-clause-whole c = λ n e. ap (λ v. is_among n v.numbers) c.join-in-LastSecond.ensures.view ∙ among_left n c.args.whole.view.numbers c.args.pass.view.numbers e

pub returns-in-LastSecond-clause-pass : goal.returns-in-LastSecond-clause-pass
returns-in-LastSecond-clause-pass c = λ n e. ap (λ v. is_among n v.numbers) c.join-in-LastSecond.ensures.view ∙ among_right n c.args.whole.view.numbers c.args.pass.view.numbers e
