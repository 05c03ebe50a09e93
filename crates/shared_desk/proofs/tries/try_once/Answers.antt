use Rattle.std.proofs.Common.{◌≡◌, IfOk, subst}
use Rattle.commit_core.specs.Ends.{ComesBack, IfDone, number_of}
use Rattle.commit_core.specs.Serving.{Grows, SaysSeen, Snaps, WornAt, added_by}
use Rattle.shared_desk.proofs.Growing.{ended_pass, joined_pass, refused_pass}
use Rattle.shared_desk.proofs.Seen.{said_low, tried_seen}
use Rattle.shared_desk.proofs.tries.try_once.Goals as goal

pub commit-pass-requires-clause-trial : goal.commit-pass-requires-clause-trial
commit-pass-requires-clause-trial g c =
    let m = g.S.Means.meaning (g.S.Answers.kind c.args.service.now.subject) in
    let v = c.begin-pass.result.0.view in
    let trial = c.in-Ok-trial_on.trial in
    let snaps = subst (λ r. IfOk r (Snaps m v)) c.in-Ok.is c.begin-pass.ensures.snapshot in
    tried_seen m v c.in-Ok.snapshot c.args.attempt.task trial.reads trial.writes trial.reply trial.at snaps c.in-Ok-trial_on.ensures.at c.in-Ok-trial_on.ensures.tried

pub returns-in-Done-clause-leaves : goal.returns-in-Done-clause-leaves
returns-in-Done-clause-leaves g c =
    let m = g.S.Means.meaning (g.S.Answers.kind c.args.service.now.subject) in
    let p = c.begin-pass.result.0 in
    let q = c.commit-pass.result.0 in
    let trial = c.in-Ok-trial_on.trial in
    let e = c.in-Done.entry in
    let more = subst (λ end. Grows m p q (added_by end)) c.in-Done.is c.commit-pass.ensures.grows in
    let is = subst (λ end. IfDone end (λ x. x ≡ record { by = p.number; task = c.args.attempt.task; reply = trial.reply })) c.in-Done.is c.commit-pass.ensures.done in
    joined_pass m c.args.pass p q c.args.attempt.task trial.reply p.number e c.begin-pass.ensures.grows more is

pub returns-in-Stale-clause-leaves : goal.returns-in-Stale-clause-leaves
returns-in-Stale-clause-leaves g c =
    let m = g.S.Means.meaning (g.S.Answers.kind c.args.service.now.subject) in
    let p = c.begin-pass.result.0 in
    let q = c.commit-pass.result.0 in
    let trial = c.in-Ok-trial_on.trial in
    let more = subst (λ end. Grows m p q (added_by end)) c.in-Stale.is c.commit-pass.ensures.grows in
    let back = subst (ComesBack c.args.attempt) c.in-Stale.is c.commit-pass.ensures.back in
    let says = subst (SaysSeen m q.view trial) c.in-Stale.is c.commit-pass.ensures.says in
    let low = said_low m q.view.first m.empty q.view.seen _ trial.reads trial.at c.in-Stale._why says in
    refused_pass m c.args.pass p q c.args.attempt c.in-Stale.attempt (number_of c.in-Stale._why) c.begin-pass.ensures.grows more back low

pub returns-in-NoMemory-clause-leaves : goal.returns-in-NoMemory-clause-leaves
returns-in-NoMemory-clause-leaves g c =
    let m = g.S.Means.meaning (g.S.Answers.kind c.args.service.now.subject) in
    let p = c.begin-pass.result.0 in
    let q = c.commit-pass.result.0 in
    let more = subst (λ end. Grows m p q (added_by end)) c.in-NoMemory.is c.commit-pass.ensures.grows in
    ended_pass m c.args.pass p q _ c.begin-pass.ensures.grows more (λ no. absurd no)

pub returns-in-Worn-clause-leaves : goal.returns-in-Worn-clause-leaves
returns-in-Worn-clause-leaves g c =
    let m = g.S.Means.meaning (g.S.Answers.kind c.args.service.now.subject) in
    let p = c.begin-pass.result.0 in
    let q = c.commit-pass.result.0 in
    let more = subst (λ end. Grows m p q (added_by end)) c.in-Worn.is c.commit-pass.ensures.grows in
    let worn = subst (WornAt q.view) c.in-Worn.is c.commit-pass.ensures.worn in
    ended_pass m c.args.pass p q _ c.begin-pass.ensures.grows more (λ is. worn)
