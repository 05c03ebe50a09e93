use Rattle.std.proofs.Common.{◌≡◌, ℕ, [], length, map, refl, sym, ap, subst, ◌∙◌}
use Rattle.history_model.specs.declared.checks.TheConstants.{LOG_WINDOW}
use Rattle.commit_core.specs.Standing.{StandsFor}
use Rattle.session_engine.specs.Plans.{plans_of}
use Rattle.replay_runs.specs.Running.{IsReported}
use Rattle.replay_runs.proofs.Reporting.{starts, reported}
use Rattle.replay_runs.proofs.reports.run_script.Goals as goal

pub step_all-requires-clause-runs : goal.step_all-requires-clause-runs
step_all-requires-clause-runs g c =
    let m = g.S.Means.meaning (g.S.Answers.kind c.args.core.now.subject) in
    let stands = StandsFor g.S.Answers.kind g.S.Means.meaning c.args.core.now 0 m.empty in (
      m.empty,
      c.args.inputs.now,
      [],
      sym c.in_ok-streams.ensures.size,
      starts m (plans_of (g.P.Planner.planned c.args.planner.now)) c.args.core.now.tally.log.window m.empty c.args.inputs.now c.in_ok-streams.streams.items c.new-history.result.items stands c.requires.new c.new-history.ensures.items c.in_ok-streams.ensures.new,
    )

pub end_all-requires-clause-runs : goal.end_all-requires-clause-runs
end_all-requires-clause-runs g c =
    let m = g.S.Means.meaning (g.S.Answers.kind c.args.core.now.subject) in
    let stands = StandsFor g.S.Answers.kind g.S.Means.meaning c.args.core.now 0 m.empty in
    let start = starts m (plans_of (g.P.Planner.planned c.args.planner.now)) c.args.core.now.tally.log.window m.empty c.args.inputs.now c.in_ok-streams.streams.items c.new-history.result.items stands c.requires.new c.new-history.ensures.items c.in_ok-streams.ensures.new in (
      m.empty,
      c.args.inputs.now,
      c.args.steps.now,
      sym (c.step_all.ensures.size ∙ c.in_ok-streams.ensures.size),
      c.in_ok-step_all.ensures.steps m.empty c.args.inputs.now [] (sym c.in_ok-streams.ensures.size) start,
    )

pub returns-clause-reported : goal.returns-clause-reported
returns-clause-reported g c =
    let kind = g.S.Answers.kind in
    let m = g.S.Means.meaning (kind c.args.core.now.subject) in
    let n = g.S.Means.meaning (kind c.end_all.new.core.subject) in
    let plans = plans_of (g.P.Planner.planned c.args.planner.now) in
    let stands = StandsFor kind g.S.Means.meaning c.args.core.now 0 m.empty in
    let start = starts m plans c.args.core.now.tally.log.window m.empty c.args.inputs.now c.in_ok-streams.streams.items c.new-history.result.items stands c.requires.new c.new-history.ensures.items c.in_ok-streams.ensures.new in
    let ran = c.in_ok-step_all.ensures.steps m.empty c.args.inputs.now [] (sym c.in_ok-streams.ensures.size) start in
    let size = c.step_all.ensures.size ∙ c.in_ok-streams.ensures.size in
    let all = c.in_ok-end_all.ensures.steps m.empty c.args.inputs.now c.args.steps.now (sym size) ran in
    let told = c.in_ok-report.ensures in
    let same : c.end_all.new.core.subject ≡ c.args.core.now.subject = c.end_all.ensures.subject ∙ c.step_all.ensures.subject in
    let stood = StandsFor kind g.S.Means.meaning c.end_all.new.core 0 m.empty in
    let is = reported n plans c.end_all.new.core.tally.log.window m.empty (c.history_is_rebuilt.ensures (kind c.end_all.new.core.subject)) c.entries_are_tasks.ensures refl c.args.inputs.now c.args.steps.now all.0
    c.end_all.new.streams.items c.end_all.new.history.items stood c.in_ok-report.report (λ h st. st.legal.answers) all.2 all.1 (c.end_all.ensures.size ∙ size) c.in_ok-end_all.ensures.ended
    (told.ends ∙ ap (map _) c.as_slice.ensures.value) told.history (told.refused ∙ ap (map _) c.as_slice.ensures.value) (told.replies ∙ ap (map _) c.as_slice.ensures.value) in
    let windowed = subst (λ l. IsReported n plans l m.empty c.args.inputs.now c.args.steps.now c.in_ok-report.report stood) (c.end_all.ensures.window ∙ (c.step_all.ensures.window ∙ c.requires.window)) is in
    subst (λ w. IsReported n plans LOG_WINDOW w c.args.inputs.now c.args.steps.now c.in_ok-report.report (StandsFor kind g.S.Means.meaning c.end_all.new.core 0 w)) (ap (λ s. (g.S.Means.meaning (kind s)).empty) (sym same)) windowed
