use Rattle.std.proofs.Common.{◌≡◌, ap, sym, subst, ◌∙◌}
use Rattle.history_model.specs.declared.checks.TheConstants.{LOG_WINDOW}
use Rattle.ordered_pages.specs.Tree.{map_of}
use Rattle.request_model.specs.Plans.{planned}
use Rattle.resource_schema.specs.declared.schema.Schema.{Schema}
use Rattle.session_engine.specs.Plans.{plans_of}
use Rattle.store_model.specs.StoreMeaning.{meaning_of}
use Rattle.task_forms.specs.Meaning.{IsLegal}
use Rattle.world_cells.specs.World.{empty_world}
use Rattle.commit_core.specs.Standing.{StandsFor}
use Rattle.task_run.specs.Lawful.{meaning_is_lawful}
use Rattle.replay_runs.specs.Running.{IsReported}
use Rattle.task_run.specs.Subjects.{subject_kind}
use Rattle.replay_command.proofs.Weaker.{weaker}
use Rattle.replay_command.proofs.replays.report_of.Goals as goal

pub run_script-requires-clause-new : goal.run_script-requires-clause-new
run_script-requires-clause-new c =
    let lawful = meaning_is_lawful c.in_ok-core.core.subject in
    c.in_ok-core.ensures.begins empty_world lawful.begins (λ i. ap (λ p. map_of p i) c.new.ensures ∙ sym (lawful.nothing i))

pub returns : goal.returns
returns c =
    let script = c.args.script.now in
    let r = c.in_ok-report.report in
    let core = c.run_script.new.core in
    let plans = plans_of (planned script.schema) in
    let stands = StandsFor subject_kind meaning_of core 0 empty_world in
    let schema : core.subject ≡ script.schema = c.in_ok-report.ensures.subject ∙ (c.in_ok-core.ensures.subject ∙ (c.new-subject.ensures ∙ c.in_ok-copy.ensures)) in
    let over : IsReported (meaning_of core.subject) plans LOG_WINDOW empty_world script.streams script.steps r stands =
    subst (λ streams. IsReported (meaning_of core.subject) plans LOG_WINDOW empty_world streams script.steps r stands) c.as_slice.ensures
    (subst (λ steps. IsReported (meaning_of core.subject) plans LOG_WINDOW empty_world c.as_slice.result.now steps r stands) c.as_slice-2.ensures c.in_ok-report.ensures.reported) in
    let legal = weaker (meaning_of core.subject) plans LOG_WINDOW empty_world script.streams script.steps r stands (IsLegal (meaning_of core.subject) empty_world) (λ h is. is.legal) over in
    subst (λ (s : Schema). IsReported (meaning_of s) plans LOG_WINDOW empty_world script.streams script.steps r (IsLegal (meaning_of s) empty_world)) schema legal
