use Rattle.std.proofs.Common.{◌∙◌, ◌<◌, sym, ap, refl, subst}
use Rattle.session_engine.specs.Plans.{as_planned}
use Rattle.session_engine.specs.States.{SessionState}
use Rattle.session_engine.proofs.Steps.{step_plan_fails, step_no_memory, step_end, step_cut, step_read_fault, step_write_fault, step_refused, step_answered, step_replied, along}
use Rattle.http_messages.specs.declared.limits.TheConstants.{MESSAGE_LIMIT}
use Rattle.session_engine.proofs.sessions.Session.step.Goals as goal

pub returns-in-Err-clause-sees : goal.returns-in-Err-clause-sees
returns-in-Err-clause-sees g c =
    along _ _ _ _ _ _ _ _ _ c.self.view_is (step_plan_fails _ _ _ _ _ _ _ c.in-Whole.message c.in-Whole.ensures.takes refl)

pub returns-in-None-clause-sees : goal.returns-in-None-clause-sees
returns-in-None-clause-sees g c =
    along _ _ _ _ _ _ _ _ _ c.self.view_is (
    step_answered _ _ (record { answered = c.self.inside.answered; buffer = c.take_message.new.buffer; pending = c.self.inside.pending }) _ _ _ _ _ _ c.in-Whole.message c.in-Ok-Fixed.reply _ c.in-Whole.ensures.takes
    (ap as_planned (sym c.in-Ok-Fixed.ensures.planned ∙ c.in-Ok-Fixed.field-0-is)) c.is_head-head_only.ensures c.closes-close.ensures refl
    (subst (λ (s : SessionState). s.answered < MESSAGE_LIMIT) (sym c.self.view_is) c.requires) c.in-None.ensures.sends
    )

pub returns-in-Whole-clause-sees : goal.returns-in-Whole-clause-sees
returns-in-Whole-clause-sees g c =
    along _ _ _ _ _ _ _ _ _ c.self.view_is (
    step_replied _ _ (record { answered = c.self.inside.answered; buffer = c.take_message.new.buffer; pending = c.self.inside.pending }) _ _ _ _ _ _ c.in-Whole.message c.in-Ok-Fixed.reply _ c.in-Some.end c.in-Whole.ensures.takes
    (ap as_planned (sym c.in-Ok-Fixed.ensures.planned ∙ c.in-Ok-Fixed.field-0-is)) c.is_head-head_only.ensures c.closes-close.ensures refl c.in-Some.ensures.sends
    )

pub returns-in-End-clause-sees : goal.returns-in-End-clause-sees
returns-in-End-clause-sees g c =
    along _ _ _ _ _ _ _ _ _ c.self.view_is (step_end _ _ _ _ _ _ _ c.in-End.ensures.takes refl)

pub returns-in-CutShort-clause-sees : goal.returns-in-CutShort-clause-sees
returns-in-CutShort-clause-sees g c =
    along _ _ _ _ _ _ _ _ _ c.self.view_is (step_cut _ _ _ _ _ _ _ c.in-CutShort.ensures.takes refl)

pub returns-in-Refused-clause-sees : goal.returns-in-Refused-clause-sees
returns-in-Refused-clause-sees g c =
    along _ _ _ _ _ _ _ _ _ c.self.view_is (step_refused _ _ _ _ _ _ _ _ _ _ _ c.in-Refused.ensures.takes c.refuse.ensures.sends refl)

pub returns-in-ReadFault-clause-sees : goal.returns-in-ReadFault-clause-sees
returns-in-ReadFault-clause-sees g c =
    along _ _ _ _ _ _ _ _ _ c.self.view_is (step_read_fault _ _ _ _ _ _ _ c.in-ReadFault.ensures.takes refl)

pub returns-in-WriteFault-clause-sees : goal.returns-in-WriteFault-clause-sees
returns-in-WriteFault-clause-sees g c =
    along _ _ _ _ _ _ _ _ _ c.self.view_is (step_write_fault _ _ _ _ _ _ _ c.in-WriteFault.ensures.takes refl)

pub returns-clause-sees : goal.returns-clause-sees
returns-clause-sees g c =
    along _ _ _ _ _ _ _ _ _ c.self.view_is (step_no_memory _ _ _ _ _ _ _ c.in-NoMemory.ensures.takes refl)
