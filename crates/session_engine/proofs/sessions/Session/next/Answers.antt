use Rattle.std.proofs.Common.{◌∙◌, refl}
use Rattle.session_engine.proofs.Loops.{going_none, going_more, going_task, going_end, next_told}
use Rattle.session_engine.proofs.sessions.Session.next.Goals as goal

pub answering-init : goal.answering-init
answering-init g c = record { going = going_none _ _ _ _ c.requires.few; reads = refl; writes = refl }

pub answering-preserved : goal.answering-preserved
answering-preserved g c = record {
  going = going_more c.read_stays.ensures _ _ _ _ _ _ _ _ _ _ c.answering.invariant.going c.in-Answered.ensures.sees;
  reads = c.in-Answered.ensures.cause.0 ∙ c.answering.invariant.reads;
  writes = c.in-Answered.ensures.cause.1 ∙ c.answering.invariant.writes;
}

pub returns-in-Task-clause-sees : goal.returns-in-Task-clause-sees
returns-in-Task-clause-sees g c = going_task c.read_stays.ensures _ _ _ _ _ _ _ _ _ _ _ c.answering.invariant.going c.in-Task.ensures.sees

pub returns-in-Ended-clause-sees : goal.returns-in-Ended-clause-sees
returns-in-Ended-clause-sees g c = going_end c.read_stays.ensures _ _ _ _ _ _ _ _ _ _ _ c.answering.invariant.going c.in-Ended.ensures.sees

pub returns-in-Ended-clause-rest : goal.returns-in-Ended-clause-rest
returns-in-Ended-clause-rest g c =
    next_told c.read_stays.ensures _ _ _ _ _ _ _ _ (going_end c.read_stays.ensures _ _ _ _ _ _ _ _ _ _ _ c.answering.invariant.going c.in-Ended.ensures.sees)
