use Rattle.std.proofs.Common.{sym}
use Rattle.session_engine.proofs.Found.{found_write_fault, found_rule, found_rest, found_cut, found_fault}
use Rattle.session_engine.proofs.Sizes.{framing_fits}
use Rattle.session_engine.proofs.messages.take_message.Goals as goal

pub take_rest-requires : goal.take_rest-requires
take_rest-requires g c = framing_fits c.in-Head.message c.in-Ok.framing (sym c.in-Ok.ensures)

pub returns-in-Err-clause-takes : goal.returns-in-Err-clause-takes
returns-in-Err-clause-takes g c = found_rule _ _ _ _ _ c.in-Head.message c.in-Err.fault _ c.in-Head.ensures.takes (sym c.in-Err.ensures) c.is_head.ensures

pub returns-in-Err-send_interim-clause-takes : goal.returns-in-Err-send_interim-clause-takes
returns-in-Err-send_interim-clause-takes g c =
    found_write_fault _ _ _ _ _ _ _ _ _ c.in-Head.ensures.takes (sym c.in-Ok.ensures) c.expects_continue.ensures c.in-Err-send_interim.ensures.sends.front

pub returns-in-Ok-send_interim-clause-takes : goal.returns-in-Ok-send_interim-clause-takes
returns-in-Ok-send_interim-clause-takes g c =
    found_rest c.read_stays.ensures _ _ _ _ _ _ _ _ _ _ _ _ c.in-Head.ensures.takes (sym c.in-Ok.ensures) c.expects_continue.ensures c.in-Ok-send_interim.ensures.sends.whole c.take_rest.ensures.takes

pub returns-in-CutShort-clause-takes : goal.returns-in-CutShort-clause-takes
returns-in-CutShort-clause-takes g c = found_cut _ _ _ _ _ c.in-CutShort.ensures.takes

pub returns-in-ReadFault-clause-takes : goal.returns-in-ReadFault-clause-takes
returns-in-ReadFault-clause-takes g c = found_fault c.heads_are_decided.ensures _ _ _ _ _ c.in-ReadFault.ensures.takes
