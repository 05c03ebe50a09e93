use Rattle.std.proofs.Common.{◌≡◌, Err, inl, subst, sym, ◌∙◌}
use Rattle.std.specs.Prelude.{codes}
use Rattle.command_lines.specs.Lines.{Refuses, line}
use Rattle.replay_script.specs.Scripts.{ReadsScript, script_of_text}
use Rattle.replay_command.specs.Replays.{ReplaysText}
use Rattle.replay_command.proofs.replays.replay_text.Goals as goal

pub returns-in-Err-Fault : goal.returns-in-Err-Fault
returns-in-Err-Fault g c =
    let old = g.K.Sink.told c.args.sink.now in
    let new = g.K.Sink.told c.refuse.new.sink in
    let script = script_of_text c.args.bytes.now in
    let fault : script ≡ Err c.in-Err-Fault.place = subst (λ end. ReadsScript (Err end) script) c.in-Err-Fault.field-0-is c.in-Err-Fault.ensures in
    inl (subst (λ d. ReplaysText d old new c.refuse.result) (sym fault)
    (subst (λ place. Refuses (line (codes "script ") place) old new c.refuse.result) (c.as_str.ensures ∙ c.in-Err-Fault.place-is) c.refuse.ensures))
