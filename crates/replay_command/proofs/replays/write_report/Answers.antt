use Rattle.std.proofs.Common.{inl, subst, ◌∙◌}
use Rattle.command_lines.specs.Lines.{Writes}
use Rattle.replay_command.proofs.replays.write_report.Goals as goal

pub returns : goal.returns
returns g c =
    let told = g.K.Sink.told in
    inl (c.in-Ok.report, c.in-Ok.ensures, subst (λ text. Writes 0 text (told c.args.sink.now) (told c.tell.new.sink) c.tell.result) (c.as_slice.ensures ∙ c.in-Ok-report_text.ensures) c.tell.ensures)
