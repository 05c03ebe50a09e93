use Rattle.std.proofs.Common.{ap, sym}
use Rattle.serde_json.specs.Written.{compact_text}
use Rattle.json_texts.specs.DraftLaws.{adds_then, adds_as}
use Rattle.replay_script.specs.Reports.{end_data, number_data, bytes_data, array_data}
use Rattle.replay_script.proofs.ReportTexts.{report-text}
use Rattle.replay_script.proofs.reports.add_report.Goals as goal

pub returns : goal.returns
returns c =
    adds_as (report-text c.args.report.now)
    (adds_then c.add.ensures
    (adds_then (adds_as (ap (λ xs. compact_text (array_data end_data xs)) (sym c.deref.ensures.value)) c.add_ends.ensures)
    (adds_then c.add-2.ensures
    (adds_then (adds_as (ap (λ xs. compact_text (array_data number_data xs)) (sym c.deref-2.ensures.value)) c.add_history.ensures)
    (adds_then c.add-3.ensures
    (adds_then (adds_as (ap (λ xs. compact_text (array_data number_data xs)) (sym c.deref-3.ensures.value)) c.add_counts.ensures)
    (adds_then c.add-4.ensures
    (adds_then (adds_as (ap (λ xs. compact_text (array_data bytes_data xs)) (sym c.deref-4.ensures.value)) c.in_ok-add_replies.ensures)
    c.add-5.ensures))))))))
