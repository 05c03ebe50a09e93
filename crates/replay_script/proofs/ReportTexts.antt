-- The text of a report, piece by piece.
use Rattle.std.proofs.Common.{◌≡◌, ℕ, List, [], ◌∷◌, ◌++◌, ap, ◌∙◌, append_assoc}
use Rattle.std.specs.Prelude.{codes}
use Rattle.json.specs.Print.{escape_byte}
use Rattle.serde_json.specs.Written.{compact_text}
use Rattle.replay_runs.specs.declared.reports.Report.{Report}
use Rattle.replay_script.specs.Reports.{end_data, number_data, bytes_data, array_data, report_text}

pub report-text : (r : Report) → report_text r
    ≡ codes "{\"ends\":" ++ (compact_text (array_data end_data r.ends.items)
    ++ (codes ",\"history\":" ++ (compact_text (array_data number_data r.history.items)
    ++ (codes ",\"refused\":" ++ (compact_text (array_data number_data r.refused.items)
    ++ (codes ",\"replies\":" ++ (compact_text (array_data bytes_data r.replies.items)
    ++ codes "}\n")))))))
unfolding escape_byte
report-text r =
    let ends = compact_text (array_data end_data r.ends.items) in
    let history = compact_text (array_data number_data r.history.items) in
    let refused = compact_text (array_data number_data r.refused.items) in
    let replies = compact_text (array_data bytes_data r.replies.items) in
    let line : List ℕ = 10 ∷ [] in
    let from_replies = codes ",\"replies\":" ++ (replies ++ codes "}") in
    let from_refused = codes ",\"refused\":" ++ (refused ++ from_replies) in
    let from_history = codes ",\"history\":" ++ (history ++ from_refused) in
    ap (λ l. codes "{\"ends\":" ++ l)
    (append_assoc ends from_history line ∙ ap (λ l. ends ++ (codes ",\"history\":" ++ l))
    (append_assoc history from_refused line ∙ ap (λ l. history ++ (codes ",\"refused\":" ++ l))
    (append_assoc refused from_replies line ∙ ap (λ l. refused ++ (codes ",\"replies\":" ++ l))
    (append_assoc replies (codes "}") line))))
