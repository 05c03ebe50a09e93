use Rattle.std.proofs.Common.{sym, ap, ◌∙◌, List, ℕ}
use Rattle.request_model.specs.Words.{halves_at, question_mark}
use Rattle.uri_texts.proofs.TargetLemmas.{rooted_behind}
use Rattle.uri_texts.proofs.targets.halves_behind_authority.Goals as goal

pub returns-else-is_empty : goal.returns-else-is_empty
returns-else-is_empty c =
    let halves = c.halves.ensures ∙ ap (halves_at question_mark) c.behind_authority.ensures in
    let path = ap (λ (h : List ℕ × List ℕ). h.0) halves in
    halves ∙ ap (halves_at question_mark) (sym (rooted_behind c.args.text.now c.halves.result.0.now (sym c.is_empty.ensures ∙ c.if-is_empty.false) path))
