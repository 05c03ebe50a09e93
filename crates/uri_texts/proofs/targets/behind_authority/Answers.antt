use Rattle.std.proofs.Common.{sym, ap, ◌∙◌}
use Rattle.std.specs.List.{position}
use Rattle.std.proofs.Common.{◌==◌, ◌||◌}
use Rattle.request_model.specs.Words.{question_mark, slash}
use Rattle.uri_texts.proofs.TargetLemmas.{boundary_at_end}
use Rattle.uri_texts.proofs.targets.behind_authority.Goals as goal

pub range_from-requires : goal.range_from-requires
range_from-requires c some =
    boundary_at_end c.args.text.now c.in-Some.place
    (ap (position (λ b. b == slash || b == question_mark)) (sym c.as_bytes.ensures.value) ∙ sym c.end_of_authority.ensures ∙ c.in-Some.is)
