use Rattle.std.proofs.Common.{sym, ap, ◌∙◌, length, Err}
use Rattle.std.specs.List.{list_all}
use Rattle.http_model.specs.Heads.{is_visible}
use Rattle.http_framing.proofs.fronts.judge_front.Goals as goal

pub returns-else-is_all_visible : goal.returns-else-is_all_visible
returns-else-is_all_visible c =
    let found = rw c.in-Ok-Complete.field-0-is at c.in-Ok-Complete.ensures.complete in
    c.heads_are_decided.ensures.of_target c.args.bytes.now found.0 _ found.1.reads
    (ap (list_all is_visible) (sym (c.of.ensures ∙ found.1.path)) ∙ sym c.is_all_visible.ensures ∙ c.if-is_all_visible.false)

pub returns-then-is_target_visible : goal.returns-then-is_target_visible
returns-then-is_target_visible c =
    c.heads_are_decided.ensures.of_partial c.args.bytes.now (rw c.in-Ok-Partial.field-0-is at c.in-Ok-Partial.ensures.partial)
    (rw c.in-Ok-Partial.field-0-is at c.in-Ok-Partial.ensures.unfinished) (sym c.is_target_visible.ensures ∙ c.if-is_target_visible.true)

pub returns-else-is_target_visible : goal.returns-else-is_target_visible
returns-else-is_target_visible c =
    c.heads_are_decided.ensures.of_scan c.args.bytes.now (sym c.is_target_visible.ensures ∙ c.if-is_target_visible.false)

pub returns-in-Err-TooManyHeaders : goal.returns-in-Err-TooManyHeaders
returns-in-Err-TooManyHeaders c =
    absurd (
    c.heads_are_decided.ensures.of_room c.args.bytes.now (length c.args.spans.now) c.requires
    (c.parse_request.ensures.too_many (c.in-Err-TooManyHeaders.is ∙ ap Err c.in-Err-TooManyHeaders.field-0-is))
    )
