use Rattle.std.proofs.Common.{◌∙◌, ap, subst, length, Err}
use Rattle.httparse.specs.Grammar.{NeverHasSection}
use Rattle.http_framing.proofs.SectionRoom.{section_room, whole_section, none_of_never}
use Rattle.http_framing.proofs.sections.judge_section.Goals as goal

pub returns-in-Ok-Complete : goal.returns-in-Ok-Complete
returns-in-Ok-Complete c = λ buffer same.
    let found = rw c.in-Ok-Complete.field-0-is at c.in-Ok-Complete.ensures.complete in
    let within = rw c.in-Ok-Complete.field-0-is at c.in-Ok-Complete.ensures.within in
    whole_section buffer c.args.bytes.now _ _ _ found.0 found.1 same within.len_fits found.2

pub returns-in-Err-TooManyHeaders : goal.returns-in-Err-TooManyHeaders
returns-in-Err-TooManyHeaders c = λ buffer same.
    absurd (
    section_room c.args.bytes.now (length c.args.spans.now) c.requires
    (c.parse_headers.ensures.too_many (c.in-Err-TooManyHeaders.is ∙ ap Err c.in-Err-TooManyHeaders.field-0-is))
    )

pub returns-in-Err : goal.returns-in-Err
returns-in-Err c = λ buffer same.
    let never = subst NeverHasSection same (
    c.in-Err.ensures.invalid (λ e. section_room c.args.bytes.now (length c.args.spans.now) c.requires (c.parse_headers.ensures.too_many (c.in-Err.is ∙ ap Err e)))
    ) in
    (none_of_never _ never, never)
