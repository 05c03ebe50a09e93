use Rattle.std.proofs.Common.{sym, ◌∙◌}
use Rattle.media_types.proofs.Quoted.{content-stop, content-skip, content-push}
use Rattle.media_types.proofs.params.content_from.Goals.{then-is_content+in_ok-push, else-is_content}
use Rattle.media_types.proofs.params.content_from.Goals as goal

pub returns-then-is_outside : goal.returns-then-is_outside
returns-then-is_outside c =
    sym (content-stop c.args.text.now c.loop-byte.at c.loop-byte.byte-index c.loop-byte.content.items c.loop-byte.invariant c.loop-byte-test.true (sym c.is_outside.ensures ∙ c.if-is_outside.true))

pub loop-byte-preserved : goal.loop-byte-preserved
loop-byte-preserved c =
    let inside = sym c.is_outside.ensures ∙ c.if-is_outside.false in
    elim c.if-is_content.branch [
      | then-is_content+in_ok-push w ↦
          rw (w.content-is, w.in_ok-push.ensures.items, c.after_byte-at.ensures)
          (content-push c.args.text.now c.loop-byte.at c.loop-byte.byte-index c.loop-byte.content.items c.loop-byte.invariant c.loop-byte-test.true inside (sym c.is_content.ensures ∙ w.if-is_content.true))
      | else-is_content w ↦
          rw (w.content-is, c.after_byte-at.ensures)
          (content-skip c.args.text.now c.loop-byte.at c.loop-byte.byte-index c.loop-byte.content.items c.loop-byte.invariant c.loop-byte-test.true inside (sym c.is_content.ensures ∙ w.if-is_content.false))
    ]
