use Rattle.std.proofs.Common.{◌∙◌, ap, sym}
use Rattle.row_change.proofs.MemberSteps.{left_more, left_same}
use Rattle.row_change.proofs.members.ids_without.Goals as goal
use Rattle.row_change.proofs.members.ids_without.Goals.{then-not-contains+in_ok-push, else-not-contains}

pub loop-id-preserved : goal.loop-id-preserved
loop-id-preserved c =
    elim c.if-not-contains.branch [
      | then-not-contains+in_ok-push w ↦ ap (λ v. v.items) w.left-is ∙ w.in_ok-push.ensures.items
          ∙ left_more c.args.removed.now c.args.ids.now c.loop-id.id-index c.id-item.result c.loop-id.left.items c.loop-id-test.true c.id-item.is (sym c.contains.ensures.value ∙ w.if-not-contains.true) c.loop-id.invariant
      | else-not-contains w ↦ ap (λ v. v.items) w.left-is
          ∙ left_same c.args.removed.now c.args.ids.now c.loop-id.id-index c.id-item.result c.loop-id.left.items c.loop-id-test.true c.id-item.is (sym c.contains.ensures.value ∙ w.if-not-contains.false) c.loop-id.invariant
    ]
