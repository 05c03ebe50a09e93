use Rattle.std.proofs.Common.{◌++◌, sym, ◌∙◌}
use Rattle.error_objects.specs.declared.codes.Code.TheVariants as code
use Rattle.error_objects.specs.Refusals.{at_pointer}
use Rattle.store_model.specs.Change.{pointer_of_member, name_pointer}
use Rattle.row_change.specs.Places.{may_link}
use Rattle.row_change.proofs.Theres.{member_unbound, member_there, member_missing}
use Rattle.row_change.proofs.linkages.read_member.Goals as goal

pub returns-in_default-clause-sees : goal.returns-in_default-clause-sees
returns-in_default-clause-sees g c = λ schema w now behind leads. (
  at_pointer code.UnknownLid (pointer_of_member c.args.linkage.now.pointer.now c.args.member.now ++ name_pointer c.args.member.now.named),
  member_unbound (may_link c.args.linkage.now.to now) c.args.lids.now c.args.linkage.now.pointer.now c.args.member.now (sym c.key_of.ensures ∙ c.in_default.is),
  c.in_ok-refusal.ensures,
)

pub returns-then-branch-clause-sees : goal.returns-then-branch-clause-sees
returns-then-branch-clause-sees g c = λ schema w now behind leads.
    (member_there (may_link c.args.linkage.now.to now) c.args.lids.now c.args.linkage.now.pointer.now c.args.member.now c.in-Some.key c.in_ok-may_link.field-0 (sym c.key_of.ensures ∙ c.in-Some.is) (c.in_ok-may_link.ensures.sees schema w now behind leads) c.if-branch.true, tt)

pub returns-in_ok-refusal-2-clause-sees : goal.returns-in_ok-refusal-2-clause-sees
returns-in_ok-refusal-2-clause-sees g c = λ schema w now behind leads. (
  at_pointer code.RelatedNotFound (pointer_of_member c.args.linkage.now.pointer.now c.args.member.now ++ name_pointer c.args.member.now.named),
  member_missing (may_link c.args.linkage.now.to now) c.args.lids.now c.args.linkage.now.pointer.now c.args.member.now c.in-Some.key c.in_ok-may_link.field-0 (sym c.key_of.ensures ∙ c.in-Some.is) (c.in_ok-may_link.ensures.sees schema w now behind leads) c.if-branch.false,
  c.in_ok-refusal-2.ensures,
)
