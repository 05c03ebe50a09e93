use Rattle.std.proofs.Common.{◌≡◌, ℕ, List, ap, ◌∙◌, length, rules, append-nil}
use Rattle.std.specs.Prelude.{map}
use Rattle.error_objects.specs.declared.codes.Code.TheVariants as code
use Rattle.error_objects.specs.Refusals.{at_pointer}
use Rattle.store_model.specs.Run.{refusal_under}
use Rattle.store_model.specs.Change.{first_of, refuse_member, refuse_linkage, member_ids, append_new}
use Rattle.row_change.specs.Places.{may_link}
use Rattle.row_change.proofs.Judging.{judges_passed}
use Rattle.row_change.proofs.Limits.{linkage_refused, linkage_long, linkage_good}
use Rattle.row_change.proofs.linkages.join_members.Goals as goal

pub returns-in_err-ids-clause-sees : goal.returns-in_err-ids-clause-sees
returns-in_err-ids-clause-sees g c = λ schema w now behind leads.
    judges_passed {T = List (List ℕ)} {U = List (List ℕ)} c.args.step.now.pointer.now (first_of (map (refuse_member (may_link c.args.linkage.now.to now) c.args.lids.now c.args.linkage.now.pointer.now) c.args.linkage.now.members.now))
    (refuse_linkage (may_link c.args.linkage.now.to now) c.args.lids.now c.args.linkage.now.pointer.now c.args.old.now c.args.linkage.now.members.now)
    (λ ids. ids ≡ member_ids c.args.lids.now c.args.linkage.now.members.now) (λ ids. ids ≡ append_new c.args.old.now (member_ids c.args.lids.now c.args.linkage.now.members.now)) c.in_err-ids.field-0.0 c.from_residual.result
    c.from_residual.ensures.0 c.from_residual.ensures.1
    (λ x told. linkage_refused (may_link c.args.linkage.now.to now) c.args.lids.now c.args.linkage.now.pointer.now c.args.old.now c.args.linkage.now.members.now x told)
    (c.in_err-ids.ensures.sees schema w now behind leads)

pub returns-then-len-gt-LINK_LIMIT-clause-sees : goal.returns-then-len-gt-LINK_LIMIT-clause-sees
returns-then-len-gt-LINK_LIMIT-clause-sees g c = λ schema w now behind leads.
    let joined : c.in_ok-joined.joined.items ≡ append_new c.args.old.now (member_ids c.args.lids.now c.args.linkage.now.members.now) = c.in_ok-joined.ensures ∙ ap (append_new c.args.old.now) (c.as_slice.ensures ∙ c.in_ok-ids.ensures.ids) in
    let n : c.len.result ≡ length (append_new c.args.old.now (member_ids c.args.lids.now c.args.linkage.now.members.now)) = let m : c.len.result ≡ length c.in_ok-joined.joined.items = search rules in m ∙ ap length joined in (
      at_pointer code.TooManyMembers c.args.linkage.now.pointer.now,
      linkage_long (may_link c.args.linkage.now.to now) c.args.lids.now c.args.linkage.now.pointer.now c.args.old.now c.args.linkage.now.members.now c.len.result n c.if-len-gt-LINK_LIMIT.true (c.in_ok-ids.ensures.sees schema w now behind leads).0,
      c.in_ok-refusal.ensures ∙ ap (λ p. refusal_under c.args.step.now.pointer.now (at_pointer code.TooManyMembers p)) (append-nil c.args.linkage.now.pointer.now),
    )

pub returns-clause-sees : goal.returns-clause-sees
returns-clause-sees g c = λ schema w now behind leads.
    let joined : c.in_ok-joined.joined.items ≡ append_new c.args.old.now (member_ids c.args.lids.now c.args.linkage.now.members.now) = c.in_ok-joined.ensures ∙ ap (append_new c.args.old.now) (c.as_slice.ensures ∙ c.in_ok-ids.ensures.ids) in
    let n : c.len.result ≡ length (append_new c.args.old.now (member_ids c.args.lids.now c.args.linkage.now.members.now)) = let m : c.len.result ≡ length c.in_ok-joined.joined.items = search rules in m ∙ ap length joined in (
      linkage_good (may_link c.args.linkage.now.to now) c.args.lids.now c.args.linkage.now.pointer.now c.args.old.now c.args.linkage.now.members.now c.len.result n c.if-len-gt-LINK_LIMIT.false (c.in_ok-ids.ensures.sees schema w now behind leads).0,
      c.from_vec.ensures ∙ joined,
    )
