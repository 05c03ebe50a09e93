use Rattle.std.proofs.Common.{◌≡◌, take, None}
use Rattle.std.specs.Prelude.{map}
use Rattle.resource_schema.specs.declared.schema.Schema.{Schema}
use Rattle.store_model.specs.Change.{first_of, refuse_member, member_ids}
use Rattle.store_model.specs.Reach.{is_row_in, member_keys}
use Rattle.row_change.specs.declared.places.MayLinkTo.TheVariants as there
use Rattle.trial_steps.specs.Steps.{LooksAt, Sees}
use Rattle.row_change.specs.Places.{may_link}
use Rattle.row_change.proofs.linkages.read_members.Given as goal

abbrev pub invariant-loop-member : goal.invariant-loop-member
invariant-loop-member g l = record {
  looks : LooksAt (is_row_in (member_keys l.lids (take l.member-index l.linkage.members.now))) l.fn.recorder l.recorder;
  ids : l.ids.items ≡ member_ids l.lids (take l.member-index l.linkage.members.now);
  sees : (schema : Schema) → Sees schema g.V.View.cells l.fn.recorder l.recorder (λ now. first_of (map (refuse_member (may_link l.linkage.to now) l.lids l.linkage.pointer.now) (take l.member-index l.linkage.members.now)) ≡ None);
  unread : l.linkage.to ≡ there.Anywhere → l.recorder.reads ≡ l.fn.recorder.reads;
}
