use Rattle.std.proofs.Common.{◌≡◌, [], take, drop, None}
use Rattle.std.specs.Prelude.{map}
use Rattle.resource_schema.specs.Kinds.{relationships_of}
use Rattle.store_model.specs.Change.{first_of, refuse_linkage, linkage_pointer, set_links}
use Rattle.store_model.specs.Reach.{is_row_in, linked_keys}
use Rattle.trial_steps.specs.Steps.{LooksAt, Sees}
use Rattle.row_change.specs.Places.{may_link}
use Rattle.row_change.proofs.links.read_links.Given as goal

abbrev pub invariant-loop-rel : goal.invariant-loop-rel
invariant-loop-rel g l = record {
  looks : LooksAt (is_row_in (linked_keys l.lids (take l.rel-index l.given.links.now))) l.fn.recorder l.recorder;
  new : set_links l.lids l.new.items (drop l.rel-index l.given.links.now) ≡ set_links l.lids l.fn.old l.given.links.now;
  sees : Sees l.step.schema.now g.V.View.cells l.fn.recorder l.recorder (λ now. first_of (map (λ x. refuse_linkage (may_link l.given.to now) l.lids (linkage_pointer (relationships_of l.step.schema.now l.given.kind) x.0) [] x.1) (take l.rel-index l.given.links.now)) ≡ None);
}
