use Rattle.std.proofs.Common.{◌≡◌, List, sym, ap, ◌∙◌}
use Rattle.resource_schema.specs.Kinds.{relationships_of}
use Rattle.store_model.specs.Change.{refuse_links, set_links, empty_links}
use Rattle.world_cells.specs.declared.rows.Link.{Link}
use Rattle.world_cells.specs.declared.rows.Row.{Row}
use Rattle.row_change.specs.declared.places.MayLinkTo.TheVariants as there
use Rattle.row_change.specs.Places.{may_link}
use Rattle.row_change.proofs.Judging.{judges_stop}
use Rattle.row_change.proofs.creates.new_row.Goals as goal

pub returns-in-Err-clause-sees : goal.returns-in-Err-clause-sees
returns-in-Err-clause-sees g c = λ w now behind leads.
    judges_stop {T = List Link} {U = Row} c.args.step.now.pointer.now
    (refuse_links (may_link (there.AtRowOr c.args.key.now) now) c.args.lids.now (relationships_of c.args.step.now.schema.now c.args.key.now.kind) c.as_slice-2.result.now)
    (refuse_links (may_link (there.AtRowOr c.args.key.now) now) c.args.lids.now (relationships_of c.args.step.now.schema.now c.args.key.now.kind) c.args.new.now.links.now)
    (λ new. new ≡ set_links c.args.lids.now c.in_ok-empty.empty c.as_slice-2.result.now)
    (λ row. row ≡ record { key = c.args.key.now; values = c.args.new.now.values.now; links = set_links c.args.lids.now (empty_links (relationships_of c.args.step.now.schema.now c.args.key.now.kind)) c.args.new.now.links.now })
    c.in-Err.stop
    (λ r told. sym (ap (refuse_links (may_link (there.AtRowOr c.args.key.now) now) c.args.lids.now (relationships_of c.args.step.now.schema.now c.args.key.now.kind)) c.as_slice-2.ensures) ∙ told)
    (c.in-Err.ensures.sees w now behind leads)
