use Rattle.std.proofs.Common.{◌≡◌, refl, sym, subst, ◌∙◌, List, None, Err, false}
use Rattle.resource_schema.specs.Kinds.{relationships_of}
use Rattle.world_cells.specs.declared.sets.ReadSet.{ReadSet}
use Rattle.world_cells.specs.declared.sets.Written.{Written}
use Rattle.world_cells.specs.declared.rows.Row.{Row}
use Rattle.world_cells.specs.Reads.{Leads}
use Rattle.world_cells.specs.World.{cell_at}
use Rattle.task_forms.specs.declared.operations.Operation.TheVariants as operation
use Rattle.store_model.specs.Change.{is_bound, refuse_links, set_links, empty_links}
use Rattle.store_model.specs.Reach.{is_row_in, linked_keys}
use Rattle.row_change.specs.declared.places.MayLinkTo.TheVariants as there
use Rattle.trial_steps.specs.Steps.{StandsBehind}
use Rattle.trial_steps.specs.Steps.{RefusesOr}
use Rattle.row_change.specs.Places.{may_link}
use Rattle.row_change.specs.Creating.{refuse_id, is_looked_for, IsNewId}
use Rattle.trial_steps.specs.StepLaws.{sees_before, sees_after}
use Rattle.row_change.proofs.CreateOutcomes.{told_stop, refused_id, by_links, told_created, reads_links}
use Rattle.row_change.proofs.creates.create.Goals as goal

-- the id is refused
pub returns-in-Err-clause-outcome : goal.returns-in-Err-clause-outcome
returns-in-Err-clause-outcome g c = λ w now behind leads.
    let schema = c.args.step.now.schema.now in
    let unbound : is_bound c.args.lids.now c.args.new.now.kind c.args.new.now.lid.now ≡ false = sym c.is_bound.ensures ∙ c.if-is_bound.false in
    told_stop schema c.args.step.now.pointer.now (operation.Create c.args.new.now.kind c.args.new.now.id c.args.new.now.lid.now c.args.new.now.values.now c.args.new.now.links.now) c.args.lids.now c.args.lids.now w now c.new_id.new.recorder
    (refuse_id now c.args.new.now.kind c.args.new.now.id) (IsNewId now c.args.new.now.kind c.args.new.now.id) c.in-Err.stop
    (refused_id schema now c.args.lids.now c.args.new.now.kind c.args.new.now.id c.args.new.now.lid.now c.args.new.now.values.now c.args.new.now.links.now unbound)
    (c.in-Err.ensures.sees schema w now behind leads)

-- a linkage is refused
pub returns-in-Err-new_row-clause-outcome : goal.returns-in-Err-new_row-clause-outcome
returns-in-Err-new_row-clause-outcome g c = λ w now behind leads.
    let schema = c.args.step.now.schema.now in
    let bound = c.bind.new.lids in
    let unbound : is_bound c.args.lids.now c.args.new.now.kind c.args.new.now.lid.now ≡ false = sym c.is_bound.ensures ∙ c.if-is_bound.false in
    let id_seen = sees_before schema g.V.View.cells (is_row_in (linked_keys bound c.args.new.now.links.now)) c.args.recorder.now c.new_id.new.recorder c.new_row.new.recorder
    (λ now. (refuse_id now c.args.new.now.kind c.args.new.now.id ≡ None) × IsNewId now c.args.new.now.kind c.args.new.now.id c.in-Ok.made) c.new_row.ensures.looks (c.in-Ok.ensures.sees schema) w now behind leads in
    let links_seen = sees_after schema g.V.View.cells (is_looked_for c.args.new.now.kind c.args.new.now.id) c.args.recorder.now c.new_id.new.recorder c.new_row.new.recorder
    (λ now. RefusesOr {T = Row} c.args.step.now.pointer.now (refuse_links (may_link (there.AtRowOr (record { kind = c.args.new.now.kind; id = c.in-Ok.made.0 })) now) bound (relationships_of schema c.args.new.now.kind) c.args.new.now.links.now)
    (λ row. row ≡ record { key = record { kind = c.args.new.now.kind; id = c.in-Ok.made.0 }; values = c.args.new.now.values.now; links = set_links bound (empty_links (relationships_of schema c.args.new.now.kind)) c.args.new.now.links.now })
    (Err c.in-Err-new_row.stop)) c.new_id.ensures.looks c.in-Err-new_row.ensures.sees w now behind leads in
    told_stop {T = Row} schema c.args.step.now.pointer.now (operation.Create c.args.new.now.kind c.args.new.now.id c.args.new.now.lid.now c.args.new.now.values.now c.args.new.now.links.now) c.args.lids.now bound w now c.new_row.new.recorder
    (refuse_links (may_link (there.AtRowOr (record { kind = c.args.new.now.kind; id = c.in-Ok.made.0 })) now) bound (relationships_of schema c.args.new.now.kind) c.args.new.now.links.now)
    (λ row. row ≡ record { key = record { kind = c.args.new.now.kind; id = c.in-Ok.made.0 }; values = c.args.new.now.values.now; links = set_links bound (empty_links (relationships_of schema c.args.new.now.kind)) c.args.new.now.links.now }) c.in-Err-new_row.stop
    (λ e told. by_links schema now c.args.lids.now c.args.new.now.kind c.args.new.now.id c.args.new.now.lid.now c.args.new.now.values.now c.args.new.now.links.now c.in-Ok.made.0 bound unbound id_seen.0 id_seen.1.0 c.in_ok-bind.ensures ∙ told)
    links_seen

pub returns-in-Err-new_row-clause-reach : goal.returns-in-Err-new_row-clause-reach
returns-in-Err-new_row-clause-reach g c =
    reads_links c.args.lids.now c.args.new.now.kind c.args.new.now.id c.args.new.now.lid.now c.args.new.now.values.now c.args.new.now.links.now c.args.step.now.schema.now g.V.View.cells
    c.args.recorder.now c.new_id.new.recorder c.new_row.new.recorder c.new_row.new.recorder c.in-Ok.made.0 c.bind.new.lids
    c.new_id.ensures.looks (λ w now behind leads. (c.in-Ok.ensures.sees c.args.step.now.schema.now w now behind leads).1.0) c.in_ok-bind.ensures c.new_row.ensures.looks refl

pub returns-in_err-write_created-clause-reach : goal.returns-in_err-write_created-clause-reach
returns-in_err-write_created-clause-reach g c =
    reads_links c.args.lids.now c.args.new.now.kind c.args.new.now.id c.args.new.now.lid.now c.args.new.now.values.now c.args.new.now.links.now c.args.step.now.schema.now g.V.View.cells
    c.args.recorder.now c.new_id.new.recorder c.new_row.new.recorder c.write_created.new.recorder c.in-Ok.made.0 c.bind.new.lids
    c.new_id.ensures.looks (λ w now behind leads. (c.in-Ok.ensures.sees c.args.step.now.schema.now w now behind leads).1.0) c.in_ok-bind.ensures c.new_row.ensures.looks c.write_created.ensures.leaves.reads

-- the row is created
pub returns-clause-outcome : goal.returns-clause-outcome
returns-clause-outcome g c = λ w now behind leads.
    let schema = c.args.step.now.schema.now in
    let bound = c.bind.new.lids in
    let unbound : is_bound c.args.lids.now c.args.new.now.kind c.args.new.now.lid.now ≡ false = sym c.is_bound.ensures ∙ c.if-is_bound.false in
    let before : StandsBehind schema (g.V.View.cells c.args.recorder.now.store) c.new_row.new.recorder.reads w now =
    subst (λ (r : ReadSet). StandsBehind schema (g.V.View.cells c.args.recorder.now.store) r w now) c.write_created.ensures.leaves.reads behind in
    let id_seen = sees_before schema g.V.View.cells (is_row_in (linked_keys bound c.args.new.now.links.now)) c.args.recorder.now c.new_id.new.recorder c.new_row.new.recorder
    (λ now. (refuse_id now c.args.new.now.kind c.args.new.now.id ≡ None) × IsNewId now c.args.new.now.kind c.args.new.now.id c.in-Ok.made) c.new_row.ensures.looks (c.in-Ok.ensures.sees schema) w now before leads in
    let links_seen = sees_after schema g.V.View.cells (is_looked_for c.args.new.now.kind c.args.new.now.id) c.args.recorder.now c.new_id.new.recorder c.new_row.new.recorder
    (λ now. (refuse_links (may_link (there.AtRowOr (record { kind = c.args.new.now.kind; id = c.in-Ok.made.0 })) now) bound (relationships_of schema c.args.new.now.kind) c.args.new.now.links.now ≡ None)
    × (c.in-Ok-new_row.row ≡ record { key = record { kind = c.args.new.now.kind; id = c.in-Ok.made.0 }; values = c.args.new.now.values.now; links = set_links bound (empty_links (relationships_of schema c.args.new.now.kind)) c.args.new.now.links.now }))
    c.new_id.ensures.looks c.in-Ok-new_row.ensures.sees w now before leads in
    let same : c.new_row.new.recorder.writes ≡ c.args.recorder.now.writes = c.new_row.ensures.looks.writes ∙ c.new_id.ensures.looks.writes in
    told_created schema c.args.step.now.pointer.now c.args.lids.now c.args.new.now.kind c.args.new.now.id c.args.new.now.lid.now c.args.new.now.values.now c.args.new.now.links.now w now
    c.new_row.new.recorder.writes c.write_created.new.recorder c.in-Ok.made.0 c.in-Ok.made.1 bound c.in-Ok-new_row.row
    behind.now_valid unbound id_seen.0 id_seen.1.0 id_seen.1.1 c.in_ok-bind.ensures links_seen.0 links_seen.1 c.in_ok-write_created.ensures.leads
    (subst (λ (ws : List Written). Leads (cell_at schema w) ws (cell_at schema now)) (sym same) leads)

pub returns-clause-reach : goal.returns-clause-reach
returns-clause-reach g c =
    reads_links c.args.lids.now c.args.new.now.kind c.args.new.now.id c.args.new.now.lid.now c.args.new.now.values.now c.args.new.now.links.now c.args.step.now.schema.now g.V.View.cells
    c.args.recorder.now c.new_id.new.recorder c.new_row.new.recorder c.write_created.new.recorder c.in-Ok.made.0 c.bind.new.lids
    c.new_id.ensures.looks (λ w now behind leads. (c.in-Ok.ensures.sees c.args.step.now.schema.now w now behind leads).1.0) c.in_ok-bind.ensures c.new_row.ensures.looks c.write_created.ensures.leaves.reads
