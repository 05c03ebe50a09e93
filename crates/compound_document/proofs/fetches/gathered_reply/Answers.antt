use Rattle.std.proofs.Common.{◌≡◌, [], ◌∷◌, subst, Option}
use Rattle.resource_schema.specs.declared.targets.Target.TheVariants as target
use Rattle.world_cells.specs.declared.rows.Row.{Row}
use Rattle.world_cells.specs.World.{row_at}
use Rattle.store_model.specs.Reach.{is_row_in}
use Rattle.trial_steps.specs.Runners.{TellsRead}
use Rattle.compound_document.proofs.Runs.{map_ok, told_looked}
use Rattle.compound_document.proofs.Telling.{nothing_told, no_resource, resource_told}
use Rattle.compound_document.proofs.fetches.gathered_reply.Goals as goal

pub returns-in_default : goal.returns-in_default
returns-in_default g c =
    let schema = c.args.schema.now in
    let cells = g.V.View.cells in
    let key = c.args.key.now in
    map_ok _ _ c.not_found.result
    (λ r is. nothing_told schema cells c.args.query.now key (target.Resource key) c.args.recorder.now c.find_row.new.recorder r (no_resource schema cells c.args.query.now key) (λ w k e. e) is
    (subst (λ (o : Option Row). TellsRead schema cells (λ now. is_row_in (key ∷ [])) (λ now. o ≡ row_at now key) c.args.recorder.now c.find_row.new.recorder) c.in_default.is
    (told_looked schema cells (is_row_in (key ∷ [])) (λ now. c.in_ok-row.field-0 ≡ row_at now key) c.args.recorder.now c.find_row.new.recorder c.in_ok-row.ensures.looks (c.in_ok-row.ensures.sees schema))))
    c.not_found.ensures

pub returns : goal.returns
returns g c =
    let schema = c.args.schema.now in
    let cells = g.V.View.cells in
    let key = c.args.key.now in
    map_ok _ _ c.one_reply.result
    (λ r told. resource_told schema cells c.args.query.now key c.in-Some.row c.args.recorder.now c.find_row.new.recorder c.one_reply.new.recorder r
    (subst (λ (o : Option Row). TellsRead schema cells (λ now. is_row_in (key ∷ [])) (λ now. o ≡ row_at now key) c.args.recorder.now c.find_row.new.recorder) c.in-Some.is
    (told_looked schema cells (is_row_in (key ∷ [])) (λ now. c.in_ok-row.field-0 ≡ row_at now key) c.args.recorder.now c.find_row.new.recorder c.in_ok-row.ensures.looks (c.in_ok-row.ensures.sees schema)))
    told)
    c.one_reply.ensures
