use Rattle.std.proofs.Common.{[], ◌∷◌, sym, ◌∙◌}
use Rattle.std.specs.Option.{option_copied}
use Rattle.world_cells.specs.declared.keys.CellKey.TheVariants as cell_key
use Rattle.world_cells.specs.World.{linked, row_at}
use Rattle.store_model.specs.Reach.{is_row_in}
use Rattle.trial_steps.specs.Found.{row_of}
use Rattle.trial_steps.specs.StepLaws.{row_in_one}
use Rattle.trial_steps.specs.Finding.{looked_looks, looked_sees, row_found}
use Rattle.include_walk.proofs.Linking.{adds_seen}
use Rattle.include_walk.proofs.steps.insert_next.Goals as goal

pub returns-clause-looks : goal.returns-clause-looks
returns-clause-looks g c = looked_looks g.V.View.cells (is_row_in (c.args.key.now ∷ [])) c.args.recorder.now (cell_key.Row c.args.key.now) c.get.result c.get.follows.lender-at-none (row_in_one c.args.key.now) c.get.follows.holds-at-none

pub returns-clause-sees : goal.returns-clause-sees
returns-clause-sees g c = λ w now behind leads.
    adds_seen (λ row. linked c.args.schema.now row c.args.rel) c.args.next.now.keys c.insert_found.new.keys.keys (row_of (option_copied c.in_ok-found.found)) (row_at now c.args.key.now) c.insert_found.result
    (row_found c.args.schema.now now c.args.key.now c.in_ok-found.found (looked_sees g.V.View.cells c.args.schema.now c.args.recorder.now (cell_key.Row c.args.key.now) c.get.result c.in_ok-found.found c.get.follows.lender-at-none c.in_ok-found.was c.get.follows.holds-at-none w now behind leads))
    c.insert_found.ensures
