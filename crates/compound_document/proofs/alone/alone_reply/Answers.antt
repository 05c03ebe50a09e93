use Rattle.std.proofs.Common.{◌≡◌, [], ◌∷◌, subst, Option}
use Rattle.std.specs.Prelude.{IfOk}
use Rattle.std.specs.Option.{option_copied}
use Rattle.world_cells.specs.declared.keys.CellKey.TheVariants as cell_key
use Rattle.world_cells.specs.declared.rows.Row.{Row}
use Rattle.world_cells.specs.World.{row_at}
use Rattle.store_model.specs.Reach.{is_row_in}
use Rattle.trial_steps.specs.StepLaws.{row_in_one}
use Rattle.trial_steps.specs.Finding.{looked_looks, looked_sees, row_found}
use Rattle.compound_document.specs.Fetches.{alone_reply}
use Rattle.compound_document.proofs.alone.alone_reply.Goals as goal

pub returns-clause-looks : goal.returns-clause-looks
returns-clause-looks g c = looked_looks g.V.View.cells (is_row_in (c.args.key.now ∷ [])) c.args.recorder.now (cell_key.Row c.args.key.now) c.get.result c.get.follows.lender-at-none (row_in_one c.args.key.now) c.get.follows.holds-at-none

pub returns-clause-sees : goal.returns-clause-sees
returns-clause-sees g c = λ w now behind leads.
    subst (λ (o : Option Row). IfOk c.cell_reply.result (λ r. r ≡ alone_reply c.args.schema.now c.args.query.now o))
    (row_found c.args.schema.now now c.args.key.now c.in_ok-found.found (looked_sees g.V.View.cells c.args.schema.now c.args.recorder.now (cell_key.Row c.args.key.now) c.get.result c.in_ok-found.found c.get.follows.lender-at-none c.in_ok-found.was c.get.follows.holds-at-none w now behind leads))
    c.cell_reply.ensures
