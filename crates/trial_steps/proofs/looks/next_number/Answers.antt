use Rattle.std.proofs.Common.{◌∙◌}
use Rattle.world_cells.specs.declared.keys.CellKey.TheVariants as cell_key
use Rattle.store_model.specs.Reach.{is_counter_of}
use Rattle.trial_steps.specs.Finding.{looked_looks, looked_sees, number_found, counter_in}
use Rattle.trial_steps.proofs.looks.next_number.Goals as goal

pub returns-clause-looks : goal.returns-clause-looks
returns-clause-looks g c = looked_looks g.V.View.cells (is_counter_of c.args.kind) c.args.recorder.now (cell_key.Counter c.args.kind) c.get.result c.get.follows.lender-at-none (counter_in c.args.kind) c.get.follows.holds-at-none

pub returns-clause-sees : goal.returns-clause-sees
returns-clause-sees g c = λ schema w now behind leads.
    c.number_in.ensures
    ∙ number_found schema now c.args.kind c.in_ok-found.found (looked_sees g.V.View.cells schema c.args.recorder.now (cell_key.Counter c.args.kind) c.get.result c.in_ok-found.found c.get.follows.lender-at-none c.in_ok-found.was c.get.follows.holds-at-none w now behind leads)
