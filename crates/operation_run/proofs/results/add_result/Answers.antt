use Rattle.std.proofs.Common.{[], ◌∷◌, ◌++◌, Option, subst, true}
use Rattle.serde_json.specs.Written.{comma_if, compact_text}
use Rattle.world_cells.specs.declared.keys.CellKey.TheVariants as cell_key
use Rattle.world_cells.specs.declared.rows.Row.{Row}
use Rattle.store_model.specs.Answer.{result_data}
use Rattle.store_model.specs.Reach.{is_row_in}
use Rattle.json_texts.specs.Drafts.{Adds}
use Rattle.trial_steps.specs.StepLaws.{row_in_one}
use Rattle.trial_steps.specs.Finding.{looked_looks, looked_sees, row_found}
use Rattle.operation_run.proofs.results.add_result.Goals as goal

pub returns-clause-looks : goal.returns-clause-looks
returns-clause-looks g c =
    rw c.in-Some.is
    (looked_looks g.V.View.cells (is_row_in (c.in-Some.key ∷ [])) c.args.recorder.now (cell_key.Row c.in-Some.key) c.get.result c.get.follows.lender-at-none (row_in_one c.in-Some.key) c.get.follows.holds-at-none)

pub returns-clause-sees : goal.returns-clause-sees
returns-clause-sees g c = λ w now behind leads.
    rw c.in-Some.is
    (subst (λ (o : Option Row). Adds c.args.draft.now c.add_found.new.draft (comma_if c.args.later ++ compact_text (result_data c.args.schema.now true o)))
    (row_found c.args.schema.now now c.in-Some.key c.in_ok-found.found (looked_sees g.V.View.cells c.args.schema.now c.args.recorder.now (cell_key.Row c.in-Some.key) c.get.result c.in_ok-found.found c.get.follows.lender-at-none c.in_ok-found.was c.get.follows.holds-at-none w now behind leads))
    c.add_found.ensures)
