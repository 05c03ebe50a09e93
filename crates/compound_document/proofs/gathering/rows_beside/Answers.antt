use Rattle.std.proofs.Common.{◌≡◌, ◌∙◌, ap, sym, subst, List, Option, Some}
use Rattle.world_cells.specs.declared.rows.Row.{Row}
use Rattle.task_forms.specs.declared.queries.Path.{Path}
use Rattle.trial_steps.specs.Runners.{TellsRead}
use Rattle.store_model.specs.Included.{included}
use Rattle.store_model.specs.Reach.{reach_walk}
use Rattle.compound_document.specs.Gathering.{gathered, reach_beside}
use Rattle.compound_document.proofs.Runs.{told_so}
use Rattle.compound_document.proofs.gathering.rows_beside.Goals as goal

pub returns-in_ok-rows-in-Some : goal.returns-in_ok-rows-in-Some
returns-in_ok-rows-in-Some g c =
    let schema = c.args.schema.now in
    let cells = g.V.View.cells in
    let primary = c.args.primary.now in
    let before = c.args.recorder.now in
    let after = c.walk.new.recorder in
    subst (λ (o : Option (List Path)). TellsRead schema cells (reach_beside schema primary o) (λ now. Some c.from_vec.result ≡ gathered schema now primary o) before after) (sym c.in-Some.is)
    (subst (λ (ps : List Path). TellsRead schema cells (reach_walk schema primary ps) (λ now. Some c.from_vec.result ≡ Some (included schema now primary ps)) before after) c.as_slice.ensures
    (told_so schema cells (reach_walk schema primary c.as_slice.result.now) (reach_walk schema primary c.as_slice.result.now)
    (λ now. c.in_ok-rows-in-Some.rows.items ≡ included schema now primary c.as_slice.result.now) (λ now. Some c.from_vec.result ≡ Some (included schema now primary c.as_slice.result.now)) before after
    (λ now valid is. ap (λ (rows : List Row). Some rows) (c.from_vec.ensures ∙ is)) (λ now k valid is e. e) c.in_ok-rows-in-Some.ensures))
