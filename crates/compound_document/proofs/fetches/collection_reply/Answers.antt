use Rattle.std.proofs.Common.{◌≡◌, ◌∙◌, subst, List}
use Rattle.task_forms.specs.declared.queries.SortKey.{SortKey}
use Rattle.store_model.specs.Pages.{page_of, rows_of}
use Rattle.store_model.specs.Reach.{of_kind, reach_page}
use Rattle.trial_steps.specs.Runners.{TellsRead}
use Rattle.compound_document.proofs.Runs.{map_ok}
use Rattle.compound_document.proofs.Telling.{collection_told}
use Rattle.compound_document.proofs.fetches.collection_reply.Goals as goal

pub returns : goal.returns
returns g c =
    let schema = c.args.schema.now in
    let query = c.args.query.now in
    let kind = c.args.kind in
    map_ok _ _ c.page_reply.result
    (λ r told. collection_told schema g.V.View.cells query kind c.in_ok-page.page c.as_str.result.now c.args.recorder.now c.select_page.new.recorder c.page_reply.new.recorder r
    (λ w valid. c.pages_are_exact.ensures.collections schema w kind query.sort query.page valid)
    (λ w valid. c.rows_are_the_worlds.ensures.of_type schema w kind valid)
    (c.as_str.ensures ∙ c.in_ok-path.ensures)
    (subst (λ (so : List SortKey). TellsRead schema g.V.View.cells (reach_page (of_kind kind) so query.page) (λ now. c.in_ok-page.page ≡ page_of so query.page (rows_of now kind)) c.args.recorder.now c.select_page.new.recorder) c.as_slice-sort.ensures (c.in_ok-page.ensures schema))
    told)
    c.page_reply.ensures
