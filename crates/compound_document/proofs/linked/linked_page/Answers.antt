use Rattle.std.proofs.Common.{◌≡◌, ◌∙◌, subst, List}
use Rattle.std.specs.Prelude.{IfOk}
use Rattle.ident_rules.specs.declared.key.Key.{Key}
use Rattle.task_forms.specs.declared.queries.SortKey.{SortKey}
use Rattle.page_select.specs.Chosen.{AreListed}
use Rattle.store_model.specs.Pages.{page_of, rows_at}
use Rattle.store_model.specs.Reach.{is_row_in}
use Rattle.trial_steps.specs.Runners.{TellsRead}
use Rattle.compound_document.proofs.linked.linked_page.Goals as goal

pub returns : goal.returns
returns g c =
    let schema = c.args.schema.now in
    let query = c.args.query.now in
    subst (λ (ks : List Key). IfOk c.select_page.result (λ s. TellsRead schema g.V.View.cells (λ now. is_row_in ks) (λ now. AreListed ks → s ≡ page_of query.sort query.page (rows_at now ks)) c.args.recorder.now c.select_page.new.recorder))
    (c.from_vec.ensures ∙ c.in_ok-keys.ensures)
    (subst (λ (so : List SortKey). IfOk c.select_page.result (λ s. TellsRead schema g.V.View.cells (λ now. is_row_in c.from_vec.result) (λ now. AreListed c.from_vec.result → s ≡ page_of so query.page (rows_at now c.from_vec.result)) c.args.recorder.now c.select_page.new.recorder))
    c.as_slice.ensures
    (c.select_page.ensures schema))
