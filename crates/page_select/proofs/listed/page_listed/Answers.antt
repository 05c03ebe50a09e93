use Rattle.std.proofs.Common.{◌≡◌, ◌∙◌, sym, ap, subst, List}
use Rattle.std.specs.List.{IsDistinct}
use Rattle.world_cells.specs.declared.rows.Row.{Row}
use Rattle.store_model.specs.Pages.{page_of, rows_at}
use Rattle.page_select.specs.Chosen.{AreListed}
use Rattle.page_select.specs.Orders.{same_row}
use Rattle.page_select.proofs.Apart.{listed_apart}
use Rattle.page_select.proofs.Paged.{map_ok}
use Rattle.page_select.proofs.listed.page_listed.Goals as goal

pub returns-clause-sees : goal.returns-clause-sees
returns-clause-sees g c = λ schema w now behind leads.
    let is = c.in_ok-rows.ensures.sees schema w now behind leads in
    map_ok _ (λ s. AreListed c.args.keys.now → s ≡ page_of c.args.sort.now c.args.page.now (rows_at now c.args.keys.now)) c.page_of_rows.result
    (λ s tells listed. tells (subst (λ (xs : List Row). IsDistinct same_row xs) (sym is) (listed_apart schema now behind.now_valid c.args.keys.now listed)) ∙ ap (page_of c.args.sort.now c.args.page.now) is)
    c.page_of_rows.ensures
