use Rattle.std.proofs.Common.{◌≡◌, List, sym, subst}
use Rattle.std.specs.Prelude.{IfOk}
use Rattle.ident_rules.specs.declared.key.Key.{Key}
use Rattle.store_model.specs.Pages.{page_of, rows_at}
use Rattle.store_model.specs.Reach.{listed, reach_page}
use Rattle.trial_steps.specs.Runners.{TellsRead}
use Rattle.page_select.specs.declared.pages.Members.{Members}
use Rattle.page_select.specs.Chosen.{AreListed, IsSelected, meant}
use Rattle.page_select.proofs.Told.{told_listed}
use Rattle.page_select.proofs.pages.select_page.Goals as goal

pub returns-in-Listed : goal.returns-in-Listed
returns-in-Listed g c = λ schema.
    subst (λ (m : Members). IfOk c.page_listed.result (λ s. TellsRead schema g.V.View.cells (reach_page (meant m) c.args.sort.now c.args.page.now) (IsSelected m c.args.sort.now c.args.page.now s) c.args.recorder.now c.page_listed.new.recorder)) (sym c.in-Listed.is)
    (subst (λ (ks : List Key). IfOk c.page_listed.result (λ s. TellsRead schema g.V.View.cells (reach_page (listed ks) c.args.sort.now c.args.page.now) (λ now. AreListed ks → s ≡ page_of c.args.sort.now c.args.page.now (rows_at now ks)) c.args.recorder.now c.page_listed.new.recorder)) c.as_slice.ensures
    (told_listed g.V.View.cells schema c.as_slice.result.now c.args.sort.now c.args.page.now c.args.recorder.now c.page_listed.new.recorder c.page_listed.result c.page_listed.ensures.looks (c.page_listed.ensures.sees schema)))

pub returns-in-OfKind : goal.returns-in-OfKind
returns-in-OfKind g c = λ schema.
    subst (λ (m : Members). IfOk c.page_of_kind.result (λ s. TellsRead schema g.V.View.cells (reach_page (meant m) c.args.sort.now c.args.page.now) (IsSelected m c.args.sort.now c.args.page.now s) c.args.recorder.now c.page_of_kind.new.recorder)) (sym c.in-OfKind.is)
    (c.page_of_kind.ensures schema)
