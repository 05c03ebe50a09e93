use Rattle.std.proofs.Common.{◌≡◌, ◌∙◌, [], ◌∷◌, ap, sym, subst, true, false, Option}
use Rattle.resource_schema.specs.declared.targets.Target.TheVariants as target
use Rattle.world_cells.specs.declared.rows.Row.{Row}
use Rattle.world_cells.specs.World.{link_at, linked, row_at}
use Rattle.store_model.specs.Reach.{is_row_in, linked_keys_of}
use Rattle.trial_steps.specs.Runners.{TellsRead}
use Rattle.trial_steps.specs.StepLaws.{row_in_left}
use Rattle.compound_document.specs.Linked.{is_many_link}
use Rattle.compound_document.proofs.Runs.{map_ok, told_looked}
use Rattle.compound_document.proofs.Telling.{nothing_told, no_related, many_told, one_told}
use Rattle.compound_document.proofs.fetches.related_reply.Goals as goal

pub returns-in_default : goal.returns-in_default
returns-in_default g c =
    let schema = c.args.schema.now in
    let cells = g.V.View.cells in
    let key = c.args.key.now in
    map_ok _ _ c.not_found.result
    (λ r is. nothing_told schema cells c.args.query.now key (target.Related key c.args.rel) c.args.recorder.now c.find_row.new.recorder r (no_related schema cells c.args.query.now key c.args.rel)
    (λ w k e. row_in_left (key ∷ []) (linked_keys_of schema (row_at w key) c.args.rel) k e) is
    (subst (λ (o : Option Row). TellsRead schema cells (λ now. is_row_in (key ∷ [])) (λ now. o ≡ row_at now key) c.args.recorder.now c.find_row.new.recorder) c.in_default.is
    (told_looked schema cells (is_row_in (key ∷ [])) (λ now. c.in_ok-row.field-0 ≡ row_at now key) c.args.recorder.now c.find_row.new.recorder c.in_ok-row.ensures.looks (c.in_ok-row.ensures.sees schema))))
    c.not_found.ensures

pub returns-then-is_many_link : goal.returns-then-is_many_link
returns-then-is_many_link g c =
    let schema = c.args.schema.now in
    let cells = g.V.View.cells in
    let query = c.args.query.now in
    let key = c.args.key.now in
    let row = c.in-Some.row in
    let many : is_many_link (link_at row c.args.rel) ≡ true = sym (ap is_many_link c.link_at.ensures) ∙ sym c.is_many_link.ensures ∙ c.if-is_many_link.true in
    map_ok _ _ c.page_reply.result
    (λ r told. many_told schema cells query key c.args.rel row c.args.recorder.now c.find_row.new.recorder c.linked_page.new.recorder c.page_reply.new.recorder r c.related_content-content.result
    (subst (λ (o : Option Row). TellsRead schema cells (λ now. is_row_in (key ∷ [])) (λ now. o ≡ row_at now key) c.args.recorder.now c.find_row.new.recorder) c.in-Some.is
    (told_looked schema cells (is_row_in (key ∷ [])) (λ now. c.in_ok-row.field-0 ≡ row_at now key) c.args.recorder.now c.find_row.new.recorder c.in_ok-row.ensures.looks (c.in_ok-row.ensures.sees schema)))
    c.related_content-content.ensures c.in_ok-page.page c.as_str.result.now
    (λ w valid. c.pages_are_exact.ensures.relationships schema w row c.args.rel query.sort query.page valid)
    (λ w valid. c.rows_are_the_worlds.ensures.at_keys schema w (linked schema row c.args.rel) valid)
    many (c.as_str.ensures ∙ c.in_ok-path.ensures) c.in_ok-page.ensures told)
    c.page_reply.ensures

pub returns : goal.returns
returns g c =
    let schema = c.args.schema.now in
    let cells = g.V.View.cells in
    let query = c.args.query.now in
    let key = c.args.key.now in
    let row = c.in-Some.row in
    let one : is_many_link (link_at row c.args.rel) ≡ false = sym (ap is_many_link c.link_at.ensures) ∙ sym c.is_many_link.ensures ∙ c.if-is_many_link.false in
    map_ok _ _ c.one_reply.result
    (λ r told. one_told schema cells query key c.args.rel row c.args.recorder.now c.find_row.new.recorder c.linked_row.new.recorder c.one_reply.new.recorder r c.related_content-content.result
    (subst (λ (o : Option Row). TellsRead schema cells (λ now. is_row_in (key ∷ [])) (λ now. o ≡ row_at now key) c.args.recorder.now c.find_row.new.recorder) c.in-Some.is
    (told_looked schema cells (is_row_in (key ∷ [])) (λ now. c.in_ok-row.field-0 ≡ row_at now key) c.args.recorder.now c.find_row.new.recorder c.in_ok-row.ensures.looks (c.in_ok-row.ensures.sees schema)))
    c.related_content-content.ensures c.in_ok-linked.linked one c.in_ok-linked.ensures told)
    c.one_reply.ensures
