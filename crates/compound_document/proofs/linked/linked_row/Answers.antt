use Rattle.std.proofs.Common.{◌≡◌, ◌∙◌, [], ◌∷◌, ap, Some}
use Rattle.std.specs.Option.{option_and_then}
use Rattle.store_model.specs.Pages.{first_item}
use Rattle.store_model.specs.Reach.{is_row_in}
use Rattle.world_cells.specs.World.{linked, row_at}
use Rattle.compound_document.proofs.Lists.{first_at}
use Rattle.compound_document.proofs.Runs.{map_ok, told_so, told_step}
use Rattle.compound_document.proofs.Within.{first_key_in}
use Rattle.compound_document.proofs.linked.linked_row.Goals as goal

pub returns-in-Some : goal.returns-in-Some
returns-in-Some g c =
    let schema = c.args.schema.now in
    let cells = g.V.View.cells in
    let keys = linked schema c.args.row.now c.args.rel in
    let key = c.in-Some.key.now in
    let first_is : Some key ≡ first_item keys = c.in-Some.ensures.value ∙ first_at c.as_slice.result.now ∙ ap first_item (c.as_slice.ensures.value ∙ c.in_ok-keys.ensures) in
    map_ok _ _ c.find_row.result
    (λ found told. told_so schema cells (λ now. is_row_in (key ∷ [])) (λ now. is_row_in keys) (λ now. found ≡ row_at now key) (λ now. found ≡ option_and_then (row_at now) (first_item keys)) c.args.recorder.now c.find_row.new.recorder
    (λ now valid is. is ∙ ap (option_and_then (row_at now)) first_is)
    (λ now k valid is e. first_key_in keys key first_is k e)
    told)
    (told_step schema cells (is_row_in (key ∷ [])) (λ found now. found ≡ row_at now key) c.args.recorder.now c.find_row.new.recorder c.find_row.result c.find_row.ensures.looks (c.find_row.ensures.sees schema))
