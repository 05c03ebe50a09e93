use Rattle.std.proofs.Common.{◌≡◌, [], ◌∷◌}
use Rattle.store_model.specs.Reach.{is_row_in}
use Rattle.world_cells.specs.World.{row_at}
use Rattle.compound_document.specs.Fetches.{alone_reply}
use Rattle.compound_document.proofs.Runs.{map_ok, told_step}
use Rattle.compound_document.proofs.Telling.{alone_told}
use Rattle.compound_document.proofs.fetches.resource_reply.Goals as goal

pub returns-in-None : goal.returns-in-None
returns-in-None g c =
    let schema = c.args.schema.now in
    let cells = g.V.View.cells in
    let query = c.args.query.now in
    let key = c.args.key.now in
    map_ok _ _ c.alone_reply.result
    (λ r told. alone_told schema cells query key c.args.recorder.now c.alone_reply.new.recorder r c.in-None.is told)
    (told_step schema cells (is_row_in (key ∷ [])) (λ r now. r ≡ alone_reply schema query (row_at now key)) c.args.recorder.now c.alone_reply.new.recorder c.alone_reply.result c.alone_reply.ensures.looks c.alone_reply.ensures.sees)
