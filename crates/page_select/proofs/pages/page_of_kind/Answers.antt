use Rattle.std.proofs.Common.{◌≡◌, ◌==◌, []}
use Rattle.store_model.specs.Pages.{page_of, rows_of}
use Rattle.store_model.specs.Reach.{is_row_of, reach_sorted}
use Rattle.page_select.specs.Ranges.{anywhere}
use Rattle.page_select.proofs.Told.{told, told_by_id, told_by_keys, no_item, some_item}
use Rattle.page_select.proofs.pages.page_of_kind.Goals as goal

pub returns-then-is_empty : goal.returns-then-is_empty
returns-then-is_empty g c = λ schema.
    told_by_id g.V.View.cells schema c.args.kind c.args.page.now c.args.recorder.now c.page_by_id.new.recorder c.page_by_id.result c.args.sort.now (no_item c.args.sort.now c.is_empty.result c.is_empty.ensures c.if-is_empty.true)
    (told g.V.View.cells schema anywhere (λ now. is_row_of (reach_sorted now c.args.kind c.args.page.now [])) (λ s now. s ≡ page_of [] c.args.page.now (rows_of now c.args.kind)) c.args.recorder.now c.page_by_id.new.recorder c.page_by_id.result
    c.page_by_id.ensures.looks (c.page_by_id.ensures.sees schema) (c.page_by_id.ensures.reach schema))

pub returns-else-is_empty : goal.returns-else-is_empty
returns-else-is_empty g c = λ schema.
    told_by_keys g.V.View.cells schema c.args.kind c.args.page.now c.args.recorder.now c.page_by_keys.new.recorder c.page_by_keys.result c.args.sort.now (some_item c.args.sort.now c.is_empty.result c.is_empty.ensures c.if-is_empty.false)
    (told g.V.View.cells schema anywhere (λ now. is_row_of (λ key. key.kind == c.args.kind)) (λ s now. s ≡ page_of c.args.sort.now c.args.page.now (rows_of now c.args.kind)) c.args.recorder.now c.page_by_keys.new.recorder c.page_by_keys.result
    c.page_by_keys.ensures.looks (c.page_by_keys.ensures.sees schema) (c.page_by_keys.ensures.reach schema))
