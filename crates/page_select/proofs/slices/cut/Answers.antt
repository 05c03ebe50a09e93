use Rattle.std.proofs.Common.{◌+◌, ◌++◌, ◌∙◌, ap, take, drop, arith}
use Rattle.std.proofs.lemmas.List.{drop-take, take_at, length-drop, length-take-le}
use Rattle.page_select.proofs.slices.cut.Goals as goal

pub returns : goal.returns
returns c =
    c.truncate-2.ensures.items ∙ ap (take c.args.count) (c.rotate_left.ensures.items ∙ ap (λ xs. drop c.args.low xs ++ take c.args.low xs) c.truncate.ensures.items)
    ∙ take_at (drop c.args.low (take (c.args.low + c.args.count) c.args.rows.items)) (take c.args.low (take (c.args.low + c.args.count) c.args.rows.items)) c.args.count
    (let ok = c.args.rows.ok in omega (arith, length-drop c.args.low (take (c.args.low + c.args.count) c.args.rows.items), length-take-le (c.args.low + c.args.count) c.args.rows.items (let ok = c.args.rows.ok in omega arith)))
    ∙ drop-take c.args.low c.args.count c.args.rows.items
