use Rattle.std.proofs.Common.{◌∙◌, ap, sym}
use Rattle.std.specs.List.{list_any}
use Rattle.world_cells.specs.Reads.{covers}
use Rattle.commit_log.proofs.Doubts.{any_meets, meets_any}
use Rattle.commit_log.proofs.reads.meets.Goals as goal

pub returns : goal.returns
returns c =
    let is = c.covers_one.ensures ∙ ap (λ ks. list_any (covers c.args.reads.now) ks) c.as_slice.ensures in
    (λ some. any_meets c.args.reads.now c.args.keys.now.keys (sym is ∙ some), λ meets. is ∙ meets_any c.args.reads.now c.args.keys.now.keys meets.0 meets.1 meets.2)
