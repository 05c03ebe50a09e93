use Rattle.std.proofs.Common.{◌∷◌, ◌++◌, ap, sym, ◌∙◌}
use Rattle.std.specs.List.{flat_map}
use Rattle.request_model.specs.Words.{comma}
use Rattle.media_types.specs.ValuesLeft.{values_left}
use Rattle.media_types.proofs.Joins.{join-is}
use Rattle.media_types.proofs.accepting.join.Goals as goal

pub loop-text-init : goal.loop-text-init
loop-text-init c =
    let first = c.args.first.now in
    rw c.in_ok-joined.ensures.items
    (join-is comma first (values_left c.args.others) ∙ ap (λ v. first ++ flat_map (λ y. comma ∷ y) (values_left v)) (sym c.into_iter-text-iterator.ensures.into_iter_gives))
