use Rattle.std.proofs.Common.{◌++◌, map, take, sym, ap, ◌∙◌}
use Rattle.std.specs.List.{take-map}
use Rattle.std.specs.Arc.{arc_value}
use Rattle.ordered_pages.proofs.shared.Shared.front_of.Goals as goal

pub returns : goal.returns
returns g c =
    c.in_ok-share.ensures
    ∙ (λ i. ap (map arc_value) c.in_ok-with_capacity.ensures.items i
    ++ (sym (take-map arc_value c.args.to c.deref.result.now) ∙ ap (take c.args.to) (ap (map arc_value) c.deref.ensures.value ∙ c.other.view_is)) i)
