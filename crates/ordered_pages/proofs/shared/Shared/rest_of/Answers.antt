use Rattle.std.proofs.Common.{◌++◌, map, drop, sym, ap, ◌∙◌}
use Rattle.std.proofs.lemmas.List.{take_rest}
use Rattle.std.specs.List.{drop-map}
use Rattle.std.specs.Arc.{arc_value}
use Rattle.ordered_pages.proofs.shared.Shared.rest_of.Goals as goal

pub returns : goal.returns
returns g c =
    c.in_ok-share.ensures
    ∙ (λ i. c.new-shared.ensures i
    ++ (ap (map arc_value) (take_rest c.deref.result.now c.args.from) ∙ sym (drop-map arc_value c.args.from c.deref.result.now) ∙ ap (drop c.args.from) (ap (map arc_value) c.deref.ensures.value ∙ c.other.view_is)) i)
