use Rattle.std.proofs.Common.{[], ap, sym, ◌∙◌}
use Rattle.ordered_pages.specs.Tree.{map_of}
use Rattle.local_desk.proofs.desk.LocalDesk.new.Goals as goal

pub invariant_of-result : goal.invariant_of-result
invariant_of-result g c =
    let k = g.S.Answers.kind c.in_ok-core.core.subject in
    let lawful = g.S.Means.lawful k in
    (0, (g.S.Means.meaning k).empty, [], c.in_ok-core.ensures.begins (g.S.Means.meaning k).empty lawful.begins (λ i. ap (λ p. map_of p i) c.new.ensures ∙ sym (lawful.nothing i)))

pub returns-clause-stands : goal.returns-clause-stands
returns-clause-stands g c =
    let k = g.S.Answers.kind c.in_ok-core.core.subject in
    let lawful = g.S.Means.lawful k in
    c.in_ok-core.ensures.begins (g.S.Means.meaning k).empty lawful.begins (λ i. ap (λ p. map_of p i) c.new.ensures ∙ sym (lawful.nothing i))
