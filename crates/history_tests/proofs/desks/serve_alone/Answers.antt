use Rattle.std.proofs.Common.{[], ap, sym, ◌∙◌}
use Rattle.ordered_pages.specs.Tree.{map_of}
use Rattle.history_tests.proofs.desks.serve_alone.Goals as goal

pub over-desk-requires : goal.over-desk-requires
over-desk-requires g c =
    let k = g.S.Answers.kind c.in_ok-core.core.subject in
    let lawful = g.S.Means.lawful k in
    record { stands = (c.args.first, (g.S.Means.meaning k).empty, [], c.in_ok-core.ensures.begins (g.S.Means.meaning k).empty lawful.begins (λ i. ap (λ p. map_of p i) c.new.ensures ∙ sym (lawful.nothing i))) }
