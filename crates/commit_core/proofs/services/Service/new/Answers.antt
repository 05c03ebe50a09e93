use Rattle.std.proofs.Common.{ap, sym, ◌∙◌}
use Rattle.ordered_pages.specs.Tree.{map_of}
use Rattle.commit_core.proofs.services.Service.new.Goals as goal

pub new-requires-3-clause-stands : goal.new-requires-3-clause-stands
new-requires-3-clause-stands g c =
    let k = g.S.Answers.kind c.in_ok-core.core.subject in
    let lawful = g.S.Means.lawful k in
    (c.in_ok-core.ensures.window, c.in_ok-core.ensures.begins (g.S.Means.meaning k).empty lawful.begins (λ key. ap (λ p. map_of p key) c.new.ensures ∙ sym (lawful.nothing key)))
