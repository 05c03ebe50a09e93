use Rattle.std.proofs.Common.{◌||◌, ◌∙◌, rules, tests}
use Rattle.std.specs.Prelude.{codes, filter, not}
use Rattle.std.specs.List.{list_all}
use Rattle.std.proofs.lemmas.Iterator.{YieldsList-from_slice}
use Rattle.std.proofs.lemmas.Iterator.Search.{all_from_yields_List}
use Rattle.request_model.specs.Words.{is_any, parts_at, space}
use Rattle.request_model.specs.Negotiation.{is_atomic, is_named}
use Rattle.media_types.proofs.Extensions.{all_atomic-is}
use Rattle.media_types.proofs.types.have_atomic_alone.Goals as goal

pub returns : goal.returns
returns c =
    all_from_yields_List (λ p. not (is_named (codes "ext") p) || list_all is_atomic (filter is_any (parts_at space p.value))) _ _ _ c.all.ensures.ran
    (YieldsList-from_slice c.args.params.now cc) (λ x b q k. search (rules, tests))
    ∙ all_atomic-is c.args.params.now
