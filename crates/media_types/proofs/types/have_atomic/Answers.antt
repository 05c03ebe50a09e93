use Rattle.std.proofs.Common.{◌&&◌, ◌∙◌, rules, tests}
use Rattle.std.specs.Prelude.{codes, filter}
use Rattle.std.specs.List.{list_any}
use Rattle.std.proofs.lemmas.Iterator.{YieldsList-from_slice}
use Rattle.std.proofs.lemmas.Iterator.Search.{any_from_yields_List}
use Rattle.request_model.specs.Words.{is_any, parts_at, space}
use Rattle.request_model.specs.Negotiation.{is_atomic, is_named}
use Rattle.media_types.proofs.Extensions.{any_atomic-is}
use Rattle.media_types.proofs.types.have_atomic.Goals as goal

pub returns : goal.returns
returns c =
    any_from_yields_List (λ p. is_named (codes "ext") p && list_any is_atomic (filter is_any (parts_at space p.value))) _ _ _ c.any.ensures.ran
    (YieldsList-from_slice c.args.params.now cc) (λ x b q k. search (rules, tests))
    ∙ any_atomic-is c.args.params.now
