use Rattle.std.proofs.Common.{◌==◌, rules, tests}
use Rattle.std.proofs.lemmas.Iterator.Consumers.{YieldsList-at, YieldsList-from_filter}
use Rattle.std.proofs.lemmas.Iterator.Search.{all_from_yields_List}
use Rattle.std.proofs.lemmas.Iterator.Splits.{YieldsList-from_slice_split}
use Rattle.request_model.specs.Words.{is_any}
use Rattle.request_model.specs.Negotiation.{is_atomic}
use Rattle.media_types.proofs.types.all_atomic.Goals as goal

pub returns : goal.returns
returns c =
    all_from_yields_List is_atomic _ _ _ c.all.ensures.ran
    (YieldsList-from_filter _ is_any
    (YieldsList-at c.filter.ensures.source
    (YieldsList-from_slice_split _ (λ b. b == 32) c.args.uris.now c.split.ensures.rest c.split.ensures.done c.split.ensures.closure (λ x b q k. search (rules, tests))))
    c.filter.ensures.closure (λ x b q k. search (rules, tests)))
    (λ x b q k. search (rules, tests))
