use Rattle.std.proofs.Common.{rules, tests}
use Rattle.std.specs.Prelude.{not}
use Rattle.std.proofs.lemmas.Fn.{filter_same}
use Rattle.request_model.specs.Negotiation.{is_named}
use Rattle.media_types.proofs.accepting.without_named.Goals as goal

pub returns : goal.returns
returns c = filter_same _ (λ p. not (is_named c.args.name.now p)) _ (λ x b q k. search (rules, tests)) _ _ c.retain.ensures.filtered
