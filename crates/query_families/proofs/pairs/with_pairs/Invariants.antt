use Rattle.std.proofs.Common.{◌≡◌, map}
use Rattle.form_urlencoded.specs.Parse.{owned_pairs_left}
use Rattle.request_model.specs.Queries.{decoded_text, pairs_of, with_pairs}
use Rattle.query_families.specs.Pairs.{nothing_asked}
use Rattle.query_families.proofs.pairs.with_pairs.Given as goal

abbrev pub invariant-loop-pair : goal.invariant-loop-pair
invariant-loop-pair l =
    with_pairs l.schema l.target nothing_asked (pairs_of l.query)
    ≡ with_pairs l.schema l.target l.asked (map (λ p. (decoded_text p.0, decoded_text p.1)) (owned_pairs_left l.pair-iterator))
