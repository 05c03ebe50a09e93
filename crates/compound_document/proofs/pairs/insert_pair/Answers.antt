use Rattle.std.proofs.Common.{◌≡◌, ◌∙◌, length, arith, ap}
use Rattle.std.specs.List.{insert}
use Rattle.compound_document.specs.Pairs.{place_of_pair}
use Rattle.compound_document.proofs.PairPlaces.{put_in, place_within}
use Rattle.compound_document.proofs.pairs.insert_pair.Goals as goal

pub insert-requires : goal.insert-requires
insert-requires c =
    let within = place_within c.as_str.result.now c.as_slice.result.now in
    let same = ap length c.as_slice.ensures.value in
    let place = c.place_of_pair-place.ensures in
    let ok = c.args.pairs.now.ok in
    omega arith

pub returns : goal.returns
returns c =
    let at : c.place_of_pair-place.result ≡ place_of_pair c.args.pair.now.0 c.args.pairs.now.items = c.place_of_pair-place.ensures ∙ (λ i. place_of_pair (c.as_str.ensures i) (c.as_slice.ensures.value i)) in
    c.in_ok-insert.ensures.items ∙ (λ i. insert c.args.pairs.now.items (at i) (c.in_ok-copy.ensures i, c.in_ok-copy-2.ensures i)) ∙ put_in c.args.pair.now c.args.pairs.now.items
