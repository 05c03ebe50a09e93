use Rattle.std.proofs.Common.{◌∙◌, sym, arith}
use Rattle.std.proofs.lemmas.List.{drop_all}
use Rattle.compound_document.proofs.PairPlaces.{place_on, place_here, place_at_end}
use Rattle.compound_document.proofs.pairs.place_of_pair.Goals as goal

pub loop-place-preserved : goal.loop-place-preserved
loop-place-preserved c = record {
  within = (let lt = c.loop-place-test.true in omega arith);
  so_far = place_on c.args.name.now c.args.pairs.now c.loop-place.place c.index-pairs-place.result c.loop-place-test.true c.index-pairs-place.is (sym c.is_greater.ensures ∙ c.if-is_greater.true) c.loop-place.invariant.so_far;
}

pub returns-else-is_greater : goal.returns-else-is_greater
returns-else-is_greater c = place_here c.args.name.now c.args.pairs.now c.loop-place.place c.index-pairs-place.result c.loop-place-test.true c.index-pairs-place.is (sym c.is_greater.ensures ∙ c.if-is_greater.false) c.loop-place.invariant.so_far

pub returns-after-loop-place : goal.returns-after-loop-place
returns-after-loop-place c = place_at_end c.args.name.now c.args.pairs.now c.loop-place.place (drop_all c.loop-place.place c.args.pairs.now c.loop-place-test.false) c.loop-place.invariant.so_far
