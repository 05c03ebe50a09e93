use Rattle.std.proofs.Common.{◌≤◌, ◌-◌, length}
use Rattle.compound_document.proofs.PairPlaces.{IsPlaceFrom}
use Rattle.compound_document.proofs.pairs.place_of_pair.Given as goal

abbrev pub invariant-loop-place : goal.invariant-loop-place
invariant-loop-place l = record {
  within : l.place ≤ length l.pairs;
  so_far : IsPlaceFrom l.name l.pairs l.place;
}

abbrev pub decreases-loop-place : goal.decreases-loop-place
decreases-loop-place l = length l.pairs - l.place
