use Rattle.std.proofs.Common.{◌≡◌, ℕ, ◌<◌, ◌≤◌, IsSome, IfSome, length, slice_index_or, sum_by, take}
use Rattle.worker_stations.specs.Stations.{IsTaken, count_of}
use Rattle.worker_stations.proofs.joins.join_all.Given as goal

abbrev pub invariant-loop-k : goal.invariant-loop-k
invariant-loop-k g l = record {
  len : length l.stations ≡ length l.fn.stations;
  before : (i : ℕ) (d : _) → i < l.k → IsTaken (slice_index_or l.fn.stations i d) (slice_index_or l.stations i d);
  after : (i : ℕ) (d : _) → l.k ≤ i → i < length l.fn.stations → slice_index_or l.stations i d ≡ slice_index_or l.fn.stations i d;
  some : 0 < l.k → IsSome l.whole;
  own : IfSome l.whole (g.J.Joining.own l.lock);
  within : IfSome l.whole (λ w. (i : ℕ) (d : _) → i < l.k → IfSome (slice_index_or l.fn.stations i d).pass (λ p. g.J.Joining.within p w));
  mine : count_of g.J.Joining.mine l.whole ≡ sum_by (λ s. count_of g.J.Joining.mine s.pass) (take l.k l.fn.stations);
}
