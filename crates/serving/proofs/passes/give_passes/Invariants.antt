use Rattle.std.proofs.Common.{◌≡◌, ℕ, ◌<◌, ◌≤◌, Some, get_or, length, slice_index_or}
use Rattle.std.specs.Prelude.{vec_len}
use Rattle.serving.proofs.passes.give_passes.Given as goal

abbrev pub invariant-giving : goal.invariant-giving
invariant-giving g l = record {
  len : length l.stations ≡ length l.fn.stations;
  few : length l.passes.items ≤ length l.fn.stations;
  left : (i : ℕ) (p : _) → i < length l.passes.items → get_or l.passes.items i p ≡ get_or l.fn.passes.items i p;
  before : (i : ℕ) (d : _) → i < length l.passes.items → slice_index_or l.stations i d ≡ slice_index_or l.fn.stations i d;
  given : (i : ℕ) (d : _) (p : _) → length l.passes.items ≤ i → i < length l.fn.stations
      → slice_index_or l.stations i d ≡ record (slice_index_or l.fn.stations i d) { pass = Some (get_or l.fn.passes.items i p) };
}

abbrev pub decreases-giving : goal.decreases-giving
decreases-giving g l = vec_len l.passes
