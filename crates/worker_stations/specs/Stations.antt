-- Stations before and behind their workers (of this project).
use Rattle.std.specs.Prelude.{◌≡◌, ℕ, ◌<◌, IfSome, IsSome, IsNone, List, length, None, Some, get_or, sum_by}
use Rattle.std.specs.declared.option.Option.{Option}
use Rattle.worker_stations.specs.declared.stations.Station.{Station}

-- the pass was taken, and nothing else
pub record IsTaken {L G P E : Type 0} (before now : Station L G P E) : Type 0 where
  pub listener : now.listener ≡ before.listener
  pub gate : now.gate ≡ before.gate
  pub end : now.end ≡ before.end
  pub pass : IsNone now.pass

-- a worker has run at the station, and has put the pass back
pub record Ran {L G P E : Type 0} (ran : Station L G P E → Station L G P E → Type 0) (own : P → Type 0) (before now : Station L G P E) : Type 0 where
  pub ran_so : ran before now
  pub pass : IsSome now.pass
  pub own_pass : IfSome now.pass own

-- so many entries of its own
abbrev pub count_of : {P X : Type 0} → (P → List X) → Option P → ℕ
count_of mine None = 0
count_of mine (Some p) = length (mine p)

-- Every worker has run at its station, and then the passes were joined into the whole: it has all that any of them had, and as many own
-- entries as they had together.
pub record AreServed {L G P X E : Type 0} (ran : Station L G P E → Station L G P E → Type 0) (own : P → Type 0) (within : P → P → Type 0) (mine : P → List X) (whole : P) (before now : List (Station L G P E)) : Type 0 where
  pub middle : List (Station L G P E)
  pub len : length middle ≡ length before
  pub len_now : length now ≡ length middle
  pub ran_each : (i : ℕ) (d : Station L G P E) → i < length middle → Ran ran own (get_or before i d) (get_or middle i d)
  pub taken_each : (i : ℕ) (d : Station L G P E) → i < length middle → IsTaken (get_or middle i d) (get_or now i d)
  pub joined_each : (i : ℕ) (d : Station L G P E) → i < length middle → IfSome (get_or middle i d).pass (λ p. within p whole)
  pub entries : length (mine whole) ≡ sum_by (λ s. count_of mine s.pass) middle
