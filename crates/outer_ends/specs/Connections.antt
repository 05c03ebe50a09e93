-- What it says to accept a connection, and to give it back.
use Rattle.std.specs.Prelude.{◌≡◌, ◌+◌, [], ◌∷◌, ◌++◌, IfSome, IsNone, IsSome, Some, MatchResult, Result}
use Rattle.outer_ends.specs.Told.{SourceTold, SinkTold, Ended, ListenerTold}
use Rattle.outer_ends.specs.Opens.{IsFresh}

-- an accepted connection is one more that is out
abbrev pub CountsLive : {C E : Type 0} → ListenerTold → ListenerTold → Result C E → Type 0
CountsLive before now r = MatchResult r (λ _. now.live ≡ before.live + 1) (λ _. now.live ≡ before.live)

-- a sink to which nothing was written, where it tells what was, and which has not failed
pub record IsBlank (sink : SinkTold) : Type 0 where
  pub nothing_written : IfSome sink.written (λ bytes. bytes ≡ [])
  pub no_faults : sink.faults ≡ 0

-- both ends of an accepted connection are unused
pub record IsAccepted (source : SourceTold) (sink : SinkTold) : Type 0 where
  pub fresh : IsFresh source
  pub blank : IsBlank sink

-- both ends tell their bytes
pub record TellsAll (source : SourceTold) (sink : SinkTold) : Type 0 where
  pub taken_told : IsSome source.taken
  pub left_told : IsSome source.left
  pub written_told : IsSome sink.written

-- the item is that of these ends, as far as they tell their bytes
pub record IsEndOf (item : Ended) (source : SourceTold) (sink : SinkTold) : Type 0 where
  pub taken_is : IfSome source.taken (λ bytes. item.taken ≡ bytes)
  pub left_is : IfSome source.left (λ bytes. item.left ≡ bytes)
  pub written_is : IfSome sink.written (λ bytes. item.written ≡ bytes)
  pub reads_is : item.reads ≡ source.faults
  pub writes_is : item.writes ≡ sink.faults

-- the connection of these ends is given back: where the list is told, its item is appended
pub record Closes (before now : ListenerTold) (source : SourceTold) (sink : SinkTold) : Type 0 where
  pub untold : IsNone before.closed → IsNone now.closed
  pub appended : IfSome before.closed (λ items. (item : Ended) × (now.closed ≡ Some (items ++ item ∷ [])) × IsEndOf item source sink)
