-- What ends tell of themselves. Contracts see each end as one of these records: bytes, where it tells them, and counts.
use Rattle.std.specs.Prelude.{ℕ, List}
use Rattle.std.specs.declared.option.Option.{Option}

pub record SourceTold : Type 0 where
  -- the bytes that were read
  pub taken : Option (List ℕ)
  -- the bytes that are still to come
  pub left : Option (List ℕ)
  -- how often a read has failed
  pub faults : ℕ

pub record SinkTold : Type 0 where
  -- the bytes that were written
  pub written : Option (List ℕ)
  -- how often a write has failed
  pub faults : ℕ

pub record OpenerTold : Type 0 where
  -- the names and their bytes; of two with one name the first counts
  pub files : Option (List (List ℕ × List ℕ))
  -- how often a name was not there
  pub misses : ℕ
  -- how often the opener, or a source that was given back, has failed
  pub faults : ℕ

-- a connection that was given back: what its source took, what that has left, what its sink wrote, and how often each
-- has failed
pub record Ended : Type 0 where
  pub taken : List ℕ
  pub left : List ℕ
  pub written : List ℕ
  pub reads : ℕ
  pub writes : ℕ

pub record ListenerTold : Type 0 where
  -- the accepted connections that were not given back yet
  pub live : ℕ
  -- those that were given back, in order
  pub closed : Option (List Ended)
  -- how often no connection could be accepted
  pub faults : ℕ
