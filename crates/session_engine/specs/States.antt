-- What contracts see of a session.
use Rattle.std.specs.Prelude.{ℕ, List}
use Rattle.std.specs.declared.option.Option.{Option}
use Rattle.session_engine.specs.declared.sessions.Pending.{Pending}

pub record SessionState : Type 0 where
  pub answered : ℕ
  pub buffer : List ℕ
  pub pending : Option Pending
