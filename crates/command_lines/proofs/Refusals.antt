-- A line that was sent, or a proper prefix of it, is a refusal.
use Rattle.std.proofs.Common.{◌≡◌, ℕ, List, inl, inr}
use Rattle.std.specs.Prelude.{⊤, Result, Ok, Err}
use Rattle.outer_ends.specs.declared.traits.Failed.{Failed}
use Rattle.outer_ends.specs.Causes.{HasCause}
use Rattle.outer_ends.specs.Streams.{Sends}
use Rattle.outer_ends.specs.Told.{SinkTold}
use Rattle.command_lines.specs.Lines.{status_of_sent, Refuses}

pub refuses_by : (text : List ℕ) (sink sink_now : SinkTold) (sent : Result ⊤ Failed) (status : ℕ)
    → Sends sink sink_now text sent → HasCause sink.faults sink_now.faults sent → status ≡ status_of_sent 2 sent → Refuses text sink sink_now status
refuses_by text sink sink_now (Ok done) status sends cause is = inl (is, sends.whole, cause.kept)
refuses_by text sink sink_now (Err failed) status sends cause is = inr (is, sends.front, cause.failed)
