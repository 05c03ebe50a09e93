-- What the last text of a session is.
use Rattle.std.specs.Prelude.{◌≡◌, ℕ, Bool, true, List}
use Rattle.std.specs.Io.KnownBytes.{Appends}
use Rattle.outer_ends.specs.Told.{SinkTold}
use Rattle.outer_ends.specs.Causes.{Rose}
use Rattle.outer_ends.specs.Streams.{AppendsFront}
use Rattle.http_messages.specs.declared.messages.Reply.{Reply}
use Rattle.http_messages.specs.declared.messages.Stop.TheVariants as stop
use Rattle.http_messages.specs.ReplyText.{reply_text, unavailable_text, stop_text}
use Rattle.http_messages.specs.declared.ends.SessionEnd.{SessionEnd}
use Rattle.http_messages.specs.declared.ends.SessionEnd.TheVariants.{Closed, Refused, CutShort, ReadFault, WriteFault, NoMemory, Worn}

abbrev pub WritesRefusal : Reply → Bool → SinkTold → SinkTold → SessionEnd → Type 0
WritesRefusal reply head_only sink now (Refused s) = Appends sink.written now.written (reply_text reply head_only true) × (s ≡ reply.status)
WritesRefusal reply head_only sink now WriteFault = AppendsFront sink.written now.written (reply_text reply head_only true)
WritesRefusal reply head_only sink now NoMemory = now.written ≡ sink.written
WritesRefusal reply head_only sink now Closed = ⊥
WritesRefusal reply head_only sink now CutShort = ⊥
WritesRefusal reply head_only sink now ReadFault = ⊥
WritesRefusal reply head_only sink now Worn = ⊥

abbrev pub RefuseCause : SinkTold → SinkTold → SessionEnd → Type 0
RefuseCause sink now WriteFault = Rose sink.faults now.faults
RefuseCause sink now end = now.faults ≡ sink.faults

-- the last text behind an end, where it has one of its own
abbrev pub Finishes : SessionEnd → SinkTold → SinkTold → SessionEnd → Type 0
Finishes NoMemory sink now NoMemory = Appends sink.written now.written unavailable_text
Finishes NoMemory sink now WriteFault = AppendsFront sink.written now.written unavailable_text
Finishes NoMemory sink now Closed = ⊥
Finishes NoMemory sink now (Refused s) = ⊥
Finishes NoMemory sink now CutShort = ⊥
Finishes NoMemory sink now ReadFault = ⊥
Finishes NoMemory sink now Worn = ⊥
Finishes Closed sink now result = (result ≡ Closed) × (now.written ≡ sink.written)
Finishes (Refused s) sink now result = (result ≡ Refused s) × (now.written ≡ sink.written)
Finishes CutShort sink now result = (result ≡ CutShort) × (now.written ≡ sink.written)
Finishes ReadFault sink now result = (result ≡ ReadFault) × (now.written ≡ sink.written)
Finishes WriteFault sink now result = (result ≡ WriteFault) × (now.written ≡ sink.written)
Finishes Worn sink now result = (result ≡ Worn) × (now.written ≡ sink.written)

-- the last text where the desk is worn
abbrev pub WritesStop : SinkTold → SinkTold → SessionEnd → Type 0
WritesStop sink now Worn = Appends sink.written now.written (stop_text stop.Worn)
WritesStop sink now WriteFault = AppendsFront sink.written now.written (stop_text stop.Worn)
WritesStop sink now Closed = ⊥
WritesStop sink now (Refused s) = ⊥
WritesStop sink now CutShort = ⊥
WritesStop sink now ReadFault = ⊥
WritesStop sink now NoMemory = ⊥

-- a count of the sink where only the last text was written
abbrev pub FinishCause : SinkTold → SinkTold → SessionEnd → SessionEnd → Type 0
FinishCause sink now NoMemory WriteFault = Rose sink.faults now.faults
FinishCause sink now end result = now.faults ≡ sink.faults

abbrev pub StopCause : SinkTold → SinkTold → SessionEnd → Type 0
StopCause sink now WriteFault = Rose sink.faults now.faults
StopCause sink now result = now.faults ≡ sink.faults
