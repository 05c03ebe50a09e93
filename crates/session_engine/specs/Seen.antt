-- What one call of a session did, by the bytes that it has seen: those that were read and not used before it, and
-- those that it took. So it is said of any source, and of any cut.
use Rattle.std.specs.Prelude.{◌≡◌, ◌⊎◌, ℕ, ◌+◌, ◌<◌, Bool, false, List, [], ◌++◌, length, IsTrue, IsFalse, None, Some, IfSome, ⊤}
use Rattle.std.specs.declared.option.Option.{Option}
use Rattle.std.specs.Io.KnownBytes.{Appends, Consumes, IsAtEnd}
use Rattle.outer_ends.specs.Told.{SourceTold, SinkTold}
use Rattle.outer_ends.specs.Causes.{Rose}
use Rattle.outer_ends.specs.Streams.{AppendsFront}
use Rattle.http_messages.specs.declared.messages.Message.{Message}
use Rattle.http_messages.specs.declared.messages.Reply.{Reply}
use Rattle.http_messages.specs.declared.framings.Framing.{Framing}
use Rattle.http_messages.specs.declared.framings.Framing.TheVariants.{Chunked}
use Rattle.http_messages.specs.declared.framings.RefusedRest.TheVariants.{BadChunk, LargeBody}
use Rattle.http_messages.specs.declared.ends.SessionEnd.{SessionEnd}
use Rattle.http_messages.specs.declared.ends.SessionEnd.TheVariants.{Closed, Refused, CutShort, ReadFault, WriteFault, NoMemory, Worn}
use Rattle.http_messages.specs.declared.limits.TheConstants.{MESSAGE_LIMIT}
use Rattle.http_messages.specs.ReplyText.{reply_text}
use Rattle.http_model.specs.Framings.{closes, interim_of, is_head}
use Rattle.http_model.specs.Bodies.{ReadsBody, IsCutBody, IsBadChunked, IsLargeChunked}
use Rattle.http_model.specs.Requests.{ReadsMessage}
use Rattle.http_model.specs.Rests.{IsBetweenMessages, IsRefused, IsCut, IsEarly}
use Rattle.http_model.specs.Exchanges.{planned_task, Exchange, Runs, StaysOpen, LastCloses, text_of, entries_of}
use Rattle.http_model.specs.Served.{Served, RunsOut, IsProperPrefix}
use Rattle.world_cells.specs.World.{World}
use Rattle.task_forms.specs.declared.tasks.Task.{Task}
use Rattle.task_forms.specs.declared.tasks.Entry.{Entry}
use Rattle.task_forms.specs.Desks.{last_number}
use Rattle.session_engine.specs.declared.drives.Driven.{Driven}
use Rattle.session_engine.specs.declared.drives.Ending.{Ending}
use Rattle.session_engine.specs.declared.messages.Taken.{Taken}
use Rattle.session_engine.specs.declared.messages.Taken.TheVariants as found
use Rattle.session_engine.specs.declared.sessions.Pending.{Pending}
use Rattle.session_engine.specs.declared.sessions.Next.{Next}
use Rattle.session_engine.specs.declared.sessions.Next.TheVariants as next
use Rattle.session_engine.specs.declared.sessions.Step.{Step}
use Rattle.session_engine.specs.declared.sessions.Step.TheVariants as step
use Rattle.task_forms.specs.declared.tasks.Plan.{Plan}
use Rattle.session_engine.specs.Plans.{TaskPlans, plans_of}
use Rattle.session_engine.specs.States.{SessionState}

-- ---- one message

-- what stands at the front of what was seen, with what was sent for it
abbrev pub MessageOn : List ℕ → Option (List ℕ) → List ℕ → List ℕ → Taken → Type 0
MessageOn seen left now sent (found.Whole m) = ReadsMessage seen m now × (sent ≡ interim_of m)
MessageOn seen left now sent found.End = IsBetweenMessages seen × IsAtEnd left × (sent ≡ [])
MessageOn seen left now sent found.CutShort = IsCut seen sent × IsAtEnd left
MessageOn seen left now sent (found.Refused why head_only) = IsRefused seen why sent head_only
MessageOn seen left now sent found.ReadFault = (IsBetweenMessages seen × (sent ≡ [])) ⊎ IsCut seen sent
MessageOn seen left now sent found.WriteFault = (early : List ℕ) × IsEarly seen early × IsProperPrefix sent early
MessageOn seen left now sent found.NoMemory = IsEarly seen sent

pub record TakesMessage (old now : List ℕ) (source source_now : SourceTold) (sink sink_now : SinkTold) (found : Taken) : Type 0 where
  pub bytes : List ℕ
  pub taken_more : Appends source.taken source_now.taken bytes
  pub left_less : Consumes source.left source_now.left bytes
  pub sent : List ℕ
  pub written_more : Appends sink.written sink_now.written sent
  pub verdict : MessageOn (old ++ bytes) source_now.left now sent found

-- the same of a head's body: what is left behind the head, and whether it is the body
abbrev pub RestOn : Message → Framing → List ℕ → Option (List ℕ) → List ℕ → Taken → Type 0
RestOn head framing after left now (found.Whole m) = (body : List ℕ) × ReadsBody framing after body now × (m ≡ record head { body = body })
RestOn head framing after left now found.CutShort = IsCutBody framing after × IsAtEnd left
RestOn head framing after left now (found.Refused BadChunk head_only) =
    (framing ≡ Chunked) × ((place : ℕ) × IsBadChunked after place) × (head_only ≡ is_head head)
RestOn head framing after left now (found.Refused LargeBody head_only) = (framing ≡ Chunked) × IsLargeChunked after × (head_only ≡ is_head head)
RestOn head framing after left now (found.Refused why head_only) = ⊥
RestOn head framing after left now found.ReadFault = IsCutBody framing after
RestOn head framing after left now found.NoMemory = Unit {0}
RestOn head framing after left now found.End = ⊥
RestOn head framing after left now found.WriteFault = ⊥

pub record TakesRest (head : Message) (framing : Framing) (old now : List ℕ) (source source_now : SourceTold) (found : Taken) : Type 0 where
  pub bytes : List ℕ
  pub taken_more : Appends source.taken source_now.taken bytes
  pub left_less : Consumes source.left source_now.left bytes
  pub verdict : RestOn head framing (old ++ bytes) source_now.left now found

-- the same of a call that has no sink
abbrev pub RestCause : SourceTold → SourceTold → Taken → Type 0
RestCause source source_now found.ReadFault = Rose source.faults source_now.faults
RestCause source source_now found.WriteFault = ⊥
RestCause source source_now found = source_now.faults ≡ source.faults

abbrev pub TakenCause : SourceTold → SourceTold → SinkTold → SinkTold → Taken → Type 0
TakenCause source source_now sink sink_now found.ReadFault = Rose source.faults source_now.faults × (sink_now.faults ≡ sink.faults)
TakenCause source source_now sink sink_now found.WriteFault = Rose sink.faults sink_now.faults × (source_now.faults ≡ source.faults)
TakenCause source source_now sink sink_now found = (source_now.faults ≡ source.faults) × (sink_now.faults ≡ sink.faults)

-- ---- some messages

-- these many messages by then, of which none closes, were read from seen, answered with these entries and sent this text
pub record Answers (plans : TaskPlans) (i : ℕ) (seen : List ℕ) (answered : ℕ) (rest : List ℕ) (entries : List Entry) (sent : List ℕ) : Type 0 where
  pub exchanges : List (Exchange Entry)
  pub runs : Runs plans i seen exchanges answered rest
  pub stays : StaysOpen exchanges
  pub joined : entries ≡ entries_of exchanges
  pub text : sent ≡ text_of exchanges

-- this end does not turn on that no more bytes come
abbrev pub IsStable : SessionEnd → List (Exchange Entry) → Type 0
IsStable Closed xs = LastCloses xs
IsStable CutShort xs = ⊥
IsStable end xs = Unit {0}

-- the session ended so over what was seen, and would over more
pub record Settles (plans : TaskPlans) (i : ℕ) (seen : List ℕ) (left : Option (List ℕ)) (worn : Bool) (answered : ℕ)
    (entries : List Entry) (out : List ℕ) (end : SessionEnd) : Type 0 where
  pub served : Served plans i seen seen worn answered entries out end
  pub final : IsAtEnd left ⊎ IsStable end served.exchanges

-- memory ran out behind some messages
pub record RanOut (plans : TaskPlans) (i : ℕ) (seen : List ℕ) (answered : ℕ) (entries : List Entry) (sent : List ℕ) : Type 0 where
  pub rest : List ℕ
  pub text : List ℕ
  pub before : Answers plans i seen answered rest entries text
  pub early : List ℕ
  pub is_early : IsEarly rest early
  pub whole : sent ≡ text ++ early

-- behind some messages comes a task, whose interim text was sent
pub record Asks (plans : TaskPlans) (i : ℕ) (seen : List ℕ) (now : SessionState) (sent : List ℕ) (task : Task) : Type 0 where
  pub middle : List ℕ
  pub text : List ℕ
  pub before : Answers plans i seen now.answered middle [] text
  pub message : Message
  pub reads : ReadsMessage middle message now.buffer
  pub planned : plans.plan message ≡ planned_task task
  pub pending : now.pending ≡ Some (record { head_only = is_head message; close = closes message (now.answered + 1) })
  pub whole : sent ≡ text ++ interim_of message
  pub few : now.answered < MESSAGE_LIMIT

abbrev pub EndOn : TaskPlans → ℕ → List ℕ → Option (List ℕ) → ℕ → List ℕ → SessionEnd → Type 0
EndOn plans i seen left answered sent NoMemory = RanOut plans i seen answered [] sent
EndOn plans i seen left answered sent end = Settles plans i seen left false answered [] sent end

abbrev pub StepOn : TaskPlans → ℕ → List ℕ → Option (List ℕ) → SessionState → List ℕ → Step → Type 0
StepOn plans i seen left now sent step.Answered = Answers plans i seen now.answered now.buffer [] sent × (i < now.answered) × (now.answered < MESSAGE_LIMIT)
StepOn plans i seen left now sent (step.Task t) = Asks plans i seen now sent t
StepOn plans i seen left now sent (step.Ended e) = EndOn plans i seen left now.answered sent e

abbrev pub NextOn : TaskPlans → ℕ → List ℕ → Option (List ℕ) → SessionState → List ℕ → Next → Type 0
NextOn plans i seen left now sent (next.Task t) = Asks plans i seen now sent t
NextOn plans i seen left now sent (next.Ended e) = EndOn plans i seen left now.answered sent e

pub record StepSees (plans : TaskPlans) (old now : SessionState)
    (source source_now : SourceTold) (sink sink_now : SinkTold) (result : Step) : Type 0 where
  pub bytes : List ℕ
  pub taken_more : Appends source.taken source_now.taken bytes
  pub left_less : Consumes source.left source_now.left bytes
  pub sent : List ℕ
  pub written_more : Appends sink.written sink_now.written sent
  pub verdict : StepOn plans old.answered (old.buffer ++ bytes) source_now.left now sent result

pub record NextSees (plans : TaskPlans) (old now : SessionState)
    (source source_now : SourceTold) (sink sink_now : SinkTold) (result : Next) : Type 0 where
  pub bytes : List ℕ
  pub taken_more : Appends source.taken source_now.taken bytes
  pub left_less : Consumes source.left source_now.left bytes
  pub sent : List ℕ
  pub written_more : Appends sink.written sink_now.written sent
  pub verdict : NextOn plans old.answered (old.buffer ++ bytes) source_now.left now sent result

-- the end of a call of next by all that stood there, of which taken was read by its end; where memory ran out the
-- last text is still to come
abbrev pub EndOver : TaskPlans → ℕ → List ℕ → List ℕ → ℕ → List ℕ → SessionEnd → Type 0
EndOver plans i all taken answered sent NoMemory = RunsOut plans i all answered [] sent
EndOver plans i all taken answered sent end = Served plans i all taken false answered [] sent end

pub record EndServes (plans : TaskPlans) (old now : SessionState)
    (source source_now : SourceTold) (sink sink_now : SinkTold) (end : SessionEnd) : Type 0 where
  pub bytes : List ℕ
  pub taken_more : Appends source.taken source_now.taken bytes
  pub left_less : Consumes source.left source_now.left bytes
  pub sent : List ℕ
  pub written_more : Appends sink.written sink_now.written sent
  pub verdict : IfSome source.left (λ more. EndOver plans old.answered (old.buffer ++ more) (old.buffer ++ bytes) now.answered sent end)

abbrev pub NextServes : TaskPlans → SessionState → SessionState → SourceTold → SourceTold → SinkTold → SinkTold → Next → Type 0
NextServes plans old now source source_now sink sink_now (next.Task t) = Unit {0}
NextServes plans old now source source_now sink sink_now (next.Ended e) = EndServes plans old now source source_now sink sink_now e

-- ---- causes

-- a fault is answered only where its count rose, and no other answer raises a count
abbrev pub EndCause : SourceTold → SourceTold → SinkTold → SinkTold → SessionEnd → Type 0
EndCause source source_now sink sink_now ReadFault = Rose source.faults source_now.faults × (sink_now.faults ≡ sink.faults)
EndCause source source_now sink sink_now WriteFault = Rose sink.faults sink_now.faults × (source_now.faults ≡ source.faults)
EndCause source source_now sink sink_now end = (source_now.faults ≡ source.faults) × (sink_now.faults ≡ sink.faults)

abbrev pub StepCause : SourceTold → SourceTold → SinkTold → SinkTold → Step → Type 0
StepCause source source_now sink sink_now (step.Ended e) = EndCause source source_now sink sink_now e
StepCause source source_now sink sink_now step.Answered = (source_now.faults ≡ source.faults) × (sink_now.faults ≡ sink.faults)
StepCause source source_now sink sink_now (step.Task t) = (source_now.faults ≡ source.faults) × (sink_now.faults ≡ sink.faults)

abbrev pub NextCause : SourceTold → SourceTold → SinkTold → SinkTold → Next → Type 0
NextCause source source_now sink sink_now (next.Ended e) = EndCause source source_now sink sink_now e
NextCause source source_now sink sink_now (next.Task t) = (source_now.faults ≡ source.faults) × (sink_now.faults ≡ sink.faults)

-- ---- tasks that are planned

-- a task that came is one of those that the planner may plan
abbrev pub FitStep : (Task → Type 0) → Step → Type 0
FitStep fit (step.Task t) = fit t
FitStep fit step.Answered = ⊤
FitStep fit (step.Ended e) = ⊤

abbrev pub FitNext : (Task → Type 0) → Next → Type 0
FitNext fit (next.Task t) = fit t
FitNext fit (next.Ended e) = ⊤

-- ---- the reply to what is pending

abbrev pub Replies : Pending → Reply → SessionState → SessionState → SinkTold → SinkTold → Option SessionEnd → Type 0
Replies p reply old now sink sink_now None =
    Appends sink.written sink_now.written (reply_text reply p.head_only p.close) × IsFalse p.close × (now ≡ record old { answered = old.answered + 1; pending = None })
Replies p reply old now sink sink_now (Some Closed) =
    Appends sink.written sink_now.written (reply_text reply p.head_only p.close) × IsTrue p.close × (now ≡ record old { answered = old.answered + 1; pending = None })
Replies p reply old now sink sink_now (Some WriteFault) =
    AppendsFront sink.written sink_now.written (reply_text reply p.head_only p.close) × (now ≡ record old { pending = None })
Replies p reply old now sink sink_now (Some end) = ⊥

abbrev pub ReplyCause : SinkTold → SinkTold → Option SessionEnd → Type 0
ReplyCause sink sink_now (Some WriteFault) = Rose sink.faults sink_now.faults
ReplyCause sink sink_now end = sink_now.faults ≡ sink.faults

-- ---- the whole

-- lists for which something stands, the second of which has so many entries
abbrev pub Counted : (List Entry → List Entry → Type 0) → ℕ → List Entry → List Entry → Type 0
Counted stands count seen mine = stands seen mine × (length mine ≡ count)

-- a fact, where that end is that of a worn desk
abbrev pub IfWorn : SessionEnd → Type 0 → Type 0
IfWorn Worn P = P
IfWorn Closed P = ⊤
IfWorn (Refused s) P = ⊤
IfWorn CutShort P = ⊤
IfWorn ReadFault P = ⊤
IfWorn WriteFault P = ⊤
IfWorn NoMemory P = ⊤

-- behind the call the desk stands for lists that begin with the old ones, and what was written is served by the
-- entries that joined its own
pub record Serves (plans : TaskPlans) (stands : List Entry → List Entry → Type 0) (first : ℕ) (seen mine : List Entry)
    (source source_now : SourceTold) (sink sink_now : SinkTold) (answered : ℕ) (end : SessionEnd) : Type 0 where
  pub others : List Entry
  pub entries : List Entry
  pub stood : stands (seen ++ others) (mine ++ entries)
  pub worn : Bool
  pub wearing : IsTrue worn → first + length (seen ++ others) ≡ last_number
  -- also where the source does not tell its bytes
  pub ends_worn : IfWorn end (IsTrue worn)
  pub bytes : List ℕ
  pub taken_more : Appends source.taken source_now.taken bytes
  pub left_less : Consumes source.left source_now.left bytes
  pub out : List ℕ
  pub written_more : Appends sink.written sink_now.written out
  pub served : IfSome source.left (λ all. Served plans 0 all bytes worn answered entries out end)

-- what a desk stands for after a number and a world
abbrev pub Standing : Type 1
Standing = ℕ → World → List Entry → List Entry → Type 0

-- for any lists for which the desk stood: it stands for lists that begin with them, by as many entries of its own as are told,
-- and what was written is what the messages of the input are to be sent
abbrev pub ServesAll : (Message → Plan) → Standing → Standing → SourceTold → SourceTold → SinkTold → SinkTold → Driven → Type 0
ServesAll planned old new source source_now sink sink_now d =
    (first : ℕ) (w : World) (seen mine : List Entry) → old first w seen mine
    → Serves (plans_of planned) (Counted (new first w) (length mine + d.entries)) first seen mine source source_now sink sink_now d.answered d.end

-- the same of the end alone
abbrev pub ServesEnd : (Message → Plan) → Standing → Standing → SourceTold → SourceTold → SinkTold → SinkTold → SessionEnd → Type 0
ServesEnd planned old new source source_now sink sink_now end =
    (first : ℕ) (w : World) (seen mine : List Entry) → old first w seen mine
    → (answered : ℕ) × Serves (plans_of planned) (new first w) first seen mine source source_now sink sink_now answered end

-- what is told where the loop over a session has left it so
abbrev pub driven_by : SessionState → Ending → Driven
driven_by s e = record { end = e.end; answered = s.answered; entries = e.entries }
