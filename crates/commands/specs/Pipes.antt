-- What a run of `pipe` comes to.
use Rattle.std.specs.Prelude.{◌≡◌, ◌≢◌, ◌⊎◌, ℕ, Bool, false, List, [], ◌∷◌, codes, if◌then◌else◌, IsTrue, IsFalse, IsNone, IfSome, Option, Some, None}
use Rattle.std.specs.Str.{bytes_eq}
use Rattle.std.specs.Io.KnownBytes.{Appends, Consumes}
use Rattle.outer_ends.specs.Told.{SourceTold, SinkTold, OpenerTold}
use Rattle.world_cells.specs.World.{empty_world}
use Rattle.http_messages.specs.declared.ends.SessionEnd.{SessionEnd}
use Rattle.http_messages.specs.declared.ends.SessionEnd.TheVariants.{Closed, Refused, CutShort, ReadFault, WriteFault, NoMemory, Worn}
use Rattle.http_model.specs.Served.{Served}
use Rattle.resource_schema.specs.declared.schema.Schema.{Schema}
use Rattle.resource_schema.specs.Kinds.{notes}
use Rattle.task_forms.specs.declared.tasks.Entry.{Entry}
use Rattle.task_forms.specs.Meaning.{IsLegal}
use Rattle.request_model.specs.Plans.{planned}
use Rattle.store_model.specs.StoreMeaning.{meaning_of}
use Rattle.session_engine.specs.Plans.{plans_of}
use Rattle.session_engine.specs.Seen.{EndCause}
use Rattle.command_lines.specs.declared.schemas.SchemaRead.{SchemaRead}
use Rattle.command_lines.specs.declared.schemas.SchemaRead.TheVariants as schema
use Rattle.command_lines.specs.Lines.{Tells, Refuses, line, schema_line}
use Rattle.command_lines.specs.SchemaFiles.{IsReadBy}
use Rattle.replay_command.specs.Replays.{is_replay, ReplaysBy}
use Rattle.workload_command.specs.Words.{is_workload}
use Rattle.workload_command.specs.Workloads.{WorkloadBy}
use Rattle.commands.specs.Notices.{notice_for}

-- the three ends of a command
pub record Ends : Type 0 where
  pub source : SourceTold
  pub sink : SinkTold
  pub opener : OpenerTold

abbrev pub ends : SourceTold → SinkTold → OpenerTold → Ends
ends source sink opener = record { source = source; sink = sink; opener = opener }

-- ---- words

-- the words are `pipe` alone
abbrev pub is_pipe : List (List ℕ) → Bool
is_pipe (word ∷ []) = bytes_eq word (codes "pipe")
is_pipe words = false

-- the path, where they are `pipe` and a path
abbrev pub path_of : List (List ℕ) → Option (List ℕ)
path_of (word ∷ path ∷ []) = if bytes_eq word (codes "pipe") then Some path else None
path_of words = None

-- ---- a session

-- the exit status for an end of the session
abbrev pub status_of : SessionEnd → ℕ
status_of Closed = 0
status_of (Refused status) = 3
status_of CutShort = 4
status_of ReadFault = 1
status_of WriteFault = 1
status_of NoMemory = 5
status_of Worn = 5

-- There are entries, a legal history from the empty world, and an end, so that what was written is what a session over the
-- input may have sent with them, and a store that took every entry; the status is that end's, and a fault ends it only
-- where its count rose.
pub record Session (schema : Schema) (source source_now : SourceTold) (sink sink_now : SinkTold) (status : ℕ) : Type 0 where
  pub entries : List Entry
  pub legal : IsLegal (meaning_of schema) empty_world entries
  pub answered : ℕ
  pub end : SessionEnd
  pub not_worn : end ≢ Worn
  pub bytes : List ℕ
  pub taken_more : Appends source.taken source_now.taken bytes
  pub left_less : Consumes source.left source_now.left bytes
  pub out : List ℕ
  pub written_more : Appends sink.written sink_now.written out
  pub served : IfSome source.left (λ all. Served (plans_of (planned schema)) 0 all bytes false answered entries out end)
  pub status_is : status ≡ status_of end
  pub cause : EndCause source source_now sink sink_now end

-- nothing was read or written, and nothing failed
pub record Untouched (source source_now : SourceTold) (sink sink_now : SinkTold) : Type 0 where
  pub source_kept : source_now ≡ source
  pub sink_kept : sink_now ≡ sink

-- a session over the schema, or want of memory before it
abbrev pub Pipes : Schema → SourceTold → SourceTold → SinkTold → SinkTold → ℕ → Type 0
Pipes schema source source_now sink sink_now status =
    Session schema source source_now sink sink_now status ⊎ ((status ≡ 5) × Untouched source source_now sink sink_now)

-- a refusal before the session: nothing was read
abbrev pub RefusesUnread : List ℕ → SourceTold → SourceTold → SinkTold → SinkTold → ℕ → Type 0
RefusesUnread text source source_now sink sink_now status = (source_now ≡ source) × Refuses text sink sink_now status

-- what follows on what the schema file gave
abbrev pub PipesRead : List ℕ → SchemaRead → SourceTold → SourceTold → SinkTold → SinkTold → ℕ → Type 0
PipesRead path (schema.Good s) source source_now sink sink_now status = Pipes s source source_now sink sink_now status
PipesRead path schema.Missing source source_now sink sink_now status =
    RefusesUnread (line (codes "missing ") path) source source_now sink sink_now status
PipesRead path schema.TooLarge source source_now sink sink_now status =
    RefusesUnread (line (codes "schema too large") []) source source_now sink sink_now status
PipesRead path (schema.Fault place why) source source_now sink sink_now status =
    RefusesUnread (schema_line place why) source source_now sink sink_now status
PipesRead path schema.Failed source source_now sink sink_now status = (status ≡ 1) × Untouched source source_now sink sink_now
PipesRead path schema.NoMemory source source_now sink sink_now status = (status ≡ 5) × Untouched source source_now sink sink_now

-- what the command comes to with its words
pub record PipesBy {S : Type 0} (told : S → SourceTold) (words : List (List ℕ)) (before now : Ends) (status : ℕ) : Type 0 where
  pub notes : IsTrue (is_pipe words) → Pipes notes before.source now.source before.sink now.sink status
  pub path : IfSome (path_of words)
      (λ path. (read : SchemaRead) × IsReadBy told before.opener now.opener path read × PipesRead path read before.source now.source before.sink now.sink status)
  pub refuses : IsFalse (is_pipe words) → IsNone (path_of words) → Refuses (line (codes "words") []) before.sink now.sink status

-- what the program comes to with its words: a notice, a replay, a workload, or a session
pub record CommandBy {S : Type 0} (told : S → SourceTold) (words : List (List ℕ)) (before now : Ends) (status : ℕ) : Type 0 where
  pub notice : IfSome (notice_for words) (λ text. Tells text before.sink now.sink status)
  pub replays : IsTrue (is_replay words) → ReplaysBy words before.source now.source before.sink now.sink status
  pub workload : IsTrue (is_workload words) → WorkloadBy words before.sink now.sink status
  pub pipes : IsNone (notice_for words) → IsFalse (is_replay words) → IsFalse (is_workload words) → PipesBy told words before now status
