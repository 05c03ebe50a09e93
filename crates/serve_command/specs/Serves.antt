-- What a run of `serve` comes to.
use Rattle.std.specs.Prelude.{◌≡◌, ◌⊎◌, ℕ, if◌then◌else◌, List, [], codes, IfSome, IsNone}
use Rattle.std.specs.List.{list_all}
use Rattle.outer_ends.specs.Told.{SourceTold, SinkTold, OpenerTold, ListenerTold}
use Rattle.connection_workers.specs.declared.workers.WorkerEnd.{WorkerEnd}
use Rattle.worker_stations.specs.declared.stations.Station.{Station}
use Rattle.request_model.specs.Plans.{planned}
use Rattle.resource_schema.specs.declared.schema.Schema.{Schema}
use Rattle.session_engine.specs.Plans.{plans_of}
use Rattle.store_model.specs.StoreMeaning.{meaning_of}
use Rattle.serve_lines.specs.declared.served.Served.{Served}
use Rattle.serve_lines.specs.Served.{served_text}
use Rattle.serve_lines.specs.Words.{serve_words, serve_path}
use Rattle.serving.specs.Counts.{is_by_quota}
use Rattle.serving.specs.Serving.{ServesStore}
use Rattle.command_lines.specs.declared.schemas.SchemaRead.{SchemaRead}
use Rattle.command_lines.specs.declared.schemas.SchemaRead.TheVariants as schema
use Rattle.command_lines.specs.Lines.{Writes, Refuses, line, schema_line}
use Rattle.command_lines.specs.SchemaFiles.{IsReadBy}

-- the exit status where the line was written: 0 where every worker did so
abbrev pub served_status : {L G P : Type 0} → List (Station L G P WorkerEnd) → ℕ
served_status stations = if list_all (λ s. is_by_quota s.end) stations then 0 else 1

module _ {L G P : Type 0} (told : L → ListenerTold) (stations stations_now : List (Station L G P WorkerEnd)) (sink sink_now : SinkTold) (status : ℕ) where
  -- the store was served, and the line told it; or memory ran out before a worker ran
  abbrev pub ServesSchema : Schema → ℕ → Type 0
  ServesSchema s quota =
      ((served : Served) × ServesStore (meaning_of s) (plans_of (planned s)) told quota stations stations_now served × Writes (served_status stations_now) (served_text served) sink sink_now status)
      ⊎ ((status ≡ 5) × (stations_now ≡ stations) × (sink_now ≡ sink))

  -- one line was written, and no worker ran
  abbrev pub RefusesUnserved : List ℕ → Type 0
  RefusesUnserved text = (stations_now ≡ stations) × Refuses text sink sink_now status

  -- what follows on what the schema file gave
  abbrev pub ServesRead : List ℕ → SchemaRead → ℕ → Type 0
  ServesRead path (schema.Good s) quota = ServesSchema s quota
  ServesRead path schema.Missing quota = RefusesUnserved (line (codes "missing ") path)
  ServesRead path schema.TooLarge quota = RefusesUnserved (line (codes "schema too large") [])
  ServesRead path (schema.Fault place why) quota = RefusesUnserved (schema_line place why)
  ServesRead path schema.Failed quota = (status ≡ 1) × (stations_now ≡ stations) × (sink_now ≡ sink)
  ServesRead path schema.NoMemory quota = (status ≡ 5) × (stations_now ≡ stations) × (sink_now ≡ sink)

  -- what the command comes to with its words
  pub record ServesBy {S : Type 0} (source : S → SourceTold) (words : List (List ℕ)) (opener opener_now : OpenerTold) : Type 0 where
    pub serves : IfSome (serve_words words) (λ w. IfSome (serve_path words) (λ path.
        (read : SchemaRead) × IsReadBy source opener opener_now path read × ServesRead path read w.quota))
    pub refuses : IsNone (serve_words words) → RefusesUnserved (line (codes "words") [])
