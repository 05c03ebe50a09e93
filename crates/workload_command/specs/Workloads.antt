-- What a run of `workload` comes to (of this project).
use Rattle.std.specs.Prelude.{◌≡◌, ◌⊎◌, ℕ, false, List, [], codes, IsNone, IfSome, Ok}
use Rattle.std.specs.List.{concat}
use Rattle.outer_ends.specs.Told.{SinkTold}
use Rattle.http_messages.specs.declared.ends.SessionEnd.TheVariants.{Closed}
use Rattle.http_model.specs.Served.{Served}
use Rattle.request_model.specs.Plans.{planned}
use Rattle.request_model.specs.SchemaFile.{schema_of_text}
use Rattle.resource_schema.specs.declared.schema.Schema.{Schema}
use Rattle.session_engine.specs.Plans.{plans_of}
use Rattle.store_model.specs.StoreMeaning.{meaning_of}
use Rattle.task_forms.specs.declared.tasks.Entry.{Entry}
use Rattle.task_forms.specs.Meaning.{IsLegal}
use Rattle.world_cells.specs.World.{empty_world}
use Rattle.command_lines.specs.Lines.{Writes, Refuses, line}
use Rattle.workload_maker.specs.Requests.{requests}
use Rattle.workload_command.specs.declared.counts.Counts.{Counts}
use Rattle.workload_command.specs.declared.words.WorkloadWords.{WorkloadWords}
use Rattle.workload_command.specs.Blog.{blog_text}
use Rattle.workload_command.specs.Counts.{counts_of, counts_text}
use Rattle.workload_command.specs.Words.{workload_words}

-- what is counted of a session over these bytes, which answered all their requests by the entries of one legal history from the empty world
pub record IsCounted (schema : Schema) (input : List ℕ) (counts : Counts) : Type 0 where
  pub entries : List Entry
  pub legal : IsLegal (meaning_of schema) empty_world entries
  pub answered : ℕ
  pub taken : List ℕ
  pub out : List ℕ
  pub served : Served (plans_of (planned schema)) 0 input taken false answered entries out Closed
  pub counted : counts ≡ counts_of answered entries out

-- over the requests that the words ask for, on a store of the blog's types
abbrev pub IsCountedOf : WorkloadWords → Counts → Type 0
IsCountedOf asked counts = (schema : Schema) × (schema_of_text blog_text ≡ Ok schema) × IsCounted schema (concat (requests asked.requests asked.seed)) counts

-- for want of memory nothing was written
abbrev pub RunsOut : SinkTold → SinkTold → ℕ → Type 0
RunsOut sink sink_now status = (status ≡ 5) × (sink_now ≡ sink)

-- the line of what is counted was written
abbrev pub TellsCounts : WorkloadWords → SinkTold → SinkTold → ℕ → Type 0
TellsCounts asked sink sink_now status = (counts : Counts) × IsCountedOf asked counts × Writes 0 (counts_text counts) sink sink_now status

-- the command comes to that with its words
pub record WorkloadBy (words : List (List ℕ)) (sink sink_now : SinkTold) (status : ℕ) : Type 0 where
  pub runs : IfSome (workload_words words) (λ asked. TellsCounts asked sink sink_now status ⊎ RunsOut sink sink_now status)
  pub refuses : IsNone (workload_words words) → Refuses (line (codes "words") []) sink sink_now status
