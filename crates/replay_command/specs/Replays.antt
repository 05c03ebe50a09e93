-- What a run of `replay` comes to.
use Rattle.std.specs.Prelude.{◌≡◌, ◌⊎◌, ℕ, Bool, false, List, [], ◌∷◌, codes, IsTrue, IsFalse, Ok, Err}
use Rattle.std.specs.Str.{bytes_eq}
use Rattle.outer_ends.specs.Told.{SourceTold, SinkTold}
use Rattle.history_model.specs.declared.checks.TheConstants.{LOG_WINDOW}
use Rattle.request_model.specs.Plans.{planned}
use Rattle.session_engine.specs.Plans.{plans_of}
use Rattle.store_model.specs.StoreMeaning.{meaning_of}
use Rattle.task_forms.specs.Meaning.{IsLegal}
use Rattle.world_cells.specs.World.{empty_world}
use Rattle.replay_runs.specs.declared.reports.Report.{Report}
use Rattle.replay_runs.specs.Running.{IsReported}
use Rattle.replay_script.specs.declared.scripts.Script.{Script}
use Rattle.replay_script.specs.declared.scripts.TheConstants.{SCRIPT_LIMIT}
use Rattle.replay_script.specs.Reports.{report_text}
use Rattle.replay_script.specs.Scripts.{OrPlace, script_of_text}
use Rattle.command_lines.specs.declared.files.FileBytes.{FileBytes}
use Rattle.command_lines.specs.declared.files.FileBytes.TheVariants as file
use Rattle.command_lines.specs.Files.{IsRead}
use Rattle.command_lines.specs.Lines.{Writes, Refuses, line}

-- the word is `replay` alone
abbrev pub is_replay : List (List ℕ) → Bool
is_replay (word ∷ []) = bytes_eq word (codes "replay")
is_replay words = false

-- for want of memory nothing was written
abbrev pub RunsOut : SinkTold → SinkTold → ℕ → Type 0
RunsOut sink sink_now status = (status ≡ 5) × (sink_now ≡ sink)

-- what is reported is a run of the script's steps over its streams, from the empty world, by one legal history
abbrev pub IsReportOf : Script → Report → Type 0
IsReportOf s r = IsReported (meaning_of s.schema) (plans_of (planned s.schema)) LOG_WINDOW empty_world s.streams s.steps r (IsLegal (meaning_of s.schema) empty_world)

-- and its text was written
abbrev pub WritesReport : Script → SinkTold → SinkTold → ℕ → Type 0
WritesReport s sink sink_now status = (r : Report) × IsReportOf s r × Writes 0 (report_text r) sink sink_now status

-- of a text that is a script, or that has its first fault at a place
abbrev pub ReplaysText : OrPlace Script → SinkTold → SinkTold → ℕ → Type 0
ReplaysText (Ok script) sink sink_now status = WritesReport script sink sink_now status
ReplaysText (Err place) sink sink_now status = Refuses (line (codes "script ") place) sink sink_now status

-- of what the source gave
abbrev pub Replays : FileBytes → SinkTold → SinkTold → ℕ → Type 0
Replays (file.Whole bytes) sink sink_now status = ReplaysText (script_of_text bytes.items) sink sink_now status ⊎ RunsOut sink sink_now status
Replays file.TooLarge sink sink_now status = Refuses (line (codes "script ") (codes "size")) sink sink_now status
Replays file.Failed sink sink_now status = (status ≡ 1) × (sink_now ≡ sink)
Replays file.NoMemory sink sink_now status = RunsOut sink sink_now status

-- the command comes to that with its words
pub record ReplaysBy (words : List (List ℕ)) (source source_now : SourceTold) (sink sink_now : SinkTold) (status : ℕ) : Type 0 where
  pub replays : IsTrue (is_replay words) → (read : FileBytes) × IsRead SCRIPT_LIMIT source source_now read × Replays read sink sink_now status
  pub refuses : IsFalse (is_replay words) → (source_now ≡ source) × Refuses (line (codes "words") []) sink sink_now status
