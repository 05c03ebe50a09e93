-- The script of a replay: a JSON text (RFC 8259) with a schema, streams in base64 (RFC 4648, section 4) and steps (of this project).
use Rattle.std.specs.Prelude.{◌≡◌, ℕ, ◌==◌, ⊤, not, nat_lt, is_some, List, codes, decimal, length, map, Option, option_and_then, Result, Ok, Err}
use Rattle.std.specs.Option.{ok_or, option_map_or}
use Rattle.std.specs.Result.{result_ok}
use Rattle.std.specs.List.{enumerate_from}
use Rattle.base64.specs.Engines.{standard}
use Rattle.base64.specs.GeneralPurpose.{decode_of}
use Rattle.serde_json.specs.Data.{Data}
use Rattle.serde_json.specs.Find.{get, as_array, as_number, as_object, as_str, as_u64}
use Rattle.json_forms.specs.Json.{json_of, items_list}
use Rattle.json_forms.specs.Pointer.{◌//◌}
use Rattle.resource_schema.specs.declared.schema.Schema.{Schema}
use Rattle.resource_schema.specs.Kinds.{notes}
use Rattle.request_model.specs.Results.{◌>>=◌, ◌>>◌, err_if}
use Rattle.request_model.specs.SchemaFile.{schema_of}
use Rattle.request_model.specs.Words.{all_ok, some_if}
use Rattle.replay_runs.specs.declared.reports.TheConstants.{STREAM_LIMIT}
use Rattle.replay_script.specs.declared.scripts.Script.{Script}
use Rattle.replay_script.specs.declared.scripts.ScriptEnd.{ScriptEnd}
use Rattle.replay_script.specs.declared.scripts.ScriptEnd.TheVariants.{Fault, NoMemory}
use Rattle.replay_script.specs.declared.scripts.TheConstants.{SCRIPT_LIMIT, STEP_LIMIT}

-- what was read, or the place of the first fault
abbrev pub OrPlace : Type 0 → Type 0
OrPlace A = Result A (List ℕ)

-- any fault is told at that place
abbrev pub at_place : {A E : Type 0} → List ℕ → Result A E → OrPlace A
at_place place (Ok x) = Ok x
at_place place (Err e) = Err place

-- the schema, or the built-in one where there is none
abbrev pub schema_in : Data → OrPlace Schema
schema_in d = option_map_or (λ s. at_place (codes "schema") (schema_of s)) (get (codes "schema") d) (Ok notes)

-- a stream, in padded base64
abbrev pub stream_at : ℕ × Data → OrPlace (List ℕ)
stream_at p = ok_or (option_and_then (λ text. result_ok (decode_of standard text)) (as_str p.1)) (codes "streams" // decimal p.0)

abbrev pub items_streams : List Data → OrPlace (List (List ℕ))
items_streams ds = do
  err_if (length ds == 0) (codes "streams")
  err_if (nat_lt STREAM_LIMIT (length ds)) (codes "streams")
  all_ok (map stream_at (enumerate_from 0 ds))

abbrev pub array_streams : Data → OrPlace (List (List ℕ))
array_streams d = do
  items ← ok_or (as_array d) (codes "streams")
  items_streams (items_list items)

-- 1 to 64 streams
abbrev pub streams_in : Data → OrPlace (List (List ℕ))
streams_in d = do
  found ← ok_or (get (codes "streams") d) (codes "streams")
  array_streams found

-- a number below that of the streams
abbrev pub stream_number : ℕ → Data → Option ℕ
stream_number count d = option_and_then (λ k. some_if (nat_lt k count) k) (option_and_then as_u64 (as_number d))

abbrev pub step_at : ℕ → ℕ × Data → OrPlace ℕ
step_at count p = ok_or (stream_number count p.1) (codes "steps" // decimal p.0)

abbrev pub items_steps : ℕ → List Data → OrPlace (List ℕ)
items_steps count ds = do
  err_if (nat_lt STEP_LIMIT (length ds)) (codes "steps")
  all_ok (map (step_at count) (enumerate_from 0 ds))

abbrev pub array_steps : ℕ → Data → OrPlace (List ℕ)
array_steps count d = do
  items ← ok_or (as_array d) (codes "steps")
  items_steps count (items_list items)

-- at most 100,000 steps
abbrev pub steps_in : ℕ → Data → OrPlace (List ℕ)
steps_in count d = do
  found ← ok_or (get (codes "steps") d) (codes "steps")
  array_steps count found

-- the parts of a script, in this order
abbrev pub parts_in : Data → OrPlace Script
parts_in d = do
  schema ← schema_in d
  streams ← streams_in d
  steps ← steps_in (length streams) d
  Ok (record { schema = schema; streams = streams; steps = steps })

abbrev pub script_in : Data → OrPlace Script
script_in d = do
  err_if (not (is_some (as_object d))) (codes "object")
  parts_in d

-- the script of a text of at most 16,777,216 bytes
abbrev pub script_of_text : List ℕ → OrPlace Script
script_of_text bytes = do
  err_if (nat_lt SCRIPT_LIMIT (length bytes)) (codes "size")
  d ← ok_or (json_of bytes) (codes "json")
  script_in d

-- what a reader of scripts answers, against the definition
abbrev pub ReadsScript : Result Script ScriptEnd → OrPlace Script → Type 0
ReadsScript (Ok s) d = d ≡ Ok s
ReadsScript (Err (Fault place)) d = d ≡ Err place
ReadsScript (Err NoMemory) d = ⊤
