-- What holds of a script that was read: its streams are few, and its steps are numbers of them.
use Rattle.std.proofs.Common.{◌≡◌, ℕ, zero, suc, ◌<◌, ◌≤◌, ◌==◌, List, [], ◌∷◌, length, Ok, sym, subst, ◌∙◌, arith, not-suc-le-zero}
use Rattle.std.proofs.lemmas.Bool.{ltb-true, ltb-false}
use Rattle.std.proofs.lemmas.List.FromFn.{length-enumerate_from}
use Rattle.std.proofs.lemmas.Slice.Zip.{AllZip-long}
use Rattle.std.specs.List.{enumerate_from, AllZip}
use Rattle.std.specs.Option.{ok_or}
use Rattle.std.specs.Prelude.{nat_lt, slice_index, not, is_some, option_and_then, codes, decimal, map}
use Rattle.serde_json.specs.Data.{Data}
use Rattle.serde_json.specs.Find.{get, as_array, as_number, as_object, as_u64}
use Rattle.json_forms.specs.Json.{json_of, items_list}
use Rattle.json_forms.specs.Pointer.{◌//◌}
use Rattle.request_model.specs.ReadingLaws.{all_ok-zip, bind-Ok, then-Ok, err_if-Ok, ok_or-Ok, and_then-Some, some_if-Some}
use Rattle.request_model.specs.Results.{◌>>=◌, ◌>>◌, err_if}
use Rattle.request_model.specs.Words.{all_ok, some_if}
use Rattle.replay_runs.specs.declared.reports.TheConstants.{STREAM_LIMIT}
use Rattle.replay_script.specs.declared.scripts.Script.{Script}
use Rattle.replay_script.specs.declared.scripts.TheConstants.{SCRIPT_LIMIT, STEP_LIMIT}
use Rattle.replay_script.specs.Scripts.{schema_in, streams_in, array_streams, items_streams, stream_at, stream_number, steps_in, array_steps, items_steps, step_at, parts_in, script_in, script_of_text}

-- ---- streams

items_streams-few : (ds : List Data) (streams : List (List ℕ)) → items_streams ds ≡ Ok streams → length streams ≤ STREAM_LIMIT
items_streams-few ds streams is =
    let places = enumerate_from 0 ds in
    let read = all_ok (map stream_at places) in
    let many = nat_lt STREAM_LIMIT (length ds) in
    let some = then-Ok (err_if (length ds == 0) (codes "streams")) (◌>>◌ (err_if many (codes "streams")) read) streams is in
    let few = then-Ok (err_if many (codes "streams")) read streams some.2 in
    let size : length streams ≡ length ds = AllZip-long (λ p s. stream_at p ≡ Ok s) places streams (all_ok-zip stream_at places streams few.2) ∙ length-enumerate_from 0 ds in
    subst (λ n. n ≤ STREAM_LIMIT) (sym size) (ltb-false STREAM_LIMIT (length ds) (err_if-Ok many (codes "streams") few.0 few.1))

pub streams-few : (d : Data) (streams : List (List ℕ)) → streams_in d ≡ Ok streams → length streams ≤ STREAM_LIMIT
streams-few d streams is =
    let found = bind-Ok (ok_or (get (codes "streams") d) (codes "streams")) array_streams streams is in
    let items = bind-Ok (ok_or (as_array found.0) (codes "streams")) (λ items. items_streams (items_list items)) streams found.2 in
    items_streams-few (items_list items.0) streams items.2

-- ---- steps

step_at-below : (count : ℕ) (p : ℕ × Data) (k : ℕ) → step_at count p ≡ Ok k → k < count
step_at-below count p k is =
    let number = ok_or-Ok (stream_number count p.1) (codes "steps" // decimal p.0) k is in
    let read = and_then-Some (λ n. some_if (nat_lt n count) n) (option_and_then as_u64 (as_number p.1)) k number in
    let same = some_if-Some (nat_lt read.0 count) read.0 k read.2 in
    subst (λ n. n < count) same.1 (ltb-true read.0 count same.0)

each-below : (count : ℕ) (ps : List (ℕ × Data)) (ks : List ℕ) → AllZip (λ p k. step_at count p ≡ Ok k) ps ks → (i : ℕ) → i < length ks → slice_index ks i < count
each-below count [] [] z i h = absurd (not-suc-le-zero h)
each-below count [] (k ∷ ks) z i h = absurd z
each-below count (p ∷ ps) [] z i h = absurd z
each-below count (p ∷ ps) (k ∷ ks) z zero h = step_at-below count p k z.0
each-below count (p ∷ ps) (k ∷ ks) z (suc i) h = each-below count ps ks z.1 i (omega (arith, h))

items_steps-below : (count : ℕ) (ds : List Data) (steps : List ℕ) → items_steps count ds ≡ Ok steps → (i : ℕ) → i < length steps → slice_index steps i < count
items_steps-below count ds steps is =
    let places = enumerate_from 0 ds in
    let read = then-Ok (err_if (nat_lt STEP_LIMIT (length ds)) (codes "steps")) (all_ok (map (step_at count) places)) steps is in
    each-below count places steps (all_ok-zip (step_at count) places steps read.2)

steps-below : (count : ℕ) (d : Data) (steps : List ℕ) → steps_in count d ≡ Ok steps → (i : ℕ) → i < length steps → slice_index steps i < count
steps-below count d steps is =
    let found = bind-Ok (ok_or (get (codes "steps") d) (codes "steps")) (array_steps count) steps is in
    let items = bind-Ok (ok_or (as_array found.0) (codes "steps")) (λ items. items_steps count (items_list items)) steps found.2 in
    items_steps-below count (items_list items.0) steps items.2

-- ---- scripts

abbrev pub Fits : Script → Type 0
Fits s = (length s.streams ≤ STREAM_LIMIT) × ((i : ℕ) → i < length s.steps → slice_index s.steps i < length s.streams)

parts-fit : (d : Data) (s : Script) → parts_in d ≡ Ok s → Fits s
parts-fit d s is =
    let schema = bind-Ok (schema_in d) _ s is in
    let streams = bind-Ok (streams_in d) _ s schema.2 in
    let steps = bind-Ok (steps_in (length streams.0) d) _ s streams.2 in
    let same : record { schema = schema.0; streams = streams.0; steps = steps.0 } ≡ s = cc steps.2 in
    subst Fits same (streams-few d streams.0 streams.1, steps-below (length streams.0) d steps.0 steps.1)

pub script-fits : (bytes : List ℕ) (s : Script) → script_of_text bytes ≡ Ok s → Fits s
script-fits bytes s is =
    let short = then-Ok (err_if (nat_lt SCRIPT_LIMIT (length bytes)) (codes "size")) (◌>>=◌ (ok_or (json_of bytes) (codes "json")) script_in) s is in
    let read = bind-Ok (ok_or (json_of bytes) (codes "json")) script_in s short.2 in
    let shaped = then-Ok (err_if (not (is_some (as_object read.0))) (codes "object")) (parts_in read.0) s read.2 in
    parts-fit read.0 s shaped.2
