-- The items of arrays, with their places.
use Rattle.std.proofs.Common.{◌≡◌, ℕ, ◌<◌, ◌+◌, List, ◌∷◌, map, drop, length, get_or, Some, ap, sym}
use Rattle.std.specs.List.{enumerate_from}
use Rattle.serde_json.specs.Data.{Data}
use Rattle.serde_json.specs.Find.{as_array}
use Rattle.serde_json.specs.View.{view, items_of}
use Rattle.serde_json.specs.declared.value.Value.{Value}
use Rattle.request_model.specs.ReadingLaws.{items_list-items_of}
use Rattle.replay_script.proofs.Items.{drop_next}
use Rattle.replay_script.specs.Scripts.{array_streams, items_streams, array_steps, items_steps}

-- the items from a place on, with their places
abbrev pub placed : List Value → ℕ → List (ℕ × Data)
placed values i = enumerate_from i (map view (drop i values))

pub placed-next : (values : List Value) (i : ℕ) (v : Value) → i < length values → v ≡ get_or values i v → placed values i ≡ (i, view v) ∷ placed values (i + 1)
placed-next values i v h is = ap (λ vs. enumerate_from i (map view vs)) (drop_next values i v h is)

pub array_streams-items : (d : Data) (ds : List Data) → Some (items_of ds) ≡ as_array d → array_streams d ≡ items_streams ds
array_streams-items d ds e = rw (sym e) (ap items_streams (items_list-items_of ds))

pub array_steps-items : (count : ℕ) (d : Data) (ds : List Data) → Some (items_of ds) ≡ as_array d → array_steps count d ≡ items_steps count ds
array_steps-items count d ds e = rw (sym e) (ap (items_steps count) (items_list-items_of ds))
