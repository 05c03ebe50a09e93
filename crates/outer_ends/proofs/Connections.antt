-- Lemmas on lists of connections.
use Rattle.std.proofs.Common.{◌≡◌, ℕ, List, [], ◌∷◌, ◌++◌, All, map, Some, refl, ap, sym, ◌∙◌}
use Rattle.std.proofs.lemmas.Bool.{false≢true}
use Rattle.std.proofs.lemmas.List.Elements.{All-head, All-tail}
use Rattle.std.proofs.lemmas.List.{map-append}
use Rattle.outer_ends.specs.Connections.{Closes}
use Rattle.outer_ends.specs.Memory.{SourceState, SinkState, source_told, sink_told, ended_of}

-- what all have, the last one has
pub all_last : {X : Type 0} (P : X → Type 0) (xs : List X) (x : X) → All P (xs ++ x ∷ []) → P x
all_last P [] x h = All-head P x [] h
all_last P (y ∷ ys) x h = all_last P ys x (All-tail P y (ys ++ x ∷ []) h)

pub closes_one : (live live_now faults faults_now : ℕ) (closed now : List (SourceState × SinkState)) (source : SourceState) (sink : SinkState)
    → now ≡ closed ++ (source, sink) ∷ []
    → Closes (record { live = live; closed = Some (map ended_of closed); faults = faults }) (record { live = live_now; closed = Some (map ended_of now); faults = faults_now })
    (source_told source) (sink_told sink)
closes_one live live_now faults faults_now closed now source sink e = record {
  untold = λ none. absurd (false≢true (sym none));
  appended = (
    ended_of (source, sink),
    ap Some (ap (map ended_of) e ∙ map-append ended_of closed ((source, sink) ∷ [])),
    record { taken_is = refl; left_is = refl; written_is = refl; reads_is = refl; writes_is = refl },
  );
}
