use Rattle.std.proofs.Common.{◌≡◌, ℕ, ◌+◌, ◌⊎◌, List, [], ◌∷◌, ◌++◌, length, refl, sym, ap, subst, ◌∙◌, Some, inl, inr, length-append}
use Rattle.std.specs.Prelude.{slice_get}
use Rattle.std.proofs.lemmas.Option.{slice_get_read}
use Rattle.replay_runs.specs.declared.streams.Stream.{Stream}
use Rattle.replay_runs.specs.Streams.{IsNew}
use Rattle.replay_runs.proofs.Reporting.{push_get, some_same}
use Rattle.replay_runs.proofs.reports.make_streams.Goals as goal

new_more : (inputs : List (List ℕ)) (streams : List (Stream)) (i : ℕ) (item : List ℕ) (added : Stream) → length streams ≡ i → slice_get inputs i ≡ Some item → IsNew item added
    → ((k : ℕ) (bytes : List ℕ) (s : Stream) → slice_get inputs k ≡ Some bytes → slice_get streams k ≡ Some s → IsNew bytes s)
    → (k : ℕ) (bytes : List ℕ) (s : Stream) → slice_get inputs k ≡ Some bytes → slice_get (streams ++ added ∷ []) k ≡ Some s → IsNew bytes s
new_more inputs streams i item added size is new before k bytes s given got = at (push_get streams added s k got)
  where
    at : (slice_get streams k ≡ Some s) ⊎ ((k ≡ length streams) × (s ≡ added)) → IsNew bytes s
    at (inl old) = before k bytes s given old
    at (inr last) =
        let same : item ≡ bytes = some_same item bytes (sym is ∙ (ap (slice_get inputs) (sym (last.0 ∙ size)) ∙ given)) in
        subst (λ x. IsNew bytes x) (sym last.1) (subst (λ b. IsNew b added) same new)

pub making-preserved : goal.making-preserved
making-preserved c =
    let items = c.in_ok-push.ensures.items in
    let new = subst (λ b. IsNew b c.in_ok-stream.stream) c.as_slice.ensures c.in_ok-stream.ensures in
    let is = slice_get_read c.args.inputs.now _ c.making.bytes-index c.bytes-item.result refl c.making-test.true c.bytes-item.is in
    record {
      size = ap length items ∙ (length-append c.making.streams.items (c.in_ok-stream.stream ∷ []) ∙ ap (λ n. n + 1) c.making.invariant.size);
      new = λ k bytes s given got.
          new_more c.args.inputs.now c.making.streams.items c.making.bytes-index c.bytes-item.result c.in_ok-stream.stream c.making.invariant.size is new c.making.invariant.new k bytes s given (subst (λ l. slice_get l k ≡ Some s) items got);
    }
