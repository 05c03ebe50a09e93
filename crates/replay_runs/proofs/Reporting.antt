-- The start and the end of a run.
use Rattle.std.proofs.Common.{◌≡◌, ◌≢◌, ℕ, ◌+◌, ◌-◌, ◌<◌, ◌≤◌, true, false, Bool, List, [], ◌∷◌, ◌++◌, length, map, take, get_or, refl, sym, ap, subst, ◌∙◌, arith, inl, inr, Some, None, Option, length-append, zero, suc}
use Rattle.std.specs.Prelude.{⊤, ◌⊎◌, IsSome, slice_get, unwrap_or}
use Rattle.std.proofs.lemmas.List.{map-append, take_more, length-map}
use Rattle.http_messages.specs.declared.ends.SessionEnd.{SessionEnd}
use Rattle.http_messages.specs.declared.ends.SessionEnd.TheVariants as over
use Rattle.http_model.specs.Served.{Served}
use Rattle.world_cells.specs.World.{World}
use Rattle.task_forms.specs.declared.tasks.Entry.{Entry}
use Rattle.task_forms.specs.declared.tasks.Task.{Task}
use Rattle.task_forms.specs.Meaning.{Meaning, AreAnswers}
use Rattle.session_engine.specs.Plans.{TaskPlans}
use Rattle.run_model.specs.Runs.{Stage, resting, ended, Event, history_of, stage_of, refused_of, rebuilt, Begins}
use Rattle.run_model.specs.Laws.{own_entries, HistoryIsRebuilt}
use Rattle.std.proofs.lemmas.Option.{slice_get_within}
use Rattle.http_model.specs.SessionLaws.{EntriesAreTasks}
use Rattle.core_steps.specs.declared.steppers.Stepper.{Stepper}
use Rattle.core_steps.specs.declared.steppers.Stepper.TheVariants.{Empty}
use Rattle.core_steps.specs.Stepping.{task_in, IsFitIn}
use Rattle.core_steps.specs.Steps.{IsReady}
use Rattle.replay_runs.specs.declared.lines.Line.{Line}
use Rattle.replay_runs.specs.declared.streams.Stream.{Stream}
use Rattle.session_engine.specs.Driving.{IsOver}
use Rattle.replay_runs.specs.declared.reports.Report.{Report}
use Rattle.replay_runs.specs.Streams.{stage_at, IsServedSo, IsNew}
use Rattle.replay_runs.specs.Running.{IsStream, Running, in_turn, IsTold, IsReported, AreTasks}

-- ---- lists

none_some : {A : Type 0} (x : A) → None ≡ Some x → ⊥
none_some x e = cc

one_behind : {B : Type 0} {a c : List B} {d e : B} → a ≡ c → d ≡ e → a ++ d ∷ [] ≡ c ++ e ∷ []
one_behind p q = λ j. p j ++ q j ∷ []

pub push_get : {A : Type 0} (xs : List A) (a x : A) (k : ℕ) → slice_get (xs ++ a ∷ []) k ≡ Some x → (slice_get xs k ≡ Some x) ⊎ ((k ≡ length xs) × (x ≡ a))
push_get [] a x zero is = inr (refl, cc (is))
push_get [] a x (suc k) is = absurd (none_some x is)
push_get (y ∷ ys) a x zero is = inl is
push_get (y ∷ ys) a x (suc k) is = elim (push_get ys a x k is) as (λ _. (slice_get ys k ≡ Some x) ⊎ ((suc k ≡ length (y ∷ ys)) × (x ≡ a))) [ inl e ↦ inl e | inr e ↦ inr (ap suc e.0, e.1) ]

pub some_same : {A : Type 0} (a b : A) → Some a ≡ Some b → a ≡ b
some_same a b e = cc e

map_get : {A B : Type 0} (f : A → B) (xs : List A) (k : ℕ) (x : A) → slice_get xs k ≡ Some x → slice_get (map f xs) k ≡ Some (f x)
map_get f [] k x is = absurd (none_some x is)
map_get f (y ∷ ys) zero x is = ap (λ z. Some (f z)) (some_same y x is)
map_get f (y ∷ ys) (suc k) x is = map_get f ys k x is

map_got : {A B : Type 0} (f : A → B) (xs : List A) (k : ℕ) (b : B) → slice_get (map f xs) k ≡ Some b → (x : A) × (slice_get xs k ≡ Some x)
map_got f [] k b is = absurd (none_some b is)
map_got f (y ∷ ys) zero b is = (y, refl)
map_got f (y ∷ ys) (suc k) b is = map_got f ys k b is

got_at : {A : Type 0} (xs : List A) (k : ℕ) → k < length xs → (x : A) × (slice_get xs k ≡ Some x)
got_at [] k inside = absurd (no_below k inside)
  where
    no_below : (k : ℕ) → k < 0 → ⊥
    no_below k h = omega arith
got_at (x ∷ xs) zero inside = (x, refl)
got_at (x ∷ xs) (suc k) inside = got_at xs k (omega arith)

pub map_take : {A B : Type 0} (f : A → B) (xs : List A) (i : ℕ) (x : A) (old new : List B) (b : B) → i < length xs → x ≡ get_or xs i x → old ≡ map f (take i xs) → b ≡ f x → new ≡ old ++ b ∷ []
    → new ≡ map f (take (i + 1) xs)
map_take f xs i x old new b inside is before same added =
    added ∙ (one_behind before same ∙ (ap (λ y. map f (take i xs) ++ f y ∷ []) is ∙ (sym (map-append f (take i xs) (get_or xs i x ∷ [])) ∙ ap (map f) (sym (take_more xs i x inside)))))

-- ---- the start

module _ (m : Meaning) (plans : TaskPlans) (window : ℕ) (w : World) where
  starts_so : (bytes : List ℕ) (k : ℕ) (s : Stream) → IsNew bytes s → IsStream m plans w bytes k [] s
  starts_so bytes k s new = record {
    served = subst (λ e. IsServedSo plans bytes [] e (task_in s.stepper) s.line) (sym new.end) (subst (λ p. IsServedSo plans bytes [] None (task_in p) s.line) (sym new.stepper) (new.line plans));
    ready = subst (λ p. IsReady m 0 w [] p) (sym new.stepper) tt;
    fit = subst (λ p. IsFitIn m p) (sym new.stepper) tt;
    stage = sym (ap (λ e. stage_at e s.stepper) new.end ∙ ap (λ p. stage_at None p) new.stepper);
    refused = new.refused;
  }

  pub starts : (inputs : List (List ℕ)) (streams : List (Stream)) (history : List ℕ) (stands : List Entry → Type 0) → stands [] → history ≡ []
      → ((k : ℕ) (bytes : List ℕ) (s : Stream) → slice_get inputs k ≡ Some bytes → slice_get streams k ≡ Some s → IsNew bytes s) → Running m plans window w inputs [] streams history stands
  starts inputs streams history stands stood none new = record {
    events = [];
    run = record { streams = refl; each = tt };
    told = none;
    stood = stood;
    each = λ k bytes s given got. starts_so bytes k s (new k bytes s given got);
    no_others = λ k none. refl;
  }

  -- ---- the end

  told_at : (bytes : List ℕ) (k : ℕ) (events : List Event) (s : Stream) (end : Option SessionEnd) → s.end ≡ end → IsSome end → IsStream m plans w bytes k events s
      → IsTold plans events k bytes (unwrap_or end over.NoMemory) s.refused s.line.sink.written
  told_at bytes k events s None is some at = absurd (not_some some)
    where
      not_some : IsSome {T = SessionEnd} None → ⊥
      not_some e = cc
  told_at bytes k events s (Some e) is some at =
      let o = subst (λ x. IsServedSo plans bytes (own_entries k (history_of events)) x (task_in s.stepper) s.line) is at.served in
      record {
        ended_so = at.stage ∙ ap (λ x. stage_at x s.stepper) is;
        refusals = at.refused;
        answered = o.answered;
        taken = s.line.source.taken;
        served = o.served;
        in_memory = o.in_memory;
      }

  pub reported : HistoryIsRebuilt m → EntriesAreTasks Task Entry → plans.task_of ≡ (λ e. e.task) → (inputs : List (List ℕ)) (steps counts : List ℕ) (streams : List (Stream)) (history : List ℕ) (stands : List Entry → Type 0) (report : Report)
      → ((h : List Entry) → stands h → AreAnswers m w h) → Running m plans window w inputs (steps ++ in_turn 0 counts) streams history stands → length counts ≡ length inputs → length streams ≡ length inputs → ((j : ℕ) (s : Stream) → slice_get streams j ≡ Some s → IsSome s.end)
      → report.ends.items ≡ map (λ s. unwrap_or s.end over.NoMemory) streams → report.history.items ≡ history
      → report.refused.items ≡ map (λ s. s.refused) streams → report.replies.items ≡ map (λ s. s.line.sink.written) streams
      → IsReported m plans window w inputs steps report stands
  reported law one task_of inputs steps counts streams history stands report answers r turns sizes all is_ends is_history is_refused is_replies = record {
    events = r.events;
    counts = counts;
    turns = turns;
    run = r.run;
    told = is_history ∙ r.told;
    stood = r.stood;
    rebuilds = λ tasks given.
        ap (rebuilt m w tasks) (is_history ∙ r.told) ∙ law w tasks (history_of r.events) (answers (history_of r.events) r.stood) (λ k. begins tasks given k (slice_get inputs k) refl);
    sizes = (
      ap length is_ends ∙ (length-map _ _ ∙ sizes),
      ap length is_refused ∙ (length-map _ _ ∙ sizes),
      ap length is_replies ∙ (length-map _ _ ∙ sizes),
    );
    each = λ k bytes end count reply given at_end at_count at_reply. at k bytes end count reply given (subst (λ l. slice_get l k ≡ Some end) is_ends at_end) (subst (λ l. slice_get l k ≡ Some count) is_refused at_count)
        (subst (λ l. slice_get l k ≡ Some reply) is_replies at_reply);
  }
    where
      begins : (tasks : ℕ → List Task) → ((k : ℕ) (bytes : List ℕ) → slice_get inputs k ≡ Some bytes → AreTasks plans bytes (tasks k)) → (k : ℕ) (o : Option (List ℕ)) → slice_get inputs k ≡ o
          → Begins (map (λ e. e.task) (own_entries k (history_of r.events))) (tasks k)
      begins tasks given k None none = subst (λ l. Begins (map (λ e. e.task) l) (tasks k)) (sym (r.no_others k none)) (tasks k, refl)
      begins tasks given k (Some bytes) is =
          let x = got_at streams k (let h = slice_get_within inputs k bytes is in omega (arith, h, sizes)) in
          let told = told_at bytes k r.events x.0 x.0.end refl (all k x.0 x.1) (r.each k bytes x.0 is x.1) in
          subst (λ f. Begins (map f (own_entries k (history_of r.events))) (tasks k)) task_of
          (let is_tasks = given k bytes is in
          let found = one plans bytes told.taken false told.answered (own_entries k (history_of r.events)) x.0.line.sink.written (unwrap_or x.0.end over.NoMemory) is_tasks.0 is_tasks.1 told.served told.in_memory is_tasks.2 in
          (found.0, is_tasks.3 ∙ found.1))

      at : (k : ℕ) (bytes : List ℕ) (end : SessionEnd) (count : ℕ) (reply : List ℕ) → slice_get inputs k ≡ Some bytes → slice_get (map (λ (s : Stream). unwrap_or s.end over.NoMemory) streams) k ≡ Some end
          → slice_get (map (λ (s : Stream). s.refused) streams) k ≡ Some count → slice_get (map (λ (s : Stream). s.line.sink.written) streams) k ≡ Some reply → IsTold plans r.events k bytes end count reply
      at k bytes end count reply given at_end at_count at_reply =
          let x = map_got (λ (s : Stream). unwrap_or s.end over.NoMemory) streams k end at_end in
          let told = told_at bytes k r.events x.0 x.0.end refl (all k x.0 x.1) (r.each k bytes x.0 given x.1) in
          let same_end : unwrap_or x.0.end over.NoMemory ≡ end = some_same _ _ (sym (map_get (λ (s : Stream). unwrap_or s.end over.NoMemory) streams k x.0 x.1) ∙ at_end) in
          let same_count : x.0.refused ≡ count = some_same _ _ (sym (map_get (λ (s : Stream). s.refused) streams k x.0 x.1) ∙ at_count) in
          let same_reply : x.0.line.sink.written ≡ reply = some_same _ _ (sym (map_get (λ (s : Stream). s.line.sink.written) streams k x.0 x.1) ∙ at_reply) in
          subst (λ e. IsTold plans r.events k bytes e count reply) same_end (subst (λ n. IsTold plans r.events k bytes (unwrap_or x.0.end over.NoMemory) n reply) same_count
          (subst (λ t. IsTold plans r.events k bytes (unwrap_or x.0.end over.NoMemory) x.0.refused t) same_reply told))
