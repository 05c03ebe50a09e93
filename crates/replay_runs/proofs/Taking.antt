-- Steps of streams that take turns, as a run.
use Rattle.std.proofs.Common.{◌≡◌, ◌≢◌, ℕ, ◌+◌, ◌-◌, ◌<◌, ◌≤◌, true, false, Bool, List, [], ◌∷◌, ◌++◌, length, map, take, set, get_or, refl, sym, ap, subst, ◌∙◌, arith, append-nil, append_assoc, add-zero, inl, inr, Some, None, Option, length-append, get_or-set_other, zero, suc, replicate, zero-add}
use Rattle.std.specs.Prelude.{⊤, ◌⊎◌, IfSome, IsSome, IsNone, IsTrue, if◌then◌else◌, slice_get}
use Rattle.std.proofs.lemmas.List.{map-append, length-set, take-append-le}
use Rattle.std.proofs.lemmas.Grind.{get_or-set_at}
use Rattle.std.proofs.lemmas.Option.{slice_get_within, get_or_from_slice_get, slice_get-get_or}
use Rattle.std.proofs.lemmas.Bool.Decides.{eqb_tells}
use Rattle.http_messages.specs.declared.ends.SessionEnd.{SessionEnd}
use Rattle.world_cells.specs.declared.keys.CellKey.{CellKey}
use Rattle.world_cells.specs.World.{World}
use Rattle.task_forms.specs.declared.tasks.Task.{Task}
use Rattle.task_forms.specs.declared.tasks.Entry.{Entry}
use Rattle.task_forms.specs.Meaning.{Meaning, world_after}
use Rattle.history_model.specs.Trials.{IsTried}
use Rattle.history_model.specs.Histories.{world_at}
use Rattle.session_engine.specs.Plans.{TaskPlans}
use Rattle.run_model.specs.Runs.{Stage, resting, Act, passes, ends, snaps, tries, refuses, joins, joined, is_refusal, Event, history_of, stage_of, refused_of, Takes, IsRun}
use Rattle.run_model.specs.Laws.{own_entries, HistoryGrows, StageIsLast, OthersStagesStay, RefusalsAreCounted, OthersRefusalsStay, OthersEntriesStay, RunsGrow}
use Rattle.core_steps.specs.declared.steppers.Stepper.{Stepper}
use Rattle.core_steps.specs.declared.steppers.Stepper.TheVariants.{Empty, Waiting, Snapped, Tried}
use Rattle.core_steps.specs.Stepping.{task_in, IsFitIn, MayStep}
use Rattle.core_steps.specs.Steps.{IsReady}
use Rattle.replay_runs.specs.declared.lines.Line.{Line}
use Rattle.replay_runs.specs.declared.streams.Stream.{Stream}
use Rattle.std.specs.Option.{option_map_or}
use Rattle.replay_runs.specs.Streams.{left_in, stage_at, IsServedSo, MayGo, if_joined, OneStep}
use Rattle.replay_runs.specs.Running.{IsStream, Running, RunsOver, left_at, in_turn}
use Rattle.commit_core.specs.declared.cores.Core.{Core}
use Rattle.commit_core.specs.Standing.{StandsFor, meaning_in}

decide : (m n : ℕ) → (m ≡ n) ⊎ (m ≢ n)
decide m n = elim (eqb_tells m n) [ inl e ↦ inl e.1 | inr e ↦ inr e.1 ]

-- an item after a write is the new one, or one of another place
set_get : {A : Type 0} (xs : List A) (k j : ℕ) (a x : A) → slice_get (set xs k a) j ≡ Some x → ((j ≡ k) × (x ≡ a)) ⊎ ((j ≢ k) × (slice_get xs j ≡ Some x))
set_get {A} xs k j a x is = at (decide j k)
  where
    within : j < length xs
    within = let h = slice_get_within (set xs k a) j x is in omega (arith, h, length-set xs k a)

    got : get_or (set xs k a) j x ≡ x
    got = get_or_from_slice_get (set xs k a) j x x is

    at : (j ≡ k) ⊎ (j ≢ k) → ((j ≡ k) × (x ≡ a)) ⊎ ((j ≢ k) × (slice_get xs j ≡ Some x))
    at (inl same) = inl (same, sym got ∙ get_or-set_at xs k j a x same (omega (arith, within, same)))
    at (inr other) = inr (other, slice_get-get_or xs j x within ∙ ap (λ y. Some y) (sym (get_or-set_other xs k j a x other) ∙ got))

none_cons : (x : ℕ) (xs : List ℕ) → x ∷ xs ≡ [] → ⊥
none_cons x xs e = cc

head_same : (x y : ℕ) → x ∷ [] ≡ y ∷ [] → x ≡ y
head_same x y e = cc e

-- what one more event makes of a run, of its stages and of its counts
pub record GrowLaws (m : Meaning) : Type 0 where
  pub history : HistoryGrows
  pub stage : StageIsLast
  pub stages : OthersStagesStay
  pub refused : RefusalsAreCounted
  pub refusals : OthersRefusalsStay
  pub entries : OthersEntriesStay
  pub runs : RunsGrow m

-- an entry of another stream is none of one's own
other_entries : OthersEntriesStay → (j k : ℕ) (h : List Entry) (act : Act) (b : Bool) → k ≢ j → map (λ e. e.by) (joined act) ≡ if_joined b k → own_entries j (h ++ joined act) ≡ own_entries j h
other_entries law j k h passes b not told = ap (own_entries j) (append-nil h)
other_entries law j k h (ends e) b not told = ap (own_entries j) (append-nil h)
other_entries law j k h (snaps t) b not told = ap (own_entries j) (append-nil h)
other_entries law j k h tries b not told = ap (own_entries j) (append-nil h)
other_entries law j k h (refuses reads why) b not told = ap (own_entries j) (append-nil h)
other_entries law j k h (joins e) true not told = law j h e (λ is. not (sym (head_same e.by k told) ∙ is))
other_entries law j k h (joins e) false not told = absurd (none_cons e.by [] told)

world_same : (m : Meaning) (w : World) (h more : List Entry) (n : ℕ) → n ≤ 0 + length h → world_at m 0 w h n ≡ world_at m 0 w (h ++ more) n
world_same m w h more n low = ap (λ l. world_after m w l) (sym (take-append-le (n - 0) h more (omega arith)))

-- what a stream holds stays true of a longer history
ready_more : (m : Meaning) (w : World) (h more : List Entry) (s : Stepper) → IsReady m 0 w h s → IsReady m 0 w (h ++ more) s
ready_more m w h more Empty ready = tt
ready_more m w h more (Waiting a) (few, last) = (few, (let l = length-append h more in omega arith))
ready_more m w h more (Snapped a s) (few, last, low, high, same) =
    (few, last, low, (let l = length-append h more in omega arith), λ k. same k ∙ ap (λ x. m.cells x k) (world_same m w h more s.at high))
ready_more m w h more (Tried a t) (few, last, trial, reach) =
    let same : world_at m 0 w h t.at ≡ world_at m 0 w (h ++ more) t.at = world_same m w h more t.at trial.high in (
      few,
      last,
      record {
        low = trial.low;
        high = (let l = length-append h more in let high = trial.high in omega (arith, l, high));
        tried = subst (λ x. IsTried m (m.cells x) a.task t.reads t.writes t.reply) same trial.tried;
      },
      λ k read. subst (λ x. IsTrue (m.reach x a.task k)) same (reach k read),
    )

module _ (m : Meaning) (laws : GrowLaws m) (plans : TaskPlans) (window : ℕ) (w : World) (bytes : List ℕ) (k : ℕ) (events : List Event) (before : Stage) (refused : ℕ) (now : Stream) (b : Bool)
    (stands : List Entry → Type 0) (o : OneStep m plans window w bytes k (history_of events) before refused now b stands) where
  abbrev event : Event
  event = record { by = k; act = o.act; now = stage_at now.end now.stepper }

  whole : history_of (events ++ event ∷ []) ≡ history_of events ++ joined o.act
  whole = laws.history events event

  own_stream : refused ≡ refused_of k events → IsStream m plans w bytes k (events ++ event ∷ []) now
  own_stream count = record {
    served = subst (λ l. IsServedSo plans bytes (own_entries k l) now.end (task_in now.stepper) now.line) (sym whole) o.served;
    ready = subst (λ l. IsReady m 0 w l now.stepper) (sym whole) o.ready;
    fit = o.fit;
    stage = laws.stage k events event refl;
    refused = o.counted ∙ (ap (λ n. n + (if is_refusal o.act then 1 else 0)) count ∙ sym (laws.refused k events event refl));
  }

  other_stream : (j : ℕ) (bs : List ℕ) (s : Stream) → k ≢ j → IsStream m plans w bs j events s → IsStream m plans w bs j (events ++ event ∷ []) s
  other_stream j bs s not old = record {
    served = subst (λ l. IsServedSo plans bs l s.end (task_in s.stepper) s.line) (sym (ap (own_entries j) whole ∙ other_entries laws.entries j k (history_of events) o.act b not o.told)) old.served;
    ready = subst (λ l. IsReady m 0 w l s.stepper) (sym whole) (ready_more m w (history_of events) (joined o.act) s.stepper old.ready);
    fit = old.fit;
    stage = laws.stages j events event not ∙ old.stage;
    refused = old.refused ∙ sym (laws.refusals j events event not);
  }

-- one more step of a run
pub running_step : (m : Meaning) (laws : GrowLaws m) (plans : TaskPlans) (window : ℕ) (w : World) (inputs : List (List ℕ)) (steps : List ℕ) (streams : List (Stream)) (history : List ℕ)
    (old new : List Entry → Type 0) (k : ℕ) (bytes : List ℕ) (s now : Stream) (b : Bool) (later : List ℕ) → (r : Running m plans window w inputs steps streams history old)
    → slice_get inputs k ≡ Some bytes → slice_get streams k ≡ Some s → later ≡ history ++ if_joined b k
    → (o : OneStep m plans window w bytes k (history_of r.events) (stage_at s.end s.stepper) s.refused now b new)
    → Running m plans window w inputs (steps ++ k ∷ []) (set streams k now) later new
running_step m laws plans window w inputs steps streams history old new k bytes s now b later r input is added o =
    let mine = r.each k bytes s input is in
    let e : Event = record { by = k; act = o.act; now = stage_at now.end now.stepper } in
    let more = laws.history r.events e in
    record {
      events = r.events ++ e ∷ [];
      run = laws.runs window 0 w steps r.events e r.run (subst (λ x. Takes m window 0 w (history_of r.events) k x o.act (stage_at now.end now.stepper)) (sym mine.stage) o.takes);
      told = added ∙ (both r.told (sym o.told) ∙ (sym (map-append (λ (x : Entry). x.by) (history_of r.events) (joined o.act)) ∙ ap (map (λ (x : Entry). x.by)) (sym more)));
      stood = subst new (sym more) o.stood;
      each = λ j bs x given got. at j bs x given (set_get streams k j now x got);
      no_others = λ j none. ap (own_entries j) more ∙ (other_entries laws.entries j k (history_of r.events) o.act b (λ same. not_none bytes (sym none ∙ (ap (slice_get inputs) (sym same) ∙ input))) o.told ∙ r.no_others j none);
    }
  where
    both : {a c d f : List ℕ} → a ≡ c → d ≡ f → a ++ d ≡ c ++ f
    both p q = λ i. p i ++ q i

    not_none : (c : List ℕ) → None ≡ Some c → ⊥
    not_none c e = cc

    at : (j : ℕ) (bs : List ℕ) (x : Stream) → slice_get inputs j ≡ Some bs → ((j ≡ k) × (x ≡ now)) ⊎ ((j ≢ k) × (slice_get streams j ≡ Some x))
        → IsStream m plans w bs j (r.events ++ record { by = k; act = o.act; now = stage_at now.end now.stepper } ∷ []) x
    at j bs x given (inl same) =
        let same_bytes : bytes ≡ bs = some_one bytes bs (sym input ∙ (ap (slice_get inputs) (sym same.0) ∙ given)) in
        subst (λ y. IsStream m plans w bs j (r.events ++ record { by = k; act = o.act; now = stage_at now.end now.stepper } ∷ []) y) (sym same.1)
        (subst (λ i. IsStream m plans w bs i (r.events ++ record { by = k; act = o.act; now = stage_at now.end now.stepper } ∷ []) now) (sym same.0)
        (subst (λ l. IsStream m plans w l k (r.events ++ record { by = k; act = o.act; now = stage_at now.end now.stepper } ∷ []) now) same_bytes
        (own_stream m laws plans window w bytes k r.events (stage_at s.end s.stepper) s.refused now b new o (r.each k bytes s input is).refused)))
      where
        some_one : (a c : List ℕ) → Some a ≡ Some c → a ≡ c
        some_one a c e = cc e
    at j bs x given (inr other) =
        other_stream m laws plans window w bytes k r.events (stage_at s.end s.stepper) s.refused now b new o j bs x (λ is. other.0 (sym is)) (r.each j bs x given other.1)

-- ---- a step can be taken

pub safe : (m : Meaning) (plans : TaskPlans) (w : World) (bytes : List ℕ) (k : ℕ) (events : List Event) (s : Stream) (count : ℕ) → IsStream m plans w bytes k events s
    → count ≡ 0 + length (history_of events) → MayGo m count s.end s.stepper s.line
safe m plans w bytes k events s count is counted = at s.end s.stepper is.served is.ready is.fit
  where
    at : (end : Option SessionEnd) (p : Stepper) → IsServedSo plans bytes (own_entries k (history_of events)) end (task_in p) s.line → IsReady m 0 w (history_of events) p → IsFitIn m p
        → MayGo m count end p s.line
    at (Some e) p served ready fit = tt
    at None Empty served ready fit = (served.between.few, served.free)
    at None (Waiting a) served ready fit = ((ready.0, omega (arith, ready.1)), fit, subst IsSome (sym served.pending) refl, served.few)
    at None (Snapped a x) served ready fit = ((ready.0, ready.1), fit, subst IsSome (sym served.pending) refl, served.few)
    at None (Tried a t) served ready fit = ((ready.0, ready.1), fit, subst IsSome (sym served.pending) refl, served.few)

-- ---- what is left

set_here : {A : Type 0} (xs : List A) (k : ℕ) (a : A) → k < length xs → slice_get (set xs k a) k ≡ Some a
set_here xs k a inside = slice_get-get_or (set xs k a) k a (omega (arith, length-set xs k a, inside)) ∙ ap (λ y. Some y) (get_or-set_at xs k k a a refl inside)

pub some_same : {A : Type 0} (a b : A) → Some a ≡ Some b → a ≡ b
some_same a b e = cc e

pub left_falls : (streams : List (Stream)) (k : ℕ) (x s new : Stream) → k < length streams → slice_get streams k ≡ Some x → slice_get streams k ≡ Some s → s.end ≡ None
    → (IsNone x.end → left_in new < left_in x) → left_at (set streams k new) k < left_at streams k
left_falls streams k x s new inside is got none less =
    let same : s ≡ x = some_same s x (sym got ∙ is) in
    let goes : IsNone x.end = subst (λ y. IsNone y.end) same (subst IsNone (sym none) refl) in
    let before : left_at streams k ≡ left_in x = ap (λ o. option_map_or left_in o 0) is in
    let after : left_at (set streams k new) k ≡ left_in new =
    ap (λ o. option_map_or left_in o 0) (set_here streams k new inside) in
    let less' = less goes in
    omega (arith, before, after, less')

pub set_others : {A : Type 0} (xs : List A) (k j : ℕ) (a : A) → j ≢ k → slice_get (set xs k a) j ≡ slice_get xs j
set_others [] k j a not = refl
set_others (x ∷ xs) zero zero a not = absurd (not refl)
set_others (x ∷ xs) zero (suc j) a not = refl
set_others (x ∷ xs) (suc k) zero a not = refl
set_others (x ∷ xs) (suc k) (suc j) a not = set_others xs k j a (λ e. not (ap suc e))

-- ---- over a core

module _ {S K : Type 0} (kind : S → K) (meaning : K → Meaning) (plans : TaskPlans) (w : World) (inputs : List (List ℕ)) where
  pub over_new : (old new : Core S) (steps : List ℕ) (streams : List Stream) (history : List ℕ) (stands : List Entry → Type 0)
      → new.subject ≡ old.subject → new.tally.log.window ≡ old.tally.log.window
      → Running (meaning_in kind meaning old) plans old.tally.log.window w inputs steps streams history stands
      → Running (meaning_in kind meaning new) plans new.tally.log.window w inputs steps streams history stands
  over_new old new steps streams history stands subject window r =
      subst (λ n. Running (meaning (kind new.subject)) plans n w inputs steps streams history stands) (sym window)
      (subst (λ s. Running (meaning (kind s)) plans old.tally.log.window w inputs steps streams history stands) (sym subject) r)

  pub can_go : (core : Core S) (steps : List ℕ) (streams : List Stream) (history : List ℕ) (k : ℕ) (s : Stream) → length inputs ≡ length streams
      → RunsOver kind meaning plans core w inputs steps streams history → slice_get streams k ≡ Some s
      → MayGo (meaning_in kind meaning core) core.tally.count s.end s.stepper s.line
  can_go core steps streams history k s sizes r is =
      let inside : k < length inputs = let h = slice_get_within streams k s is in omega (arith, h, sizes) in
      safe (meaning (kind core.subject)) plans w (get_or inputs k []) k r.events s core.tally.count (r.each k (get_or inputs k []) s (slice_get-get_or inputs k [] inside) is) r.stood.counted

-- ---- lists of steps

rep_more : (n k : ℕ) → replicate n k ++ k ∷ [] ≡ replicate (suc n) k
rep_more zero k = refl
rep_more (suc n) k = ap (λ l. k ∷ l) (rep_more n k)

pub turn_more : (steps : List ℕ) (n k : ℕ) → (steps ++ replicate n k) ++ k ∷ [] ≡ steps ++ replicate (suc n) k
turn_more steps n k = append_assoc steps (replicate n k) (k ∷ []) ∙ ap (λ l. steps ++ l) (rep_more n k)

turns_from : (i n : ℕ) (counts : List ℕ) → in_turn i (counts ++ n ∷ []) ≡ in_turn i counts ++ replicate n (i + length counts)
turns_from i n [] = append-nil (replicate n i) ∙ ap (replicate n) (sym (add-zero i))
turns_from i n (c ∷ counts) =
    let at : i + 1 + length counts ≡ i + length (c ∷ counts) = omega arith in
    ap (λ l. replicate c i ++ l) (turns_from (i + 1) n counts ∙ ap (λ j. in_turn (i + 1) counts ++ replicate n j) at)
    ∙ sym (append_assoc (replicate c i) (in_turn (i + 1) counts) (replicate n (i + length (c ∷ counts))))

pub turns_more : (steps : List ℕ) (n k : ℕ) (counts : List ℕ) → k ≡ length counts → (steps ++ in_turn 0 counts) ++ replicate n k ≡ steps ++ in_turn 0 (counts ++ n ∷ [])
turns_more steps n k counts at =
    append_assoc steps (in_turn 0 counts) (replicate n k) ∙ ap (λ l. steps ++ l) (ap (λ j. in_turn 0 counts ++ replicate n j) (at ∙ sym (zero-add (length counts))) ∙ sym (turns_from 0 n counts))

pub none_is : {A : Type 0} (o : Option A) → IsNone o → o ≡ None
none_is None e = refl
none_is (Some x) e = cc

-- those below a number have ended, and then that one
pub ended_more : (old new : List (Stream)) (k j : ℕ) (s : Stream) → j < k + 1 → slice_get new j ≡ Some s → ((i : ℕ) → i ≢ k → slice_get new i ≡ slice_get old i)
    → ((x : Stream) → slice_get new k ≡ Some x → IsSome x.end) → ((i : ℕ) (x : Stream) → i < k → slice_get old i ≡ Some x → IsSome x.end) → IsSome s.end
ended_more old new k j s less got others now before = at (decide j k)
  where
    at : (j ≡ k) ⊎ (j ≢ k) → IsSome s.end
    at (inl same) = now s (ap (slice_get new) (sym same) ∙ got)
    at (inr other) = before j s (omega (arith, less, other)) (sym (others j other) ∙ got)
