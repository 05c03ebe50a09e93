-- A step of the task of a stream, as an event of a run.
use Rattle.std.proofs.Common.{◌≡◌, ◌≢◌, ℕ, ◌+◌, ◌-◌, ◌<◌, ◌≤◌, true, false, Bool, List, [], ◌∷◌, ◌++◌, length, map, refl, sym, ap, subst, ◌∙◌, arith, append-nil, add-zero, inl, inr, Some, None, Option}
use Rattle.std.specs.Prelude.{⊤, ◌⊎◌, IfSome, IsSome, if◌then◌else◌}
use Rattle.http_messages.specs.declared.ends.SessionEnd.{SessionEnd}
use Rattle.http_messages.specs.declared.ends.SessionEnd.TheVariants as over
use Rattle.world_cells.specs.World.{World}
use Rattle.task_forms.specs.declared.tasks.Task.{Task}
use Rattle.task_forms.specs.declared.tasks.Entry.{Entry}
use Rattle.task_forms.specs.Meaning.{Meaning}
use Rattle.http_messages.specs.declared.limits.TheConstants.{MESSAGE_LIMIT}
use Rattle.session_engine.specs.Plans.{TaskPlans}
use Rattle.run_model.specs.Runs.{Stage, resting, waiting, snapped, tried, ended, Act, passes, ends, snaps, tries, refuses, joins, joined, is_refusal, Takes, IsAnswered}
use Rattle.run_model.specs.Laws.{own_entries, OwnEntryJoins}
use Rattle.commit_core.specs.declared.ends.Setback.{Setback}
use Rattle.core_steps.specs.declared.steppers.Stepper.{Stepper}
use Rattle.core_steps.specs.declared.steppers.Stepper.TheVariants.{Empty, Waiting, Snapped, Tried}
use Rattle.core_steps.specs.declared.steppers.StepEnd.{StepEnd}
use Rattle.core_steps.specs.declared.steppers.StepEnd.TheVariants as step
use Rattle.core_steps.specs.Stepping.{stage_in, stage_after, task_in, MayStep, IsFitIn, IsTold}
use Rattle.core_steps.specs.Steps.{IsReady, OneEvent}
use Rattle.replay_runs.specs.declared.lines.Line.{Line}
use Rattle.replay_runs.specs.declared.streams.Stream.{Stream}
use Rattle.session_engine.specs.Driving.{IsAtTask, IsOver}
use Rattle.replay_runs.specs.Lines.{connection, Answered}
use Rattle.replay_runs.specs.Streams.{stage_at, MayGo, IsServedSo, if_joined, OneStep}

-- ---- what the end of a step tells of the act

quiet : (act : Act) → IsTold act step.Moved → (joined act ≡ []) × (is_refusal act ≡ false)
quiet passes h = absurd h
quiet (ends e) h = absurd h
quiet (snaps t) h = (refl, refl)
quiet tries h = (refl, refl)
quiet (refuses reads why) h = absurd h
quiet (joins e) h = absurd h

refusing : (act : Act) (why : Setback) → IsTold act (step.Refused why) → (joined act ≡ []) × (is_refusal act ≡ true)
refusing passes why h = absurd h
refusing (ends e) why h = absurd h
refusing (snaps t) why h = absurd h
refusing tries why h = absurd h
refusing (refuses reads w) why h = (refl, refl)
refusing (joins e) why h = absurd h

joining : (act : Act) (e : Entry) → IsTold act (step.Done e) → act ≡ joins e
joining passes e h = absurd h
joining (ends x) e h = absurd h
joining (snaps t) e h = absurd h
joining tries e h = absurd h
joining (refuses reads w) e h = absurd h
joining (joins x) e h = ap joins h

ending : (act : Act) → IsTold act step.NoMemory → act ≡ ends over.NoMemory
ending passes h = absurd h
ending (ends x) h = ap ends h
ending (snaps t) h = absurd h
ending tries h = absurd h
ending (refuses reads w) h = absurd h
ending (joins x) h = absurd h

pub at_task : (count : ℕ) (plans : TaskPlans) (bytes : List ℕ) (entries : List Entry) (line : Line) (s : Stepper) → MayStep count s
    → IsServedSo plans bytes entries None (task_in s) line → (t : Task) × IsAtTask plans bytes entries t (connection line)
at_task count plans bytes entries line Empty may served = absurd may
at_task count plans bytes entries line (Waiting a) may served = (a.task, served)
at_task count plans bytes entries line (Snapped a s) may served = (a.task, served)
at_task count plans bytes entries line (Tried a t) may served = (a.task, served)

module _ (m : Meaning) (window : ℕ) (w : World) (h : List Entry) (by : ℕ) where
  rejoin : (before : Stage) (e : Entry) (now later : Stage) → Takes m window 0 w h by before (joins e) now → IsAnswered later → Takes m window 0 w h by before (joins e) later
  rejoin resting e now later takes is = absurd takes
  rejoin (waiting t n) e now later takes is = (takes.0, takes.1, is)
  rejoin (snapped t n at) e now later takes is = absurd takes
  rejoin (tried t n at) e now later takes is = (takes.0, is)
  rejoin (ended x) e now later takes is = absurd takes

  -- a task that was just given is one of a stream that rested
  from_rest : (t : Task) (act : Act) (now : Stage) → m.fit t → Takes m window 0 w h by (waiting t 0) act now → Takes m window 0 w h by resting act now
  from_rest t passes now fit takes = absurd takes
  from_rest t (ends e) now fit takes = ending_so e takes
    where
      ending_so : (e : SessionEnd) → Takes m window 0 w h by (waiting t 0) (ends e) now → now ≡ ended e
      ending_so over.Closed takes = absurd takes
      ending_so (over.Refused s) takes = absurd takes
      ending_so over.CutShort takes = absurd takes
      ending_so over.ReadFault takes = absurd takes
      ending_so over.WriteFault takes = absurd takes
      ending_so over.NoMemory takes = takes
      ending_so over.Worn takes = absurd takes
  from_rest t (snaps u) now fit takes = (subst m.fit (sym takes.0) fit, takes.2 ∙ ap (λ v. snapped v 0 (0 + length h)) (sym takes.0))
  from_rest t tries now fit takes = absurd takes
  from_rest t (refuses reads why) now fit takes = absurd takes
  from_rest t (joins e) now fit takes = let no : ⊥ = omega (arith, takes.0) in absurd no

-- ---- steps

module _ (law : OwnEntryJoins) (m : Meaning) (plans : TaskPlans) (window : ℕ) (w : World) (bytes : List ℕ) (by : ℕ) (h : List Entry) (old : Stepper) (refused : ℕ) (stands : List Entry → Type 0) where
  After : Option SessionEnd → Stepper → ℕ → Line → Bool → Type 0
  After end new count line has_joined =
      OneStep m plans window w bytes by h (stage_in old) refused (record { line = line; stepper = new; end = end; refused = count }) has_joined stands

  -- the line is as before
  stays : (told : StepEnd) (new : Stepper) (line : Line) (now : ℕ) (o : OneEvent m window 0 w h by old new told stands) → stage_after told new ≡ stage_in new → joined o.act ≡ []
      → now ≡ refused + (if is_refusal o.act then 1 else 0) → task_in new ≡ task_in old → IsFitIn m old
      → IsServedSo plans bytes (own_entries by h) None (task_in old) line → After None new now line false
  unfolding After
  stays told new line now o stage none count task fit served =
      let whole : h ++ joined o.act ≡ h = ap (λ l. h ++ l) none ∙ append-nil h in
      record {
        act = o.act;
        takes = subst (λ s. Takes m window 0 w h by (stage_in old) o.act s) stage o.takes;
        told = ap (λ l. map (λ e. e.by) l) none;
        counted = count;
        stood = o.stood;
        served = subst (λ l. IsServedSo plans bytes (own_entries by l) None (task_in new) line) (sym whole)
            (subst (λ t. IsServedSo plans bytes (own_entries by h) None t line) (sym task) served);
        ready = o.ready;
        fit = subst (λ t. IfSome t m.fit) (sym task) fit;
      }

  pub moved : (end : Option SessionEnd) (new : Stepper) (line : Line) → end ≡ None → OneEvent m window 0 w h by old new step.Moved stands → task_in new ≡ task_in old → IsFitIn m old
      → IsServedSo plans bytes (own_entries by h) None (task_in old) line
      → OneStep m plans window w bytes by h (stage_in old) refused (record { line = line; stepper = new; end = end; refused = refused }) false stands
  unfolding After
  moved end new line goes o task fit served =
      let q = quiet o.act o.told in
      let count : refused ≡ refused + (if is_refusal o.act then 1 else 0) = sym (ap (λ b. refused + (if b then 1 else 0)) q.1 ∙ add-zero refused) in
      subst (λ x. After x new refused line false) (sym goes) (stays step.Moved new line refused o refl q.0 count task fit served)

  pub was_refused : (end : Option SessionEnd) (new : Stepper) (line : Line) (now : ℕ) (why : Setback) → end ≡ None → now ≡ refused + 1 → OneEvent m window 0 w h by old new (step.Refused why) stands
      → task_in new ≡ task_in old → IsFitIn m old → IsServedSo plans bytes (own_entries by h) None (task_in old) line
      → OneStep m plans window w bytes by h (stage_in old) refused (record { line = line; stepper = new; end = end; refused = now }) false stands
  unfolding After
  was_refused end new line now why goes one o task fit served =
      let q = refusing o.act why o.told in
      let count : now ≡ refused + (if is_refusal o.act then 1 else 0) = one ∙ sym (ap (λ b. refused + (if b then 1 else 0)) q.1) in
      subst (λ x. After x new now line false) (sym goes) (stays (step.Refused why) new line now o refl q.0 count task fit served)

  answered_so : (entries : List Entry) (line : Line) (end : Option SessionEnd) → Answered plans bytes entries line end → IsServedSo plans bytes entries end None line
  answered_so entries line None done = done
  answered_so entries line (Some e) done = done

  closed_so : (end : Option SessionEnd) → IfSome end (λ e. e ≡ over.Closed) → IsAnswered (stage_at end Empty)
  closed_so None is = inl refl
  closed_so (Some e) is = inr (ap ended is)

  done_at : (end : Option SessionEnd) (e : Entry) (line : Line) → Takes m window 0 w h by (stage_in old) (joins e) resting → stands (h ++ e ∷ []) → e.by ≡ by
      → Answered plans bytes (own_entries by h ++ e ∷ []) line end → IfSome end (λ x. x ≡ over.Closed) → After end Empty refused line true
  unfolding After
  done_at end e line takes stood is answered closed = record {
    act = joins e;
    takes = rejoin m window w h by (stage_in old) e resting (stage_at end Empty) takes (closed_so end closed);
    told = ap (λ k. k ∷ []) is;
    counted = sym (add-zero refused);
    stood = stood;
    served = subst (λ l. IsServedSo plans bytes l end None line) (sym (law by h e is)) (answered_so (own_entries by h ++ e ∷ []) line end answered);
    ready = tt;
    fit = tt;
  }

  pub done : (end : Option SessionEnd) (new : Stepper) (e : Entry) (line : Line) → new ≡ Empty → (o : OneEvent m window 0 w h by old new (step.Done e) stands) → e.by ≡ by
      → Answered plans bytes (own_entries by h ++ e ∷ []) line end → IfSome end (λ x. x ≡ over.Closed)
      → OneStep m plans window w bytes by h (stage_in old) refused (record { line = line; stepper = new; end = end; refused = refused }) true stands
  unfolding After
  done end new e line empty o is answered closed =
      let act : o.act ≡ joins e = joining o.act e o.told in
      let takes : Takes m window 0 w h by (stage_in old) (joins e) resting = subst (λ a. Takes m window 0 w h by (stage_in old) a resting) act (subst (λ s. Takes m window 0 w h by (stage_in old) o.act (stage_in s)) empty o.takes) in
      let stood : stands (h ++ e ∷ []) = subst (λ a. stands (h ++ joined a)) act o.stood in
      subst (λ s. After end s refused line true) (sym empty) (done_at end e line takes stood is answered closed)

  pub ran_out : (new : Stepper) (line : Line) → new ≡ Empty → (o : OneEvent m window 0 w h by old new step.NoMemory stands) → IsOver plans bytes (own_entries by h) over.NoMemory (connection line)
      → OneStep m plans window w bytes by h (stage_in old) refused (record { line = line; stepper = new; end = Some over.NoMemory; refused = refused }) false stands
  unfolding After
  ran_out new line empty o is_over =
      let act : o.act ≡ ends over.NoMemory = ending o.act o.told in
      let none : joined o.act ≡ [] = ap joined act in
      let whole : h ++ joined o.act ≡ h = ap (λ l. h ++ l) none ∙ append-nil h in
      subst (λ s. After (Some over.NoMemory) s refused line false) (sym empty) (record {
        act = o.act;
        takes = o.takes;
        told = ap (λ l. map (λ e. e.by) l) none;
        counted = sym (ap (λ a. refused + (if is_refusal a then 1 else 0)) act ∙ add-zero refused);
        stood = o.stood;
        served = subst (λ l. IsOver plans bytes (own_entries by l) over.NoMemory (connection line)) (sym whole) is_over;
        ready = tt;
        fit = tt;
      })

module _ (m : Meaning) (plans : TaskPlans) (window : ℕ) (w : World) (bytes : List ℕ) (by : ℕ) (h : List Entry) (refused : ℕ) (stands : List Entry → Type 0) where
  pub began : (t : Task) (s : Stepper) (now : Stream) (b : Bool) → m.fit t → s ≡ Waiting (record { task = t; refused = 0; last = 0 })
      → OneStep m plans window w bytes by h (stage_in s) refused now b stands → OneStep m plans window w bytes by h resting refused now b stands
  began t s now b fit is o = record {
    act = o.act;
    takes = from_rest m window w h by t o.act (stage_at now.end now.stepper) fit (subst (λ x. Takes m window 0 w h by (stage_in x) o.act (stage_at now.end now.stepper)) is o.takes);
    told = o.told;
    counted = o.counted;
    stood = o.stood;
    served = o.served;
    ready = o.ready;
    fit = o.fit;
  }

  -- the session ended
  pub ended_now : (line : Line) (e : SessionEnd) (s : Stepper) → s ≡ Empty → stands h → IsOver plans bytes (own_entries by h) e (connection line)
      → OneStep m plans window w bytes by h resting refused (record { line = line; stepper = s; end = Some e; refused = refused }) false stands
  ended_now line e s empty stood is_over = record {
    act = ends e;
    takes = refl;
    told = refl;
    counted = sym (add-zero refused);
    stood = subst stands (sym (append-nil h)) stood;
    served = subst (λ l. IsOver plans bytes (own_entries by l) e (connection line)) (sym (append-nil h)) is_over;
    ready = subst (λ x. IsReady m 0 w (h ++ []) x) (sym empty) tt;
    fit = subst (λ x. IsFitIn m x) (sym empty) tt;
  }

  -- nothing is to be done
  pub passed : (now : Stream) (e : SessionEnd) → now.end ≡ Some e → stands h → IsServedSo plans bytes (own_entries by h) now.end (task_in now.stepper) now.line
      → IsReady m 0 w h now.stepper → IsFitIn m now.stepper → OneStep m plans window w bytes by h (stage_at now.end now.stepper) now.refused now false stands
  passed now e end stood served ready fit = record {
    act = passes;
    takes = subst (λ x. Takes m window 0 w h by (stage_at x now.stepper) passes (stage_at x now.stepper)) (sym end) refl;
    told = refl;
    counted = sym (add-zero now.refused);
    stood = subst stands (sym (append-nil h)) stood;
    served = subst (λ l. IsServedSo plans bytes (own_entries by l) now.end (task_in now.stepper) now.line) (sym (append-nil h)) served;
    ready = subst (λ l. IsReady m 0 w l now.stepper) (sym (append-nil h)) ready;
    fit = fit;
  }

-- a step of a stream that has a task
pub may_step : (m : Meaning) (count : ℕ) (end : Option SessionEnd) (s : Stepper) (line : Line) → end ≡ None → s ≢ Empty → MayGo m count end s line
    → MayStep count s × IsFitIn m s × IsSome line.session.pending × (line.session.answered < MESSAGE_LIMIT)
may_step m count end s line goes some may = at s some (subst (λ x. MayGo m count x s line) goes may)
  where
    at : (s : Stepper) → s ≢ Empty → MayGo m count None s line → MayStep count s × IsFitIn m s × IsSome line.session.pending × (line.session.answered < MESSAGE_LIMIT)
    at Empty some may = absurd (some refl)
    at (Waiting a) some may = may
    at (Snapped a x) some may = may
    at (Tried a t) some may = may

pub may_start : (m : Meaning) (count : ℕ) (end : Option SessionEnd) (s : Stepper) (line : Line) → end ≡ None → s ≡ Empty → MayGo m count end s line
    → (line.session.answered < MESSAGE_LIMIT) × (line.session.pending ≡ None)
may_start m count end s line goes empty may =
    subst (λ x. MayGo m count None x line) empty (subst (λ x. MayGo m count x s line) goes may)
