-- The history that a run makes is legal.
use Rattle.std.proofs.Common.{◌≡◌, ℕ, List, [], ◌∷◌, ◌++◌, refl, sym, subst, inl, inr, append_assoc, append-nil, length, ◌+◌}
use Rattle.std.specs.Prelude.{⊤}
use Rattle.std.proofs.lemmas.Bool.Decides.{eqb_tells}
use Rattle.http_messages.specs.declared.ends.SessionEnd.{SessionEnd}
use Rattle.http_messages.specs.declared.ends.SessionEnd.TheVariants as end
use Rattle.task_forms.specs.declared.tasks.Task.{Task}
use Rattle.task_forms.specs.declared.tasks.Entry.{Entry}
use Rattle.task_forms.specs.Meaning.{Meaning, world_after, AreAnswers, IsLegal}
use Rattle.world_cells.specs.World.{World}
use Rattle.run_model.specs.Runs.{Stage, resting, waiting, snapped, tried, ended, Act, passes, ends, snaps, tries, refuses, joins, Event, joined, history_of, stage_of, Takes, RunsOn, IsRun, IsAnswered, next_entry}
use Rattle.run_model.proofs.RunLaws.{history_more, stage_more, stage_other}

-- the task that a stream is at is fit
abbrev HasFitTask : Meaning → Stage → Type 0
HasFitTask m resting = ⊤
HasFitTask m (waiting t n) = m.fit t
HasFitTask m (snapped t n at) = m.fit t
HasFitTask m (tried t n at) = m.fit t
HasFitTask m (ended e) = ⊤

-- what joins behind these entries is an answer
abbrev IsNext : Meaning → World → List Entry → List Entry → Type 0
IsNext m w h [] = ⊤
IsNext m w h (e ∷ es) = m.fit e.task × (e.reply ≡ m.answer (world_after m w h) e.task)

module _ (m : Meaning) (window first : ℕ) (w : World) (h : List Entry) (by : ℕ) where
  waiting_ends : (t : Task) (n : ℕ) (e : SessionEnd) (now : Stage) → Takes m window first w h by (waiting t n) (ends e) now → now ≡ ended end.NoMemory
  waiting_ends t n end.Closed now is = absurd is
  waiting_ends t n (end.Refused s) now is = absurd is
  waiting_ends t n end.CutShort now is = absurd is
  waiting_ends t n end.ReadFault now is = absurd is
  waiting_ends t n end.WriteFault now is = absurd is
  waiting_ends t n end.NoMemory now is = is
  waiting_ends t n end.Worn now is = absurd is

  snapped_ends : (t : Task) (n : ℕ) (at : ℕ) (e : SessionEnd) (now : Stage) → Takes m window first w h by (snapped t n at) (ends e) now → now ≡ ended end.NoMemory
  snapped_ends t n at end.Closed now is = absurd is
  snapped_ends t n at (end.Refused s) now is = absurd is
  snapped_ends t n at end.CutShort now is = absurd is
  snapped_ends t n at end.ReadFault now is = absurd is
  snapped_ends t n at end.WriteFault now is = absurd is
  snapped_ends t n at end.NoMemory now is = is
  snapped_ends t n at end.Worn now is = absurd is

  tried_ends : (t : Task) (n : ℕ) (at : ℕ) (e : SessionEnd) (now : Stage) → Takes m window first w h by (tried t n at) (ends e) now → now ≡ ended end.NoMemory
  tried_ends t n at end.Closed now is = absurd is
  tried_ends t n at (end.Refused s) now is = absurd is
  tried_ends t n at end.CutShort now is = absurd is
  tried_ends t n at end.ReadFault now is = absurd is
  tried_ends t n at end.WriteFault now is = absurd is
  tried_ends t n at end.NoMemory now is = is
  tried_ends t n at end.Worn now is = absurd is

  comes_to : (to : Stage) (now : Stage) → HasFitTask m to → now ≡ to → HasFitTask m now
  comes_to to now fit is = subst (HasFitTask m) (sym is) fit

  answered : (now : Stage) → IsAnswered now → HasFitTask m now
  answered now (inl is) = comes_to resting now tt is
  answered now (inr is) = comes_to (ended end.Closed) now tt is

  next : (e : Entry) (t : Task) → m.fit t → e ≡ next_entry m w h by t → IsNext m w h (e ∷ [])
  next e t fit is = subst (λ x. IsNext m w h (x ∷ [])) (sym is) (fit, refl)

  -- by a step that a stream may take it comes to a stage with a fit task, and what joins is an answer
  takes_fits : (stage : Stage) (act : Act) (now : Stage) → HasFitTask m stage → Takes m window first w h by stage act now → HasFitTask m now × IsNext m w h (joined act)
  takes_fits resting passes now fit takes = absurd takes
  takes_fits resting (ends e) now fit takes = (comes_to (ended e) now tt takes, tt)
  takes_fits resting (snaps u) now fit takes = (comes_to (snapped u 0 (first + length h)) now takes.0 takes.1, tt)
  takes_fits resting tries now fit takes = absurd takes
  takes_fits resting (refuses reads why) now fit takes = absurd takes
  takes_fits resting (joins e) now fit takes = absurd takes
  takes_fits (waiting t n) passes now fit takes = absurd takes
  takes_fits (waiting t n) (ends e) now fit takes = (comes_to (ended end.NoMemory) now tt (waiting_ends t n e now takes), tt)
  takes_fits (waiting t n) (snaps u) now fit takes = (comes_to (snapped t n (first + length h)) now fit takes.2, tt)
  takes_fits (waiting t n) tries now fit takes = absurd takes
  takes_fits (waiting t n) (refuses reads why) now fit takes = absurd takes
  takes_fits (waiting t n) (joins e) now fit takes = (answered now takes.2, next e t fit takes.1)
  takes_fits (snapped t n at) passes now fit takes = absurd takes
  takes_fits (snapped t n at) (ends e) now fit takes = (comes_to (ended end.NoMemory) now tt (snapped_ends t n at e now takes), tt)
  takes_fits (snapped t n at) (snaps u) now fit takes = absurd takes
  takes_fits (snapped t n at) tries now fit takes = (comes_to (tried t n at) now fit takes, tt)
  takes_fits (snapped t n at) (refuses reads why) now fit takes = absurd takes
  takes_fits (snapped t n at) (joins e) now fit takes = absurd takes
  takes_fits (tried t n at) passes now fit takes = absurd takes
  takes_fits (tried t n at) (ends e) now fit takes = (comes_to (ended end.NoMemory) now tt (tried_ends t n at e now takes), tt)
  takes_fits (tried t n at) (snaps u) now fit takes = absurd takes
  takes_fits (tried t n at) tries now fit takes = absurd takes
  takes_fits (tried t n at) (refuses reads why) now fit takes = (comes_to (waiting t (n + 1)) now fit takes.1, tt)
  takes_fits (tried t n at) (joins e) now fit takes = (answered now takes.1, next e t fit takes.0)
  takes_fits (ended x) passes now fit takes = (comes_to (ended x) now tt takes, tt)
  takes_fits (ended x) (ends e) now fit takes = absurd takes
  takes_fits (ended x) (snaps u) now fit takes = absurd takes
  takes_fits (ended x) tries now fit takes = absurd takes
  takes_fits (ended x) (refuses reads why) now fit takes = absurd takes
  takes_fits (ended x) (joins e) now fit takes = absurd takes

-- one more answer
answers_more : (m : Meaning) (w : World) (h es : List Entry) (act : Act) → es ≡ joined act → AreAnswers m w h → IsNext m w h (joined act) → AreAnswers m w (h ++ joined act)
answers_more m w [] es passes is old next = tt
answers_more m w [] es (ends e) is old next = tt
answers_more m w [] es (snaps t) is old next = tt
answers_more m w [] es tries is old next = tt
answers_more m w [] es (refuses reads why) is old next = tt
answers_more m w [] es (joins e) is old next = (next.0, next.1, tt)
answers_more m w (x ∷ xs) es act is old next = (old.0, old.1, answers_more m (m.effect w x.task) xs es act is old.2 (later act next))
  where
    later : (act : Act) → IsNext m w (x ∷ xs) (joined act) → IsNext m (m.effect w x.task) xs (joined act)
    later passes next = tt
    later (ends e) next = tt
    later (snaps t) next = tt
    later tries next = tt
    later (refuses reads why) next = tt
    later (joins e) next = next

-- what these events made, and where the streams are
record IsSound (m : Meaning) (w : World) (events : List Event) : Type 0 where
  pub answers : AreAnswers m w (history_of events)
  pub fit : (k : ℕ) → HasFitTask m (stage_of k events)

module _ (m : Meaning) (window first : ℕ) (w : World) where
  sound_more : (events : List Event) (e : Event) → IsSound m w events → Takes m window first w (history_of events) e.by (stage_of e.by events) e.act e.now → IsSound m w (events ++ e ∷ [])
  sound_more events e old takes = record {
    answers = subst (AreAnswers m w) (sym (history_more events e)) (answers_more m w (history_of events) (joined e.act) e.act refl old.answers step.1);
    fit = λ k. elim (eqb_tells e.by k) [
      | inl is ↦ subst (HasFitTask m) (sym (stage_more k events e is.1)) step.0
      | inr other ↦ subst (HasFitTask m) (sym (stage_other k events e other.1)) (old.fit k)
    ];
  }
    where
      step : HasFitTask m e.now × IsNext m w (history_of events) (joined e.act)
      step = takes_fits m window first w (history_of events) e.by (stage_of e.by events) e.act e.now (old.fit e.by) takes

  sound_on : (before events : List Event) → IsSound m w before → RunsOn m window first w before events → IsSound m w (before ++ events)
  sound_on before [] sound run = subst (IsSound m w) (sym (append-nil before)) sound
  sound_on before (e ∷ events) sound run = subst (IsSound m w) (append_assoc before (e ∷ []) events) (sound_on (before ++ e ∷ []) events (sound_more before e sound run.0) run.1)

  pub run_is_legal : (steps : List ℕ) (events : List Event) → m.valid w → IsRun m window first w steps events → IsLegal m w (history_of events)
  run_is_legal steps events valid run = record {
    valid = valid;
    answers = (sound_on [] events (record { answers = tt; fit = λ k. tt }) run.each).answers;
  }
