-- Steps of one task, on plain values.
use Rattle.std.proofs.Common.{◌≡◌, ◌≢◌, ℕ, ◌+◌, ◌-◌, ◌<◌, ◌≤◌, List, [], ◌∷◌, ◌++◌, length, take, refl, sym, ap, subst, ◌∙◌, arith, append-nil, Some, None, inl, inr, zero, suc, true, false, Bool}
use Rattle.std.specs.Prelude.{◌==◌, if◌then◌else◌}
use Rattle.std.proofs.lemmas.Grind.{common_steps}
use Rattle.http_messages.specs.declared.messages.Reply.{Reply}
use Rattle.http_messages.specs.declared.ends.SessionEnd.TheVariants as end
use Rattle.world_cells.specs.declared.keys.CellKey.{CellKey}
use Rattle.world_cells.specs.declared.sets.ReadSet.{ReadSet}
use Rattle.world_cells.specs.declared.sets.Written.{Written}
use Rattle.world_cells.specs.World.{World}
use Rattle.world_cells.specs.Reads.{Cells}
use Rattle.task_forms.specs.declared.tasks.Task.{Task}
use Rattle.task_forms.specs.declared.tasks.Entry.{Entry}
use Rattle.task_forms.specs.Meaning.{Meaning, IsLawful, AreAnswers, world_after}
use Rattle.history_model.specs.declared.checks.Check.TheVariants as check
use Rattle.history_model.specs.Trials.{IsTried, StaysInReach}
use Rattle.history_model.specs.Histories.{world_at, Noted, Writings, last_dropped}
use Rattle.history_model.specs.Standing.{Stands, Log, IsSaid}
use Rattle.run_model.specs.Runs.{Stage, resting, waiting, snapped, ended, ends, snaps, tries, refuses, joins, Takes, next_entry}
use Rattle.ordered_pages.specs.Tree.{map_of}
use Rattle.commit_core.specs.declared.attempts.Attempt.{Attempt}
use Rattle.commit_core.specs.declared.cores.Snapshot.{Snapshot}
use Rattle.commit_core.specs.declared.tries.Trial.{Trial}
use Rattle.commit_core.specs.declared.ends.Setback.{Setback}
use Rattle.commit_core.specs.declared.ends.Setback.TheVariants.{Conflict, Aged}
use Rattle.commit_core.specs.declared.cores.Core.{Core}
use Rattle.commit_core.specs.Attempts.{attempt_at}
use Rattle.commit_core.specs.Standing.{StandsFor}
use Rattle.core_steps.specs.declared.steppers.Stepper.{Stepper}
use Rattle.core_steps.specs.declared.steppers.Stepper.TheVariants.{Empty, Waiting, Snapped, Tried}
use Rattle.core_steps.specs.declared.steppers.StepEnd.TheVariants as step
use Rattle.commit_core.specs.Ends.{check_of, number_of}
use Rattle.run_model.specs.Laws.{LastIsAnswered}
use Rattle.core_steps.specs.Stepping.{stage_in}
use Rattle.core_steps.specs.Steps.{IsReady, OneEvent}

-- the same under the kind of the call's subject
pub under_kind : {S K : Type 0} (kind : S → K) (meaning : K → Meaning) (old : S) (new : Core S) (first : ℕ) (w : World) (h : List Entry)
    → new.subject ≡ old → Stands (meaning (kind old)) (map_of new.pages) new.tally.count new.tally.log first w h → StandsFor kind meaning new first w h
under_kind kind meaning old new first w h same stood = subst (λ s. Stands (meaning (kind s)) (map_of new.pages) new.tally.count new.tally.log first w h) (sym same) stood

-- ---- facts of histories

valid_after : (m : Meaning) → IsLawful m → (w : World) (n : ℕ) (h : List Entry) → m.valid w → AreAnswers m w h → m.valid (world_after m w (take n h))
valid_after m lawful w zero h valid answers = valid
valid_after m lawful w (suc n) [] valid answers = valid
valid_after m lawful w (suc n) (e ∷ h) valid answers = valid_after m lawful (m.effect w e.task) n h (lawful.keeps w e.task valid answers.0) answers.2

none_some : (n : ℕ) → None ≡ Some n → ⊥
none_some n e = cc

-- the entry that was dropped last is one of the history
dropped_low : (m : Meaning) (window k : ℕ) (w : World) (h : List Entry) (noted : List Noted) (n : ℕ) → Writings m k w h noted → last_dropped window noted ≡ Some n → n ≤ k + length h
dropped_low m window k w [] noted n writings is = absurd (none_some n (sym (ap (last_dropped window) writings) ∙ is))
dropped_low m window k w (e ∷ h) noted n (inl writings) is = let low = dropped_low m window (k + 1) (m.effect w e.task) h noted n writings.1 is in omega arith
dropped_low m window k w (e ∷ h) noted n (inr writings) is = by_length (λ same. dropped_low m window (k + 1) (m.effect w e.task) h writings.1 n writings.5 same) (length writings.1 == window) (sym (ap (last_dropped window) writings.2) ∙ is)
  where
    by_length : (last_dropped window writings.1 ≡ Some n → n ≤ k + 1 + length h) → (b : Bool) → (if b then Some (k + 1) else last_dropped window writings.1) ≡ Some n → n ≤ k + length (e ∷ h)
    by_length rest true same = let one : k + 1 ≡ n = cc (same) in omega arith
    by_length rest false same = let low = rest same in omega arith

-- a setback's number is one of the history
said_low : (m : Meaning) (window first : ℕ) (w : World) (h : List Entry) (reads : ReadSet) (at : ℕ) (why : Setback) → IsSaid m first w h window reads at (check_of why) → number_of why ≤ first + length h
said_low m window first w h reads at (Conflict n) said = said.0.1.0.1
said_low m window first w h reads at (Aged n) said = dropped_low m window first w h said.0 n said.1 said.2.0

not_clear : (why : Setback) → check_of why ≢ check.Clear
not_clear (Conflict n) e = cc
not_clear (Aged n) e = cc

entry_is : (a b : Entry) → a.by ≡ b.by → a.task ≡ b.task → a.reply ≡ b.reply → a ≡ b
entry_is a b p q r = λ i. record { by = p i; task = q i; reply = r i }

-- an entry that ends a legal history is the next one of its task
pub next_is : (m : Meaning) → LastIsAnswered m → (w : World) (h : List Entry) (e : Entry) (by : ℕ) (t : Task) → AreAnswers m w (h ++ e ∷ []) → e.by ≡ by → e.task ≡ t → e ≡ next_entry m w h by t
next_is m last w h e by t answers p q = entry_is e (next_entry m w h by t) p q ((last w h e answers).1 ∙ ap (λ u. m.answer (world_after m w h) u) q)

tried_on : (m : Meaning) (f g : Cells) (t : Task) (reads : ReadSet) (writes : List Written) (reply : Reply) → ((k : CellKey) → f k ≡ g k) → IsTried m f t reads writes reply → IsTried m g t reads writes reply
tried_on m f g t reads writes reply same h = λ w valid agree. h w valid (λ k c. agree k c ∙ sym (same k))

-- ---- steps

module _ (m : Meaning) (window first : ℕ) (w : World) (h : List Entry) (by : ℕ) (stands : List Entry → Type 0) where
  nothing_joined : stands h → stands (h ++ [])
  nothing_joined stood = subst stands (sym (append-nil h)) stood

  pub fails : (old : Stepper) → Takes m window first w h by (stage_in old) (ends end.NoMemory) (ended end.NoMemory) → stands h → OneEvent m window first w h by old Empty step.NoMemory stands
  fails old takes stood = record { act = ends end.NoMemory; told = refl; takes = takes; stood = nothing_joined stood; ready = tt }

  still_ready : (s : Stepper) → IsReady m first w h s → IsReady m first w (h ++ []) s
  still_ready s ready = subst (λ l. IsReady m first w l s) (sym (append-nil h)) ready

  pub snaps_now : (store : Cells) (count : ℕ) (log : Log) (a : Attempt) (s : Snapshot) → Stands m store count log first w h → a.refused < 3 → a.last ≤ count
      → s.at ≡ count → ((k : CellKey) → map_of s.pages k ≡ store k) → stands h → OneEvent m window first w h by (Waiting a) (Snapped a s) step.Moved stands
  snaps_now store count log a s st few low at same stood =
      let counted = st.counted in
      let enough : length h ≤ s.at - first = omega arith in
      let whole : take (s.at - first) h ≡ h = grind (arith, common_steps) in
      record {
        act = snaps a.task;
        told = tt;
        takes = (refl, few, ap (λ i. snapped a.task a.refused i) (at ∙ counted));
        stood = nothing_joined stood;
        ready = still_ready (Snapped a s) (few, omega arith, omega arith, omega arith, λ k. same k ∙ (st.cells k ∙ ap (λ l. m.cells (world_after m w l) k) (sym whole)));
      }

  pub tries_now : (store : Cells) (count : ℕ) (log : Log) (a : Attempt) (s : Snapshot) (t : Trial) → IsLawful m → Stands m store count log first w h → IsReady m first w h (Snapped a s)
      → t.at ≡ s.at → IsTried m (map_of s.pages) a.task t.reads t.writes t.reply → StaysInReach m (map_of s.pages) a.task t.reads → stands h
      → OneEvent m window first w h by (Snapped a s) (Tried a t) step.Moved stands
  tries_now store count log a s t lawful st (few, last, low, high, same) at trial reach stood =
      let at_same : (k : CellKey) → map_of s.pages k ≡ m.cells (world_at m first w h t.at) k = λ k. same k ∙ ap (λ i. m.cells (world_at m first w h i) k) (sym at) in
      record {
        act = tries;
        told = tt;
        takes = ap (λ i. Stage.tried a.task a.refused i) at;
        stood = nothing_joined stood;
        ready = still_ready (Tried a t) (
          few,
          omega arith,
          record { low = omega arith; high = omega arith; tried = tried_on m (map_of s.pages) (m.cells (world_at m first w h t.at)) a.task t.reads t.writes t.reply at_same trial },
          reach (world_at m first w h t.at) (valid_after m lawful w (t.at - first) h st.legal.valid st.legal.answers) (λ k. sym (at_same k)),
        );
      }

  pub refused_now : (a b : Attempt) (t : Trial) (why : Setback) → IsReady m first w h (Tried a t) → b ≡ attempt_at a.task (a.refused + 1) (number_of why)
      → IsSaid m first w h window t.reads t.at (check_of why) → stands h → OneEvent m window first w h by (Tried a t) (Waiting b) (step.Refused why) stands
  refused_now a b t why (few, last, trial, reach) is said stood =
      let below = said_low m window first w h t.reads t.at why said in
      let refused : b.refused ≡ a.refused + 1 = ap (λ x. x.refused) is in
      let number : b.last ≡ number_of why = ap (λ x. x.last) is in
      record {
        act = refuses t.reads (check_of why);
        told = refl;
        takes = ((record { writes = t.writes; reply = t.reply; enough = trial.tried; within = reach }, said, not_clear why), ap (λ x. waiting x.task x.refused) is);
        stood = nothing_joined stood;
        ready = still_ready (Waiting b) (omega arith, omega arith);
      }

  pub joins_now : (old : Stepper) (e : Entry) → Takes m window first w h by (stage_in old) (joins e) resting → stands (h ++ e ∷ []) → OneEvent m window first w h by old Empty (step.Done e) stands
  joins_now old e takes stood = record { act = joins e; told = refl; takes = takes; stood = stood; ready = tt }
