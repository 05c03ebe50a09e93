-- A task on a core of one's own, on plain values.
use Rattle.std.proofs.Common.{◌≡◌, ℕ, zero, suc, ◌+◌, ◌-◌, ◌≤◌, ◌==◌, Bool, true, false, List, [], ◌∷◌, ◌++◌, length, take, refl, ap, sym, subst, ◌∙◌, arith, Some, None, inl, inr}
use Rattle.std.specs.Prelude.{if◌then◌else◌}
use Rattle.world_cells.specs.World.{World}
use Rattle.task_forms.specs.declared.tasks.Task.{Task}
use Rattle.task_forms.specs.declared.tasks.Entry.{Entry}
use Rattle.task_forms.specs.Meaning.{Meaning, world_after}
use Rattle.history_model.specs.Commits.{IsTrialOf}
use Rattle.history_model.specs.Histories.{Noted, Writings, last_dropped}
use Rattle.history_model.specs.Standing.{Stands}
use Rattle.history_model.specs.Trials.{IsTried}
use Rattle.ordered_pages.specs.Tree.{map_of}
use Rattle.commit_core.specs.declared.attempts.Attempt.{Attempt}
use Rattle.commit_core.specs.declared.cores.Core.{Core}
use Rattle.commit_core.specs.declared.ends.CommitEnd.TheVariants.{Done, Stale}
use Rattle.commit_core.specs.declared.ends.Setback.{Setback}
use Rattle.commit_core.specs.declared.ends.Setback.TheVariants.{Conflict, Aged}
use Rattle.commit_core.specs.declared.tries.Trial.{Trial}
use Rattle.commit_core.specs.Ends.{number_of}
use Rattle.commit_core.specs.Standing.{Leaves, Says, StandsFor, meaning_in}
use Rattle.local_desk.specs.Alone.{EntryJoins, StandsForSome}

-- ---- the entry of a setback is one of the history

some_is : (a b : ℕ) → Some a ≡ Some b → a ≡ b
some_is a b same = cc same

no_number : (n : ℕ) → None ≡ Some n → ⊥
no_number n same = cc same

-- the first of the writing entries, or one behind it
by_fit : (start n window : ℕ) (rest : List Noted) (count : ℕ) (b : Bool) → (last_dropped window rest ≡ Some n → n ≤ start + 1 + count) → (if b then Some (start + 1) else last_dropped window rest) ≡ Some n → n ≤ start + suc count
by_fit start n window rest count true later is = let same = some_is (start + 1) n is in omega (arith, same)
by_fit start n window rest count false later is = let low = later is in omega (arith, low)

dropped_low : (m : Meaning) (start : ℕ) (w : World) (h : List Entry) (noted : List Noted) (window n : ℕ) → Writings m start w h noted → last_dropped window noted ≡ Some n → n ≤ start + length h
dropped_low m start w [] noted window n none found = absurd (no_number n (subst (λ (l : List Noted). last_dropped window l ≡ Some n) none found))
dropped_low m start w (e ∷ h) noted window n (inl quiet) found = let later = dropped_low m (start + 1) (m.effect w e.task) h noted window n quiet.1 found in omega (arith, later)
dropped_low m start w (e ∷ h) noted window n (inr one) found =
    by_fit start n window one.1 (length h) (length one.1 == window) (λ is. dropped_low m (start + 1) (m.effect w e.task) h one.1 window n one.5 is) (subst (λ (l : List Noted). last_dropped window l ≡ Some n) one.2 found)

take_whole : {A : Type 0} (n : ℕ) (xs : List A) → length xs ≤ n → take n xs ≡ xs
take_whole zero [] low = refl
take_whole (suc n) [] low = refl
take_whole zero (x ∷ xs) low = absurd (omega (arith, low))
take_whole (suc n) (x ∷ xs) low = ap (λ l. x ∷ l) (take_whole n xs (omega (arith, low)))

module _ {S K : Type 0} (kind : S → K) (meaning : K → Meaning) (core : Core S) (t : Trial) where
  pub number_low : (a : Attempt) (why : Setback) → StandsForSome kind meaning core → Says kind meaning core t (Stale a why) → number_of why ≤ core.tally.count
  number_low a (Conflict n) some says = let said = says some.0 some.1 some.2 some.3 in let low = said.0.1.0.1 in let counted = some.3.counted in omega (arith, low, counted)
  number_low a (Aged n) some says =
      let said = says some.0 some.1 some.2 some.3 in
      let low = dropped_low (meaning_in kind meaning core) some.0 some.1 some.2 said.0 core.tally.log.window n said.1 said.2.0 in
      let counted = some.3.counted in omega (arith, low, counted)

  -- a trial on the core as it is is one of each history for which the core stands
  trial_of : (task : Task) → t.at ≡ core.tally.count → IsTried (meaning_in kind meaning core) (map_of core.pages) task t.reads t.writes t.reply
      → (first : ℕ) (w : World) (h : List Entry) → StandsFor kind meaning core first w h → IsTrialOf (meaning_in kind meaning core) first w h t.at task t.reads t.writes t.reply
  trial_of task at tried first w h st =
      let m = meaning_in kind meaning core in
      let last : t.at ≡ first + length h = at ∙ st.counted in
      let whole : take (t.at - first) h ≡ h = take_whole (t.at - first) h (omega (arith, last)) in record {
        low = omega (arith, last);
        high = omega (arith, last);
        tried = subst (λ (l : List Entry). IsTried m (m.cells (world_after m w l)) task t.reads t.writes t.reply) (sym whole)
            (λ x valid agree. tried x valid (λ k covered. agree k covered ∙ sym (st.cells k)));
      }

  -- the entry of its commit joins each history for which the core stood
  pub joined_all : (new : Core S) (by : ℕ) (a : Attempt) (e : Entry) → new.subject ≡ core.subject → t.at ≡ core.tally.count
      → IsTried (meaning_in kind meaning core) (map_of core.pages) a.task t.reads t.writes t.reply → Leaves kind meaning core new by a t (Done e) → EntryJoins kind meaning core new e
  joined_all new by a e same at tried leaves first w h st =
      subst (λ s. Stands (meaning (kind s)) (map_of new.pages) new.tally.count new.tally.log first w (h ++ e ∷ [])) (sym same) (leaves.1 first w h st (trial_of a.task at tried first w h st))

pub entry_is : (a b : Entry) → a.by ≡ b.by → a.task ≡ b.task → a.reply ≡ b.reply → a ≡ b
entry_is a b p q r = λ i. record { by = p i; task = q i; reply = r i }
