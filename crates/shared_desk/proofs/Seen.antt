-- Trials and setbacks of a history that a pass has seen, on plain values.
use Rattle.std.proofs.Common.{◌≡◌, ℕ, zero, suc, ◌+◌, ◌-◌, ◌≤◌, ◌==◌, Bool, true, false, List, [], ◌∷◌, length, take, refl, ap, sym, subst, ◌∙◌, arith, Some, None, inl, inr}
use Rattle.std.specs.Prelude.{if◌then◌else◌}
use Rattle.http_messages.specs.declared.messages.Reply.{Reply}
use Rattle.world_cells.specs.declared.sets.ReadSet.{ReadSet}
use Rattle.world_cells.specs.declared.sets.Written.{Written}
use Rattle.world_cells.specs.World.{World}
use Rattle.task_forms.specs.declared.tasks.Entry.{Entry}
use Rattle.task_forms.specs.declared.tasks.Task.{Task}
use Rattle.task_forms.specs.Meaning.{Meaning, world_after}
use Rattle.history_model.specs.Commits.{IsTrialOf}
use Rattle.history_model.specs.Histories.{Noted, Writings, last_dropped}
use Rattle.history_model.specs.Standing.{IsSaid}
use Rattle.history_model.specs.Trials.{IsTried}
use Rattle.history_lock.specs.declared.rule.Knows.{Knows}
use Rattle.ordered_pages.specs.Tree.{map_of}
use Rattle.commit_core.specs.declared.cores.Snapshot.{Snapshot}
use Rattle.commit_core.specs.declared.ends.Setback.{Setback}
use Rattle.commit_core.specs.declared.ends.Setback.TheVariants.{Conflict, Aged}
use Rattle.commit_core.specs.Ends.{check_of, number_of}
use Rattle.commit_core.specs.Serving.{Snaps}

take_whole : {A : Type 0} (n : ℕ) (xs : List A) → length xs ≤ n → take n xs ≡ xs
take_whole zero [] low = refl
take_whole (suc n) [] low = refl
take_whole zero (x ∷ xs) low = absurd (omega (arith, low))
take_whole (suc n) (x ∷ xs) low = ap (λ l. x ∷ l) (take_whole n xs (omega (arith, low)))

-- a try on a snapshot of the last world that a pass has seen is a trial of it
pub tried_seen : {K : Type 0} (m : Meaning) (v : Knows Entry K) (s : Snapshot) (t : Task) (reads : ReadSet) (writes : List Written) (reply : Reply) (at : ℕ)
    → Snaps m v s → at ≡ s.at → IsTried m (map_of s.pages) t reads writes reply → IsTrialOf m v.first m.empty v.seen at t reads writes reply
tried_seen m v s t reads writes reply at snaps same tried =
    let last : at ≡ v.first + length v.seen = same ∙ snaps.at in
    let whole : take (at - v.first) v.seen ≡ v.seen = take_whole (at - v.first) v.seen (omega (arith, last)) in record {
      low = omega (arith, last);
      high = omega (arith, last);
      tried = subst (λ (l : List Entry). IsTried m (m.cells (world_after m m.empty l)) t reads writes reply) (sym whole)
          (λ w valid agree. tried w valid (λ k covered. agree k covered ∙ sym (snaps.cells k)));
    }

-- ---- the entry of a setback is one of the history

some_is : (a b : ℕ) → Some a ≡ Some b → a ≡ b
some_is a b same = cc same

no_number : (n : ℕ) → None ≡ Some n → ⊥
no_number n same = cc same

-- the first of the writing entries, or one behind it
by_fit : (start n window : ℕ) (rest : List Noted) (count : ℕ) (b : Bool) → (last_dropped window rest ≡ Some n → n ≤ start + 1 + count) → (if b then Some (start + 1) else last_dropped window rest) ≡ Some n → n ≤ start + suc count
by_fit start n window rest count true later is = let same = some_is (start + 1) n is in omega (arith, same)
by_fit start n window rest count false later is = let low = later is in omega (arith, low)

pub dropped_low : (m : Meaning) (start : ℕ) (w : World) (entries : List Entry) (noted : List Noted) (window n : ℕ) → Writings m start w entries noted → last_dropped window noted ≡ Some n → n ≤ start + length entries
dropped_low m start w [] noted window n none found = absurd (no_number n (subst (λ (l : List Noted). last_dropped window l ≡ Some n) none found))
dropped_low m start w (e ∷ entries) noted window n (inl quiet) found = let later = dropped_low m (start + 1) (m.effect w e.task) entries noted window n quiet.1 found in omega (arith, later)
dropped_low m start w (e ∷ entries) noted window n (inr one) found =
    by_fit start n window one.1 (length entries) (length one.1 == window) (λ is. dropped_low m (start + 1) (m.effect w e.task) entries one.1 window n one.5 is) (subst (λ (l : List Noted). last_dropped window l ≡ Some n) one.2 found)

pub said_low : (m : Meaning) (first : ℕ) (w : World) (entries : List Entry) (window : ℕ) (reads : ReadSet) (since : ℕ) (why : Setback) → IsSaid m first w entries window reads since (check_of why) → number_of why ≤ first + length entries
said_low m first w entries window reads since (Conflict n) said = said.0.1.0.1
said_low m first w entries window reads since (Aged n) said = dropped_low m first w entries said.0 window n said.1 said.2.0
