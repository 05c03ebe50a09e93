-- Where no entry since a snapshot meets the reads, the snapshot's world and the last one agree on them; so a trial's reply is the answer at the last world.
use Rattle.std.proofs.Common.{◌≡◌, ℕ, ◌+◌, ◌-◌, ◌≤◌, List, [], ◌∷◌, ◌++◌, length, take, ap, ◌∙◌, None, arith, zero, suc}
use Rattle.std.proofs.lemmas.Grind.{common_steps}
use Rattle.world_cells.specs.declared.sets.ReadSet.{ReadSet}
use Rattle.task_forms.specs.declared.tasks.Entry.{Entry}
use Rattle.world_cells.specs.World.{World}
use Rattle.world_cells.specs.Reads.{AgreeOn}
use Rattle.task_forms.specs.Meaning.{Meaning}
use Rattle.task_forms.specs.Meaning.{world_after, AreAnswers}
use Rattle.history_model.specs.Histories.{world_at, IsConflict}
use Rattle.world_cells.specs.Decided.{same_cell}

module _ (m : Meaning) (first : ℕ) (w0 : World) (entries : List Entry) (reads : ReadSet) where
  -- n more entries
  step_agrees : (at : ℕ) → first ≤ at → IsConflict m first w0 entries reads at None → (n : ℕ) → at + n ≤ first + length entries
      → AgreeOn reads (m.cells (world_at m first w0 entries at)) (m.cells (world_at m first w0 entries (at + n)))
  step_agrees at low none zero within k covered = ap (λ i. m.cells (world_at m first w0 entries i) k) (omega arith)
  step_agrees at low none (suc n) within k covered =
      let before : at + n ≡ at + suc n - 1 = omega arith in
      step_agrees at low none n (omega arith) k covered ∙ same_cell _ _ (λ different.
      none (at + suc n) (omega arith) ((omega arith, omega arith), (k, (λ same. different (ap (λ i. m.cells (world_at m first w0 entries i) k) before ∙ same)), covered)))

  pub agrees_since : (at : ℕ) → first ≤ at → at ≤ first + length entries → IsConflict m first w0 entries reads at None
      → AgreeOn reads (m.cells (world_at m first w0 entries at)) (m.cells (world_after m w0 entries))
  agrees_since at low high none k covered = step_agrees at low none ((first + length entries) - at) (omega arith) k covered ∙ ap (λ es. m.cells (world_after m w0 es) k) all
    where
      all : take (at + ((first + length entries) - at) - first) entries ≡ entries
      all = let enough : length entries ≤ at + ((first + length entries) - at) - first = omega arith in grind (arith, common_steps)
