-- Trials of a task: what one says of the worlds that agree with what it read (of this project).
use Rattle.std.specs.Prelude.{◌≡◌, IsTrue, List}
use Rattle.http_messages.specs.declared.messages.Reply.{Reply}
use Rattle.world_cells.specs.declared.keys.CellKey.{CellKey}
use Rattle.world_cells.specs.declared.sets.ReadSet.{ReadSet}
use Rattle.world_cells.specs.declared.sets.Written.{Written}
use Rattle.world_cells.specs.World.{World}
use Rattle.world_cells.specs.Reads.{Cells, covers, AgreeOn, Leads}
use Rattle.task_forms.specs.declared.tasks.Task.{Task}
use Rattle.task_forms.specs.Meaning.{Meaning}

-- In every valid world that agrees with a store on the reads, the reply is the answer and the writes lead to the effect.
abbrev pub IsTried : Meaning → Cells → Task → ReadSet → List Written → Reply → Type 0
IsTried m store t reads writes reply = (w : World) → m.valid w → AgreeOn reads (m.cells w) store → (reply ≡ m.answer w t) × Leads (m.cells w) writes (m.cells (m.effect w t))

-- each key that was read may be looked at, in each valid world with the cells of a store
abbrev pub StaysInReach : Meaning → Cells → Task → ReadSet → Type 0
StaysInReach m store t reads = (w : World) → m.valid w → ((k : CellKey) → m.cells w k ≡ store k) → (k : CellKey) → IsTrue (covers reads k) → IsTrue (m.reach w t k)
