-- What tasks mean, and which histories are legal.
use Rattle.std.specs.Prelude.{◌≡◌, ◌≤◌, Bool, List, [], ◌∷◌, None, ⊤}
use Rattle.http_messages.specs.declared.messages.Reply.{Reply}
use Rattle.world_cells.specs.declared.keys.CellKey.{CellKey}
use Rattle.world_cells.specs.World.{World}
use Rattle.world_cells.specs.Reads.{Cells}
use Rattle.task_forms.specs.declared.tasks.Fetch.{Fetch}
use Rattle.task_forms.specs.declared.tasks.Task.{Task}
use Rattle.task_forms.specs.declared.tasks.Task.TheVariants as task
use Rattle.task_forms.specs.declared.tasks.Entry.{Entry}

-- The cells of a world, the world at first, the valid worlds and the fit tasks; the answer to a task in a world, the
-- world after it, and the cell keys that it may look at.
pub record Meaning : Type 1 where
  pub cells : World → Cells
  pub empty : World
  pub valid : World → Type 0
  pub fit : Task → Type 0
  pub answer : World → Task → Reply
  pub effect : World → Task → World
  pub reach : World → Task → CellKey → Bool

-- what every meaning of tasks keeps
pub record IsLawful (m : Meaning) : Type 0 where
  pub begins : m.valid m.empty
  pub nothing : (k : CellKey) → m.cells m.empty k ≡ None
  pub keeps : (w : World) (t : Task) → m.valid w → m.fit t → m.valid (m.effect w t)
  pub fetch_changes_nothing : (w : World) (fetch : Fetch) → m.effect w (task.Fetch fetch) ≡ w
  pub error_changes_nothing : (w : World) (t : Task) → 400 ≤ (m.answer w t).status → m.effect w t ≡ w

-- the world after these entries
abbrev pub world_after : Meaning → World → List Entry → World
world_after m w [] = w
world_after m w (e ∷ entries) = world_after m (m.effect w e.task) entries

-- each task is fit, and its reply is the answer in the world just before it
abbrev pub AreAnswers : Meaning → World → List Entry → Type 0
AreAnswers m w [] = ⊤
AreAnswers m w (e ∷ entries) = m.fit e.task × (e.reply ≡ m.answer w e.task) × AreAnswers m (m.effect w e.task) entries

-- a legal history: it begins in a valid world
pub record IsLegal (m : Meaning) (w : World) (entries : List Entry) : Type 0 where
  pub valid : m.valid w
  pub answers : AreAnswers m w entries
