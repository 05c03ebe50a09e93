-- Laws of histories with one more entry.
use Rattle.std.specs.Prelude.{◌≡◌, List, [], ◌∷◌, ◌++◌, refl}
use Rattle.world_cells.specs.World.{World}
use Rattle.task_forms.specs.declared.tasks.Entry.{Entry}
use Rattle.task_forms.specs.Meaning.{Meaning, world_after, AreAnswers}

module _ (m : Meaning) where
  -- the world after them
  pub after_more : (w : World) (entries : List Entry) (e : Entry) → world_after m w (entries ++ e ∷ []) ≡ m.effect (world_after m w entries) e.task
  after_more w [] e = refl
  after_more w (x ∷ entries) e = after_more (m.effect w x.task) entries e

  -- each is answered
  pub one_more : (w : World) (entries : List Entry) (e : Entry) → AreAnswers m w entries → m.fit e.task → e.reply ≡ m.answer (world_after m w entries) e.task → AreAnswers m w (entries ++ e ∷ [])
  one_more w [] e legal fits is = (fits, is, tt)
  one_more w (x ∷ entries) e legal fits is = (legal.0, legal.1, one_more (m.effect w x.task) entries e legal.2 fits is)
