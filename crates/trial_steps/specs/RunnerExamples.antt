-- Examples of runners: one that looks at nothing may tell what is so in each valid world, and a list of no operations writes nothing.
use Rattle.std.proofs.Common.{◌≡◌, Bool, [], refl, ap}
use Rattle.resource_schema.specs.declared.schema.Schema.{Schema}
use Rattle.world_cells.specs.declared.keys.CellKey.{CellKey}
use Rattle.world_cells.specs.World.{World, cell_at}
use Rattle.world_cells.specs.Reads.{Cells, overlay}
use Rattle.task_forms.specs.declared.tasks.ReplyForm.TheVariants as reply_form
use Rattle.store_model.specs.Valid.{IsValid}
use Rattle.store_model.specs.Answer.{empty_reply}
use Rattle.view_reads.specs.Recording.{Recording}
use Rattle.view_reads.specs.RecordingLaws.{follows_itself}
use Rattle.trial_steps.specs.Runners.{TellsRead, TellsList}

module _ {V : Type 0} (schema : Schema) (cells : V → Cells) (r : Recording V) where
  pub looks_at_nothing : (reach : World → CellKey → Bool) → TellsRead schema cells reach (IsValid schema) r r
  looks_at_nothing reach = record {
    follows = follows_itself r;
    unwritten = refl;
    tells = λ w now behind leads. behind.now_valid;
    within = λ w now valid same now_valid leads k new old. cc (new, old);
  }

  pub does_nothing : r.writes ≡ [] → TellsList schema cells [] reply_form.Empty r r empty_reply
  does_nothing none = record {
    follows = follows_itself r;
    told = λ w valid agrees. (refl, λ k. ap (λ ws. overlay (cell_at schema w) ws k) none);
    unwritten = λ refused. none;
    within = λ w now valid same now_valid leads k new old. cc (new, old);
  }
