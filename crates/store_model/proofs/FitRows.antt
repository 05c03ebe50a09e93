-- Examples of fit tasks, and one that is not fit.
use Rattle.std.specs.Prelude.{[], ◌∷◌, Some, None, codes}
use Rattle.std.proofs.Common.{refl, arith}
use Rattle.std.specs.Str.{is_utf8, chars}
use lib.Utf8.{encode}
use Rattle.resource_schema.specs.declared.values.AttrValue.TheVariants as value
use Rattle.task_forms.specs.declared.operations.Operation.TheVariants.{Create}
use Rattle.task_forms.specs.declared.tasks.ReplyForm.TheVariants as reply_form
use Rattle.task_forms.specs.declared.tasks.Task.TheVariants as task
use Rattle.world_cells.specs.World.{empty_world}
use Rattle.store_model.specs.Valid.{IsValid}
use Rattle.task_forms.specs.Fit.{IsFit, FitsOperation}
use Rattle.store_model.proofs.Examples.{blog, note, no_cursors, page_of_notes, list_with, three_notes}
use Rattle.store_model.proofs.Lawful.{effect_keeps, store_lawful}
use Rattle.resource_schema.specs.Kinds.{notes}

-- a person by a local id, an article by that person, and a comment added to it
list_fits : IsFit blog (task.Change (list_with (codes "1")) reply_form.Results)
unfolding is_utf8 chars encode
list_fits = (
  (
    record { known = omega arith; client_id = tt; local_id = (omega arith, omega arith, refl); all_values = (refl, tt); linkages = record { rising = tt; each = tt } },
    (
      record {
        known = omega arith;
        client_id = tt;
        local_id = (omega arith, omega arith, refl);
        all_values = (refl, (refl, (refl, tt)));
        linkages = record { rising = tt; each = (record { known = omega arith; named = ((omega arith, refl), tt); of_target = ((refl, tt), (omega arith, (refl, tt))) }, tt) };
      },
      (
        (
          (omega arith, refl),
          record {
            known = omega arith;
            named = ((omega arith, refl), tt);
            of_target = ((refl, tt), (omega arith, (refl, tt)));
          },
          refl,
        ),
        tt,
      ),
    ),
  ),
  (omega arith, omega arith),
)

page_fits : IsFit notes (page_of_notes ((codes "page[size]", codes "2") ∷ []) (no_cursors 2))
page_fits = (omega arith, record { page = record { keys = tt; size = omega arith; after = tt; before = tt }; paths = tt; fields = tt })

-- ids of digits alone are the server's
own_number : ¬ IsFit blog (task.Change (Create 2 (Some (codes "7")) None (value.Text (codes "Ann") ∷ []) [] ∷ []) reply_form.Created)
own_number fits = fits.0.0.client_id.reserved (omega arith, tt)

three_fit : IsFit notes (task.Change (note ∷ note ∷ note ∷ []) reply_form.Results)
unfolding is_utf8 chars encode
three_fit =
    let one : FitsOperation notes note = record { known = omega arith; client_id = tt; local_id = tt; all_values = (refl, tt); linkages = record { rising = tt; each = tt } } in
    ((one, (one, (one, tt))), (omega arith, omega arith))

three_valid : IsValid notes three_notes
three_valid = effect_keeps notes empty_world (task.Change (note ∷ note ∷ note ∷ []) reply_form.Results) ((store_lawful notes).begins) three_fit
