use Rattle.std.proofs.Common.{refl}
use Rattle.std.specs.Prelude.{codes}
use Rattle.error_objects.specs.declared.codes.Code.TheVariants as code
use Rattle.error_objects.specs.Refusals.{at_pointer}
use Rattle.row_change.proofs.NewIds.{client_taken, client_free}
use Rattle.row_change.proofs.creates.client_id.Goals as goal

pub returns-in_ok-refusal-clause-sees : goal.returns-in_ok-refusal-clause-sees
returns-in_ok-refusal-clause-sees g c = λ schema w now behind leads. (
  at_pointer code.IdExists (codes "/data/id"),
  client_taken now c.args.kind c.args.id c.in_ok-has_row.field-0 (c.in_ok-has_row.ensures.sees schema w now behind leads) c.if-branch.true,
  c.in_ok-refusal.ensures,
)

pub returns-else-branch-clause-sees : goal.returns-else-branch-clause-sees
returns-else-branch-clause-sees g c = λ schema w now behind leads.
    (client_free now c.args.kind c.args.id c.in_ok-has_row.field-0 (c.in_ok-has_row.ensures.sees schema w now behind leads) c.if-branch.false, (refl, refl))
