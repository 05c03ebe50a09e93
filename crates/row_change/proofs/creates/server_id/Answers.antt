use Rattle.std.proofs.Common.{ap, ◌∙◌, ◌+◌, Some, arith}
use Rattle.std.specs.Prelude.{decimal}
use Rattle.error_objects.specs.declared.codes.Code.TheVariants as code
use Rattle.error_objects.specs.Refusals.{refusal}
use Rattle.row_change.proofs.NewIds.{server_ended, server_good}
use Rattle.row_change.proofs.creates.server_id.Goals as goal

pub returns-then-number-ge-LAST_NEXT_ID-clause-sees : goal.returns-then-number-ge-LAST_NEXT_ID-clause-sees
returns-then-number-ge-LAST_NEXT_ID-clause-sees g c = λ at schema w now behind leads.
    (refusal code.IdsEnded, server_ended schema now c.args.kind c.in_ok-number.number behind.now_valid (c.in_ok-number.ensures.sees schema w now behind leads) (omega arith), c.ids_ended.ensures)

pub returns-else-number-ge-LAST_NEXT_ID-clause-sees : goal.returns-else-number-ge-LAST_NEXT_ID-clause-sees
returns-else-number-ge-LAST_NEXT_ID-clause-sees g c = λ at schema w now behind leads.
    let is = c.in_ok-number.ensures.sees schema w now behind leads in
    (server_good now c.args.kind c.in_ok-number.number is (omega arith), (c.of_number.ensures ∙ ap decimal is, ap (λ n. Some (n + 1)) is))
