use Rattle.std.proofs.Common.{[], sym, ◌∙◌}
use Rattle.std.specs.Prelude.{codes}
use Rattle.error_objects.specs.declared.codes.Code.TheVariants as code
use Rattle.store_model.specs.Change.{at_target}
use Rattle.row_change.proofs.Targets.{target_unbound, target_missing, target_there}
use Rattle.row_change.proofs.finds.find_target.Goals as goal

pub returns-in_default-clause-sees : goal.returns-in_default-clause-sees
returns-in_default-clause-sees g c = λ schema w now behind leads.
    (at_target code.UnknownLid c.args.who.now (codes "/lid"), target_unbound now c.args.lids.now c.args.who.now (sym c.key_of.ensures ∙ c.in_default.is), c.in_ok-refusal.ensures)

pub returns-in-Some-2-clause-sees : goal.returns-in-Some-2-clause-sees
returns-in-Some-2-clause-sees g c = λ schema w now behind leads.
    target_there now c.args.lids.now c.args.who.now c.in-Some.key c.in-Some-2.row (sym c.key_of.ensures ∙ c.in-Some.is) (sym (c.in_ok-row.ensures.sees schema w now behind leads) ∙ c.in-Some-2.is)

pub returns-in_ok-refusal-in-None-clause-sees : goal.returns-in_ok-refusal-in-None-clause-sees
returns-in_ok-refusal-in-None-clause-sees g c = λ schema w now behind leads.
    (at_target code.NotFound c.args.who.now [], target_missing now c.args.lids.now c.args.who.now c.in-Some.key (sym c.key_of.ensures ∙ c.in-Some.is) (sym (c.in_ok-row.ensures.sees schema w now behind leads) ∙ c.in-None.is), c.in_ok-refusal-in-None.ensures)
