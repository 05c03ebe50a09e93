use Rattle.std.proofs.Common.{◌^◌, ◌-◌, ℕ, [], ◌∷◌, Option, Some, None, sym, subst, ◌∙◌}
use Rattle.ident_rules.specs.declared.key.Key.{Key}
use Rattle.world_cells.specs.World.{cell_at}
use Rattle.store_model.specs.Reach.{is_back_to}
use Rattle.row_change.specs.WaysBack.{IsFirstLink}
use Rattle.trial_steps.specs.StepLaws.{sees_before, sees_after}
use Rattle.row_change.proofs.Referring.{none_first, other_first, own_first, is_apart, is_own, fits_top}
use Rattle.row_change.proofs.references.is_referenced.Goals as goal

pub returns-in_default-clause-sees : goal.returns-in_default-clause-sees
returns-in_default-clause-sees g c = λ schema w now behind leads.
    none_first schema now c.args.key.now behind.now_valid
    (subst (λ (l : Option (Key × ℕ)). IsFirstLink (cell_at schema now) c.args.key.now None l) c.in_default.is (c.in_ok-link.ensures.sees schema w now behind leads))

pub returns-then-ne-clause-sees : goal.returns-then-ne-clause-sees
returns-then-ne-clause-sees g c = λ schema w now behind leads.
    other_first schema now c.args.key.now None c.in-Some.link
    (subst (λ (l : Option (Key × ℕ)). IsFirstLink (cell_at schema now) c.args.key.now None l) c.in-Some.is (c.in_ok-link.ensures.sees schema w now behind leads))
    (is_apart c.args.key.now c.in-Some.link.0 (sym c.ne.ensures ∙ c.if-ne.true))

pub returns-clause-sees : goal.returns-clause-sees
returns-clause-sees g c = λ schema w now behind leads.
    let first = sees_before schema g.V.View.cells (is_back_to (c.args.key.now ∷ [])) c.args.recorder.now c.first_link.new.recorder c.first_link-2.new.recorder
    (λ now. IsFirstLink (cell_at schema now) c.args.key.now None c.in_ok-link.field-0) c.first_link-2.ensures.looks (c.in_ok-link.ensures.sees schema) w now behind leads in
    let second = sees_after schema g.V.View.cells (is_back_to (c.args.key.now ∷ [])) c.args.recorder.now c.first_link.new.recorder c.first_link-2.new.recorder
    (λ now. IsFirstLink (cell_at schema now) c.args.key.now (Some (c.args.key.now, 2 ^ 32 - 1)) c.in_ok-other.other) c.first_link.ensures.looks (c.in_ok-other.ensures.sees schema) w now behind leads in
    c.is_some.ensures
    ∙ own_first schema now c.args.key.now (2 ^ 32 - 1) c.in-Some.link c.in_ok-other.other behind.now_valid
    (subst (λ (l : Option (Key × ℕ)). IsFirstLink (cell_at schema now) c.args.key.now None l) c.in-Some.is first)
    (is_own c.args.key.now c.in-Some.link.0 (sym c.ne.ensures ∙ c.if-ne.false)) second (fits_top c.in_ok-other.other c.in_ok-other.ensures.fits)
