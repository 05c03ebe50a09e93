use Rattle.std.proofs.Common.{sym, ◌∙◌, subst, ◌≡◌, true}
use Rattle.ident_rules.specs.Key.{same_key, key_is, key_itself}
use Rattle.world_cells.proofs.same.same_key.Goals as goal

pub returns : goal.returns
returns c =
    let one = c.args.one.now in
    let other = c.args.other.now in
    (λ e. key_is one other (sym c.eq.ensures ∙ e), λ e. c.eq.ensures ∙ subst (λ x. same_key one x ≡ true) e (key_itself one))
