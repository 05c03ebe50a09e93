use Rattle.std.proofs.Common.{sym, ◌∙◌, subst, ◌≡◌, true}
use Rattle.std.specs.Ordering.{eq_by_cmp}
use Rattle.ident_rules.specs.IdOrder.{id_cmp, id_cmp_ties, id_is, id_itself}
use Rattle.world_cells.proofs.same.same_id.Goals as goal

pub returns : goal.returns
returns c =
    let one = c.args.one.now in
    let other = c.args.other.now in
    let ties = c.eq.ensures ∙ id_cmp_ties one other in
    (λ e. id_is one other (sym ties ∙ e), λ e. ties ∙ subst (λ x. eq_by_cmp id_cmp one x ≡ true) e (id_itself one))
