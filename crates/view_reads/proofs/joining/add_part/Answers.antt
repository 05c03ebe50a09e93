use Rattle.std.proofs.Common.{◌∙◌, sym, ap, subst, List, ◌++◌, ◌∷◌, []}
use Rattle.world_cells.specs.declared.sets.Part.{Part}
use Rattle.view_reads.specs.Joining.{AddsPart, last_part}
use Rattle.view_reads.proofs.Joins.{adds_alone, goes_on_end, widens_last}
use Rattle.view_reads.proofs.joining.add_part.Goals as goal

pub returns-then-goes_on_last-clause-ok : goal.returns-then-goes_on_last-clause-ok
returns-then-goes_on_last-clause-ok c =
    let part : Part = record { span = c.args.span.now; found = c.args.found; from_top = c.args.from_top } in
    widens_last c.args.parts.now.items part c.index_mut.result.now c.widen.new.last c.len-last.result
    (c.len-last.ensures ∙ c.args.parts.now.ok.0) (sym (c.goes_on_last.ensures ∙ ap (λ ps. goes_on_end (last_part ps) part) c.deref.ensures.value) ∙ c.if-goes_on_last.true) c.index_mut.ensures.value c.widen.ensures c.requires

pub returns-clause-ok : goal.returns-clause-ok
returns-clause-ok c =
    let part : Part = record { span = c.args.span.now; found = c.args.found; from_top = c.args.from_top } in
    subst (λ (ps : List Part). AddsPart c.args.parts.now.items part ps) (sym (c.in_ok-push.ensures.items ∙ ap (λ s. c.args.parts.now.items ++ record { span = s; found = c.args.found; from_top = c.args.from_top } ∷ []) c.in_ok-copy.ensures))
    (adds_alone c.args.parts.now.items part (sym (c.goes_on_last.ensures ∙ ap (λ ps. goes_on_end (last_part ps) part) c.deref.ensures.value) ∙ c.if-goes_on_last.false))
