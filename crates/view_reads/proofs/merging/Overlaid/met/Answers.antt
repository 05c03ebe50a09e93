use Rattle.std.proofs.Common.{subst, Some}
use Rattle.std.specs.Option.{option_map}
use Rattle.world_cells.specs.declared.spans.Span.{Span}
use Rattle.view_reads.specs.Recording.{pair_now}
use Rattle.view_reads.specs.Merging.{IsFirstUnwritten}
use Rattle.view_reads.proofs.Merges.{kept_first}
use Rattle.view_reads.proofs.merging.Overlaid.met.Goals as goal

pub returns-in-Some-clause-value : goal.returns-in-Some-clause-value
returns-in-Some-clause-value g c =
    kept_first _ _ _ _ _ (c.in-Some.found.0.now, c.in-Some.found.1.now) c.met_put-put.ensures
    (subst (λ (s : Span). IsFirstUnwritten c.args.from_top (g.V.View.cells c.args.self.now.view) c.args.self.now.writes s (option_map pair_now c.met_put-put.result) (option_map pair_now (Some c.in-Some.found))) c.same_span-rest.ensures c.in-Some.ensures.value)
