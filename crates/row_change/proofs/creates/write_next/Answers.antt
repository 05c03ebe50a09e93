use Rattle.std.proofs.Common.{ℕ, sym, subst, Some, Option}
use Rattle.std.proofs.lemmas.Result.{on_ok_weaker}
use Rattle.world_cells.specs.declared.keys.CellKey.TheVariants as cell_key
use Rattle.world_cells.specs.declared.cells.Cell.TheVariants as cell
use Rattle.world_cells.specs.CellLaws.{leads-put}
use Rattle.world_cells.specs.Reads.{Leads}
use Rattle.world_cells.specs.World.{cell_at}
use Rattle.store_model.specs.CellLaws.{cells-with_next}
use Rattle.row_change.specs.Creating.{with_counter}
use Rattle.row_change.proofs.creates.write_next.Goals as goal

pub returns-in-Some-clause-leads : goal.returns-in-Some-clause-leads
returns-in-Some-clause-leads g c =
    on_ok_weaker c.put.result
    (λ p schema w now leads. subst (λ (n : Option ℕ). Leads (cell_at schema w) c.put.new.self.writes (cell_at schema (with_counter now c.args.kind n))) (sym c.in-Some.is)
    (leads-put _ _ _ _ _ (cell_key.Counter c.args.kind) (Some (cell.Counter c.in-Some.number)) p.2 leads (cells-with_next schema now c.args.kind c.in-Some.number)))
    c.put.ensures.ok
