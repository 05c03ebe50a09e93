use Rattle.std.proofs.Common.{sym, subst, Option, Result}
use Rattle.std.specs.Option.{option_map}
use Rattle.std.specs.Borrow.{Bor}
use Rattle.ident_rules.specs.declared.memory.NoMemory.{NoMemory}
use Rattle.world_cells.specs.declared.keys.CellKey.{CellKey}
use Rattle.world_cells.specs.declared.cells.Cell.{Cell}
use Rattle.world_cells.specs.declared.spans.Span.TheVariants as span
use Rattle.world_cells.specs.World.{cell_at}
use Rattle.view_reads.specs.Recording.{pair_now, LookedFirst}
use Rattle.view_reads.specs.RecordingLaws.{first_looked_alike}
use Rattle.row_change.specs.WaysBack.{IsFirstLink}
use Rattle.row_change.proofs.Referring.{looks_back, first_found}
use Rattle.row_change.proofs.references.first_link.Goals as goal

pub returns-clause-looks : goal.returns-clause-looks
returns-clause-looks g c = looks_back g.V.View.cells c.args.recorder.now c.args.key.now c.args.after c.first_in.result c.first_in.follows.lender-at-none c.first_in.follows.holds-at-none

pub returns-clause-sees : goal.returns-clause-sees
returns-clause-sees g c = λ schema w now behind leads.
    let looked = subst (λ (r : Result (Option (Bor CellKey × Bor Cell)) NoMemory). LookedFirst g.V.View.cells c.args.recorder.now (span.Backs c.args.key.now c.args.after) r c.first_in.follows.lender-at-none) c.in_ok-found.was c.first_in.follows.holds-at-none in
    let first = first_looked_alike g.V.View.cells (cell_at schema w) (cell_at schema now) c.args.recorder.now (span.Backs c.args.key.now c.args.after) c.in_ok-found.found c.first_in.follows.lender-at-none looked behind.agrees leads in
    subst (λ (l : Option (_ × _)). IsFirstLink (cell_at schema now) c.args.key.now c.args.after l) (sym c.link_found.ensures.link) (first_found (cell_at schema now) c.args.key.now c.args.after (option_map pair_now c.in_ok-found.found) first)
