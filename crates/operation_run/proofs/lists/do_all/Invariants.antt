use Rattle.operation_run.specs.Listing.{IsRunTo}
use Rattle.operation_run.proofs.lists.do_all.Given as goal

abbrev pub invariant-loop-number : goal.invariant-loop-number
invariant-loop-number g l = IsRunTo l.schema g.V.View.cells l.operations l.number l.fn.recorder l.recorder l.list
