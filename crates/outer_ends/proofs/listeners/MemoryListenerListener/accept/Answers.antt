use Rattle.std.proofs.Common.{subst, All}
use Rattle.outer_ends.specs.Memory.{IsNew}
use Rattle.outer_ends.proofs.Connections.{all_last}
use Rattle.outer_ends.proofs.listeners.MemoryListenerListener.accept.Goals as goal

pub returns-in-Some-clause-fresh : goal.returns-in-Some-clause-fresh
returns-in-Some-clause-fresh c =
    let new = all_last IsNew c.pop.new.self.items c.in-Some.connection (subst (All IsNew) c.in-Some.ensures.items c.self.invariant.1) in
    record {
      fresh = record { nothing_taken = new.nothing_taken; no_faults = new.no_read_failed };
      blank = record { nothing_written = new.nothing_written; no_faults = new.no_write_failed };
    }
