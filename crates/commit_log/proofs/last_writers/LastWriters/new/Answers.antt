use Rattle.std.proofs.Common.{get_or, ap, ◌∙◌}
use Rattle.world_cells.specs.declared.slots.TheConstants.{SLOTS, GROUPS}
use Rattle.commit_log.proofs.Tables.{zeros_at}
use Rattle.commit_log.proofs.last_writers.LastWriters.new.Goals as goal

pub returns-clause-notes : goal.returns-clause-notes
returns-clause-notes c = record {
  slots = λ slot lt. ap (λ xs. get_or xs slot 0) c.in_ok-zeros.ensures ∙ zeros_at SLOTS slot;
  groups = λ group lt. ap (λ xs. get_or xs group 0) c.in_ok-zeros-2.ensures ∙ zeros_at GROUPS group;
}
