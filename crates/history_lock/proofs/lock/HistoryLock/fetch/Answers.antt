use Rattle.std.proofs.Common.{Some, ap, sym, ◌∙◌, ◌∷◌}
use Rattle.atomic_table.specs.Table.{rest}
use Rattle.history_lock.proofs.lock.HistoryLock.fetch.Goals as goal

pub exchange-requires : goal.exchange-requires
exchange-requires g c = let o = c.requires.out in (c.requires.table ∙ sym (ap (λ l. l.name) c.self.view_is), (Some o.0, o.1 ∙ ap (λ l. (0, Some o.0) ∷ l) (sym (ap rest o.1))))
