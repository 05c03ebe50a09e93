use Rattle.std.proofs.Common.{ap, sym, ◌∙◌, arith}
use Rattle.history_lock.proofs.Keeping.{raises_as}
use Rattle.history_lock.proofs.lock.HistoryLock.raise.Goals as goal

pub fetch_add-requires : goal.fetch_add-requires
fetch_add-requires g c =
    let words = c.self.invariant.0 in
    (c.requires.table ∙ sym (ap (λ l. l.name) c.self.view_is), omega (arith, words), raises_as g.T.Keeps.stands g.T.Keeps.by g.T.Keeps.kind c.self.inside.table.shared.key _ _ c.args.seat.now.me g.J.Adding.entries c.args.entry.now c.requires.open.0 c.requires.entry c.requires.open.1 c.requires.holds c.requires.own c.requires.room)
