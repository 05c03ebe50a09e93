use Rattle.std.proofs.Common.{◌≡◌, ◌-◌, []}
use Rattle.history_lock.specs.Views.{new_view, numbers_from}
use Rattle.history_lock.specs.Making.{passes_from}
use Rattle.history_lock.proofs.lock.HistoryLock.deal.Given as goal

abbrev pub invariant-loop-number : goal.invariant-loop-number
invariant-loop-number g l =
    let lock = l.fn.self in
    (l.seat.table_id ≡ lock.name)
    × ((k : g.row.T-Kind.Denot) → l.fn.seat.me ≡ (new_view lock.start k (numbers_from 0 l.fn.passes), [])
    → (l.made.items ≡ passes_from lock.name lock.start k 0 l.number) × (l.seat.me ≡ (new_view lock.start k (numbers_from l.number (l.fn.passes - l.number)), [])))
