use Rattle.std.proofs.Common.{◌≡◌, ◌-◌, ℕ, get_or, length, subst}
use Rattle.std.specs.Prelude.{◌↔◌, IsTrue, nat_lt}
use Rattle.commit_log.specs.Keeping.{AreBelow}
use Rattle.commit_log.proofs.Scans.{last_tells, some_from}
use Rattle.commit_log.proofs.log.CommitLog.is_above_all.Goals as goal

pub returns-else-count-eq0-clause-above : goal.returns-else-count-eq0-clause-above
returns-else-count-eq0-clause-above c =
    let items = c.self.inside.kept.items in
    let is = subst (λ (m : ℕ). c.entry.result.now ≡ get_or items (m - 1) c.entry.result.now) c.len-count.ensures c.entry.ensures.entry in
    subst (λ s. IsTrue (nat_lt c.entry.result.now.number c.args.number) ↔ AreBelow c.args.number s.log.kept) c.self.view_is
    (last_tells items c.args.number c.entry.result.now c.self.invariant.rising (some_from c.len-count.result (length items) c.len-count.ensures c.if-count-eq0.false) is)
