use Rattle.std.proofs.Common.{◌∙◌, arith, sym}
use Rattle.connection_workers.proofs.Visiting.{works_more, works_worn, closes_from}
use Rattle.connection_workers.proofs.workers.serve_worker.Goals as goal

pub returns-then-is_worn-clause-works : goal.returns-then-is_worn-clause-works
returns-then-is_worn-clause-works g c first w seen mine h =
    let p = c.serving.invariant.so_far first w seen mine h in
    works_worn _ (g.D.Desk.stands c.serving.desk first w) (g.D.Desk.stands c.drive_counted-driven.new.desk first w) first seen mine
    (g.L.Listener.told c.args.listener.now) (g.L.Listener.told c.serving.listener) (g.L.Listener.told c.done.new.self) c.serving.sessions c.serving.requests c.serving.entries
    _ _ _ _ _ _ _ c.in-Ok.ensures.tells c.in-Ok.ensures.fresh c.drive_counted-driven.ensures.cause
    (closes_from _ _ _ _ _ c.in-Ok.ensures.closed c.done.ensures.closed)
    p (c.drive_counted-driven.ensures.serves first w _ _ p.stood) (sym c.is_worn.ensures ∙ c.if-is_worn.true)

pub serving-preserved : goal.serving-preserved
serving-preserved g c = record {
  fixed = c.drive_counted-driven.ensures.fixed ∙ c.serving.invariant.fixed;
  live = (let a = c.in-Ok.ensures.live in let d = c.done.ensures.live in let i = c.serving.invariant.live in omega (arith, a, d, i));
  faults = c.done.ensures.faults ∙ (c.in-Ok.ensures.cause.kept ∙ c.serving.invariant.faults);
  within = (let t = c.serving-test.true in omega (arith, t));
  requests = (let f = c.drive_counted-driven.ensures.few.0 in let i = c.serving.invariant.requests in omega (arith, f, i));
  entries = (let f = c.drive_counted-driven.ensures.few.1 in let i = c.serving.invariant.entries in omega (arith, f, i));
  so_far = λ first w seen mine h.
      let p = c.serving.invariant.so_far first w seen mine h in
      works_more _ (g.D.Desk.stands c.serving.desk first w) (g.D.Desk.stands c.drive_counted-driven.new.desk first w) first seen mine
      (g.L.Listener.told c.args.listener.now) (g.L.Listener.told c.serving.listener) (g.L.Listener.told c.done.new.self) c.serving.sessions c.serving.requests c.serving.entries
      _ _ _ _ _ _ _ c.in-Ok.ensures.tells c.in-Ok.ensures.fresh c.drive_counted-driven.ensures.cause
      (closes_from _ _ _ _ _ c.in-Ok.ensures.closed c.done.ensures.closed)
      p (c.drive_counted-driven.ensures.serves first w _ _ p.stood) (sym c.is_worn.ensures ∙ c.if-is_worn.false);
}
