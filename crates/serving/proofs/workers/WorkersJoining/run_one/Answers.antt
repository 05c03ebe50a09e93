use Rattle.std.proofs.Common.{◌≡◌, [], refl, subst, sym, ◌∙◌, Some}
use Rattle.task_forms.specs.declared.tasks.Entry.{Entry}
use Rattle.history_lock.specs.Views.{PassState}
use Rattle.serving.specs.Working.{HasWorked, IsOfStore, WorkersState}
use Rattle.serving.proofs.Working.{kept_numbers, kept_own, of_store, some_same, works_seen}
use Rattle.serving.proofs.workers.WorkersJoining.run_one.Goals as goal

pub returns-clause-ran : goal.returns-clause-ran
returns-clause-ran g c =
    let kind = g.S.Answers.kind in
    let meaning = g.S.Means.meaning in
    let w = c.self.inside in
    let service = w.service.now in
    let planned = g.P.Planner.planned w.planner.now in
    let d0 = c.new-desk.result in
    let d1 = c.serve_worker-end.new.desk in
    let p = c.in-Some.pass in
    let q = c.into_pass-pass.result.0 in
    let before = g.L.Listener.told c.args.station.now.listener in
    let now = g.L.Listener.told c.serve_worker-end.new.listener in
    let end = c.serve_worker-end.result in
    let had : c.args.station.now.pass ≡ Some p = sym c.in-Some.ensures.value in
    let same = some_same c.requires.ready.pass p (sym c.requires.ready.has ∙ had) in
    let unseen = subst (λ (x : PassState Entry _). x.view.seen ≡ []) same c.requires.ready.unseen in
    let unowned = subst (λ (x : PassState Entry _). x.view.mine ≡ []) same c.requires.ready.unowned in
    let begins = c.new-desk.ensures.begins unseen unowned in
    let is = c.new-desk.ensures.is in
    let works = c.serve_worker-end.ensures.works in
    let fixed = c.serve_worker-end.ensures.fixed in
    let out = c.into_pass-pass.ensures.pass in
    subst (λ (s : WorkersState g.row.S.Denot g.row.P.Denot). HasWorked (g.P.Planner.planned s.planner) g.L.Listener.told s.quota c.args.station.now (record { listener = c.serve_worker-end.new.listener; gate = Some c.into_pass-pass.result.1; pass = Some c.into_pass-pass.result.0; end = Some c.serve_worker-end.result })) c.self.view_is
    (record {
      old = p;
      had = had;
      pass = q;
      has = refl;
      numbers = kept_numbers kind meaning planned service d0 d1 p q before now end is begins works fixed out;
      own = kept_own kind meaning planned service d0 d1 p q before now end is begins works fixed out;
      gate = refl;
      end = end;
      ended = refl;
      counted = record { requests = c.serve_worker-end.ensures.requests; entries = c.serve_worker-end.ensures.entries };
      live = c.serve_worker-end.ensures.live;
      cause = c.serve_worker-end.ensures.cause;
      works = works_seen kind meaning planned service d0 d1 p q before now end is begins works fixed out;
    })

pub returns-clause-own : goal.returns-clause-own
returns-clause-own g c =
    let kind = g.S.Answers.kind in
    let meaning = g.S.Means.meaning in
    let w = c.self.inside in
    let service = w.service.now in
    let planned = g.P.Planner.planned w.planner.now in
    let d0 = c.new-desk.result in
    let d1 = c.serve_worker-end.new.desk in
    let p = c.in-Some.pass in
    let q = c.into_pass-pass.result.0 in
    let before = g.L.Listener.told c.args.station.now.listener in
    let now = g.L.Listener.told c.serve_worker-end.new.listener in
    let end = c.serve_worker-end.result in
    let had : c.args.station.now.pass ≡ Some p = sym c.in-Some.ensures.value in
    let same = some_same c.requires.ready.pass p (sym c.requires.ready.has ∙ had) in
    let unseen = subst (λ (x : PassState Entry _). x.view.seen ≡ []) same c.requires.ready.unseen in
    let unowned = subst (λ (x : PassState Entry _). x.view.mine ≡ []) same c.requires.ready.unowned in
    let begins = c.new-desk.ensures.begins unseen unowned in
    let is = c.new-desk.ensures.is in
    let works = c.serve_worker-end.ensures.works in
    let fixed = c.serve_worker-end.ensures.fixed in
    let out = c.into_pass-pass.ensures.pass in
    let own = subst (λ (s : WorkersState g.row.S.Denot g.row.P.Denot). IsOfStore kind s.service c.requires.ready.pass) (sym c.self.view_is) c.requires.ready.own in
    let first = subst (λ (x : PassState Entry _). IsOfStore kind service x) same own in
    subst (λ (s : WorkersState g.row.S.Denot g.row.P.Denot). IsOfStore kind s.service q) c.self.view_is
    (of_store kind meaning planned service d0 d1 p q before now end is begins works fixed out first.first c.into_pass-pass.ensures.lock c.into_pass-pass.ensures.kind)
