use Rattle.std.proofs.Common.{◌++◌, ◌∷◌, [], List, ap, sym, subst, refl}
use Rattle.world_cells.specs.declared.sets.Written.{Written}
use Rattle.task_forms.specs.declared.tasks.Entry.{Entry}
use Rattle.history_model.specs.Trials.{IsTried}
use Rattle.ordered_pages.specs.Tree.{map_of}
use Rattle.commit_core.proofs.Kept.{stands_as}
use Rattle.commit_core.proofs.cores.Core.settle.Goals as goal

pub returns-clause-settles : goal.returns-clause-settles
returns-clause-settles g c =
    let k = g.S.Answers.kind c.args.self.now.subject in
    let m = g.S.Means.meaning k in
    let e : Entry = record { by = c.args.by; task = c.args.attempt.task; reply = c.in-Ok.reply } in
    let tried = subst (λ v. IsTried m (map_of v.now) c.args.attempt.task c.run_on.new.recorder.reads c.run_on.new.recorder.writes c.in-Ok.reply) (ap (λ r. r.store) c.new-recorder.ensures) c.in-Ok.ensures.tried in
    let tried' = subst (λ (ws : List Written). IsTried m (map_of c.args.self.now.pages) c.args.attempt.task c.run_on.new.recorder.reads ws c.in-Ok.reply) (sym (ap (λ p. p.1.cells) c.finish-reads.ensures.sets)) tried in (
      refl,
      refl,
      λ first w es st.
          let stood = c.settle_extends_history.ensures k _ _ _ _ _ first w es e _ _ st c.requires.fit tried' c.in-Ok-apply.ensures.takes in
          stands_as g.S.Answers.kind g.S.Means.meaning _ _ (map_of c.apply.new.self.pages) c.apply.new.self.tally.log first w (es ++ e ∷ []) _ _ c.apply.ensures.subject c.in-Ok-apply.ensures.count stood,
    )
