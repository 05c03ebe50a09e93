use Rattle.std.proofs.Common.{◌++◌, ◌∷◌, [], List, ℕ, sym, subst, refl}
use Rattle.world_cells.specs.declared.sets.Written.{Written}
use Rattle.task_forms.specs.declared.tasks.Entry.{Entry}
use Rattle.history_model.specs.declared.checks.Check.TheVariants as check
use Rattle.history_model.specs.Laws.{TakesEntry}
use Rattle.history_model.specs.Standing.{Stands}
use Rattle.ordered_pages.specs.Tree.{map_of}
use Rattle.commit_core.proofs.cores.Core.commit.Goals as goal

pub returns-clause-leaves : goal.returns-clause-leaves
returns-clause-leaves g c =
    let k = g.S.Answers.kind c.args.self.now.subject in
    let e : Entry = record { by = c.args.by; task = c.args.attempt.task; reply = c.args.trial.reply } in
    let takes =
    subst (λ (ws : List Written). TakesEntry (map_of c.args.self.now.pages) (map_of c.apply.new.self.pages) c.args.self.now.tally.count c.args.self.now.tally.log c.apply.new.self.tally.log ws)
    c.set.ensures.is c.in-Ok.ensures.takes in (
      refl,
      λ first w es st trial.
          subst (λ (n : ℕ). Stands (g.S.Means.meaning k) (map_of c.apply.new.self.pages) n c.apply.new.self.tally.log first w (es ++ e ∷ [])) (sym c.in-Ok.ensures.count)
          (c.commit_extends_history.ensures k _ _ _ _ _ first w es c.args.trial.at e _ _ st c.requires.fit trial.low c.in-Clear.ensures trial.tried takes),
    )

pub returns-in-Conflict-clause-says : goal.returns-in-Conflict-clause-says
returns-in-Conflict-clause-says g c first w es st =
    c.log_tells_history.ensures (g.S.Answers.kind c.args.self.now.subject) first w es st.noted.0 c.args.self.now.tally.log c.args.trial.reads c.args.trial.at (check.Conflict c.in-Conflict.n) st.noted.1 st.noted.2 c.in-Conflict.ensures

pub returns-in-Aged-clause-says : goal.returns-in-Aged-clause-says
returns-in-Aged-clause-says g c first w es st =
    c.log_tells_history.ensures (g.S.Answers.kind c.args.self.now.subject) first w es st.noted.0 c.args.self.now.tally.log c.args.trial.reads c.args.trial.at (check.Aged c.in-Aged.n) st.noted.1 st.noted.2 c.in-Aged.ensures
