use Rattle.std.proofs.Common.{map, refl, sym, ap, subst, ◌∙◌, Some}
use Rattle.history_model.specs.Standing.{Pushes}
use Rattle.commit_log.specs.Keeping.{noted, AreBelow}
use Rattle.commit_log.specs.Writers.{Writers, StandsFor, with_notes, with_all}
use Rattle.commit_log.specs.Logs.{IsLogged}
use Rattle.commit_log.proofs.Standings.{keeps_pushed, logged_more, none_some, pushes}
use Rattle.commit_log.proofs.Tables.{all_stand}
use Rattle.commit_log.proofs.log.CommitLog.append.Goals as goal

pub invariant_of-self : goal.invariant_of-self
invariant_of-self c =
    let noted_all = c.note_all.ensures ∙ ap (λ ks. with_notes c.self.inside.last ks c.args.number) c.as_slice.ensures in
    let below = subst (λ s. AreBelow c.args.number s.log.kept) (sym c.self.view_is) c.requires in
    subst (IsLogged c.push.new.self) (sym noted_all)
    (logged_more c.self.inside.kept (record { number = c.args.number; keys = c.args.keys }) c.push.new.self c.push.result c.self.inside.last c.self.invariant below c.push.ensures)

pub invariant_of-self-in_default : goal.invariant_of-self-in_default
invariant_of-self-in_default c =
    let noted_all = c.note_all.ensures ∙ ap (λ ks. with_notes c.self.inside.last ks c.args.number) c.as_slice.ensures in
    let below = subst (λ s. AreBelow c.args.number s.log.kept) (sym c.self.view_is) c.requires in
    subst (IsLogged c.push.new.self) (sym noted_all)
    (logged_more c.self.inside.kept (record { number = c.args.number; keys = c.args.keys }) c.push.new.self c.push.result c.self.inside.last c.self.invariant below c.push.ensures)

pub returns-in-Some-clause-log : goal.returns-in-Some-clause-log
returns-in-Some-clause-log c =
    subst (λ s. Pushes s.log (record { number = c.args.number; keys = c.args.keys.keys }) (record { window = c.push.new.self.capacity; kept = map noted c.push.new.self.items; dropped = Some c.in-Some.dropped })) c.self.view_is
    (pushes c.self.inside.kept (record { number = c.args.number; keys = c.args.keys }) c.push.new.self c.push.result c.self.inside.dropped (Some c.in-Some.dropped)
    c.push.ensures c.self.invariant.fits (λ none. absurd (none_some c.in-Some.dropped (sym none ∙ c.in-Some.is))) (λ n is. sym c.in-Some.is ∙ is))

pub returns-in_default-clause-log : goal.returns-in_default-clause-log
returns-in_default-clause-log c =
    subst (λ s. Pushes s.log (record { number = c.args.number; keys = c.args.keys.keys }) (record { window = c.push.new.self.capacity; kept = map noted c.push.new.self.items; dropped = c.self.inside.dropped })) c.self.view_is
    (pushes c.self.inside.kept (record { number = c.args.number; keys = c.args.keys }) c.push.new.self c.push.result c.self.inside.dropped c.self.inside.dropped
    c.push.ensures c.self.invariant.fits (λ none. refl) (λ n is. absurd (none_some n (sym c.in_default.is ∙ is))))

pub returns-in-Some-clause-keeps : goal.returns-in-Some-clause-keeps
returns-in-Some-clause-keeps c = λ all keeps. keeps_pushed c.args.self.now.log _ _ all (returns-in-Some-clause-log c) keeps

pub returns-in_default-clause-keeps : goal.returns-in_default-clause-keeps
returns-in_default-clause-keeps c = λ all keeps. keeps_pushed c.args.self.now.log _ _ all (returns-in_default-clause-log c) keeps

pub returns-in-Some-clause-writers : goal.returns-in-Some-clause-writers
returns-in-Some-clause-writers c = λ notes stands.
    let noted_all = c.note_all.ensures ∙ ap (λ ks. with_notes c.self.inside.last ks c.args.number) c.as_slice.ensures in
    subst (λ (w : Writers). StandsFor w (with_all notes c.args.keys.keys c.args.number)) (sym noted_all)
    (all_stand c.self.inside.last c.args.keys.keys c.args.number notes c.self.invariant.table (subst (λ s. StandsFor s.writers notes) (sym c.self.view_is) stands))

pub returns-in_default-clause-writers : goal.returns-in_default-clause-writers
returns-in_default-clause-writers c = λ notes stands.
    let noted_all = c.note_all.ensures ∙ ap (λ ks. with_notes c.self.inside.last ks c.args.number) c.as_slice.ensures in
    subst (λ (w : Writers). StandsFor w (with_all notes c.args.keys.keys c.args.number)) (sym noted_all)
    (all_stand c.self.inside.last c.args.keys.keys c.args.number notes c.self.invariant.table (subst (λ s. StandsFor s.writers notes) (sym c.self.view_is) stands))
