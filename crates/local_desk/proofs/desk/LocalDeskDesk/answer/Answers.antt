use Rattle.std.proofs.Common.{◌+◌, List, [], ◌∷◌, ◌++◌, length, refl, sym, ap, subst, ◌∙◌, append-nil}
use Rattle.task_forms.specs.declared.tasks.Entry.{Entry}
use Rattle.commit_core.specs.Standing.{StandsFor}
use Rattle.local_desk.specs.Alone.{StandsForSome}
use Rattle.local_desk.proofs.Driving.{entry_is}
use Rattle.local_desk.proofs.desk.LocalDeskDesk.answer.Goals as goal

pub answer_alone-requires-clause-stands : goal.answer_alone-requires-clause-stands
answer_alone-requires-clause-stands g c = c.self.invariant

pub returns-clause-done : goal.returns-clause-done
returns-clause-done g c = λ first w seen mine st.
    let kind = g.S.Answers.kind in
    let meaning = g.S.Means.meaning in
    let entry = c.in-Ok.ensures.entry in
    let e : Entry = record { by = 0; task = c.args.task; reply = c.in-Ok.entry.reply } in
    let is = entry_is c.in-Ok.entry e entry.0 entry.1 refl in
    let new = c.in-Ok.ensures.joins first w seen (subst (λ d. StandsFor kind meaning d first w seen) (sym c.self.view_is) st.0) in
    record {
      by = 0;
      others = [];
      now = (
        subst (λ (p : List Entry × Entry). StandsFor kind meaning c.answer_alone.new.core first w (p.0 ++ p.1 ∷ [])) (λ i. (sym (append-nil seen) i, is i)) new,
        ap (λ l. l ++ e ∷ []) (st.1 ∙ sym (append-nil seen)),
      );
    }

pub returns-in-Err-clause-err : goal.returns-in-Err-clause-err
returns-in-Err-clause-err g c = λ first w seen mine st.
    let kind = g.S.Answers.kind in
    let meaning = g.S.Means.meaning in
    let new = subst (λ d. StandsFor kind meaning d first w seen) (sym (c.in-Err.ensures.kept ∙ c.self.view_is)) st.0 in
    record {
      others = [];
      now = (
        subst (λ (l : List Entry). StandsFor kind meaning c.answer_alone.new.core first w l) (sym (append-nil seen)) new,
        st.1 ∙ sym (append-nil seen),
      );
      worn = λ is. ap (λ l. first + length l) (append-nil seen) ∙ (sym st.0.counted ∙ (ap (λ d. d.tally.count) (sym c.self.view_is) ∙ c.in-Err.ensures.worn is));
    }

pub invariant_of-self-2 : goal.invariant_of-self-2
invariant_of-self-2 g c =
    let some = c.self.invariant in
    (some.0, some.1, some.2 ++ c.in-Ok.entry ∷ [], c.in-Ok.ensures.joins some.0 some.1 some.2 some.3)

pub invariant_of-self : goal.invariant_of-self
invariant_of-self g c = subst (StandsForSome g.S.Answers.kind g.S.Means.meaning) (sym c.in-Err.ensures.kept) c.self.invariant
