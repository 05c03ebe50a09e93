-- What a worker makes of its station, on plain values.
use Rattle.std.proofs.Common.{◌≡◌, ℕ, List, [], ◌++◌, ap, sym, subst, ◌∙◌, true, Some}
use Rattle.outer_ends.specs.Told.{ListenerTold}
use Rattle.http_messages.specs.declared.messages.Message.{Message}
use Rattle.ident_rules.specs.Owned.{entries_by}
use Rattle.task_forms.specs.declared.tasks.Entry.{Entry}
use Rattle.task_forms.specs.declared.tasks.Plan.{Plan}
use Rattle.task_forms.specs.Meaning.{Meaning}
use Rattle.session_engine.specs.Plans.{plans_of}
use Rattle.history_lock.specs.Views.{PassState}
use Rattle.commit_core.specs.Serving.{ServiceState}
use Rattle.connection_workers.specs.declared.workers.WorkerEnd.{WorkerEnd}
use Rattle.connection_workers.specs.Visits.{joined_by, made_by}
use Rattle.connection_workers.specs.Works.{Works, WorksAll}
use Rattle.shared_desk.specs.Passes.{DeskState, StandsFor, StandsOf, numbers_of, owner_of}
use Rattle.shared_desk.specs.PassLaws.{same_kind, same_lock, same_numbers}
use Rattle.history_lock.specs.declared.rule.Knows.{Knows}
use Rattle.history_lock.specs.Numbers.{among_left, among_right}
use Rattle.history_lock.specs.Views.{both_views}
use Rattle.serving.specs.Working.{IsOfStore, IsWithin}
use mathlib.Core.List.{IsPrefix}
use Rattle.ident_rules.specs.Owned.{is_among}
use Rattle.std.specs.declared.option.Option.{Option}

module _ {S K : Type 0} (kind : S → K) (meaning : K → Meaning) (planned : Message → Plan) (service : ServiceState S) (d0 d1 : DeskState K) (p q : PassState Entry K) (before now : ListenerTold) (end : WorkerEnd)
    (is : d0 ≡ record { kind = kind service.subject; lock = service.lock.name; pass = Some p }) (begins : StandsOf (meaning (kind service.subject)) p p.view.first (meaning (kind service.subject)).empty [] [])
    (works : WorksAll planned (StandsFor (meaning d0.kind) d0.pass) (StandsFor (meaning d1.kind) d1.pass) before now end) (fixed : owner_of d1 ≡ owner_of d0) (out : Some q ≡ d1.pass) where
  stood_first : StandsFor (meaning d0.kind) d0.pass p.view.first (meaning (kind service.subject)).empty [] []
  stood_first = subst (λ (d : DeskState K). StandsFor (meaning d.kind) d.pass p.view.first (meaning (kind service.subject)).empty [] []) (sym is) begins

  here : Works (plans_of planned) (StandsFor (meaning d1.kind) d1.pass p.view.first (meaning (kind service.subject)).empty) p.view.first [] [] before now end
  here = works p.view.first (meaning (kind service.subject)).empty [] [] stood_first

  stands : StandsOf (meaning d1.kind) q p.view.first (meaning (kind service.subject)).empty (joined_by here.visits) (made_by here.visits)
  stands = subst (λ (o : Option (PassState Entry K)). StandsFor (meaning d1.kind) o p.view.first (meaning (kind service.subject)).empty (joined_by here.visits) (made_by here.visits)) (sym out) here.stood

  pub kept_numbers : q.view.numbers ≡ p.view.numbers
  kept_numbers = ap numbers_of out ∙ same_numbers d1 d0 fixed ∙ ap (λ (d : DeskState K). numbers_of d.pass) is

  pub of_store : p.view.first ≡ service.lock.start.first → q.lock ≡ d1.lock → q.view.kind ≡ Some d1.kind → IsOfStore kind service q
  of_store first lock kinds = record {
    own = (lock ∙ same_lock d1 d0 fixed ∙ ap (λ (d : DeskState K). d.lock) is, kinds ∙ ap (λ (k : K). Some k) (same_kind d1 d0 fixed ∙ ap (λ (d : DeskState K). d.kind) is));
    first = stands.begins ∙ first;
  }

  pub kept_own : entries_by (λ e. e.by) q.view.numbers q.view.seen ≡ q.view.mine
  kept_own = ap (λ (l : List Entry). entries_by (λ e. e.by) q.view.numbers l) stands.saw ∙ stands.own ∙ sym stands.has

  pub works_seen : Works (plans_of planned) (λ seen mine. (seen ≡ q.view.seen) × (mine ≡ q.view.mine)) p.view.first [] [] before now end
  works_seen = record {
    visits = here.visits;
    stood = (sym stands.saw, sym stands.has);
    sessions_are = here.sessions_are;
    requests_are = here.requests_are;
    entries_are = here.entries_are;
    ends = here.ends;
    told = here.told;
  }

-- a joined pass has all that both had
pub within_both : {K : Type 0} (one other both : PassState Entry K) → both.view ≡ both_views (λ e. e.by) one.view other.view → IsPrefix one.view.seen both.view.seen → IsPrefix other.view.seen both.view.seen
    → IsWithin one both × IsWithin other both
within_both {K} one other both is left right =
    let numbers : both.view.numbers ≡ one.view.numbers ++ other.view.numbers = ap (λ (v : Knows Entry K). v.numbers) is in (
      record { numbers = λ n among. subst (λ (ns : List ℕ). is_among n ns ≡ true) (sym numbers) (among_left n one.view.numbers other.view.numbers among); seen = left },
      record { numbers = λ n among. subst (λ (ns : List ℕ). is_among n ns ≡ true) (sym numbers) (among_right n one.view.numbers other.view.numbers among); seen = right },
    )

pub some_same : {A : Type 0} (x y : A) → Some x ≡ Some y → x ≡ y
some_same x y same = cc same
