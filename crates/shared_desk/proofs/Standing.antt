-- What a desk stands for before and behind a call, on plain values.
use Rattle.std.proofs.Common.{◌≡◌, ℕ, ◌+◌, List, [], ◌∷◌, ◌++◌, length, ap, sym, subst, ◌∙◌, Some, append-nil}
use Rattle.http_messages.specs.declared.messages.Reply.{Reply}
use Rattle.ident_rules.specs.Owned.{entries_by}
use Rattle.world_cells.specs.World.{World}
use Rattle.task_forms.specs.declared.desk.DeskEnd.{DeskEnd}
use Rattle.task_forms.specs.declared.tasks.Entry.{Entry}
use Rattle.task_forms.specs.declared.tasks.Task.{Task}
use Rattle.task_forms.specs.Desks.{Joins, Refuses}
use Rattle.task_forms.specs.Meaning.{Meaning, IsLegal}
use Rattle.history_lock.specs.Views.{PassState}
use Rattle.commit_core.specs.Serving.{Grows}
use Rattle.shared_desk.specs.Passes.{StandsOf, StandsFor}
use Rattle.shared_desk.specs.Tries.{JoinsPass, EndsPass}

module _ {K : Type 0} (m : Meaning) where
  module _ (old new : PassState Entry K) (first : ℕ) (w : World) (seen mine : List Entry) (stands : StandsOf m old first w seen mine) where
    stood : (added : List Entry) (more : Grows m old new added) → StandsOf m new first w ((seen ++ more.others) ++ added) (mine ++ added)
    stood added more =
        let saw : new.view.seen ≡ (seen ++ more.others) ++ added = more.seen ∙ ap (λ (l : List Entry). (l ++ more.others) ++ added) stands.saw in
        let has : new.view.mine ≡ mine ++ added = more.mine ∙ ap (λ (l : List Entry). l ++ added) stands.has in record {
          begins = more.first ∙ stands.begins;
          empty = stands.empty;
          saw = saw;
          has = has;
          own = subst (λ (l : List Entry). entries_by (λ e. e.by) new.view.numbers l ≡ mine ++ added) saw (more.own ∙ has);
          legal = subst (λ (l : List Entry). IsLegal m m.empty l) saw more.legal;
        }

    pub joins : (task : Task) (reply : Reply) → JoinsPass m old task new reply → Joins (StandsFor m (Some new) first w) seen mine task reply
    joins task reply one = record { by = one.by; others = one.grows.others; now = stood (record { by = one.by; task = task; reply = reply } ∷ []) one.grows }

    pub refuses : (end : DeskEnd) → EndsPass m old new end → Refuses (StandsFor m (Some new) first w) first seen mine end
    refuses end none =
        let more = none.grows in
        let saw : new.view.seen ≡ seen ++ more.others = (more.seen ∙ append-nil (old.view.seen ++ more.others)) ∙ ap (λ (l : List Entry). l ++ more.others) stands.saw in record {
          others = more.others;
          now = subst (λ (l : List Entry). StandsOf m new first w (seen ++ more.others) l) (append-nil mine) (subst (λ (l : List Entry). StandsOf m new first w l (mine ++ [])) (append-nil (seen ++ more.others)) (stood [] more));
          worn = λ is. ap (λ (n : ℕ). n + length (seen ++ more.others)) (sym (more.first ∙ stands.begins)) ∙ (ap (λ (l : List Entry). new.view.first + length l) (sym saw) ∙ none.worn is);
        }
