-- How a pass grows over several calls, on plain values.
use Rattle.std.proofs.Common.{◌≡◌, ℕ, ◌+◌, ◌≤◌, List, [], ◌∷◌, ◌++◌, length, refl, ap, sym, subst, ◌∙◌, arith, append-nil, append_assoc, length-append}
use Rattle.task_forms.specs.declared.tasks.Entry.{Entry}
use Rattle.http_messages.specs.declared.messages.Reply.{Reply}
use Rattle.task_forms.specs.declared.desk.DeskEnd.{DeskEnd}
use Rattle.task_forms.specs.declared.tasks.Task.{Task}
use Rattle.task_forms.specs.Desks.{IsWornEnd, last_number}
use Rattle.task_forms.specs.Meaning.{Meaning}
use Rattle.history_lock.specs.Views.{PassState}
use Rattle.commit_core.specs.declared.attempts.Attempt.{Attempt}
use Rattle.commit_core.specs.Attempts.{attempt_at}
use Rattle.commit_core.specs.Serving.{Grows}
use Rattle.shared_desk.specs.Tries.{JoinsPass, EndsPass, RefusedPass}

module _ {K : Type 0} where
  -- a pass that saw more, none of it its own
  pub record Extends (old new : PassState Entry K) : Type 0 where
    pub lock : new.lock ≡ old.lock
    pub number : new.number ≡ old.number
    pub numbers : new.view.numbers ≡ old.view.numbers
    pub first : new.view.first ≡ old.view.first
    pub others : List Entry
    pub seen : new.view.seen ≡ old.view.seen ++ others
    pub mine : new.view.mine ≡ old.view.mine

  pub extends_none : (p : PassState Entry K) → Extends p p
  extends_none p = record { lock = refl; number = refl; numbers = refl; first = refl; others = []; seen = sym (append-nil p.view.seen); mine = refl }

  pub grown : (m : Meaning) (a b c : PassState Entry K) (added : List Entry) → Extends a b → Grows m b c added → Grows m a c added
  grown m a b c added x y = record {
    lock = y.lock ∙ x.lock;
    number = y.number ∙ x.number;
    numbers = y.numbers ∙ x.numbers;
    first = y.first ∙ x.first;
    others = x.others ++ y.others;
    seen = y.seen ∙ ap (λ (l : List Entry). (l ++ y.others) ++ added) x.seen ∙ ap (λ (l : List Entry). l ++ added) (append_assoc a.view.seen x.others y.others);
    mine = y.mine ∙ ap (λ (l : List Entry). l ++ added) x.mine;
    own = y.own;
    legal = y.legal;
  }

  pub extends_grown : (m : Meaning) (a b : PassState Entry K) → Grows m a b [] → Extends a b
  extends_grown m a b y = record {
    lock = y.lock;
    number = y.number;
    numbers = y.numbers;
    first = y.first;
    others = y.others;
    seen = y.seen ∙ append-nil (a.view.seen ++ y.others);
    mine = y.mine ∙ append-nil a.view.mine;
  }

  pub extends_more : (m : Meaning) (a b c : PassState Entry K) → Extends a b → Grows m b c [] → Extends a c
  extends_more m a b c x y = extends_grown m a c (grown m a b c [] x y)

  -- what was at most the last number that was seen stays so
  pub still_low : (n : ℕ) (a b : PassState Entry K) → Extends a b → n ≤ a.view.first + length a.view.seen → n ≤ b.view.first + length b.view.seen
  still_low n a b x low =
      let first = x.first in
      let long : length b.view.seen ≡ length a.view.seen + length x.others = ap length x.seen ∙ length-append a.view.seen x.others in
      omega (arith, first, long, low)

  -- ---- what a try leaves

  pub joined_pass : (m : Meaning) (a p q : PassState Entry K) (task : Task) (reply : Reply) (by : ℕ) (e : Entry) → Grows m a p [] → Grows m p q (e ∷ []) → e ≡ record { by = by; task = task; reply = reply } → JoinsPass m a task q e.reply
  joined_pass m a p q task reply by e before more is = record {
    by = e.by;
    grows = subst (λ (t : Task). Grows m a q (record { by = e.by; task = t; reply = e.reply } ∷ [])) (ap (λ (x : Entry). x.task) is) (grown m a p q (e ∷ []) (extends_grown m a p before) more);
  }

  pub ended_pass : (m : Meaning) (a p q : PassState Entry K) (end : DeskEnd) → Grows m a p [] → Grows m p q [] → (IsWornEnd end → q.view.first + length q.view.seen ≡ last_number) → EndsPass m a q end
  ended_pass m a p q end before more worn = record { grows = grown m a p q [] (extends_grown m a p before) more; worn = worn }

  pub refused_pass : (m : Meaning) (a p q : PassState Entry K) (attempt again : Attempt) (n : ℕ) → Grows m a p [] → Grows m p q [] → again ≡ attempt_at attempt.task (attempt.refused + 1) n → n ≤ q.view.first + length q.view.seen
      → RefusedPass m a attempt q again
  refused_pass m a p q attempt again n before more is low = record {
    grows = grown m a p q [] (extends_grown m a p before) more;
    task = ap (λ (x : Attempt). x.task) is;
    refused = ap (λ (x : Attempt). x.refused) is;
    last = subst (λ (i : ℕ). i ≤ q.view.first + length q.view.seen) (sym (ap (λ (x : Attempt). x.last) is)) low;
  }

  -- ---- what tries leave, one after another

  pub joins_then : (m : Meaning) (a p q : PassState Entry K) (task again : Task) (reply : Reply) → Extends a p → again ≡ task → JoinsPass m p again q reply → JoinsPass m a task q reply
  joins_then m a p q task again reply before same one = record {
    by = one.by;
    grows = subst (λ (t : Task). Grows m a q (record { by = one.by; task = t; reply = reply } ∷ [])) same (grown m a p q (record { by = one.by; task = again; reply = reply } ∷ []) before one.grows);
  }

  pub ends_then : (m : Meaning) (a p q : PassState Entry K) (end : DeskEnd) → Extends a p → EndsPass m p q end → EndsPass m a q end
  ends_then m a p q end before none = record { grows = grown m a p q [] before none.grows; worn = none.worn }
