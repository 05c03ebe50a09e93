-- Passes that grow by a call of a shared store, on plain values.
use Rattle.std.proofs.Common.{◌≡◌, ℕ, zero, suc, ◌+◌, ◌-◌, ◌≤◌, Bool, true, List, [], ◌∷◌, ◌++◌, length, take, refl, sym, ap, subst, ◌∙◌, arith, append-nil, length-append, Some}
use Rattle.std.specs.Prelude.{if◌then◌else◌}
use mathlib.Core.List.{IsPrefix}
use Rattle.ident_rules.specs.Owned.{is_among, entries_by, entries_by-append}
use Rattle.world_cells.specs.World.{World}
use Rattle.task_forms.specs.declared.tasks.Task.{Task}
use Rattle.task_forms.specs.declared.tasks.Entry.{Entry}
use Rattle.task_forms.specs.Meaning.{Meaning, IsLegal, world_after}
use Rattle.history_model.specs.Commits.{IsTrialOf}
use Rattle.history_model.specs.Standing.{Stands, IsSaid}
use Rattle.history_model.specs.Trials.{IsTried}
use Rattle.history_model.specs.declared.checks.TheConstants.{LOG_WINDOW}
use Rattle.history_lock.specs.declared.rule.Knows.{Knows}
use Rattle.history_lock.specs.Views.{HeldState, PassState, taken_view, free_view, more_view}
use Rattle.ordered_pages.specs.Tree.{map_of}
use Rattle.commit_core.specs.declared.attempts.Attempt.{Attempt}
use Rattle.commit_core.specs.declared.cores.Core.{Core}
use Rattle.commit_core.specs.declared.ends.CommitEnd.TheVariants.{Done, Stale}
use Rattle.commit_core.specs.declared.ends.SettleEnd.TheVariants as settle
use Rattle.commit_core.specs.declared.ends.Setback.{Setback}
use Rattle.commit_core.specs.declared.tries.Trial.{Trial}
use Rattle.commit_core.specs.Ends.{check_of}
use Rattle.commit_core.specs.Standing.{Leaves, Says, Settles, StandsFor}
use Rattle.commit_core.specs.Serving.{Grows, IsTrialSeen, SaysSeen, StandsKept}

abbrev by_of : Entry → ℕ
by_of e = e.by

module _ {T K : Type 0} (m : Meaning) (p r : PassState Entry K) (h : HeldState T Entry K) (log : List Entry) (lock : h.lock ≡ p.lock) (number : h.number ≡ p.number) (prefix : IsPrefix p.view.seen log)
    (is : h.view ≡ taken_view p.view log) (mine : entries_by (λ e. e.by) h.view.numbers h.view.seen ≡ h.view.mine) (lock_left : r.lock ≡ h.lock) (number_left : r.number ≡ h.number) where
  pub grows_none : IsLegal m m.empty h.view.seen → r.view ≡ free_view h.view → Grows m p r []
  grows_none legal left = record {
    lock = lock_left ∙ lock;
    number = number_left ∙ number;
    numbers = ap (λ (v : Knows Entry K). v.numbers) left ∙ ap (λ (v : Knows Entry K). v.numbers) is;
    first = ap (λ (v : Knows Entry K). v.first) left ∙ ap (λ (v : Knows Entry K). v.first) is;
    others = prefix.0;
    seen = ap (λ (v : Knows Entry K). v.seen) left ∙ ap (λ (v : Knows Entry K). v.seen) is ∙ sym prefix.1 ∙ sym (append-nil (p.view.seen ++ prefix.0));
    mine = ap (λ (v : Knows Entry K). v.mine) left ∙ ap (λ (v : Knows Entry K). v.mine) is ∙ sym (append-nil p.view.mine);
    own = subst (λ (v : Knows Entry K). entries_by (λ e. e.by) v.numbers v.seen ≡ v.mine) (sym left) mine;
    legal = subst (λ (v : Knows Entry K). IsLegal m m.empty v.seen) (sym left) legal;
  }

  pub grows_one : (e : Entry) → is_among e.by h.view.numbers ≡ true → IsLegal m m.empty (h.view.seen ++ e ∷ []) → r.view ≡ free_view (more_view h.view (e ∷ [])) → Grows m p r (e ∷ [])
  grows_one e among legal left = record {
    lock = lock_left ∙ lock;
    number = number_left ∙ number;
    numbers = ap (λ (v : Knows Entry K). v.numbers) left ∙ ap (λ (v : Knows Entry K). v.numbers) is;
    first = ap (λ (v : Knows Entry K). v.first) left ∙ ap (λ (v : Knows Entry K). v.first) is;
    others = prefix.0;
    seen = ap (λ (v : Knows Entry K). v.seen) left ∙ ap (λ (l : List Entry). l ++ e ∷ []) (ap (λ (v : Knows Entry K). v.seen) is ∙ sym prefix.1);
    mine = ap (λ (v : Knows Entry K). v.mine) left ∙ ap (λ (l : List Entry). l ++ e ∷ []) (ap (λ (v : Knows Entry K). v.mine) is);
    own = subst (λ (v : Knows Entry K). entries_by (λ e. e.by) v.numbers v.seen ≡ v.mine) (sym left) own_more;
    legal = subst (λ (v : Knows Entry K). IsLegal m m.empty v.seen) (sym left) legal;
  }
    where
      own_more : entries_by (λ e. e.by) h.view.numbers (h.view.seen ++ e ∷ []) ≡ h.view.mine ++ e ∷ []
      own_more =
          entries_by-append (λ e. e.by) h.view.numbers h.view.seen (e ∷ [])
          ∙ ap (λ (l : List Entry). l ++ entries_by (λ e. e.by) h.view.numbers (e ∷ [])) mine
          ∙ ap (λ (b : Bool). h.view.mine ++ (if b then e ∷ [] else [])) among

-- ---- a trial of a world of a history is one of that world in every longer history

take_more_of : {A : Type 0} (n : ℕ) (xs zs : List A) → n ≤ length xs → take n (xs ++ zs) ≡ take n xs
take_more_of zero xs zs low = refl
take_more_of (suc n) [] zs low = absurd (omega arith)
take_more_of (suc n) (x ∷ xs) zs low = ap (λ l. x ∷ l) (take_more_of n xs zs (omega arith))

trial_later : (m : Meaning) (first : ℕ) (w : World) (seen log : List Entry) (task : Task) (trial : Trial) → IsPrefix seen log
    → IsTrialOf m first w seen trial.at task trial.reads trial.writes trial.reply → IsTrialOf m first w log trial.at task trial.reads trial.writes trial.reply
trial_later m first w seen log task trial prefix tried =
    let low = tried.low in
    let high = tried.high in
    let long : length log ≡ length seen + length prefix.0 = sym (ap length prefix.1) ∙ length-append seen prefix.0 in
    let within : trial.at - first ≤ length seen = omega arith in
    let same : take (trial.at - first) seen ≡ take (trial.at - first) log = sym (take_more_of (trial.at - first) seen prefix.0 within) ∙ ap (λ (l : List Entry). take (trial.at - first) l) prefix.1 in record {
      low = low;
      high = omega arith;
      tried = subst (λ (l : List Entry). IsTried m (m.cells (world_after m w l)) task trial.reads trial.writes trial.reply) same tried.tried;
    }

-- ---- what a core behind a lock stands for

module _ {S K : Type 0} (kind : S → K) (meaning : K → Meaning) (old new : Core S) (service : S) (v h : Knows Entry K) (log : List Entry) (same : kind service ≡ kind old.subject) (prefix : IsPrefix v.seen log)
    (is : h ≡ taken_view v log) (stood : StandsKept kind meaning old h.first h.seen) where
  pub legal_there : IsLegal (meaning (kind service)) (meaning (kind service)).empty h.seen
  legal_there = subst (λ (k : K). IsLegal (meaning k) (meaning k).empty h.seen) (sym same) stood.1.legal

  module _ (subject : new.subject ≡ old.subject) (window : new.tally.log.window ≡ old.tally.log.window) where
    kept_as : (entries : List Entry) → Stands (meaning (kind old.subject)) (map_of new.pages) new.tally.count new.tally.log h.first (meaning (kind old.subject)).empty entries → StandsKept kind meaning new h.first entries
    kept_as entries now = (
      window ∙ stood.0,
      subst (λ (s : S). Stands (meaning (kind s)) (map_of new.pages) new.tally.count new.tally.log h.first (meaning (kind s)).empty entries) (sym subject) now,
    )

    pub committed : (by : ℕ) (attempt : Attempt) (trial : Trial) (e : Entry) → IsTrialSeen (meaning (kind service)) v attempt.task trial → Leaves kind meaning old new by attempt trial (Done e) → StandsKept kind meaning new h.first (h.seen ++ e ∷ [])
    committed by attempt trial e tried leaves =
        let m = meaning (kind old.subject) in
        let later = trial_later (meaning (kind service)) v.first (meaning (kind service)).empty v.seen log attempt.task trial prefix tried in
        let there = subst (λ (k : K). IsTrialOf (meaning k) v.first (meaning k).empty log trial.at attempt.task trial.reads trial.writes trial.reply) same later in
        let here = subst (λ (x : Knows Entry K). IsTrialOf m x.first m.empty x.seen trial.at attempt.task trial.reads trial.writes trial.reply) (sym is) there in
        kept_as (h.seen ++ e ∷ []) (leaves.1 h.first m.empty h.seen stood.1 here)

    pub settled : (by : ℕ) (task : Task) (e : Entry) → Settles kind meaning old new by task (settle.Done e) → StandsKept kind meaning new h.first (h.seen ++ e ∷ [])
    settled by task e settles = (
      window ∙ stood.0,
      subst (λ (s : S). Stands (meaning (kind new.subject)) (map_of new.pages) new.tally.count new.tally.log h.first (meaning (kind s)).empty (h.seen ++ e ∷ [])) (sym subject)
          (settles.2 h.first (meaning (kind old.subject)).empty h.seen stood.1),
    )

    pub legal_now : (entries : List Entry) → StandsKept kind meaning new h.first entries → IsLegal (meaning (kind service)) (meaning (kind service)).empty entries
    legal_now entries now = subst (λ (k : K). IsLegal (meaning k) (meaning k).empty entries) (sym (same ∙ ap kind (sym subject))) now.1.legal

  pub said : (r : Knows Entry K) (trial : Trial) (a : Attempt) (why : Setback) → r ≡ free_view h → Says kind meaning old trial (Stale a why) → IsSaid (meaning (kind service)) r.first (meaning (kind service)).empty r.seen LOG_WINDOW trial.reads trial.at (check_of why)
  said r trial a why left says =
      let m = meaning (kind old.subject) in
      let here = subst (λ (n : ℕ). IsSaid m h.first m.empty h.seen n trial.reads trial.at (check_of why)) stood.0 (says h.first m.empty h.seen stood.1) in
      let there = subst (λ (k : K). IsSaid (meaning k) h.first (meaning k).empty h.seen LOG_WINDOW trial.reads trial.at (check_of why)) (sym same) here in
      subst (λ (x : Knows Entry K). IsSaid (meaning (kind service)) x.first (meaning (kind service)).empty x.seen LOG_WINDOW trial.reads trial.at (check_of why)) (sym left) there

-- the subject outside of the lock and that of the core have one kind
pub kinds_same : {K : Type 0} (v h : Knows Entry K) (log : List Entry) (outside inside : K) → v.kind ≡ Some outside → h.kind ≡ Some inside → h ≡ taken_view v log → outside ≡ inside
kinds_same v h log outside inside own found is = let both : Some outside ≡ Some inside = sym own ∙ (ap (λ (x : Knows Entry _). x.kind) (sym is) ∙ found) in cc both
