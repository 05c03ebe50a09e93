-- Laws of runs: a run with one more event, and what its refusals are.
use Rattle.std.proofs.Common.{◌≡◌, ◌≢◌, ℕ, ◌+◌, Bool, true, false, List, [], ◌∷◌, ◌++◌, map, drop, count_by, refl, sym, ap, ◌∙◌, subst, inl, inr, ◌⊎◌, arith, append_assoc, append-nil, eq-eqb, add-zero}
use Rattle.std.specs.Prelude.{◌==◌, ◌&&◌, ◌||◌, if◌then◌else◌, cond}
use Rattle.std.proofs.lemmas.Grind.{flat_map-append, fold-append}
use Rattle.std.proofs.lemmas.List.{map-append}
use Rattle.std.proofs.lemmas.Bool.Decides.{nat_tests, eqb_tells}
use Rattle.task_forms.specs.declared.tasks.Task.{Task}
use Rattle.task_forms.specs.declared.tasks.Entry.{Entry}
use Rattle.task_forms.specs.Meaning.{Meaning, world_after, AreAnswers}
use Rattle.world_cells.specs.World.{World}
use Rattle.history_model.specs.declared.checks.Check.{Check}
use Rattle.history_model.specs.declared.checks.Check.TheVariants as check
use Rattle.ident_rules.specs.Owned.{is_among, entries_by-append}
use Rattle.history_model.specs.Histories.{MayRefuse}
use Rattle.run_model.specs.Laws.{own_entries}
use Rattle.run_model.specs.Runs.{Stage, resting, Event, joined, history_of, stage_from, stage_of, is_refusal, refused_of, Takes, RunsOn, IsRun, IsRefusal, with_first, without_next, rebuilt, Begins}

-- ---- one more event

pub history_more : (events : List Event) (e : Event) → history_of (events ++ e ∷ []) ≡ history_of events ++ joined e.act
history_more events e = flat_map-append (λ (x : Event). joined x.act) events (e ∷ []) ∙ ap (λ l. history_of events ++ l) (append-nil (joined e.act))

stage_more_from : (s : Stage) (k : ℕ) (events : List Event) (e : Event) → stage_from s k (events ++ e ∷ []) ≡ (if e.by == k then e.now else stage_from s k events)
stage_more_from s k [] e = refl
stage_more_from s k (x ∷ xs) e = stage_more_from (if x.by == k then x.now else s) k xs e

pub stage_more : (k : ℕ) (events : List Event) (e : Event) → e.by ≡ k → stage_of k (events ++ e ∷ []) ≡ e.now
stage_more k events e is = stage_more_from resting k events e ∙ ap (λ b. if b then e.now else stage_of k events) (eq-eqb e.by k is)

decided : (m n : ℕ) → (m ≡ n) ⊎ (m ≢ n)
decided m n = elim (eqb_tells m n) [ inl e ↦ inl e.1 | inr e ↦ inr e.1 ]

not_equal : (a b : ℕ) → a ≢ b → (a == b) ≡ false
not_equal a b h = grind (arith, nat_tests)

pub stage_other : (k : ℕ) (events : List Event) (e : Event) → e.by ≢ k → stage_of k (events ++ e ∷ []) ≡ stage_of k events
stage_other k events e not = stage_more_from resting k events e ∙ ap (λ b. if b then e.now else stage_of k events) (not_equal e.by k not)

count_more : {X : Type 0} (p : X → Bool) (xs : List X) (x : X) → count_by p (xs ++ x ∷ []) ≡ count_by p xs + (if p x then 1 else 0)
count_more p xs x = fold-append (λ a y. a + cond (p y) 1 0) 0 xs (x ∷ [])

pub refused_other : (k : ℕ) (events : List Event) (e : Event) → e.by ≢ k → refused_of k (events ++ e ∷ []) ≡ refused_of k events
refused_other k events e not =
    count_more (λ x. (x.by == k) && is_refusal x.act) events e ∙ ap (λ b. refused_of k events + (if b && is_refusal e.act then 1 else 0)) (not_equal e.by k not) ∙ add-zero (refused_of k events)

pub refused_more : (k : ℕ) (events : List Event) (e : Event) → e.by ≡ k → refused_of k (events ++ e ∷ []) ≡ refused_of k events + (if is_refusal e.act then 1 else 0)
refused_more k events e is =
    count_more (λ x. (x.by == k) && is_refusal x.act) events e ∙ ap (λ b. refused_of k events + (if b && is_refusal e.act then 1 else 0)) (eq-eqb e.by k is)

module _ (m : Meaning) (window first : ℕ) (w : World) where
  runs_more_on : (before events : List Event) (e : Event) → RunsOn m window first w before events
      → Takes m window first w (history_of (before ++ events)) e.by (stage_of e.by (before ++ events)) e.act e.now → RunsOn m window first w before (events ++ e ∷ [])
  runs_more_on before [] e run takes = (subst (λ (b : List Event). Takes m window first w (history_of b) e.by (stage_of e.by b) e.act e.now) (append-nil before) takes, tt)
  runs_more_on before (x ∷ xs) e run takes =
      (run.0, runs_more_on (before ++ x ∷ []) xs e run.1 (subst (λ (b : List Event). Takes m window first w (history_of b) e.by (stage_of e.by b) e.act e.now) (sym (append_assoc before (x ∷ []) xs)) takes))

  -- a run, and one more step
  pub run_more : (steps : List ℕ) (events : List Event) (e : Event) → IsRun m window first w steps events
      → Takes m window first w (history_of events) e.by (stage_of e.by events) e.act e.now → IsRun m window first w (steps ++ e.by ∷ []) (events ++ e ∷ [])
  run_more steps events e run takes = record {
    streams = map-append (λ (x : Event). x.by) events (e ∷ []) ∙ ap (λ l. l ++ e.by ∷ []) run.streams;
    each = runs_more_on [] events e run.each takes;
  }

  -- ---- refusals

  -- a refusal is one that the definition of conflicts allows
  pub refusal_may : (h : List Entry) (t : Task) (at : ℕ) (reads : _) (why : Check) → IsRefusal m window first w h t at reads why → MayRefuse m first w h t at window
  refusal_may h t at reads check.Clear r = absurd (r.2 refl)
  refusal_may h t at reads (check.Conflict n) r = inl (n, r.1.0.0, r.1.0.1.0, (r.1.0.1.1.0, r.1.0.1.1.1, r.0.within r.1.0.1.1.0 r.1.0.1.1.2))
  refusal_may h t at reads (check.Aged n) r = inr (n, r.1)

-- ---- entries of one stream

pub by_other : (k : ℕ) (h : List Entry) (e : Entry) → e.by ≢ k → own_entries k (h ++ e ∷ []) ≡ own_entries k h
by_other k h e not =
    entries_by-append (λ (x : Entry). x.by) (k ∷ []) h (e ∷ []) ∙ ap (λ b. own_entries k h ++ (if b || false then e ∷ [] else [])) (not_equal e.by k not) ∙ append-nil (own_entries k h)

pub by_same : (k : ℕ) (h : List Entry) (e : Entry) → e.by ≡ k → own_entries k (h ++ e ∷ []) ≡ own_entries k h ++ e ∷ []
by_same k h e is =
    entries_by-append (λ (x : Entry). x.by) (k ∷ []) h (e ∷ []) ∙ ap (λ b. own_entries k h ++ (if b || false then e ∷ [] else [])) (eq-eqb e.by k is)

-- the last of a list of answers is the answer in the world before it
pub last_answer : (m : Meaning) (w : World) (h : List Entry) (e : Entry) → AreAnswers m w (h ++ e ∷ []) → m.fit e.task × (e.reply ≡ m.answer (world_after m w h) e.task)
last_answer m w [] e a = (a.0, a.1)
last_answer m w (x ∷ xs) e a = last_answer m (m.effect w x.task) xs e a.2

-- ---- a history is what its numbers tell

among : (k : ℕ) → is_among k (k ∷ []) ≡ true
among k = ap (λ b. b || false) (eq-eqb k k refl)

not_among : (n k : ℕ) → n ≢ k → is_among n (k ∷ []) ≡ false
not_among n k not = ap (λ b. b || false) (not_equal n k not)

same_entry : (m : Meaning) (w : World) (e : Entry) → e.reply ≡ m.answer w e.task → record { by = e.by; task = e.task; reply = m.answer w e.task } ≡ e
same_entry m w e is = λ i. record { by = e.by; task = e.task; reply = sym is i }

-- a history in which each stream's tasks are its first ones in their order, and each reply is the answer
pub is_rebuilt : (m : Meaning) (w : World) (tasks : ℕ → List Task) (h : List Entry) → AreAnswers m w h → ((k : ℕ) → Begins (map (λ e. e.task) (own_entries k h)) (tasks k))
    → rebuilt m w tasks (map (λ e. e.by) h) ≡ h
is_rebuilt m w tasks [] answers begins = refl
is_rebuilt m w tasks (e ∷ h) answers begins =
    ap (λ l. with_first l next) taken ∙ (both (same_entry m w e answers.1) (is_rebuilt m (m.effect w e.task) (without_next e.by tasks) h answers.2 later))
  where
    next : Task → List Entry
    next = λ t. record { by = e.by; task = t; reply = m.answer w t } ∷ rebuilt m (m.effect w t) (without_next e.by tasks) (map (λ x. x.by) h)

    both : {a c : Entry} {b d : List Entry} → a ≡ c → b ≡ d → a ∷ b ≡ c ∷ d
    both p q = λ i. p i ∷ q i

    own : Begins (e.task ∷ map (λ x. x.task) (own_entries e.by h)) (tasks e.by)
    own = subst (λ b. Begins (map (λ x. x.task) (if b then e ∷ own_entries e.by h else own_entries e.by h)) (tasks e.by)) (among e.by) (begins e.by)

    taken : tasks e.by ≡ e.task ∷ (map (λ x. x.task) (own_entries e.by h) ++ own.0)
    taken = own.1

    later : (k : ℕ) → Begins (map (λ x. x.task) (own_entries k h)) (without_next e.by tasks k)
    later k = at (decided k e.by)
      where
        at : (k ≡ e.by) ⊎ (k ≢ e.by) → Begins (map (λ x. x.task) (own_entries k h)) (without_next e.by tasks k)
        at (inl same) =
            subst (λ b. Begins (map (λ x. x.task) (own_entries k h)) (if b then drop 1 (tasks k) else tasks k)) (sym (eq-eqb k e.by same))
            (subst (λ j. Begins (map (λ x. x.task) (own_entries j h)) (drop 1 (tasks j))) (sym same) (own.0, ap (drop 1) taken))
        at (inr other) =
            subst (λ b. Begins (map (λ x. x.task) (own_entries k h)) (if b then drop 1 (tasks k) else tasks k)) (sym (not_equal k e.by other))
            (subst (λ b. Begins (map (λ x. x.task) (if b then e ∷ own_entries k h else own_entries k h)) (tasks k)) (not_among e.by k (λ is. other (sym is))) (begins k))
