-- Stations that were given the passes of a new store, on plain values.
use Rattle.std.proofs.Common.{◌≡◌, ℕ, zero, suc, ◌+◌, ◌<◌, List, [], ◌∷◌, length, get_or, refl, ap, sym, subst, ◌∙◌, arith, Some}
use Rattle.std.specs.Prelude.{All, IsSome}
use Rattle.std.specs.declared.option.Option.{Option}
use Rattle.atomic_table.specs.Seated.{TableId}
use Rattle.outer_ends.specs.Told.{ListenerTold}
use Rattle.task_forms.specs.declared.tasks.Entry.{Entry}
use Rattle.task_forms.specs.Meaning.{Meaning}
use Rattle.session_engine.specs.Plans.{TaskPlans}
use Rattle.history_lock.specs.declared.rule.Start.{Start}
use Rattle.history_lock.specs.Views.{LockState, PassState}
use Rattle.history_lock.specs.Making.{AreMade, new_pass, passes_from}
use Rattle.connection_workers.specs.declared.workers.WorkerEnd.{WorkerEnd}
use Rattle.connection_workers.specs.Works.{HasEnded, Works}
use Rattle.ident_rules.specs.Owned.{entries_by}
use Rattle.worker_stations.specs.declared.stations.Station.{Station}
use Rattle.serve_lines.specs.declared.served.Served.{Served}
use Rattle.serving.specs.Serving.{IsServedAt, ServesStore}

passes_len : (E : Type 0) {K : Type 0} (name : TableId) (start : Start) (k : K) (i n : ℕ) → length (passes_from {E = E} name start k i n) ≡ n
passes_len E name start k i zero = refl
passes_len E name start k i (suc n) = let m = passes_len E name start k (suc i) n in omega (arith, m)

module _ {E K : Type 0} (name : TableId) (start : Start) (k : K) where
  passes_at : (i n j : ℕ) (d : PassState E K) → j < n → get_or (passes_from {E = E} name start k i n) j d ≡ new_pass name start k (i + j)
  passes_at i zero j d h = absurd (omega (arith, h))
  passes_at i (suc n) zero d h = let same : i ≡ i + 0 = omega arith in ap (λ (m : ℕ). new_pass {E = E} name start k m) same
  passes_at i (suc n) (suc j) d h = passes_at (suc i) n j d (omega (arith, h)) ∙ (let same : suc i + j ≡ i + suc j = omega arith in ap (λ (m : ℕ). new_pass {E = E} name start k m) same)

pub made_len : {E K : Type 0} (first n : ℕ) (k : K) (lock : LockState) (made : List (PassState E K)) → AreMade first n k lock made → length made ≡ n
made_len {E} {K} first n k lock made are = ap length are.each ∙ passes_len E lock.name lock.start k 0 n

module _ {L G E K W : Type 0} (xs ys : List (Station L G (PassState E K) W)) (made : List (PassState E K)) (first n : ℕ) (k : K) (lock : LockState) (are : AreMade first n k lock made) (len : length ys ≡ length xs) (many : n ≡ length xs)
    (given : (i : ℕ) (d : Station L G (PassState E K) W) (p : PassState E K) → i < length xs → get_or ys i d ≡ record (get_or xs i d) { pass = Some (get_or made i p) }) where
  pub gates_given : All (λ s. IsSome s.gate) xs → All (λ s. IsSome s.gate) ys
  gates_given gates = λ i d h.
      let inside : i < length xs = omega (arith, h, len) in
      subst (λ (o : Option G). IsSome o) (sym (ap (λ (s : Station L G (PassState E K) W). s.gate) (given i d (new_pass lock.name lock.start k i) inside))) (gates i d inside)

  pub listeners_given : (i : ℕ) (d : Station L G (PassState E K) W) → i < length xs → (get_or ys i d).listener ≡ (get_or xs i d).listener
  listeners_given i d h = ap (λ (s : Station L G (PassState E K) W). s.listener) (given i d (new_pass lock.name lock.start k i) h)

  pub pass_given : (i : ℕ) (d : Station L G (PassState E K) W) → i < length ys → (get_or ys i d).pass ≡ Some (new_pass lock.name lock.start k i)
  pass_given i d h =
      let p : PassState E K = new_pass lock.name lock.start k i in
      let inside : i < length xs = omega (arith, h, len) in
      let same : 0 + i ≡ i = omega arith in
      ap (λ (s : Station L G (PassState E K) W). s.pass) (given i d p inside)
      ∙ ap (λ (q : PassState E K). Some q) (ap (λ (l : List (PassState E K)). get_or l i p) are.each ∙ passes_at lock.name lock.start k 0 n i p (omega (arith, inside, many)) ∙ ap (λ (m : ℕ). new_pass {E = E} lock.name lock.start k m) same)

-- what was served from stations is served from others with the same listeners
module _ {L G P : Type 0} (m : Meaning) (plans : TaskPlans) (told : L → ListenerTold) (quota : ℕ) where
  served_from : (history : List Entry) (number : ℕ) (a b now : Station L G P WorkerEnd) → b.listener ≡ a.listener → IsServedAt plans told quota history number b now → IsServedAt plans told quota history number a now
  served_from history number a b now same s = record {
    gate = s.gate;
    pass = s.pass;
    end = s.end;
    ended = s.ended;
    counted = s.counted;
    unworn = s.unworn;
    live = s.live ∙ ap (λ (l : L). (told l).live) same;
    cause_is = subst (λ (l : L). HasEnded (told l).faults (told now.listener).faults quota s.end) same s.cause_is;
    seen = s.seen;
    prefix = s.prefix;
    own = s.own;
    works = subst (λ (l : L). Works plans (λ x mine. (x ≡ s.seen) × (mine ≡ entries_by (λ e. e.by) (number ∷ []) history)) 0 [] [] (told l) (told now.listener) s.end) same s.works;
  }

  pub serves_from : (xs ys now : List (Station L G P WorkerEnd)) (total : Served) → length ys ≡ length xs → ((i : ℕ) (d : Station L G P WorkerEnd) → i < length xs → (get_or ys i d).listener ≡ (get_or xs i d).listener)
      → ServesStore m plans told quota ys now total → ServesStore m plans told quota xs now total
  serves_from xs ys now total len same s = record {
    history = s.history;
    legal = s.legal;
    known = subst (λ (n : ℕ). All (λ e. e.by < n) s.history) len s.known;
    len = s.len ∙ len;
    each = λ i d h. served_from s.history i (get_or xs i d) (get_or ys i d) (get_or now i d) (same i d h) (s.each i d (omega (arith, h, len)));
    sessions_are = s.sessions_are;
    requests_are = s.requests_are;
    entries_are = s.entries_are;
    entries_sum = s.entries_sum;
  }
