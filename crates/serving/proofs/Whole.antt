-- The workers of one store, each of which has worked at its station, and the whole that their passes were joined into.
use Rattle.std.proofs.Common.{◌≡◌, ℕ, ◌+◌, ◌*◌, ◌<◌, ◌≤◌, true, List, [], ◌∷◌, length, get_or, sum_by, ap, sym, subst, ◌∙◌, arith, length-append, Some}
use Rattle.std.specs.Prelude.{All, IfSome, IsSome}
use Rattle.std.specs.declared.option.Option.{Option}
use Rattle.std.proofs.lemmas.List.{get_or_default}
use mathlib.Core.List.{IsPrefix}
use Rattle.outer_ends.specs.Told.{ListenerTold}
use Rattle.http_messages.specs.declared.messages.Message.{Message}
use Rattle.http_messages.specs.declared.limits.TheConstants.{MESSAGE_LIMIT}
use Rattle.ident_rules.specs.Owned.{entries_by, is_among}
use Rattle.task_forms.specs.declared.tasks.Entry.{Entry}
use Rattle.task_forms.specs.declared.tasks.Plan.{Plan}
use Rattle.task_forms.specs.Desks.{last_number}
use Rattle.task_forms.specs.Meaning.{Meaning, IsLegal}
use Rattle.session_engine.specs.Plans.{plans_of}
use Rattle.history_lock.specs.declared.rule.Start.{Start}
use Rattle.history_lock.specs.Views.{PassState, numbers_from}
use Rattle.history_lock.specs.Making.{new_pass}
use Rattle.commit_core.specs.declared.cores.Core.{Core}
use Rattle.commit_core.specs.Serving.{ServiceState, StandsKept}
use Rattle.connection_workers.specs.declared.workers.Cause.{Cause}
use Rattle.connection_workers.specs.declared.workers.Cause.TheVariants as cause
use Rattle.connection_workers.specs.declared.workers.TheConstants.{QUOTA_LIMIT}
use Rattle.connection_workers.specs.declared.workers.WorkerEnd.{WorkerEnd}
use Rattle.connection_workers.specs.Visits.{LastWorn}
use Rattle.connection_workers.specs.Works.{EndsAre, EndsBy, Works}
use Rattle.worker_stations.specs.declared.stations.Station.{Station}
use Rattle.worker_stations.specs.Stations.{AreServed, count_of}
use Rattle.serve_lines.specs.declared.served.Served.{Served}
use Rattle.serve_lines.specs.declared.words.TheConstants.{WORKER_LIMIT}
use Rattle.serving.specs.Counts.{IsCounted, entries_at, requests_at, sessions_at}
use Rattle.serving.specs.Serving.{IsServedAt, ServesStore}
use Rattle.serving.specs.Working.{HasWorked, HavePasses, IsOfStore, IsWithin, WorkersState}
use Rattle.serving.proofs.Counting.{all_among, among_low, among_one, count_each, own_all, own_few, own_within, squeezed, sum_bound, sums_below, sums_same}

some_is : {A : Type 0} (x y : A) → Some x ≡ Some y → x ≡ y
some_is x y same = cc same

within_quota : (faults faults_now quota sessions : ℕ) (why : Cause) → EndsBy faults faults_now quota sessions why → sessions ≤ quota
within_quota faults faults_now quota sessions cause.Quota ends = let n = ends.0 in omega (arith, n)
within_quota faults faults_now quota sessions cause.AcceptFault ends = let n = ends.0 in omega (arith, n)
within_quota faults faults_now quota sessions cause.Worn ends = ends.1

prefix_low : {A : Type 0} (xs ys : List A) → IsPrefix xs ys → length xs ≤ length ys
prefix_low xs ys p = let n = ap length p.1 in let m = length-append xs p.0 in omega (arith, n, m)

-- a list that is not empty has an item
pub some_item : {A : Type 0} (xs : List A) → 0 < length xs → A
some_item [] some = absurd (omega (arith, some))
some_item (x ∷ xs) some = x

-- the same under the names of the call
pub served_as : {L G S P K : Type 0} (kind : S → K) (planned : P → Message → Plan) (told : L → ListenerTold) (v w : WorkersState S P) (whole : PassState Entry K) (xs ys : List (Station L G (PassState Entry K) WorkerEnd)) → v ≡ w
    → AreServed (HasWorked (planned v.planner) told v.quota) (IsOfStore kind v.service) IsWithin (λ (p : PassState Entry K). p.view.mine) whole xs ys
    → AreServed (HasWorked (planned w.planner) told w.quota) (IsOfStore kind w.service) IsWithin (λ (p : PassState Entry K). p.view.mine) whole xs ys
served_as {L} {G} {S} {P} {K} kind planned told v w whole xs ys same served =
    subst (λ (u : WorkersState S P). AreServed (HasWorked (planned u.planner) told u.quota) (IsOfStore kind u.service) IsWithin (λ (p : PassState Entry K). p.view.mine) whole xs ys) same served

module _ {L G S K : Type 0} (kind : S → K) (planned : Message → Plan) (told : L → ListenerTold) (quota : ℕ) (service : ServiceState S) (whole : PassState Entry K)
    (xs ys : List (Station L G (PassState Entry K) WorkerEnd)) (low : quota ≤ QUOTA_LIMIT) (few : length xs ≤ WORKER_LIMIT)
    (start : service.lock.start ≡ record { first = 0; passes = length xs }) (have : HavePasses service.lock.name service.lock.start (kind service.subject) xs)
    (served : AreServed (HasWorked planned told quota) (IsOfStore kind service) IsWithin (λ (p : PassState Entry K). p.view.mine) whole xs ys) where
  -- ---- one station

  module _ (i : ℕ) (d : Station L G (PassState Entry K) WorkerEnd) (h : i < length served.middle) where
    worked : HasWorked planned told quota (get_or xs i d) (get_or served.middle i d)
    worked = (served.ran_each i d h).ran_so

    old_is : worked.old ≡ new_pass service.lock.name service.lock.start (kind service.subject) i
    old_is = let n = served.len in some_is _ _ (sym worked.had ∙ have i d (omega (arith, h, n)))

    number_is : worked.pass.view.numbers ≡ i ∷ []
    number_is = worked.numbers ∙ ap (λ (p : PassState Entry K). p.view.numbers) old_is

    first_is : worked.old.view.first ≡ 0
    first_is = ap (λ (p : PassState Entry K). p.view.first) old_is ∙ ap (λ (s : Start). s.first) start

    within : IsWithin worked.pass whole
    within = subst (λ (o : Option (PassState Entry K)). IfSome o (λ p. IsWithin p whole)) worked.has (served.joined_each i d h)

    own : entries_by (λ e. e.by) (i ∷ []) worked.pass.view.seen ≡ worked.pass.view.mine
    own = subst (λ (ns : List ℕ). entries_by (λ e. e.by) ns worked.pass.view.seen ≡ worked.pass.view.mine) number_is worked.own

    count : count_of (λ (p : PassState Entry K). p.view.mine) (get_or served.middle i d).pass ≡ length worked.pass.view.mine
    count = ap (count_of (λ (p : PassState Entry K). p.view.mine)) worked.has

    made : length worked.pass.view.mine ≡ worked.end.entries
    made = sym (ap length worked.works.stood.1) ∙ worked.works.entries_are

    sessions_low : worked.end.sessions ≤ quota
    sessions_low = within_quota (told (get_or xs i d).listener).faults (told (get_or served.middle i d).listener).faults quota worked.end.sessions worked.end.cause worked.cause

    entries_low : worked.end.entries ≤ 1000000000000
    entries_low = let n = sessions_low in let m = worked.counted.entries in omega (arith, n, m, low)

    requests_low : worked.end.requests ≤ MESSAGE_LIMIT * QUOTA_LIMIT
    requests_low = let n = sessions_low in let m = worked.counted.requests in omega (arith, n, m, low)

    ended : (get_or ys i d).end ≡ Some worked.end
    ended = (served.taken_each i d h).end ∙ worked.ended

    among : is_among i whole.view.numbers ≡ true
    among = within.numbers i (subst (λ (ns : List ℕ). is_among i ns ≡ true) (sym number_is) (among_one i))

  -- the whole has all numbers
  pub has_all : 0 < length xs → (n : ℕ) → n < service.lock.start.passes → is_among n whole.view.numbers ≡ true
  has_all some n h =
      let passes = ap (λ (s : Start). s.passes) start in
      let len = served.len in
      among n (some_item xs some) (omega (arith, h, passes, len))

  -- what is counted behind the workers
  pub counted : All (λ s. IsCounted s.end) ys
  counted = λ i d h.
      let n = served.len_now in
      let inside : i < length served.middle = omega (arith, h, n) in
      subst IsCounted (sym (ended i d inside)) (record { sessions = (let m = sessions_low i d inside in omega (arith, m, low)); requests = requests_low i d inside })

  pub few_now : length ys ≤ WORKER_LIMIT
  few_now = let n = served.len_now in let m = served.len in omega (arith, n, m, few)

  -- ---- the history

  abbrev pub history : List Entry
  history = whole.view.seen

  abbrev mine_at : Station L G (PassState Entry K) WorkerEnd → ℕ
  mine_at s = count_of (λ (p : PassState Entry K). p.view.mine) s.pass

  abbrev own_at : ℕ → ℕ
  own_at k = length (entries_by (λ e. e.by) (k ∷ []) history)

  below : (i : ℕ) (d : Station L G (PassState Entry K) WorkerEnd) → i < length served.middle → mine_at (get_or served.middle i d) ≤ own_at (0 + i)
  below i d h =
      let n = count i d h in
      let m = ap length (own i d h) in
      let l = own_within (λ e. e.by) (i ∷ []) (worked i d h).pass.view.seen history (within i d h).seen in
      let same : i ≡ 0 + i = omega arith in
      subst (λ (k : ℕ). mine_at (get_or served.middle i d) ≤ own_at k) same (omega (arith, n, m, l))

  module _ (all : whole.view.mine ≡ whole.view.seen) where
    entries : length history ≡ sum_by mine_at served.middle
    entries = sym (ap length all) ∙ served.entries

    no_more : sum_by own_at (numbers_from 0 (length served.middle)) ≤ sum_by mine_at served.middle
    no_more =
        let n = count_each (λ e. e.by) 0 (length served.middle) history in
        let m = own_few (λ e. e.by) (numbers_from 0 (length served.middle)) history in
        let l = entries in
        omega (arith, n, m, l)

    each : (i : ℕ) (d : Station L G (PassState Entry K) WorkerEnd) → i < length served.middle → mine_at (get_or served.middle i d) ≡ own_at i
    each i d h = let same : 0 + i ≡ i = omega arith in squeezed mine_at own_at served.middle 0 below no_more i d h ∙ ap own_at same

    own_there : (i : ℕ) (d : Station L G (PassState Entry K) WorkerEnd) (h : i < length served.middle) → entries_by (λ e. e.by) (i ∷ []) (worked i d h).pass.view.seen ≡ entries_by (λ e. e.by) (i ∷ []) history
    own_there i d h = own_all (λ e. e.by) (i ∷ []) (worked i d h).pass.view.seen history (within i d h).seen (ap length (own i d h) ∙ (sym (count i d h) ∙ each i d h))

    known : All (λ e. e.by < length xs) history
    known =
        let low = sums_below mine_at own_at served.middle 0 below in
        let n = count_each (λ e. e.by) 0 (length served.middle) history in
        let m = entries in
        let k = served.len in
        let among = all_among (λ e. e.by) (numbers_from 0 (length served.middle)) history (omega (arith, low, n, m)) in
        λ j d h. let small = among_low (get_or history j d).by 0 (length served.middle) (among j d h) in omega (arith, small, k)

    sum : length history ≡ sum_by (λ (s : Station L G (PassState Entry K) WorkerEnd). entries_at s.end) ys
    sum = entries ∙ sums_same mine_at (λ (s : Station L G (PassState Entry K) WorkerEnd). entries_at s.end) served.middle ys served.len_now
        (λ j d e h. let n = served.len_now in
        count j d h ∙ made j d h ∙ sym (ap entries_at (ended j d h)) ∙ ap (λ (s : Station L G (PassState Entry K) WorkerEnd). entries_at s.end) (get_or_default ys j d e (omega (arith, h, n))))

    short : length history < last_number
    short =
        let n = sum_bound mine_at served.middle (λ j d h. let a = count j d h in let b = made j d h in let c = entries_low j d h in omega (arith, a, b, c)) in
        let m = entries in
        let k = served.len in
        omega (arith, n, m, k, few)

    module _ (i : ℕ) (d : Station L G (PassState Entry K) WorkerEnd) (h : i < length served.middle) where
      unworn : (worked i d h).end.cause ≡ cause.Worn → ⊥
      unworn is =
          let works = (worked i d h).works in
          let last : LastWorn (worked i d h).old.view.first [] works.visits = subst (λ (why : Cause). EndsAre (worked i d h).old.view.first [] why works.visits) is works.ends in
          let n = last.at_last in
          let m = ap length works.stood.0 in
          let k = prefix_low (worked i d h).pass.view.seen history (within i d h).seen in
          let l = first_is i d h in
          let s = short in
          absurd (omega (arith, n, m, k, l, s))

      works_in : (first : ℕ) (seen mine : List Entry) (before now : ListenerTold) (end : WorkerEnd) → first ≡ 0 → mine ≡ entries_by (λ e. e.by) (i ∷ []) history
          → Works (plans_of planned) (λ s m. (s ≡ seen) × (m ≡ mine)) first [] [] before now end
          → Works (plans_of planned) (λ s m. (s ≡ seen) × (m ≡ entries_by (λ e. e.by) (i ∷ []) history)) 0 [] [] before now end
      works_in first seen mine before now end zero_first same works =
          subst (λ (l : List Entry). Works (plans_of planned) (λ s m. (s ≡ seen) × (m ≡ l)) 0 [] [] before now end) same
          (subst (λ (n : ℕ). Works (plans_of planned) (λ s m. (s ≡ seen) × (m ≡ mine)) n [] [] before now end) zero_first works)

      served_at : IsServedAt (plans_of planned) told quota history i (get_or xs i d) (get_or ys i d)
      served_at =
          let at = worked i d h in
          let taken = served.taken_each i d h in
          let listener = taken.listener in record {
            gate = subst (λ (o : Option G). IsSome o) (sym taken.gate) at.gate;
            pass = taken.pass;
            end = at.end;
            ended = ended i d h;
            counted = at.counted;
            unworn = unworn;
            live = ap (λ (l : L). (told l).live) listener ∙ at.live;
            cause_is = subst (λ (l : L). EndsBy (told (get_or xs i d).listener).faults (told l).faults quota at.end.sessions at.end.cause) (sym listener) at.cause;
            seen = at.pass.view.seen;
            prefix = (within i d h).seen;
            own = own_there i d h;
            works = subst (λ (l : L). Works (plans_of planned) (λ s m. (s ≡ at.pass.view.seen) × (m ≡ entries_by (λ e. e.by) (i ∷ []) history)) 0 [] [] (told (get_or xs i d).listener) (told l) at.end) (sym listener)
                (works_in at.old.view.first at.pass.view.seen at.pass.view.mine (told (get_or xs i d).listener) (told (get_or served.middle i d).listener) at.end (first_is i d h) (sym (own i d h) ∙ own_there i d h) at.works);
          }

    -- all that the workers came to
    pub serves_store : (meaning : K → Meaning) (core : Core S) (total : Served) (count : ℕ) → IsOfStore kind service whole → StandsKept kind meaning core whole.view.first whole.view.seen → whole.view.kind ≡ Some (kind core.subject)
        → count ≡ length whole.view.seen → total.sessions ≡ sum_by (λ s. sessions_at s.end) ys → total.requests ≡ sum_by (λ s. requests_at s.end) ys → total.entries ≡ count
        → ServesStore (meaning (kind service.subject)) (plans_of planned) told quota xs ys total
    serves_store meaning core total count of_store stands kinds counts sessions requests entries_told =
        let same : kind core.subject ≡ kind service.subject = some_is _ _ (sym kinds ∙ of_store.own.1) in
        let n = served.len in record {
          history = history;
          legal = subst (λ (k : K). IsLegal (meaning k) (meaning k).empty history) same stands.1.legal;
          known = known;
          len = served.len_now ∙ served.len;
          each = λ i d h. served_at i d (omega (arith, h, n));
          sessions_are = sessions;
          requests_are = requests;
          entries_are = entries_told ∙ counts;
          entries_sum = entries_told ∙ counts ∙ sum;
        }
