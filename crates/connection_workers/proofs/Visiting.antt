-- A worker, so far.
use Rattle.std.proofs.Common.{◌≡◌, ℕ, ◌+◌, ◌<◌, List, [], ◌∷◌, ◌++◌, length, refl, sym, ap, subst, ◌∙◌, arith, append_assoc, append-nil, length-append, Some, None}
use Rattle.std.specs.Prelude.{IsTrue, IsFalse, IfSome, IsSome, IsNone}
use Rattle.std.proofs.lemmas.Bool.{false≢true}
use Rattle.std.specs.declared.option.Option.{Option}
use Rattle.std.specs.Io.KnownBytes.{Appends, Consumes}
use Rattle.outer_ends.specs.Causes.{Rose}
use Rattle.outer_ends.specs.Told.{SourceTold, SinkTold, Ended, ListenerTold}
use Rattle.outer_ends.specs.Connections.{IsAccepted, TellsAll, IsEndOf, Closes}
use Rattle.http_messages.specs.declared.ends.SessionEnd.{SessionEnd}
use Rattle.http_messages.specs.declared.ends.SessionEnd.TheVariants.{Closed, Refused, CutShort, ReadFault, WriteFault, NoMemory, Worn}
use Rattle.http_model.specs.Served.{Served}
use Rattle.task_forms.specs.declared.tasks.Entry.{Entry}
use Rattle.session_engine.specs.Plans.{TaskPlans}
use Rattle.session_engine.specs.Seen.{Serves, Counted, IfWorn, EndCause}
use Rattle.connection_workers.specs.Visits.{Visit, is_worn, items_of, made_by, joined_by, answered_by, IsVisit, AreVisits, NoneWorn}
use Rattle.connection_workers.specs.declared.workers.Cause.TheVariants as cause
use Rattle.connection_workers.specs.Works.{Works}

-- ---- lists with one more

joined_more : (vs : List Visit) (v : Visit) → joined_by (vs ++ v ∷ []) ≡ joined_by vs ++ v.joined
joined_more [] v = append-nil v.joined
joined_more (x ∷ vs) v = ap (λ (l : List Entry). x.joined ++ l) (joined_more vs v) ∙ sym (append_assoc x.joined (joined_by vs) v.joined)

made_more : (vs : List Visit) (v : Visit) → made_by (vs ++ v ∷ []) ≡ made_by vs ++ v.made
made_more [] v = append-nil v.made
made_more (x ∷ vs) v = ap (λ (l : List Entry). x.made ++ l) (made_more vs v) ∙ sym (append_assoc x.made (made_by vs) v.made)

items_more : (vs : List Visit) (v : Visit) → items_of (vs ++ v ∷ []) ≡ items_of vs ++ v.item ∷ []
items_more [] v = refl
items_more (x ∷ vs) v = ap (λ (l : List Ended). x.item ∷ l) (items_more vs v)

answered_more : (vs : List Visit) (v : Visit) → answered_by (vs ++ v ∷ []) ≡ answered_by vs + v.answered
answered_more [] v = omega arith
answered_more (x ∷ vs) v = omega (arith, answered_more vs v)

none_more : (vs : List Visit) (v : Visit) → NoneWorn vs → IsFalse (is_worn v.end) → NoneWorn (vs ++ v ∷ [])
none_more [] v h e = (e, tt)
none_more (x ∷ vs) v h e = (h.0, none_more vs v h.1 e)

are_more : (plans : TaskPlans) (first : ℕ) (vs : List Visit) (v : Visit) (seen : List Entry) → AreVisits plans first seen vs → IsVisit plans first ((seen ++ joined_by vs) ++ v.joined) v
    → AreVisits plans first seen (vs ++ v ∷ [])
are_more plans first [] v seen h i = (subst (λ (s : List Entry). IsVisit plans first (s ++ v.joined) v) (append-nil seen) i, tt)
are_more plans first (x ∷ vs) v seen h i =
    (h.0, are_more plans first vs v (seen ++ x.joined) h.1 (subst (λ (s : List Entry). IsVisit plans first (s ++ v.joined) v) (sym (append_assoc seen x.joined (joined_by vs))) i))

-- ---- one connection, whose bytes are told

taken_is : (t u : Option (List ℕ)) (bytes item : List ℕ) → IsSome t → IfSome t (λ b. b ≡ []) → Appends t u bytes → IfSome u (λ b. item ≡ b) → item ≡ bytes
taken_is None u bytes item told fresh more is = absurd (false≢true told)
taken_is (Some x) None bytes item told fresh more is = absurd more
taken_is (Some x) (Some y) bytes item told fresh more is = is ∙ (more ∙ ap (λ (l : List ℕ). l ++ bytes) fresh)

left_is : (P : List ℕ → Type 0) (l m : Option (List ℕ)) (bytes item : List ℕ) → IsSome l → Consumes l m bytes → IfSome m (λ b. item ≡ b) → IfSome l P → P (bytes ++ item)
left_is P None m bytes item told less is h = absurd (false≢true told)
left_is P (Some x) None bytes item told less is h = absurd less
left_is P (Some x) (Some y) bytes item told less is h = subst P (less ∙ ap (λ (k : List ℕ). bytes ++ k) (sym is)) h

rose_above : (before now : ℕ) → before ≡ 0 → Rose before now → 0 < now
rose_above before now zero rose = let r = subst (λ (n : ℕ). Rose n now) zero rose in omega (arith, r)

module _ (plans : TaskPlans) (stands : List Entry → List Entry → Type 0) (first : ℕ) (seen mine : List Entry) (source source_now : SourceTold) (sink sink_now : SinkTold) (answered : ℕ)
    (end : SessionEnd) (item : Ended) where
  is_visit : TellsAll source sink → IsAccepted source sink → EndCause source source_now sink sink_now end → IsEndOf item source_now sink_now
      → (h : Serves plans stands first seen mine source source_now sink sink_now answered end)
      → IsVisit plans first (seen ++ h.others) (record { item = item; made = h.entries; joined = h.others; answered = answered; worn = h.worn; end = end })
  is_visit tells accepted why is h =
      let taken = taken_is source.taken source_now.taken h.bytes item.taken tells.taken_told accepted.fresh.nothing_taken h.taken_more is.taken_is in
      let out = taken_is sink.written sink_now.written h.out item.written tells.written_told accepted.blank.nothing_written h.written_more is.written_is in
      let whole = left_is (λ (all : List ℕ). Served plans 0 all h.bytes h.worn answered h.entries h.out end) source.left source_now.left h.bytes item.left tells.left_told h.left_less is.left_is h.served in
      let by_taken = subst (λ (b : List ℕ). Served plans 0 (b ++ item.left) b h.worn answered h.entries h.out end) (sym taken) whole in
      record {
        served = subst (λ (o : List ℕ). Served plans 0 (item.taken ++ item.left) item.taken h.worn answered h.entries o end) (sym out) by_taken;
        worn_at = h.wearing;
        read_fault = λ e. subst (λ (n : ℕ). 0 < n) (sym is.reads_is) (rose_above source.faults source_now.faults accepted.fresh.no_faults (subst (λ (v : SessionEnd). EndCause source source_now sink sink_now v) e why).0);
        write_fault = λ e. subst (λ (n : ℕ). 0 < n) (sym is.writes_is) (rose_above sink.faults sink_now.faults accepted.blank.no_faults (subst (λ (v : SessionEnd). EndCause source source_now sink sink_now v) e why).0);
      }

-- ---- one more connection

blank : Ended
blank = record { taken = []; left = []; written = []; reads = 0; writes = 0 }

of_worn : (P : Type 0) (end : SessionEnd) → IsTrue (is_worn end) → IfWorn end P → P
of_worn P Worn is h = h
of_worn P Closed is h = absurd (false≢true is)
of_worn P (Refused s) is h = absurd (false≢true is)
of_worn P CutShort is h = absurd (false≢true is)
of_worn P ReadFault is h = absurd (false≢true is)
of_worn P WriteFault is h = absurd (false≢true is)
of_worn P NoMemory is h = absurd (false≢true is)

module _ (plans : TaskPlans) (old new : List Entry → List Entry → Type 0) (first : ℕ) (seen mine : List Entry) (start before now : ListenerTold) (sessions requests entries : ℕ)
    (source source_now : SourceTold) (sink sink_now : SinkTold) (answered made : ℕ) (end : SessionEnd)
    (tells : IsSome before.closed → TellsAll source sink) (accepted : IsAccepted source sink) (why : EndCause source source_now sink sink_now end) (closes : Closes before now source_now sink_now) where
  -- what is told of the connection, and of all so far
  told_more : (vs : List Visit) (h : Serves plans new first (seen ++ joined_by vs) (mine ++ made_by vs) source source_now sink sink_now answered end) (c : Option (List Ended))
      → IfSome c (λ items. (before.closed ≡ Some (items ++ items_of vs)) × AreVisits plans first seen vs)
      → (item : Ended) × IfSome c (λ items. (now.closed ≡ Some (items ++ items_of (vs ++ record { item = item; made = h.entries; joined = h.others; answered = answered; worn = h.worn; end = end } ∷ [])))
      × AreVisits plans first seen (vs ++ record { item = item; made = h.entries; joined = h.others; answered = answered; worn = h.worn; end = end } ∷ []))
  told_more vs h None told = (blank, tt)
  told_more vs h (Some items) told =
      let a = subst (λ (c : Option (List Ended)). IfSome c (λ xs. (item : Ended) × (now.closed ≡ Some (xs ++ item ∷ [])) × IsEndOf item source_now sink_now)) told.0 closes.appended in
      let v : Visit = record { item = a.0; made = h.entries; joined = h.others; answered = answered; worn = h.worn; end = end } in (
        a.0,
        (
          a.1 ∙ ap Some (append_assoc items (items_of vs) (a.0 ∷ []) ∙ ap (λ (xs : List Ended). items ++ xs) (sym (items_more vs v))),
          are_more plans first vs v seen told.1
              (is_visit plans new first (seen ++ joined_by vs) (mine ++ made_by vs) source source_now sink sink_now answered end a.0 (tells (subst IsSome (sym told.0) refl)) accepted why a.2 h),
        ),
      )

  module _ (p : Works plans old first seen mine start before (record { sessions = sessions; requests = requests; entries = entries; cause = cause.Quota }))
      (h : Serves plans (Counted new (length (mine ++ made_by p.visits) + made)) first (seen ++ joined_by p.visits) (mine ++ made_by p.visits) source source_now sink sink_now answered end) where
    plain : Serves plans new first (seen ++ joined_by p.visits) (mine ++ made_by p.visits) source source_now sink sink_now answered end
    plain = record {
      others = h.others;
      entries = h.entries;
      stood = h.stood.0;
      worn = h.worn;
      wearing = h.wearing;
      ends_worn = h.ends_worn;
      bytes = h.bytes;
      taken_more = h.taken_more;
      left_less = h.left_less;
      out = h.out;
      written_more = h.written_more;
      served = h.served;
    }

    visit : Ended → Visit
    visit item = record { item = item; made = h.entries; joined = h.others; answered = answered; worn = h.worn; end = end }

    stood_more : (item : Ended) → new (seen ++ joined_by (p.visits ++ visit item ∷ [])) (mine ++ made_by (p.visits ++ visit item ∷ []))
    unfolding visit
    stood_more item =
        subst (λ (q : List Entry × List Entry). new q.0 q.1)
        (λ i. ((append_assoc seen (joined_by p.visits) h.others ∙ ap (λ (xs : List Entry). seen ++ xs) (sym (joined_more p.visits (visit item)))) i, (append_assoc mine (made_by p.visits) h.entries ∙ ap (λ (xs : List Entry). mine ++ xs) (sym (made_more p.visits (visit item)))) i))
        h.stood.0

    entries_more : (item : Ended) → length (made_by (p.visits ++ visit item ∷ [])) ≡ entries + made
    unfolding visit
    entries_more item =
        let own : length ((mine ++ made_by p.visits) ++ h.entries) ≡ length (mine ++ made_by p.visits) + made = h.stood.1 in
        ap length (made_more p.visits (visit item)) ∙ omega (arith, own, p.entries_are, length-append (mine ++ made_by p.visits) h.entries, length-append (made_by p.visits) h.entries)

    pub works_more : IsFalse (is_worn end) → Works plans new first seen mine start now (record { sessions = sessions + 1; requests = requests + answered; entries = entries + made; cause = cause.Quota })
    unfolding visit plain
    works_more goes_on =
        let told = told_more p.visits plain start.closed p.told in
        record {
          visits = p.visits ++ visit told.0 ∷ [];
          stood = stood_more told.0;
          sessions_are = omega (arith, length-append p.visits (visit told.0 ∷ []), p.sessions_are);
          requests_are = omega (arith, answered_more p.visits (visit told.0), p.requests_are);
          entries_are = entries_more told.0;
          ends = none_more p.visits (visit told.0) p.ends goes_on;
          told = told.1;
        }

    pub works_worn : IsTrue (is_worn end) → Works plans new first seen mine start now (record { sessions = sessions + 1; requests = requests + answered; entries = entries + made; cause = cause.Worn })
    unfolding visit plain
    works_worn worn =
        let told = told_more p.visits plain start.closed p.told in
        record {
          visits = p.visits ++ visit told.0 ∷ [];
          stood = stood_more told.0;
          sessions_are = omega (arith, length-append p.visits (visit told.0 ∷ []), p.sessions_are);
          requests_are = omega (arith, answered_more p.visits (visit told.0), p.requests_are);
          entries_are = entries_more told.0;
          ends = record {
            front = p.visits;
            last = visit told.0;
            whole = refl;
            front_open = p.ends;
            last_worn = worn;
            at_last = ap (λ (xs : List Entry). first + length xs) (ap (λ (xs : List Entry). seen ++ xs) (joined_more p.visits (visit told.0)) ∙ sym (append_assoc seen (joined_by p.visits) h.others))
                ∙ h.wearing (of_worn (IsTrue h.worn) end worn h.ends_worn);
          };
          told = told.1;
        }

-- the list of a listener that has changed in nothing else
pub closes_from : (a b now : ListenerTold) (source : SourceTold) (sink : SinkTold) → b.closed ≡ a.closed → Closes b now source sink → Closes a now source sink
closes_from a b now source sink e h = record {
  untold = λ none. h.untold (subst (λ (c : Option (List Ended)). IsNone c) (sym e) none);
  appended = subst (λ (c : Option (List Ended)). IfSome c (λ items. (item : Ended) × (now.closed ≡ Some (items ++ item ∷ [])) × IsEndOf item source sink)) e h.appended;
}
