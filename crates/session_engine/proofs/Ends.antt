-- Messages that were answered, one after another, and the end behind them.
use Rattle.std.proofs.Common.{◌≡◌, ℕ, ◌+◌, Bool, List, [], ◌∷◌, ◌++◌, refl, sym, ap, subst, ◌∙◌, append_assoc, append-nil, ◌⊎◌, inl, inr, Some, None}
use Rattle.std.specs.Prelude.{IsTrue, IsFalse, IfSome}
use Rattle.std.proofs.lemmas.Grind.{flat_map-append}
use Rattle.std.proofs.lemmas.List.Elements.{All-append, All-nil, All-cons}
use Rattle.std.specs.declared.option.Option.{Option}
use Rattle.std.specs.Io.KnownBytes.{Consumes, IsAtEnd}
use Rattle.http_messages.specs.declared.ends.SessionEnd.{SessionEnd}
use Rattle.http_messages.specs.declared.ends.SessionEnd.TheVariants.{Closed, Refused, CutShort, ReadFault, WriteFault, NoMemory, Worn}
use Rattle.http_model.specs.Requests.{ReadsMessage}
use Rattle.http_model.specs.Exchanges.{Exchange, IsAnswer, Runs, closes_by, StaysOpen, LastCloses, sent_by, text_of, entries_of}
use Rattle.http_model.specs.Served.{RefusalText, EndsEarly, EndsTask, CanBeCut, in_reply, in_refusal, in_last, EndIs, read_at, Served}
use Rattle.http_model.specs.Laws.{ReadStays}
use Rattle.task_forms.specs.declared.tasks.Entry.{Entry}
use Rattle.session_engine.specs.Plans.{TaskPlans}
use Rattle.session_engine.specs.Seen.{Answers, IsStable, Settles}
use Rattle.session_engine.proofs.Growth.{runs_more}

-- ---- lists of exchanges

text_join : (xs ys : List (Exchange Entry)) → text_of (xs ++ ys) ≡ text_of xs ++ text_of ys
text_join xs ys = flat_map-append sent_by xs ys

entries_join : (xs ys : List (Exchange Entry)) → entries_of (xs ++ ys) ≡ entries_of xs ++ entries_of ys
entries_join xs ys = flat_map-append (λ x. x.entries) xs ys

stays_join : (xs ys : List (Exchange Entry)) → StaysOpen xs → StaysOpen ys → StaysOpen (xs ++ ys)
stays_join xs ys p q = All-append (λ x. IsFalse (closes_by x)) xs ys p q

runs_then : (plans : TaskPlans) (i : ℕ) (a : List ℕ) (xs : List (Exchange Entry)) (j : ℕ) (b : List ℕ) (ys : List (Exchange Entry)) (k : ℕ) (c : List ℕ)
    → Runs plans i a xs j b → Runs plans j b ys k c → Runs plans i a (xs ++ ys) k c
runs_then plans i a [] j b ys k c p q =
    subst (λ (n : ℕ). Runs plans n a ys k c) p.0 (subst (λ (l : List ℕ). Runs plans j l ys k c) (sym p.1) q)
runs_then plans i a (x ∷ xs) j b ys k c p q = (p.0, p.1, p.2, p.3, runs_then plans x.number p.0 xs j b ys k c p.4 q)

-- ---- answers

pub answers_none : (plans : TaskPlans) (i : ℕ) (a : List ℕ) → Answers plans i a i a [] []
answers_none plans i a =
    record { exchanges = []; runs = (refl, refl); stays = All-nil (λ x. IsFalse (closes_by x)); joined = refl; text = refl }

run_one : (plans : TaskPlans) (i : ℕ) (a : List ℕ) (x : Exchange Entry) (b : List ℕ) → ReadsMessage a x.message b → x.number ≡ i + 1
    → IsAnswer plans (plans.plan x.message) x.reply x.entries → Runs plans i a (x ∷ []) x.number b
run_one plans i a x b h n answer = (b, h, n, answer, (refl, refl))

pub answers_one : (plans : TaskPlans) (i : ℕ) (a : List ℕ) (x : Exchange Entry) (b : List ℕ) → ReadsMessage a x.message b → x.number ≡ i + 1
    → IsAnswer plans (plans.plan x.message) x.reply x.entries → IsFalse (closes_by x) → Answers plans i a x.number b x.entries (sent_by x)
answers_one plans i a x b h n answer stays = record {
  exchanges = x ∷ [];
  runs = run_one plans i a x b h n answer;
  stays = All-cons (λ y. IsFalse (closes_by y)) x [] stays (All-nil (λ y. IsFalse (closes_by y)));
  joined = sym (append-nil x.entries);
  text = sym (append-nil (sent_by x));
}

pub answers_then : (plans : TaskPlans) (i : ℕ) (a : List ℕ) (j : ℕ) (b : List ℕ) (k : ℕ) (c : List ℕ) (xs ys : List Entry) (s t : List ℕ)
    → Answers plans i a j b xs s → Answers plans j b k c ys t → Answers plans i a k c (xs ++ ys) (s ++ t)
answers_then plans i a j b k c xs ys s t p q = record {
  exchanges = p.exchanges ++ q.exchanges;
  runs = runs_then plans i a p.exchanges j b q.exchanges k c p.runs q.runs;
  stays = stays_join p.exchanges q.exchanges p.stays q.stays;
  joined = joined p.joined q.joined ∙ sym (entries_join p.exchanges q.exchanges);
  text = both p.text q.text ∙ sym (text_join p.exchanges q.exchanges);
}
  where
    joined : {d e f g : List Entry} → d ≡ e → f ≡ g → d ++ f ≡ e ++ g
    joined u v = λ i. u i ++ v i

    both : {d e f g : List ℕ} → d ≡ e → f ≡ g → d ++ f ≡ e ++ g
    both u v = λ i. u i ++ v i

pub answers_more : ReadStays → (plans : TaskPlans) (i : ℕ) (a : List ℕ) (j : ℕ) (b y : List ℕ) (xs : List Entry) (s : List ℕ)
    → Answers plans i a j b xs s → Answers plans i (a ++ y) j (b ++ y) xs s
answers_more laws plans i a j b y xs s p = record {
  exchanges = p.exchanges;
  runs = runs_more laws plans i a p.exchanges j b y p.runs;
  stays = p.stays;
  joined = p.joined;
  text = p.text;
}

-- ---- ends

read_same : (end : SessionEnd) (a : List ℕ) → read_at end a a ≡ a
read_same Closed a = refl
read_same (Refused s) a = refl
read_same CutShort a = refl
read_same ReadFault a = refl
read_same WriteFault a = refl
read_same NoMemory a = refl
read_same Worn a = refl

-- an end at once, by what stands at the front
pub settles_at : (plans : TaskPlans) (i : ℕ) (seen : List ℕ) (left : Option (List ℕ)) (w : Bool) (more : List Entry) (tail : List ℕ) (end : SessionEnd)
    → EndIs plans w [] i seen more tail end → IsAtEnd left ⊎ IsStable end [] → Settles plans i seen left w i more tail end
settles_at plans i seen left w more tail end h final = record {
  served = record { untaken = []; front = sym (append-nil seen); exchanges = []; rest = seen; more = more; tail = tail; runs = (refl, read_same end seen); joined = refl; sent = refl; ends = h };
  final = final;
}

pub no_exchange : StaysOpen {E = Entry} []
no_exchange = All-nil (λ x. IsFalse (closes_by x))

last_then : (xs ys : List (Exchange Entry)) → StaysOpen xs → LastCloses ys → LastCloses (xs ++ ys)
last_then xs ys p h = record {
  front = xs ++ h.front;
  last = h.last;
  whole = ap (λ (l : List (Exchange Entry)). xs ++ l) h.whole ∙ sym (append_assoc xs h.front (h.last ∷ []));
  open_front = stays_join xs h.front p h.open_front;
  closing = h.closing;
}

-- the end is that of the later exchanges
ends_then : (plans : TaskPlans) (w : Bool) (xs ys : List (Exchange Entry)) (k : ℕ) (rest : List ℕ) (more : List Entry) (tail : List ℕ) (end : SessionEnd)
    → StaysOpen xs → EndIs plans w ys k rest more tail end → EndIs plans w (xs ++ ys) k rest more tail end
ends_then plans w xs ys k rest more tail Closed p (inl h, e, f) = (inl (stays_join xs ys p h.0, h.1), e, f)
ends_then plans w xs ys k rest more tail Closed p (inr h, e, f) = (inr (last_then xs ys p h), e, f)
ends_then plans w xs ys k rest more tail (Refused s) p h = (stays_join xs ys p h.0, h.1, h.2)
ends_then plans w xs ys k rest more tail CutShort p h = (stays_join xs ys p h.0, h.1, h.2)
ends_then plans w xs ys k rest more tail ReadFault p h = (stays_join xs ys p h.0, h.1, h.2)
ends_then plans w xs ys k rest more tail WriteFault p h = (stays_join xs ys p h.0, h.1)
ends_then plans w xs ys k rest more tail NoMemory p h = (stays_join xs ys p h.0, h.1, h.2)
ends_then plans w xs ys k rest more tail Worn p h = (stays_join xs ys p h.0, h.1, h.2, h.3)

stable_then : (xs ys : List (Exchange Entry)) (end : SessionEnd) → StaysOpen xs → IsStable end ys → IsStable end (xs ++ ys)
stable_then xs ys Closed p h = last_then xs ys p h
stable_then xs ys (Refused s) p h = tt
stable_then xs ys CutShort p h = absurd h
stable_then xs ys ReadFault p h = tt
stable_then xs ys WriteFault p h = tt
stable_then xs ys NoMemory p h = tt
stable_then xs ys Worn p h = tt

pub settles_then : (plans : TaskPlans) (i : ℕ) (a : List ℕ) (j : ℕ) (b : List ℕ) (left : Option (List ℕ)) (w : Bool) (k : ℕ) (xs ys : List Entry) (s t : List ℕ)
    (end : SessionEnd) → Answers plans i a j b xs s → Settles plans j b left w k ys t end → Settles plans i a left w k (xs ++ ys) (s ++ t) end
settles_then plans i a j b left w k xs ys s t end p q = record {
  served = record {
    untaken = [];
    front = sym (append-nil a);
    exchanges = p.exchanges ++ q.served.exchanges;
    rest = q.served.rest;
    more = q.served.more;
    tail = q.served.tail;
    runs = subst (λ (l : List ℕ). Runs plans i l (p.exchanges ++ q.served.exchanges) k q.served.rest) (sym (read_same end a))
        (runs_then plans i a p.exchanges j b q.served.exchanges k q.served.rest p.runs
        (subst (λ (l : List ℕ). Runs plans j l q.served.exchanges k q.served.rest) (read_same end b) q.served.runs));
    joined = joined p.joined q.served.joined ∙ sym (append_assoc (entries_of p.exchanges) (entries_of q.served.exchanges) q.served.more)
        ∙ ap (λ (l : List Entry). l ++ q.served.more) (sym (entries_join p.exchanges q.served.exchanges));
    sent = both p.text q.served.sent ∙ sym (append_assoc (text_of p.exchanges) (text_of q.served.exchanges) q.served.tail)
        ∙ ap (λ (l : List ℕ). l ++ q.served.tail) (sym (text_join p.exchanges q.served.exchanges));
    ends = ends_then plans w p.exchanges q.served.exchanges k q.served.rest q.served.more q.served.tail end p.stays q.served.ends;
  };
  final = final q.final;
}
  where
    joined : {d e f g : List Entry} → d ≡ e → f ≡ g → d ++ f ≡ e ++ g
    joined u v = λ i. u i ++ v i

    both : {d e f g : List ℕ} → d ≡ e → f ≡ g → d ++ f ≡ e ++ g
    both u v = λ i. u i ++ v i

    final : IsAtEnd left ⊎ IsStable end q.served.exchanges → IsAtEnd left ⊎ IsStable end (p.exchanges ++ q.served.exchanges)
    final (inl h) = inl h
    final (inr h) = inr (stable_then p.exchanges q.served.exchanges end p.stays h)

-- the last message closes
pub settles_last : (plans : TaskPlans) (i : ℕ) (seen : List ℕ) (left : Option (List ℕ)) (w : Bool) (x : Exchange Entry) (rest : List ℕ)
    → ReadsMessage seen x.message rest → x.number ≡ i + 1 → IsAnswer plans (plans.plan x.message) x.reply x.entries → IsTrue (closes_by x)
    → Settles plans i seen left w x.number x.entries (sent_by x) Closed
settles_last plans i seen left w x rest h n answer closing = record {
  served = record {
    untaken = [];
    front = sym (append-nil seen);
    exchanges = x ∷ [];
    rest = rest;
    more = [];
    tail = [];
    runs = run_one plans i seen x rest h n answer;
    joined = sym (append-nil (x.entries ++ []) ∙ append-nil x.entries);
    sent = sym (append-nil (sent_by x ++ []) ∙ append-nil (sent_by x));
    ends = (inr last, refl, refl);
  };
  final = inr last;
}
  where
    last : LastCloses (x ∷ [])
    last = record { front = []; last = x; whole = refl; open_front = no_exchange; closing = closing }

-- ---- over all that stood there

refusal_more : ReadStays → (a y text : List ℕ) (s : ℕ) → RefusalText a s text → RefusalText (a ++ y) s text
refusal_more laws a y text s h = record {
  why = h.why;
  early = h.early;
  head_only = h.head_only;
  refused = laws.refused a y h.why h.early h.head_only h.refused;
  status_of = h.status_of;
  whole = h.whole;
}

early_more : ReadStays → (a y last text : List ℕ) → EndsEarly a last text → EndsEarly (a ++ y) last text
early_more laws a y last text h = record { early = h.early; is_early = laws.early a y h.early h.is_early; whole = h.whole }

task_more : ReadStays → (plans : TaskPlans) (a y last text : List ℕ) → EndsTask plans a last text → EndsTask plans (a ++ y) last text
task_more laws plans a y last text n = record {
  message = n.message;
  after = n.after ++ y;
  reads = laws.message a y n.message n.after n.reads;
  task = n.task;
  planned = n.planned;
  whole = n.whole;
}

cut_more : ReadStays → (plans : TaskPlans) (w : Bool) (k : ℕ) (a y : List ℕ) (more : List Entry) (text : List ℕ)
    → CanBeCut plans w k a more text → CanBeCut plans w k (a ++ y) more text
cut_more laws plans w k a y more text (in_reply m after r h n e) = in_reply m (after ++ y) r (laws.message a y m after h) n e
cut_more laws plans w k a y more text (in_refusal s h n) = in_refusal s (refusal_more laws a y text s h) n
cut_more laws plans w k a y more text (in_last h n) = in_last (early_more laws a y _ text h) n

-- an end that does not turn on the end of the input is the same over more bytes
grown : ReadStays → (plans : TaskPlans) (i : ℕ) (a y : List ℕ) (w : Bool) (k : ℕ) (xs : List Entry) (out : List ℕ) (end : SessionEnd)
    (h : Served plans i a a w k xs out end) → IsStable end h.exchanges → Served plans i (a ++ y) a w k xs out end
grown laws plans i a y w k xs out Closed h stable = record {
  untaken = y;
  front = refl;
  exchanges = h.exchanges;
  rest = h.rest ++ y;
  more = h.more;
  tail = h.tail;
  runs = runs_more laws plans i a h.exchanges k h.rest y h.runs;
  joined = h.joined;
  sent = h.sent;
  ends = (inr stable, h.ends.1, h.ends.2);
}
grown laws plans i a y w k xs out (Refused s) h stable = record {
  untaken = y;
  front = refl;
  exchanges = h.exchanges;
  rest = h.rest ++ y;
  more = h.more;
  tail = h.tail;
  runs = runs_more laws plans i a h.exchanges k h.rest y h.runs;
  joined = h.joined;
  sent = h.sent;
  ends = (h.ends.0, refusal_more laws h.rest y h.tail s h.ends.1, h.ends.2);
}
grown laws plans i a y w k xs out CutShort h stable = absurd stable
grown laws plans i a y w k xs out ReadFault h stable = record {
  untaken = y;
  front = refl;
  exchanges = h.exchanges;
  rest = h.rest;
  more = h.more;
  tail = h.tail;
  runs = h.runs;
  joined = h.joined;
  sent = h.sent;
  ends = h.ends;
}
grown laws plans i a y w k xs out WriteFault h stable = record {
  untaken = y;
  front = refl;
  exchanges = h.exchanges;
  rest = h.rest ++ y;
  more = h.more;
  tail = h.tail;
  runs = runs_more laws plans i a h.exchanges k h.rest y h.runs;
  joined = h.joined;
  sent = h.sent;
  ends = (h.ends.0, (h.ends.1.0, cut_more laws plans w k h.rest y h.more h.ends.1.0 h.ends.1.1, h.ends.1.2));
}
grown laws plans i a y w k xs out NoMemory h stable = record {
  untaken = y;
  front = refl;
  exchanges = h.exchanges;
  rest = h.rest ++ y;
  more = h.more;
  tail = h.tail;
  runs = runs_more laws plans i a h.exchanges k h.rest y h.runs;
  joined = h.joined;
  sent = h.sent;
  ends = (h.ends.0, early_more laws h.rest y _ h.tail h.ends.1, h.ends.2);
}
grown laws plans i a y w k xs out Worn h stable = record {
  untaken = y;
  front = refl;
  exchanges = h.exchanges;
  rest = h.rest ++ y;
  more = h.more;
  tail = h.tail;
  runs = runs_more laws plans i a h.exchanges k h.rest y h.runs;
  joined = h.joined;
  sent = h.sent;
  ends = (h.ends.0, task_more laws plans h.rest y _ h.tail h.ends.1, h.ends.2, h.ends.3);
}

pub served_over : ReadStays → (plans : TaskPlans) (i : ℕ) (a y : List ℕ) (w : Bool) (k : ℕ) (xs : List Entry) (out : List ℕ) (end : SessionEnd)
    → Settles plans i a (Some y) w k xs out end → Served plans i (a ++ y) a w k xs out end
served_over laws plans i a y w k xs out end h = by_end h.final
  where
    by_end : IsAtEnd (Some y) ⊎ IsStable end h.served.exchanges → Served plans i (a ++ y) a w k xs out end
    by_end (inl none) =
        subst (λ (l : List ℕ). Served plans i l a w k xs out end) (sym (append-nil a) ∙ ap (λ (l : List ℕ). a ++ l) (sym none)) h.served
    by_end (inr stable) = grown laws plans i a y w k xs out end h.served stable

-- where the source tells what is left, it is so over all of that, however it was cut
pub served_told : ReadStays → (plans : TaskPlans) (i : ℕ) (a : List ℕ) (left now : Option (List ℕ)) (w : Bool) (k : ℕ) (xs : List Entry) (out : List ℕ) (end : SessionEnd)
    → Consumes left now a → Settles plans i a now w k xs out end → IfSome left (λ all. Served plans i all a w k xs out end)
served_told laws plans i a None now w k xs out end p h = tt
served_told laws plans i a (Some all) None w k xs out end p h = absurd p
served_told laws plans i a (Some all) (Some y) w k xs out end p h =
    subst (λ (l : List ℕ). Served plans i l a w k xs out end) (sym p) (served_over laws plans i a y w k xs out end h)
