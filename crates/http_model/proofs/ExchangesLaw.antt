-- The exchanges of a connection are the messages of its bytes, and one list where the entries are known.
use Rattle.std.proofs.Common.{◌≡◌, ℕ, ◌+◌, List, [], ◌∷◌, ◌++◌, length, map, refl, sym, ap, subst, ◌∙◌, append_assoc, ◌⊎◌, inl, inr, arith, length-append}
use Rattle.std.specs.Prelude.{IsTrue, IsFalse}
use Rattle.std.proofs.lemmas.List.Elements.{All-head, All-tail}
use Rattle.http_messages.specs.declared.messages.Message.{Message}
use Rattle.http_messages.specs.declared.messages.Reply.{Reply}
use Rattle.http_model.specs.Framings.{closes}
use Rattle.http_model.specs.Requests.{ReadsMessage, ReadsMessages, LastMessageCloses, HasNoMessage, AreRequests}
use Rattle.http_model.specs.Exchanges.{Planned, planned_reply, planned_task, Plans, Exchange, IsAnswer, Runs, closes_by, StaysOpen, LastCloses, AreAllAnswered, entries_of}
use Rattle.http_model.proofs.Requests.{message_unique, not_both}

-- ---- where exchanges end

none_closes : {E : Type 0} → LastCloses {E = E} [] → ⊥
none_closes l = absurd (omega (arith, ap length l.whole, length-append l.front (l.last ∷ [])))

-- the first of some exchanges is the last and closes, or it does not close and the others end as all do
pub whole_step : {E : Type 0} → (x : Exchange E) (xs : List (Exchange E)) (rest : List ℕ) → AreAllAnswered (x ∷ xs) rest
    → ((xs ≡ []) × IsTrue (closes_by x)) ⊎ (IsFalse (closes_by x) × AreAllAnswered xs rest)
whole_step x xs rest (inl (stays, none)) = inr (All-head (λ y. IsFalse (closes_by y)) x xs stays, inl (All-tail (λ y. IsFalse (closes_by y)) x xs stays, none))
whole_step {E} x xs rest (inr l) = at l.front l.whole l.open_front
  where
    at : (front : List (Exchange E)) → x ∷ xs ≡ front ++ l.last ∷ [] → StaysOpen front → ((xs ≡ []) × IsTrue (closes_by x)) ⊎ (IsFalse (closes_by x) × AreAllAnswered xs rest)
    at [] e stays = inl (rest_of e, subst (λ (y : Exchange E). IsTrue (closes_by y)) (sym (first_of e)) l.closing)
      where
        first_of : x ∷ xs ≡ l.last ∷ [] → x ≡ l.last
        first_of k = cc

        rest_of : x ∷ xs ≡ l.last ∷ [] → xs ≡ []
        rest_of k = cc
    at (y ∷ ys) e stays = inr (
      subst (λ (z : Exchange E). IsFalse (closes_by z)) (sym (first_of e)) (All-head (λ z. IsFalse (closes_by z)) y ys stays),
      inr (record { front = ys; last = l.last; whole = rest_of e; open_front = All-tail (λ z. IsFalse (closes_by z)) y ys stays; closing = l.closing }),
    )
      where
        first_of : x ∷ xs ≡ y ∷ (ys ++ l.last ∷ []) → x ≡ y
        first_of k = cc

        rest_of : x ∷ xs ≡ y ∷ (ys ++ l.last ∷ []) → xs ≡ ys ++ l.last ∷ []
        rest_of k = cc

-- where the last closes, not all stay open
pub open_apart : {E : Type 0} → (xs : List (Exchange E)) → StaysOpen xs → LastCloses xs → ⊥
open_apart {E} xs stays l = at l.front (subst StaysOpen l.whole stays)
  where
    at : (front : List (Exchange E)) → StaysOpen (front ++ l.last ∷ []) → ⊥
    at [] h = not_both (closes_by l.last) (All-head (λ y. IsFalse (closes_by y)) l.last [] h) l.closing
    at (y ∷ ys) h = at ys (All-tail (λ z. IsFalse (closes_by z)) y (ys ++ l.last ∷ []) h)

runs_nothing : {T E : Type 0} → (plans : Plans T E) (i : ℕ) (bytes : List ℕ) (xs : List (Exchange E)) (j : ℕ) (rest : List ℕ) → xs ≡ [] → Runs plans i bytes xs j rest
    → (j ≡ i) × (bytes ≡ rest)
runs_nothing {T} {E} plans i bytes xs j rest e h = subst (λ (l : List (Exchange E)). Runs plans i bytes l j rest) e h

-- ---- the exchanges are the messages

abbrev messages_of : {E : Type 0} → List (Exchange E) → List Message
messages_of xs = map (λ x. x.message) xs

pub are_requests : {T E : Type 0} → (plans : Plans T E) (i : ℕ) (bytes : List ℕ) (xs : List (Exchange E)) (j : ℕ) (rest : List ℕ) → Runs plans i bytes xs j rest
    → AreAllAnswered xs rest → AreRequests i bytes (map (λ x. x.message) xs) rest
are_requests plans i bytes [] j rest h (inl (stays, none)) = record { reads = h.1; longest = inr none }
are_requests plans i bytes [] j rest h (inr l) = absurd (none_closes l)
are_requests {T} {E} plans i bytes (x ∷ xs) j rest h whole = at (are_requests plans x.number h.0 xs j rest h.4) (whole_step x xs rest whole)
  where
    at : (AreAllAnswered xs rest → AreRequests x.number h.0 (messages_of xs) rest)
        → ((xs ≡ []) × IsTrue (closes_by x)) ⊎ (IsFalse (closes_by x) × AreAllAnswered xs rest) → AreRequests i bytes (messages_of (x ∷ xs)) rest
    at next (inl (e, closing)) = record {
      reads = (
        h.0,
        h.1,
        inl (ap messages_of e),
        subst (λ (ms : List Message). ReadsMessages (i + 1) h.0 ms rest) (sym (ap messages_of e)) (runs_nothing plans x.number h.0 xs j rest e h.4).1,
      );
      longest = inl (inl (ap messages_of e, subst (λ (n : ℕ). IsTrue (closes x.message n)) h.2 closing));
    }
    at next (inr (stays, more)) =
        let others = subst (λ (n : ℕ). AreRequests n h.0 (messages_of xs) rest) h.2 (next more) in
        record {
          reads = (h.0, h.1, inr (subst (λ (n : ℕ). IsFalse (closes x.message n)) h.2 stays), others.reads);
          longest = longer others.longest;
        }
      where
        longer : LastMessageCloses (i + 1) (messages_of xs) ⊎ HasNoMessage rest → LastMessageCloses i (messages_of (x ∷ xs)) ⊎ HasNoMessage rest
        longer (inl c) = inl (inr c)
        longer (inr none) = inr none

-- ---- the exchanges are one list

-- the entries decide the answer
answer_unique : {T E : Type 0} → (plans : Plans T E) (p : Planned T) (r q : Reply) (es fs more others : List E) → IsAnswer plans p r es → IsAnswer plans p q fs
    → es ++ more ≡ fs ++ others → (r ≡ q) × (es ≡ fs) × (more ≡ others)
answer_unique plans (planned_reply s) r q es fs more others h k e =
    (h.0 ∙ sym k.0, h.1 ∙ sym k.1, ap (λ l. l ++ more) (sym h.1) ∙ e ∙ ap (λ l. l ++ others) k.1)
answer_unique {T} {E} plans (planned_task t) r q es fs more others h k e =
    (h.3 ∙ ap plans.reply_of (first both) ∙ sym k.3, h.1 ∙ ap (λ (v : E). v ∷ []) (first both) ∙ sym k.1, rest both)
  where
    both : h.0 ∷ more ≡ k.0 ∷ others
    both = ap (λ l. l ++ more) (sym h.1) ∙ e ∙ ap (λ l. l ++ others) k.1

    first : h.0 ∷ more ≡ k.0 ∷ others → h.0 ≡ k.0
    first z = cc

    rest : h.0 ∷ more ≡ k.0 ∷ others → more ≡ others
    rest z = cc

-- one stream has one run where the entries are known
pub runs_unique : {T E : Type 0} → (plans : Plans T E) (i : ℕ) (bytes : List ℕ) (xs ys : List (Exchange E)) (j k : ℕ) (r q : List ℕ) (more others : List E)
    → Runs plans i bytes xs j r → Runs plans i bytes ys k q → AreAllAnswered xs r → AreAllAnswered ys q → entries_of xs ++ more ≡ entries_of ys ++ others
    → (xs ≡ ys) × (j ≡ k) × (r ≡ q) × (more ≡ others)
runs_unique plans i bytes [] [] j k r q more others x y v w e = (refl, x.0 ∙ sym y.0, sym x.1 ∙ y.1, e)
runs_unique {T} {E} plans i bytes [] (b ∷ bs) j k r q more others x y v w e = absurd (at v)
  where
    at : AreAllAnswered {E = E} [] r → ⊥
    at (inl (stays, none)) = none b.message y.0 (subst (λ (l : List ℕ). ReadsMessage l b.message y.0) x.1 y.1)
    at (inr l) = none_closes l
runs_unique {T} {E} plans i bytes (a ∷ as_) [] j k r q more others x y v w e = absurd (at w)
  where
    at : AreAllAnswered {E = E} [] q → ⊥
    at (inl (stays, none)) = none a.message x.0 (subst (λ (l : List ℕ). ReadsMessage l a.message x.0) y.1 x.1)
    at (inr l) = none_closes l
runs_unique {T} {E} plans i bytes (a ∷ xs) (b ∷ ys) j k r q more others x y v w e =
    at (runs_unique plans b.number y.0 xs ys j k r q more others) (whole_step a xs r v) (whole_step b ys q w)
  where
    messages : (a.message ≡ b.message) × (x.0 ≡ y.0)
    messages = message_unique bytes a.message b.message x.0 y.0 x.1 y.1

    numbers : a.number ≡ b.number
    numbers = x.2 ∙ sym y.2

    answers : (a.reply ≡ b.reply) × (a.entries ≡ b.entries) × (entries_of xs ++ more ≡ entries_of ys ++ others)
    answers =
        answer_unique plans (plans.plan b.message) a.reply b.reply a.entries b.entries (entries_of xs ++ more) (entries_of ys ++ others)
        (subst (λ (m : Message). IsAnswer plans (plans.plan m) a.reply a.entries) messages.0 x.3) y.3
        (sym (append_assoc a.entries (entries_of xs) more) ∙ e ∙ append_assoc b.entries (entries_of ys) others)

    same : a ≡ b
    same = λ z. record { number = numbers z; message = messages.0 z; reply = answers.0 z; entries = answers.1 z }

    behind : Runs plans b.number y.0 xs j r
    behind = subst (λ (l : List ℕ). Runs plans b.number l xs j r) messages.1 (subst (λ (n : ℕ). Runs plans n x.0 xs j r) numbers x.4)

    joined : xs ≡ ys → a ∷ xs ≡ b ∷ ys
    joined p = λ z. same z ∷ p z

    at : (Runs plans b.number y.0 xs j r → Runs plans b.number y.0 ys k q → AreAllAnswered xs r → AreAllAnswered ys q → entries_of xs ++ more ≡ entries_of ys ++ others
        → (xs ≡ ys) × (j ≡ k) × (r ≡ q) × (more ≡ others))
        → ((xs ≡ []) × IsTrue (closes_by a)) ⊎ (IsFalse (closes_by a) × AreAllAnswered xs r) → ((ys ≡ []) × IsTrue (closes_by b)) ⊎ (IsFalse (closes_by b) × AreAllAnswered ys q)
        → (a ∷ xs ≡ b ∷ ys) × (j ≡ k) × (r ≡ q) × (more ≡ others)
    at next (inl (p, closing)) (inl (s, other)) =
        let left = runs_nothing plans b.number y.0 xs j r p behind in
        let right = runs_nothing plans b.number y.0 ys k q s y.4 in (
          joined (p ∙ sym s),
          left.0 ∙ sym right.0,
          sym left.1 ∙ right.1,
          ap (λ (l : List (Exchange E)). entries_of l ++ more) (sym p) ∙ answers.2 ∙ ap (λ (l : List (Exchange E)). entries_of l ++ others) s,
        )
    at next (inl (p, closing)) (inr (stays, h)) = absurd (not_both (closes_by b) stays (subst (λ (c : Exchange E). IsTrue (closes_by c)) same closing))
    at next (inr (stays, h)) (inl (s, closing)) = absurd (not_both (closes_by a) stays (subst (λ (c : Exchange E). IsTrue (closes_by c)) (sym same) closing))
    at next (inr (stays, h)) (inr (others_stay, k)) =
        let rest = next behind y.4 h k answers.2 in (joined rest.0, rest.1, rest.2, rest.3)

-- the numbers count the exchanges
pub runs_count : {T E : Type 0} → (plans : Plans T E) (i : ℕ) (bytes : List ℕ) (xs : List (Exchange E)) (j : ℕ) (rest : List ℕ) → Runs plans i bytes xs j rest
    → j ≡ i + length xs
runs_count plans i bytes [] j rest h = let e : j ≡ i = h.0 in omega arith
runs_count plans i bytes (x ∷ xs) j rest h =
    let e : j ≡ x.number + length xs = runs_count plans x.number h.0 xs j rest h.4 in
    let n : x.number ≡ i + 1 = h.2 in
    omega arith
