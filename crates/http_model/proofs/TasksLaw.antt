-- A message is read in one way, and the tasks of the entries that a connection made are the first of the tasks of its messages.
use Rattle.std.proofs.Common.{◌≡◌, ℕ, ◌+◌, ◌-◌, Bool, true, false, List, [], ◌∷◌, ◌++◌, map, refl, sym, ap, subst, ◌∙◌, append_assoc, append-nil, inl, inr}
use Rattle.std.specs.Prelude.{⊤, ◌⊎◌, ◌||◌, IsFalse}
use Rattle.std.proofs.lemmas.Bool.{false≢true}
use Rattle.std.proofs.lemmas.List.{map-append}
use Rattle.std.proofs.lemmas.List.Concat.{flat_map-cons}
use Rattle.std.proofs.lemmas.List.Elements.{All-head, All-tail}
use Rattle.http_messages.specs.declared.messages.Message.{Message}
use Rattle.http_messages.specs.declared.messages.Reply.{Reply}
use Rattle.http_messages.specs.declared.ends.SessionEnd.{SessionEnd}
use Rattle.http_messages.specs.declared.ends.SessionEnd.TheVariants as over
use Rattle.http_messages.specs.declared.limits.TheConstants.{MESSAGE_LIMIT}
use Rattle.http_model.specs.Framings.{closes}
use Rattle.http_model.specs.Requests.{ReadsMessage, ReadsMessages, LastMessageCloses, HasNoMessage, AreRequests}
use Rattle.http_model.specs.Rests.{IsBetweenMessages}
use Rattle.http_model.specs.Exchanges.{Plans, Planned, planned_reply, planned_task, Exchange, IsAnswer, Runs, StaysOpen, LastCloses, closes_by, entries_of}
use Rattle.http_model.specs.Served.{Served}
use Rattle.http_model.specs.Tasks.{task_or_none, tasks_of, Begins, IsMemoryEnd}

-- a stream has one list of messages
abbrev pub OneRequests : Type 0
OneRequests = (i : ℕ) (bytes : List ℕ) (ms ns : List Message) (r q : List ℕ) → AreRequests i bytes ms r → AreRequests i bytes ns q → (ms ≡ ns) × (r ≡ q)

or_true : (b : Bool) → (b || true) ≡ true
or_true true = refl
or_true false = refl

-- so many messages came before the last that a connection may bring
abbrev last_but_one : ℕ
last_but_one = MESSAGE_LIMIT - 1

last_closes : (m : Message) → closes m MESSAGE_LIMIT ≡ true
unfolding closes
last_closes m = or_true _

one_message : (bytes : List ℕ) (m : Message) (r : List ℕ) → ReadsMessage bytes m r → AreRequests last_but_one bytes (m ∷ []) r
one_message bytes m r h = record { reads = (r, h, inl refl, refl); longest = inl (inl (refl, last_closes m)) }

head_is : (m n : Message) → m ∷ [] ≡ n ∷ [] → m ≡ n
head_is m n e = cc e

pub message_one : OneRequests → (bytes : List ℕ) (m n : Message) (r q : List ℕ) → ReadsMessage bytes m r → ReadsMessage bytes n q → (m ≡ n) × (r ≡ q)
message_one one bytes m n r q x y = let same = one last_but_one bytes (m ∷ []) (n ∷ []) r q (one_message bytes m r x) (one_message bytes n q y) in (head_is m n same.0, same.1)

-- none of them closes, but perhaps the last
abbrev pub OpenBut : {E : Type 0} → List (Exchange E) → Type 0
OpenBut [] = ⊤
OpenBut (x ∷ []) = ⊤
OpenBut (x ∷ y ∷ xs) = IsFalse (closes_by x) × OpenBut (y ∷ xs)

open_all : {E : Type 0} → (xs : List (Exchange E)) → StaysOpen xs → OpenBut xs
open_all [] h = tt
open_all (x ∷ []) h = tt
open_all (x ∷ y ∷ xs) h = (All-head (λ z. IsFalse (closes_by z)) x (y ∷ xs) h, open_all (y ∷ xs) (All-tail (λ z. IsFalse (closes_by z)) x (y ∷ xs) h))

open_front : {E : Type 0} → (front : List (Exchange E)) (last : Exchange E) → StaysOpen front → OpenBut (front ++ last ∷ [])
open_front [] last h = tt
open_front (x ∷ []) last h = (All-head (λ z. IsFalse (closes_by z)) x [] h, tt)
open_front (x ∷ y ∷ xs) last h = (All-head (λ z. IsFalse (closes_by z)) x (y ∷ xs) h, open_front (y ∷ xs) last (All-tail (λ z. IsFalse (closes_by z)) x (y ∷ xs) h))

open_last : {E : Type 0} → (xs : List (Exchange E)) → LastCloses xs → OpenBut xs
open_last xs h = subst OpenBut (sym h.whole) (open_front h.front h.last h.open_front)

module _ {T E : Type 0} (plans : Plans T E) where
  answer_tasks : (p : Planned T) (r : Reply) (entries : List E) → IsAnswer plans p r entries → map plans.task_of entries ≡ task_or_none p
  answer_tasks (planned_reply x) r entries h = ap (map plans.task_of) h.1
  answer_tasks (planned_task t) r entries h = ap (map plans.task_of) h.1 ∙ ap (λ u. u ∷ []) h.2

  runs_tasks : OneRequests → (xs : List (Exchange E)) (i : ℕ) (bytes : List ℕ) (j : ℕ) (rest : List ℕ) (ms : List Message) (r : List ℕ) → Runs plans i bytes xs j rest → OpenBut xs
      → ReadsMessages i bytes ms r → LastMessageCloses i ms ⊎ HasNoMessage r → Begins (map plans.task_of (entries_of xs)) (tasks_of plans ms)
  runs_tasks one [] i bytes j rest ms r run but reads longest = (tasks_of plans ms, refl)
  runs_tasks one (x ∷ xs) i bytes j rest [] r run but reads (inl last) = absurd last
  runs_tasks one (x ∷ xs) i bytes j rest [] r run but reads (inr none) = absurd (none x.message run.0 (subst (λ b. ReadsMessage b x.message run.0) reads run.1))
  runs_tasks one (x ∷ []) i bytes j rest (m ∷ ms) r run but reads longest =
      let same = message_one one bytes x.message m run.0 reads.0 run.1 reads.1 in
      let own = answer_tasks (plans.plan x.message) x.reply x.entries run.3 ∙ ap (λ n. task_or_none (plans.plan n)) same.0 in
      (tasks_of plans ms, flat_map-cons (λ n. task_or_none (plans.plan n)) m ms ∙ ap (λ l. l ++ tasks_of plans ms) (sym own ∙ ap (map plans.task_of) (sym (flat_map-cons (λ (z : Exchange E). z.entries) x [] ∙ append-nil x.entries))))
  runs_tasks one (x ∷ y ∷ ys) i bytes j rest (m ∷ ms) r run but reads longest =
      let same = message_one one bytes x.message m run.0 reads.0 run.1 reads.1 in
      let own = answer_tasks (plans.plan x.message) x.reply x.entries run.3 ∙ ap (λ n. task_or_none (plans.plan n)) same.0 in
      let number : x.number ≡ i + 1 = run.2 in
      let later = runs_tasks one (y ∷ ys) (i + 1) reads.0 j rest ms r (subst (λ n. Runs plans n reads.0 (y ∷ ys) j rest) number (subst (λ b. Runs plans x.number b (y ∷ ys) j rest) same.1 run.4)) but.1 reads.3
      (longer longest (subst (λ n. closes m n ≡ false) number (subst (λ n. closes n x.number ≡ false) same.0 but.0))) in (
        later.0,
        flat_map-cons (λ n. task_or_none (plans.plan n)) m ms ∙ (both (sym own) later.1 ∙ (sym (append_assoc (map plans.task_of x.entries) (map plans.task_of (entries_of (y ∷ ys))) later.0)
            ∙ ap (λ l. l ++ later.0) (sym (map-append plans.task_of x.entries (entries_of (y ∷ ys))) ∙ ap (map plans.task_of) (sym (flat_map-cons (λ (z : Exchange E). z.entries) x (y ∷ ys)))))),
      )
    where
      both : {a c b d : List T} → a ≡ c → b ≡ d → a ++ b ≡ c ++ d
      both p q = λ k. p k ++ q k

      longer : LastMessageCloses i (m ∷ ms) ⊎ HasNoMessage r → closes m (i + 1) ≡ false → LastMessageCloses (i + 1) ms ⊎ HasNoMessage r
      longer (inl (inl last)) goes = absurd (false≢true (sym goes ∙ last.1))
      longer (inl (inr last)) goes = inl last
      longer (inr none) goes = inr none

  -- in whatever way it ended
  begins_at : OneRequests → (bytes : List ℕ) (j : ℕ) (entries : List E) (xs : List (Exchange E)) (rest : List ℕ) (ms : List Message) (r : List ℕ) → entries ≡ entries_of xs → Runs plans 0 bytes xs j rest → OpenBut xs
      → AreRequests 0 bytes ms r → Begins (map plans.task_of entries) (tasks_of plans ms)
  begins_at one bytes j entries xs rest ms r joined run but all =
      subst (λ l. Begins (map plans.task_of l) (tasks_of plans ms)) (sym joined) (runs_tasks one xs 0 bytes j rest ms r run but all.reads all.longest)

  no_more : (xs : List (Exchange E)) (more entries : List E) → entries ≡ entries_of xs ++ more → more ≡ [] → entries ≡ entries_of xs
  no_more xs more entries joined none = joined ∙ (ap (λ l. entries_of xs ++ l) none ∙ append-nil (entries_of xs))

  pub served_tasks : OneRequests → (bytes taken : List ℕ) (worn : Bool) (j : ℕ) (entries : List E) (out : List ℕ) (end : SessionEnd) (ms : List Message) (r : List ℕ)
      → Served plans 0 bytes taken worn j entries out end → IsMemoryEnd end → AreRequests 0 bytes ms r → Begins (map plans.task_of entries) (tasks_of plans ms)
  served_tasks one bytes taken worn j entries out over.Closed ms r s memory all =
      begins_at one bytes j entries s.exchanges s.rest ms r (no_more s.exchanges s.more entries s.joined s.ends.1) s.runs (closed s.ends.0) all
    where
      closed : (StaysOpen s.exchanges × IsBetweenMessages s.rest) ⊎ LastCloses s.exchanges → OpenBut s.exchanges
      closed (inl h) = open_all s.exchanges h.0
      closed (inr h) = open_last s.exchanges h
  served_tasks one bytes taken worn j entries out (over.Refused k) ms r s memory all =
      begins_at one bytes j entries s.exchanges s.rest ms r (no_more s.exchanges s.more entries s.joined s.ends.2) s.runs (open_all s.exchanges s.ends.0) all
  served_tasks one bytes taken worn j entries out over.CutShort ms r s memory all =
      begins_at one bytes j entries s.exchanges s.rest ms r (no_more s.exchanges s.more entries s.joined s.ends.2) s.runs (open_all s.exchanges s.ends.0) all
  served_tasks one bytes taken worn j entries out over.NoMemory ms r s memory all =
      begins_at one bytes j entries s.exchanges s.rest ms r (no_more s.exchanges s.more entries s.joined s.ends.2) s.runs (open_all s.exchanges s.ends.0) all
  served_tasks one bytes taken worn j entries out over.ReadFault ms r s memory all = absurd memory
  served_tasks one bytes taken worn j entries out over.WriteFault ms r s memory all = absurd memory
  served_tasks one bytes taken worn j entries out over.Worn ms r s memory all = absurd memory
