-- What a run sends is decided by its input: its entries are those of the tasks of its messages, in one legal history.
use Rattle.std.proofs.Common.{◌≡◌, ℕ, Bool, List, [], ◌∷◌, ◌++◌, map, refl, sym, ap, subst, ◌∙◌, inl, inr, append-nil}
use Rattle.std.proofs.lemmas.List.{map-append}
use Rattle.std.proofs.lemmas.List.Elements.{All-map}
use Rattle.std.specs.Prelude.{IsFalse}
use Rattle.http_messages.specs.declared.messages.Message.{Message}
use Rattle.http_messages.specs.declared.messages.Reply.{Reply}
use Rattle.http_model.specs.Exchanges.{Planned, planned_reply, planned_task, Exchange, IsAnswer, Runs, closes_by, StaysOpen, LastCloses, sent_by, text_of, entries_of}
use Rattle.http_model.specs.Served.{Served, EndIs, InputEnd, by_closing, by_cut, by_refusal, end_of}
use Rattle.session_engine.specs.Plans.{plans_of, as_planned}
use Rattle.task_forms.specs.declared.tasks.Plan.{Plan}
use Rattle.task_forms.specs.declared.tasks.Task.{Task}
use Rattle.task_forms.specs.declared.tasks.Entry.{Entry}
use Rattle.task_forms.specs.Meaning.{Meaning, AreAnswers}
use Rattle.world_cells.specs.World.{World}

-- an entry without who made it
abbrev pub make : Task → Reply → Entry
make t r = record { by = 0; task = t; reply = r }

abbrev pub told : Entry → Entry
told e = make e.task e.reply

abbrev pub task_of : Entry → Task
task_of e = e.task

abbrev pub told_exchange : Exchange Entry → Exchange Entry
told_exchange x = record { number = x.number; message = x.message; reply = x.reply; entries = map told x.entries }

answer-told : (planned : Message → Plan) (p : Planned Task) (r : Reply) (es : List Entry) → IsAnswer (plans_of planned) p r es → IsAnswer (plans_of planned) p r (map told es)
answer-told planned (planned_reply s) r es h = (h.0, ap (map told) h.1)
answer-told planned (planned_task t) r es h = (told h.0, ap (map told) h.1, h.2, h.3)

runs-told : (planned : Message → Plan) (i : ℕ) (bytes : List ℕ) (xs : List (Exchange Entry)) (j : ℕ) (rest : List ℕ)
    → Runs (plans_of planned) i bytes xs j rest → Runs (plans_of planned) i bytes (map told_exchange xs) j rest
runs-told planned i bytes [] j rest h = h
runs-told planned i bytes (x ∷ xs) j rest h =
    (h.0, h.1, h.2, answer-told planned (as_planned (planned x.message)) x.reply x.entries h.3, runs-told planned x.number h.0 xs j rest h.4)

text-told : (xs : List (Exchange Entry)) → text_of (map told_exchange xs) ≡ text_of xs
text-told [] = refl
text-told (x ∷ xs) = ap (λ l. sent_by x ++ l) (text-told xs)

entries-told : (xs : List (Exchange Entry)) → entries_of (map told_exchange xs) ≡ map told (entries_of xs)
entries-told [] = refl
entries-told (x ∷ xs) = ap (λ l. map told x.entries ++ l) (entries-told xs) ∙ sym (map-append told x.entries (entries_of xs))

open-told : (xs : List (Exchange Entry)) → StaysOpen xs → StaysOpen (map told_exchange xs)
open-told xs h = All-map (λ x. IsFalse (closes_by x)) told_exchange xs h

last-told : (xs : List (Exchange Entry)) → LastCloses xs → LastCloses (map told_exchange xs)
last-told xs l = record {
  front = map told_exchange l.front;
  last = told_exchange l.last;
  whole = ap (map told_exchange) l.whole ∙ map-append told_exchange l.front (l.last ∷ []);
  open_front = open-told l.front l.open_front;
  closing = l.closing;
}

-- no further entries at an end that the input decides
none-more : (planned : Message → Plan) (v : Bool) (xs : List (Exchange Entry)) (j : ℕ) (rest : List ℕ) (more : List Entry) (tail : List ℕ) (one : InputEnd)
    → EndIs (plans_of planned) v xs j rest more tail (end_of one) → more ≡ []
none-more planned v xs j rest more tail by_closing h = h.1
none-more planned v xs j rest more tail by_cut h = h.2
none-more planned v xs j rest more tail (by_refusal s) h = h.2

ends-told : (planned : Message → Plan) (v : Bool) (xs : List (Exchange Entry)) (j : ℕ) (rest : List ℕ) (more : List Entry) (tail : List ℕ) (one : InputEnd)
    → EndIs (plans_of planned) v xs j rest more tail (end_of one) → EndIs (plans_of planned) v (map told_exchange xs) j rest [] tail (end_of one)
ends-told planned v xs j rest more tail by_closing (inl h, e, k) = (inl (open-told xs h.0, h.1), refl, k)
ends-told planned v xs j rest more tail by_closing (inr l, e, k) = (inr (last-told xs l), refl, k)
ends-told planned v xs j rest more tail by_cut h = (open-told xs h.0, h.1, refl)
ends-told planned v xs j rest more tail (by_refusal s) h = (open-told xs h.0, h.1, refl)

pub all-entries : (planned : Message → Plan) (i : ℕ) (bytes t : List ℕ) (v : Bool) (j : ℕ) (es : List Entry) (a : List ℕ) (one : InputEnd)
    → (s : Served (plans_of planned) i bytes t v j es a (end_of one)) → es ≡ entries_of s.exchanges
all-entries planned i bytes t v j es a one s =
    s.joined ∙ ap (λ l. entries_of s.exchanges ++ l) (none-more planned v s.exchanges j s.rest s.more s.tail one s.ends) ∙ append-nil (entries_of s.exchanges)

pub served-told : (planned : Message → Plan) (i : ℕ) (bytes t : List ℕ) (v : Bool) (j : ℕ) (es : List Entry) (a : List ℕ) (one : InputEnd)
    → Served (plans_of planned) i bytes t v j es a (end_of one) → Served (plans_of planned) i bytes t v j (map told es) a (end_of one)
served-told planned i bytes t v j es a one s = record {
  untaken = s.untaken;
  front = s.front;
  exchanges = map told_exchange s.exchanges;
  rest = s.rest;
  more = [];
  tail = s.tail;
  runs = runs-told planned i _ s.exchanges j s.rest s.runs;
  joined = ap (map told) (all-entries planned i bytes t v j es a one s) ∙ sym (entries-told s.exchanges) ∙ sym (append-nil (entries_of (map told_exchange s.exchanges)));
  sent = s.sent ∙ ap (λ l. l ++ s.tail) (sym (text-told s.exchanges));
  ends = ends-told planned v s.exchanges j s.rest s.more s.tail one s.ends;
}

-- ---- the tasks are those of the messages

abbrev pub tasks_at : Planned Task → List Task
tasks_at (planned_reply r) = []
tasks_at (planned_task t) = t ∷ []

abbrev pub tasks_of : (Message → Plan) → List Message → List Task
tasks_of planned [] = []
tasks_of planned (m ∷ ms) = tasks_at (as_planned (planned m)) ++ tasks_of planned ms

answer-tasks : (planned : Message → Plan) (p : Planned Task) (r : Reply) (es : List Entry) → IsAnswer (plans_of planned) p r es → map task_of es ≡ tasks_at p
answer-tasks planned (planned_reply s) r es h = ap (map task_of) h.1
answer-tasks planned (planned_task t) r es h = ap (map task_of) h.1 ∙ ap (λ (x : Task). x ∷ []) h.2

pub runs-tasks : (planned : Message → Plan) (i : ℕ) (bytes : List ℕ) (xs : List (Exchange Entry)) (j : ℕ) (rest : List ℕ)
    → Runs (plans_of planned) i bytes xs j rest → map task_of (entries_of xs) ≡ tasks_of planned (map (λ x. x.message) xs)
runs-tasks planned i bytes [] j rest h = refl
runs-tasks planned i bytes (x ∷ xs) j rest h =
    map-append task_of x.entries (entries_of xs)
    ∙ ap (λ l. l ++ map task_of (entries_of xs)) (answer-tasks planned (as_planned (planned x.message)) x.reply x.entries h.3)
    ∙ ap (λ l. tasks_at (as_planned (planned x.message)) ++ l) (runs-tasks planned x.number h.0 xs j rest h.4)

-- ---- one legal history answers the tasks

pub answers-one : (m : Meaning) (w : World) (es fs : List Entry) → AreAnswers m w es → AreAnswers m w fs → map task_of es ≡ map task_of fs → map told es ≡ map told fs
answers-one m w [] [] x y k = refl
answers-one m w [] (f ∷ fs) x y k = cc k
answers-one m w (e ∷ es) [] x y k = cc k
answers-one m w (e ∷ es) (f ∷ fs) x y k =
    let t : e.task ≡ f.task = first k in
    let next = answers-one m (m.effect w f.task) es fs (subst (λ s. AreAnswers m (m.effect w s) es) t x.2) y.2 (rest k) in
    ap (λ (h : Entry). h ∷ map told es) (ap (λ s. make s e.reply) t ∙ ap (make f.task) (x.1 ∙ ap (m.answer w) t ∙ sym y.1)) ∙ ap (λ l. told f ∷ l) next
  where
    first : e.task ∷ map task_of es ≡ f.task ∷ map task_of fs → e.task ≡ f.task
    first z = cc

    rest : e.task ∷ map task_of es ≡ f.task ∷ map task_of fs → map task_of es ≡ map task_of fs
    rest z = cc

pub same-told : (m : Meaning) (w : World) (planned : Message → Plan) (bytes t u : List ℕ) (v x : Bool) (j k : ℕ) (es fs : List Entry) (a b : List ℕ) (one other : InputEnd)
    → AreAnswers m w es → AreAnswers m w fs → (s : Served (plans_of planned) 0 bytes t v j es a (end_of one)) (z : Served (plans_of planned) 0 bytes u x k fs b (end_of other))
    → map (λ y. y.message) s.exchanges ≡ map (λ y. y.message) z.exchanges → map told es ≡ map told fs
same-told m w planned bytes t u v x j k es fs a b one other p q s z e =
    answers-one m w es fs p q (
    ap (map task_of) (all-entries planned 0 bytes t v j es a one s)
    ∙ runs-tasks planned 0 _ s.exchanges j s.rest s.runs
    ∙ ap (tasks_of planned) e
    ∙ sym (runs-tasks planned 0 _ z.exchanges k z.rest z.runs)
    ∙ ap (map task_of) (sym (all-entries planned 0 bytes u x k fs b other z))
    )
