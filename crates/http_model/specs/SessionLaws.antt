-- Laws on sessions that other crates build on, for any plan and any store, each proved by a function of `src/laws.rt`.
use Rattle.std.specs.Prelude.{◌≡◌, ℕ, Bool, List, ◌++◌, map}
use Rattle.http_messages.specs.declared.messages.Message.{Message}
use Rattle.http_messages.specs.declared.ends.SessionEnd.{SessionEnd}
use Rattle.http_messages.specs.declared.ends.SessionEnd.TheVariants.{ReadFault, NoMemory}
use Rattle.http_messages.specs.ReplyText.{unavailable_text}
use Rattle.http_model.specs.Requests.{AreRequests}
use Rattle.http_model.specs.Exchanges.{Plans, Exchange, Runs, AreAllAnswered}
use Rattle.http_model.specs.Served.{Served, RunsOut, InputEnd, end_of}
use Rattle.http_model.specs.Tasks.{tasks_of, Begins, IsMemoryEnd}

-- where no further message is answered, the exchanges of a session are all messages of its bytes
abbrev pub WholeAreRequests : Type 0 → Type 0 → Type 0
WholeAreRequests T E =
    (plans : Plans T E) (i : ℕ) (bytes : List ℕ) (xs : List (Exchange E)) (j : ℕ) (rest : List ℕ)
    → Runs plans i bytes xs j rest → AreAllAnswered xs rest → AreRequests i bytes (map (λ x. x.message) xs) rest

-- so they are where the input decides the end
abbrev pub ServedAreRequests : Type 0 → Type 0 → Type 0
ServedAreRequests T E =
    (plans : Plans T E) (i : ℕ) (bytes taken : List ℕ) (worn : Bool) (j : ℕ) (entries : List E) (out : List ℕ) (end : InputEnd)
    → (s : Served plans i bytes taken worn j entries out (end_of end)) → AreRequests i bytes (map (λ x. x.message) s.exchanges) s.rest

-- and where the source failed, all of those that were taken
abbrev pub FailedAreRequests : Type 0 → Type 0 → Type 0
FailedAreRequests T E =
    (plans : Plans T E) (i : ℕ) (bytes taken : List ℕ) (worn : Bool) (j : ℕ) (entries : List E) (out : List ℕ)
    → (s : Served plans i bytes taken worn j entries out ReadFault) → AreRequests i taken (map (λ x. x.message) s.exchanges) s.rest

-- where the input decides the end, it and the entries decide what is sent, the end, and how many messages were answered
abbrev pub ServedIsOne : Type 0 → Type 0 → Type 0
ServedIsOne T E =
    (plans : Plans T E) (i : ℕ) (bytes t u : List ℕ) (v w : Bool) (j k : ℕ) (entries : List E) (a b : List ℕ) (one other : InputEnd)
    → Served plans i bytes t v j entries a (end_of one) → Served plans i bytes u w k entries b (end_of other)
    → (a ≡ b) × (one ≡ other) × (j ≡ k)

-- the tasks of a session's entries begin the tasks of the messages of its bytes
abbrev pub EntriesAreTasks : Type 0 → Type 0 → Type 0
EntriesAreTasks T E =
    (plans : Plans T E) (bytes taken : List ℕ) (worn : Bool) (j : ℕ) (entries : List E) (out : List ℕ) (end : SessionEnd)
    (messages : List Message) (rest : List ℕ)
    → Served plans 0 bytes taken worn j entries out end → IsMemoryEnd end → AreRequests 0 bytes messages rest
    → Begins (map plans.task_of entries) (tasks_of plans messages)

-- where memory ran out and the text that says so is then sent, the session has ended for want of memory
abbrev pub MemoryRunsOut : Type 0 → Type 0 → Type 0
MemoryRunsOut T E =
    (plans : Plans T E) (i : ℕ) (taken untaken : List ℕ) (worn : Bool) (j : ℕ) (entries : List E) (out : List ℕ)
    → RunsOut plans i (taken ++ untaken) j entries out
    → Served plans i (taken ++ untaken) taken worn j entries (out ++ unavailable_text) NoMemory
