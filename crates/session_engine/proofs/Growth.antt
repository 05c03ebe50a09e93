-- What is read stays read, of exchanges and of heads that are accepted.
use Rattle.std.proofs.Common.{ℕ, List, [], ◌∷◌, ◌++◌, ap}
use Rattle.http_messages.specs.declared.messages.Message.{Message}
use Rattle.http_messages.specs.declared.framings.Framing.{Framing}
use Rattle.http_model.specs.Exchanges.{Exchange, Runs}
use Rattle.http_model.specs.Rests.{Accepts}
use Rattle.http_model.specs.Laws.{ReadStays}
use Rattle.task_forms.specs.declared.tasks.Entry.{Entry}
use Rattle.session_engine.specs.Plans.{TaskPlans}

pub runs_more : ReadStays → (plans : TaskPlans) (i : ℕ) (a : List ℕ) (xs : List (Exchange Entry)) (j : ℕ) (b y : List ℕ)
    → Runs plans i a xs j b → Runs plans i (a ++ y) xs j (b ++ y)
runs_more laws plans i a [] j b y h = (h.0, ap (λ (l : List ℕ). l ++ y) h.1)
runs_more laws plans i a (x ∷ xs) j b y h = (h.0 ++ y, laws.message a y x.message h.0 h.1, h.2, h.3, runs_more laws plans x.number h.0 xs j b y h.4)

pub accepts_more : ReadStays → (a y : List ℕ) (m : Message) (framing : Framing) (after : List ℕ) → Accepts a m framing after → Accepts (a ++ y) m framing (after ++ y)
accepts_more laws a y m framing after h = record { head = laws.whole_head a y m after h.head; framed = h.framed }
