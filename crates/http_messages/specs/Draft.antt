-- A text that is put together before it is sent (of this project).
use Rattle.std.specs.Prelude.{◌≡◌, ℕ, List, ◌++◌, Result, OnOk, OnErr, ⊤}
use Rattle.std.specs.Io.KnownBytes.{Appends}
use Rattle.outer_ends.specs.Told.{SinkTold}
use Rattle.outer_ends.specs.Streams.{AppendsFront, Sends}
use Rattle.outer_ends.specs.declared.traits.Failed.{Failed}

-- what contracts see of a draft: the bytes that wait, and whether all before them was sent
pub record DraftState : Type 0 where
  pub held : List ℕ
  pub sent : Result ⊤ Failed

-- the text was written up to the bytes that wait
pub record WrittenTo (before now : SinkTold) (text held : List ℕ) : Type 0 where
  pub front : List ℕ
  pub parts : text ≡ front ++ held
  pub appended : Appends before.written now.written front

-- all of the text that does not wait was written, or a write failed behind a proper prefix of it
pub record Drafts (before now : SinkTold) (text : List ℕ) (draft : DraftState) : Type 0 where
  pub whole : OnOk draft.sent (WrittenTo before now text draft.held)
  pub front : OnErr draft.sent (AppendsFront before.written now.written text)

-- a call that goes on with the text of a draft: of whichever text it was a draft, it is then one of that text and the piece
abbrev pub AddsText : SinkTold → SinkTold → DraftState → DraftState → List ℕ → Type 0
AddsText before now old new piece =
    (start : SinkTold) (text : List ℕ) → Drafts start before text old → Drafts start now (text ++ piece) new

-- a call that ends a draft: of whichever text it was a draft, that text was sent
abbrev pub EndsText : SinkTold → SinkTold → DraftState → Result ⊤ Failed → Type 0
EndsText before now draft result = (start : SinkTold) (text : List ℕ) → Drafts start before text draft → Sends start now text result
