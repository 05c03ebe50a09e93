-- What the first bytes of a message are: a whole head and where its parts stand, a part of one, or neither.
use Rattle.std.specs.Prelude.{◌<◌, ◌≤◌, ℕ, List, length, drop, ⊤}
use Rattle.httparse.specs.Grammar.{AllPass, RequestHead}
use Rattle.httparse.specs.Spans.{IsRequestAt, IsRequestWithin}
use Rattle.httparse.specs.declared.spans.HeaderSpan.{HeaderSpan}
use Rattle.httparse.specs.declared.spans.RequestSpans.{RequestSpans}
use Rattle.http_model.specs.Heads.{is_visible, ReadsHead, IsOpen, NeverHasHead, front}
use Rattle.http_model.specs.Messages.{IsMessageHead, FitsHeadLimit}
use Rattle.http_framing.specs.declared.fronts.Front.{Front}
use Rattle.http_framing.specs.declared.fronts.Front.TheVariants.{Whole, Open, Never}
use Rattle.http_framing.specs.declared.fronts.HeadSoFar.{HeadSoFar}
use Rattle.http_framing.specs.declared.fronts.HeadSoFar.TheVariants as so_far
use Rattle.http_messages.specs.declared.limits.TheConstants.{FIELD_LIMIT}

-- the spans are those of a whole head at the front of the bytes
pub record WholeHead (bytes : List ℕ) (headers : List HeaderSpan) (spans : RequestSpans) : Type 0 where
  pub head : RequestHead
  pub at : IsRequestAt bytes headers spans head
  pub target : AllPass is_visible head.target
  pub within : IsRequestWithin bytes headers spans

abbrev pub FrontIs : List ℕ → List HeaderSpan → Front → Type 0
FrontIs bytes headers (Whole spans) = WholeHead bytes headers spans
FrontIs bytes headers Open = IsOpen bytes
FrontIs bytes headers Never = NeverHasHead bytes

-- what stands at the front of a buffer
abbrev pub HeadSoFarIs : List ℕ → HeadSoFar → Type 0
HeadSoFarIs buffer (so_far.Head m len) =
    (len ≤ length buffer) × (h : RequestHead) × ReadsHead buffer h (drop len buffer) × FitsHeadLimit h × (length h.fields ≤ FIELD_LIMIT) × IsMessageHead m h
HeadSoFarIs buffer so_far.TooMany = (h : RequestHead) × (rest : List ℕ) × ReadsHead buffer h rest × FitsHeadLimit h × (FIELD_LIMIT < length h.fields)
HeadSoFarIs buffer so_far.Open = IsOpen (front buffer)
HeadSoFarIs buffer so_far.Never = NeverHasHead (front buffer)
HeadSoFarIs buffer so_far.NoMemory = ⊤
