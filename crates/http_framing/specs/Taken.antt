-- What a call that takes a head leaves, and what it answers, by the bytes that it has seen: those that the
-- buffer held before the call, and those that it read.
use Rattle.std.specs.Prelude.{◌≡◌, ◌<◌, ◌≤◌, ℕ, false, List, [], ◌++◌, length, IfSome, ⊤}
use Rattle.std.specs.declared.option.Option.{Option}
use Rattle.std.specs.Io.KnownBytes.{Appends, Consumes, IsAtEnd}
use Rattle.httparse.specs.Grammar.{RequestHead}
use Rattle.outer_ends.specs.Told.{SourceTold}
use Rattle.outer_ends.specs.Causes.{Rose}
use Rattle.http_messages.specs.declared.framings.RefusedRest.TheVariants.{Hopeless, TooLarge, TooMany}
use Rattle.http_model.specs.Heads.{ReadsHead, IsOpen, NeverHasHead, front, IsEmptyLines}
use Rattle.http_model.specs.Messages.{FitsHeadLimit}
use Rattle.http_model.specs.Requests.{ReadsWholeHead}
use Rattle.http_model.specs.Rests.{IsBetweenMessages, IsRefused}
use Rattle.http_framing.specs.declared.heads.HeadEnd.{HeadEnd}
use Rattle.http_framing.specs.declared.heads.HeadEnd.TheVariants as head
use Rattle.http_messages.specs.declared.limits.TheConstants.{FIELD_LIMIT, HEAD_LIMIT}

-- the answer, where these bytes were seen, and now these are left in the source and those in the buffer
abbrev pub VerdictOn : List ℕ → Option (List ℕ) → List ℕ → HeadEnd → Type 0
VerdictOn seen left now (head.Head m) = ReadsWholeHead seen m now
VerdictOn seen left now head.TooMany =
    (now ≡ seen) × (h : RequestHead) × (rest : List ℕ) × ReadsHead seen h rest × FitsHeadLimit h × (FIELD_LIMIT < length h.fields)
VerdictOn seen left now head.Bad = (now ≡ seen) × NeverHasHead (front seen)
VerdictOn seen left now head.TooLarge = (now ≡ seen) × (HEAD_LIMIT ≤ length seen) × IsOpen (front seen)
VerdictOn seen left now head.End = (now ≡ seen) × IsAtEnd left × IsBetweenMessages seen
VerdictOn seen left now head.CutShort =
    (now ≡ seen) × IsAtEnd left × (length seen < HEAD_LIMIT) × IsOpen seen × ¬ (IsEmptyLines seen)
VerdictOn seen left now head.ReadFault = (now ≡ seen) × (length seen < HEAD_LIMIT) × IsOpen seen
VerdictOn seen left now head.NoMemory = now ≡ seen

-- what moved, and the answer
pub record TakesHead (old now : List ℕ) (before after : SourceTold) (end : HeadEnd) : Type 0 where
  pub bytes : List ℕ
  pub taken_more : Appends before.taken after.taken bytes
  pub left_less : Consumes before.left after.left bytes
  pub verdict : VerdictOn (old ++ bytes) after.left now end

-- a fault is answered exactly where the count rose, or stands at the greatest `u64`
abbrev pub HeadCause : SourceTold → SourceTold → HeadEnd → Type 0
HeadCause before now head.ReadFault = Rose before.faults now.faults
HeadCause before now end = now.faults ≡ before.faults

-- the answer by all that stood there: what the buffer held, and what was left
abbrev pub HeadOfRest : List ℕ → List ℕ → Option (List ℕ) → HeadEnd → Type 0
HeadOfRest rest now left (head.Head m) = IfSome left (λ more. ReadsWholeHead rest m (now ++ more))
HeadOfRest rest now left head.Bad = IsRefused rest Hopeless [] false
HeadOfRest rest now left head.TooLarge = IsRefused rest TooLarge [] false
HeadOfRest rest now left head.TooMany = IsRefused rest TooMany [] false
HeadOfRest rest now left head.End = IsBetweenMessages rest
HeadOfRest rest now left head.CutShort = (length rest < HEAD_LIMIT) × IsOpen rest × ¬ (IsEmptyLines rest)
HeadOfRest rest now left head.ReadFault = ⊤
HeadOfRest rest now left head.NoMemory = ⊤
