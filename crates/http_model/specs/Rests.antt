-- What follows the last whole message: nothing, something that is refused, or a part of a message.
use Rattle.std.specs.Prelude.{◌≡◌, ◌⊎◌, ℕ, ◌<◌, ◌≤◌, Bool, false, List, [], length, Ok, Err}
use Rattle.httparse.specs.Grammar.{RequestHead}
use Rattle.http_messages.specs.declared.messages.Message.{Message}
use Rattle.http_messages.specs.declared.framings.Framing.{Framing}
use Rattle.http_messages.specs.declared.framings.Framing.TheVariants.{Chunked}
use Rattle.http_messages.specs.declared.framings.RefusedRest.{RefusedRest}
use Rattle.http_messages.specs.declared.framings.RefusedRest.TheVariants.{Hopeless, TooLarge, TooMany, Head, BadChunk, LargeBody}
use Rattle.http_model.specs.Heads.{ReadsHead, NeverHasHead, IsOpen, front, IsEmptyLines}
use Rattle.http_model.specs.Messages.{FitsHeadLimit}
use Rattle.http_model.specs.Framings.{framing_of, interim_of, is_head}
use Rattle.http_model.specs.Bodies.{IsBadChunked, IsLargeChunked, IsCutBody}
use Rattle.http_model.specs.Requests.{ReadsWholeHead, ReadsMessage}
use Rattle.http_messages.specs.declared.limits.TheConstants.{FIELD_LIMIT, HEAD_LIMIT}

-- a head that breaks no rule begins the rest, and then comes what should be its body (RFC 9112, section 6)
pub record Accepts (rest : List ℕ) (m : Message) (framing : Framing) (after : List ℕ) : Type 0 where
  pub head : ReadsWholeHead rest m after
  pub framed : framing_of m ≡ Ok framing

-- nothing, or empty lines (RFC 9112, section 2.2)
abbrev pub IsBetweenMessages : List ℕ → Type 0
IsBetweenMessages rest = (length rest < HEAD_LIMIT) × IsEmptyLines rest

-- the rest is refused for that reason, behind that interim text, and its head is one of a HEAD request or not (of this project)
abbrev pub IsRefused : List ℕ → RefusedRest → List ℕ → Bool → Type 0
IsRefused rest Hopeless early head_only = NeverHasHead (front rest) × (early ≡ []) × (head_only ≡ false)
IsRefused rest TooLarge early head_only = (HEAD_LIMIT ≤ length rest) × IsOpen (front rest) × (early ≡ []) × (head_only ≡ false)
IsRefused rest TooMany early head_only =
    (h : RequestHead) × (after : List ℕ) × ReadsHead rest h after × FitsHeadLimit h × (FIELD_LIMIT < length h.fields) × (early ≡ []) × (head_only ≡ false)
IsRefused rest (Head fault) early head_only =
    (m : Message) × (after : List ℕ) × ReadsWholeHead rest m after × (framing_of m ≡ Err fault) × (early ≡ []) × (head_only ≡ is_head m)
IsRefused rest BadChunk early head_only =
    (m : Message) × (after : List ℕ) × Accepts rest m Chunked after × ((place : ℕ) × IsBadChunked after place)
    × (early ≡ interim_of m) × (head_only ≡ is_head m)
IsRefused rest LargeBody early head_only =
    (m : Message) × (after : List ℕ) × Accepts rest m Chunked after × IsLargeChunked after × (early ≡ interim_of m) × (head_only ≡ is_head m)

-- the rest ends inside a message, behind that interim text (RFC 9112, section 8)
abbrev pub IsCut : List ℕ → List ℕ → Type 0
IsCut rest early =
    ((length rest < HEAD_LIMIT) × IsOpen rest × ¬ (IsEmptyLines rest) × (early ≡ []))
    ⊎ ((m : Message) × (after : List ℕ) × (framing : Framing) × Accepts rest m framing after × IsCutBody framing after × (early ≡ interim_of m))

-- the interim text of what begins the rest, or nothing (of this project)
abbrev pub IsEarly : List ℕ → List ℕ → Type 0
IsEarly rest early =
    (early ≡ []) ⊎ ((m : Message) × (after : List ℕ) × (framing : Framing) × Accepts rest m framing after × (early ≡ interim_of m))

-- ---- one word for all of these, by which a law says that no rest is two of them

-- what begins a rest: its head
pub data HeadKind : Type 0 where
  head_never head_large head_many head_open : HeadKind
  head_whole : Message → List ℕ → HeadKind

-- the rest begins so
abbrev pub IsHeadKind : List ℕ → HeadKind → Type 0
IsHeadKind rest head_never = NeverHasHead (front rest)
IsHeadKind rest head_large = (HEAD_LIMIT ≤ length rest) × IsOpen (front rest)
IsHeadKind rest head_many = (h : RequestHead) × (after : List ℕ) × ReadsHead rest h after × FitsHeadLimit h × (FIELD_LIMIT < length h.fields)
IsHeadKind rest head_open = (length rest < HEAD_LIMIT) × IsOpen rest
IsHeadKind rest (head_whole m after) = ReadsWholeHead rest m after

-- what a rest is: between messages, a part of a message, refused, or begun by a message
pub data RestKind : Type 0 where
  rest_between : RestKind
  rest_cut : List ℕ → RestKind
  rest_refused : RefusedRest → List ℕ → Bool → RestKind
  rest_message : Message → List ℕ → RestKind

-- the rest is of that kind
abbrev pub IsRest : List ℕ → RestKind → Type 0
IsRest rest rest_between = IsBetweenMessages rest
IsRest rest (rest_cut early) = IsCut rest early
IsRest rest (rest_refused why early head_only) = IsRefused rest why early head_only
IsRest rest (rest_message m after) = ReadsMessage rest m after
