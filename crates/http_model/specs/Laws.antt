-- Laws that other crates build on, each record proved by the function of its name in `src/laws.rt`.
use Rattle.std.specs.Prelude.{◌≡◌, ℕ, ◌*◌, ◌≤◌, Bool, true, false, List, ◌++◌, length}
use Rattle.std.specs.List.{list_all}
use Rattle.httparse.specs.Grammar.{RequestHead, ReadsRequest, HasNoRequest, NeverHasRequest, MayBecomeRequest}
use Rattle.httparse.specs.Spans.{RequestExceeds}
use Rattle.http_messages.specs.declared.messages.Message.{Message}
use Rattle.http_messages.specs.declared.framings.Framing.{Framing}
use Rattle.http_messages.specs.declared.framings.RefusedRest.{RefusedRest}
use Rattle.http_model.specs.Heads.{is_visible, ReadsHead, NeverHasHead, IsOpen, front, IsEmptyLines}
use Rattle.http_model.specs.Targets.{has_visible_target}
use Rattle.http_model.specs.Blanks.{empty_lines}
use Rattle.http_model.specs.Bodies.{ReadsBody, IsBadChunked, IsLargeChunked}
use Rattle.http_model.specs.Requests.{ReadsWholeHead, ReadsMessage, HasNoMessage}
use Rattle.http_model.specs.Rests.{IsBetweenMessages, IsRefused, IsCut, IsEarly}
use Rattle.http_messages.specs.declared.limits.TheConstants.{HEAD_LIMIT}

-- what httparse's answers, and three tests that compute, say of heads
pub record HeadsDecided : Type 0 where
  -- bytes that begin no head of httparse's grammar
  pub of_request : (bytes : List ℕ) → NeverHasRequest bytes → NeverHasHead bytes
  -- a head of httparse's grammar whose target is not visible
  pub of_target : (bytes : List ℕ) (h : RequestHead) (rest : List ℕ) → ReadsRequest bytes h rest → list_all is_visible h.target ≡ false → NeverHasHead bytes
  -- bytes whose target so far is not visible
  pub of_scan : (bytes : List ℕ) → has_visible_target bytes ≡ false → NeverHasHead bytes
  -- a part of a head of httparse's grammar whose target so far is visible
  pub of_partial : (bytes : List ℕ) → HasNoRequest bytes → MayBecomeRequest bytes → has_visible_target bytes ≡ true → IsOpen bytes
  -- a field has three bytes at least
  pub of_room : (bytes : List ℕ) (room : ℕ) → length bytes ≤ 3 * room → ¬ (RequestExceeds room bytes)
  -- empty lines
  pub blank : (bytes : List ℕ) → empty_lines false bytes ≡ true → IsEmptyLines bytes
  pub not_blank : (bytes : List ℕ) → empty_lines false bytes ≡ false → ¬ (IsEmptyLines bytes)

-- what is read stays read, and what is refused stays refused, whatever bytes follow
pub record ReadStays : Type 0 where
  pub head : (bytes more : List ℕ) (h : RequestHead) (rest : List ℕ) → ReadsHead bytes h rest → ReadsHead (bytes ++ more) h (rest ++ more)
  pub whole_head : (bytes more : List ℕ) (m : Message) (rest : List ℕ) → ReadsWholeHead bytes m rest → ReadsWholeHead (bytes ++ more) m (rest ++ more)
  pub never : (bytes more : List ℕ) → NeverHasHead bytes → NeverHasHead (bytes ++ more)
  pub never_front : (bytes more : List ℕ) → NeverHasHead (front bytes) → NeverHasHead (front (bytes ++ more))
  pub open_front : (bytes more : List ℕ) → HEAD_LIMIT ≤ length bytes → IsOpen (front bytes) → IsOpen (front (bytes ++ more))
  pub body : (framing : Framing) (bytes more body rest : List ℕ) → ReadsBody framing bytes body rest → ReadsBody framing (bytes ++ more) body (rest ++ more)
  pub bad_chunk : (bytes more : List ℕ) (place : ℕ) → IsBadChunked bytes place → IsBadChunked (bytes ++ more) place
  pub large_body : (bytes more : List ℕ) → IsLargeChunked bytes → IsLargeChunked (bytes ++ more)
  pub message : (bytes more : List ℕ) (m : Message) (rest : List ℕ) → ReadsMessage bytes m rest → ReadsMessage (bytes ++ more) m (rest ++ more)
  pub refused : (bytes more : List ℕ) (why : RefusedRest) (early : List ℕ) (head_only : Bool)
      → IsRefused bytes why early head_only → IsRefused (bytes ++ more) why early head_only
  pub early : (bytes more text : List ℕ) → IsEarly bytes text → IsEarly (bytes ++ more) text

-- no message begins what is between messages, cut or refused
pub record NoMessageBegins : Type 0 where
  pub between : (rest : List ℕ) → IsBetweenMessages rest → HasNoMessage rest
  pub cut : (rest early : List ℕ) → IsCut rest early → HasNoMessage rest
  pub refused : (rest : List ℕ) (why : RefusedRest) (early : List ℕ) (head_only : Bool) → IsRefused rest why early head_only → HasNoMessage rest
