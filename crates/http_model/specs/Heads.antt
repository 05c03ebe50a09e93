-- The head of a request as this server reads it: a head of httparse's grammar, empty lines before it
-- included, whose target is visible ASCII (RFC 9112, sections 2, 3 and 5).
use Rattle.std.specs.Prelude.{◌≡◌, ℕ, Bool, ◌&&◌, nat_le, List, [], ◌++◌, take}
use Rattle.httparse.specs.Grammar.{AllPass, LineEnd, print_blank, RequestHead, ReadsRequest}
use Rattle.http_messages.specs.declared.limits.TheConstants.{HEAD_LIMIT}

-- visible ASCII (RFC 5234, VCHAR)
abbrev pub is_visible : ℕ → Bool
is_visible b = nat_le 33 b && nat_le b 126

-- bytes are the head h and then rest (RFC 9112, sections 2.1 and 3)
pub record ReadsHead (bytes : List ℕ) (h : RequestHead) (rest : List ℕ) : Type 0 where
  pub reads : ReadsRequest bytes h rest
  pub target : AllPass is_visible h.target

-- no prefix of the bytes is a head
abbrev pub HasNoHead : List ℕ → Type 0
HasNoHead bytes = (h : RequestHead) (rest : List ℕ) → ¬ (ReadsHead bytes h rest)

-- hopeless: no prefix is a head, whatever bytes follow
abbrev pub NeverHasHead : List ℕ → Type 0
NeverHasHead bytes = (more : List ℕ) → HasNoHead (bytes ++ more)

-- some bytes can follow that make them a head
pub record MayBecomeHead (bytes : List ℕ) : Type 0 where
  pub more : List ℕ
  pub head : RequestHead
  pub reads : ReadsHead (bytes ++ more) head []

-- no head yet, and one can still come
pub record IsOpen (bytes : List ℕ) : Type 0 where
  pub none : HasNoHead bytes
  pub may : MayBecomeHead bytes

-- the first bytes of a message, by which its head is judged
abbrev pub front : List ℕ → List ℕ
front bytes = take HEAD_LIMIT bytes

-- empty lines and nothing else (RFC 9112, section 2.2)
abbrev pub IsEmptyLines : List ℕ → Type 0
IsEmptyLines bytes = (ends : List LineEnd) × (bytes ≡ print_blank ends)
