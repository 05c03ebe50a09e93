-- What a message says of the head that it was read from (RFC 9112, sections 3 and 5).
use Rattle.std.specs.Prelude.{◌≡◌, ℕ, ◌≤◌, List, [], map, length}
use Rattle.httparse.specs.Grammar.{RequestHead, print_request}
use Rattle.httparse.specs.Spans.{name_and_value}
use Rattle.http_messages.specs.declared.messages.Message.{Message}
use Rattle.http_messages.specs.declared.messages.Field.{Field}
use Rattle.http_messages.specs.declared.limits.TheConstants.{HEAD_LIMIT}

-- a field's name and value
abbrev pub field_parts : Field → List ℕ × List ℕ
field_parts f = (f.name, f.value)

-- the message has the parts of the head, and no body yet
pub record IsMessageHead (m : Message) (h : RequestHead) : Type 0 where
  pub method : m.method ≡ h.method
  pub target : m.target ≡ h.target
  pub minor : m.minor ≡ h.minor
  pub fields : map field_parts m.fields ≡ map name_and_value h.fields
  pub body : m.body ≡ []

-- the head is within the limit, empty lines before it included (of this project)
abbrev pub FitsHeadLimit : RequestHead → Type 0
FitsHeadLimit h = length (print_request h) ≤ HEAD_LIMIT
