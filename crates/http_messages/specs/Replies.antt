-- Replies by what they have, so that a further member of Reply is named here alone.
use Rattle.std.specs.Prelude.{ℕ, List, [], Some, None}
use Rattle.http_messages.specs.declared.messages.Reply.{Reply}
use Rattle.http_messages.specs.declared.messages.Content.{Content}
use Rattle.http_messages.specs.declared.messages.Content.TheVariants as content
use Rattle.http_messages.specs.declared.messages.Allow.TheVariants as allow

-- a body of that kind, and no further field
abbrev pub reply_of : ℕ → Content → List ℕ → Reply
reply_of status kind body = record { status = status; content = kind; location = None; allow = allow.Nothing; body = body }

-- no body
abbrev pub bare_reply : ℕ → Reply
bare_reply status = reply_of status content.Nothing []

-- a JSON:API document
abbrev pub plain_reply : ℕ → List ℕ → Reply
plain_reply status body = reply_of status content.Plain body

-- a JSON:API document, and where its resource is
abbrev pub located_reply : ℕ → List ℕ → List ℕ → Reply
located_reply status place body = record (plain_reply status body) { location = Some place }
