-- Error documents (JSON:API 1.1, "Error Objects").
use Rattle.std.specs.Prelude.{ℕ, List, codes, decimal, Option, Some, None}
use Rattle.serde_json.specs.Data.{Data, string, array, object, item, no_items, Members, no_members, member}
use Rattle.serde_json.specs.Written.{compact_text}
use Rattle.http_messages.specs.declared.messages.Reply.{Reply}
use Rattle.http_messages.specs.declared.messages.Content.TheVariants as content
use Rattle.http_messages.specs.declared.messages.Allow.TheVariants as allow
use Rattle.error_objects.specs.declared.refusals.Blame.{Blame}
use Rattle.error_objects.specs.declared.refusals.Blame.TheVariants as blame
use Rattle.error_objects.specs.declared.refusals.Refusal.{Refusal}
use Rattle.error_objects.specs.Codes.{Told, told}

-- the value is the only member
abbrev pub only : List ℕ → Data → Data
only name d = object (member name d no_members)

-- what a refusal names, as a value
abbrev pub source_of : Blame → Option Data
source_of blame.Nothing = None
source_of (blame.Pointer text) = Some (only (codes "pointer") (string text))
source_of (blame.Parameter text) = Some (only (codes "parameter") (string text))
source_of (blame.Header text) = Some (only (codes "header") (string text))

-- the source, where there is one, before the members behind it
abbrev pub with_source : Option Data → Members → Members
with_source None ms = ms
with_source (Some source) ms = member (codes "source") source ms

abbrev pub error_object : Told → Option Data → Data
error_object t source = object (member (codes "code") (string t.word) (with_source source
    (member (codes "status") (string (decimal t.status)) (member (codes "title") (string t.title) no_members))))

-- a document with the one error
abbrev pub error_document : Refusal → Data
error_document r = only (codes "errors") (array (item (error_object (told r.code) (source_of r.blame)) no_items))

-- the reply to a refused request
abbrev pub error_reply : Refusal → Reply
error_reply r = record { status = (told r.code).status; content = content.Plain; location = None; allow = allow.Nothing; body = compact_text (error_document r) }
