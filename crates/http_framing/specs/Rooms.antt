-- A room of bytes, of which some in a row are in use, and room for the spans of fields.
use Rattle.std.specs.Prelude.{◌≡◌, ◌≤◌, ℕ, List, length}
use Rattle.http_framing.specs.declared.buffer.TheConstants.{ROOM, SPANS}
use Rattle.httparse.specs.declared.spans.HeaderSpan.{HeaderSpan}

-- the bytes from start to end are in use; a field has three bytes at least, so the spans are enough for a head
pub record IsRoom (start end : ℕ) (room : List ℕ) (spans : List HeaderSpan) : Type 0 where
  pub ordered : start ≤ end
  pub within : end ≤ length room
  pub size : length room ≡ ROOM
  pub enough : length spans ≡ SPANS
