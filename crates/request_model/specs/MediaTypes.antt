-- Media types (RFC 9110, section 8.3.1).
use Rattle.std.specs.Prelude.{ℕ, ◌||◌, ◌&&◌, ◌==◌, Bool, true, false, if◌then◌else◌, List, [], ◌∷◌, codes, drop, filter, map, reverse, Option, Some, None, option_map, slice_index}
use Rattle.std.specs.List.{list_all, list_any}
use Rattle.std.specs.Char.{is_ascii_alphanumeric}
use Rattle.std.specs.List.{onto_first}
use Rattle.request_model.specs.declared.forms.Media.{Media}
use Rattle.request_model.specs.declared.forms.Param.{Param}
use Rattle.request_model.specs.declared.forms.Quoting.{Quoting}
use Rattle.request_model.specs.declared.forms.Quoting.TheVariants.{Outside, Within, Escaped}
use Rattle.request_model.specs.Words.{halves_at, slash, semicolon, equals_sign, is_any, some_if, all_some}
use Rattle.request_model.specs.Options.{◌>>=◌}

-- ---- tokens and white space

-- a byte of a token (RFC 9110, section 5.6.2)
abbrev pub is_token_byte : ℕ → Bool
is_token_byte b = is_ascii_alphanumeric b || list_any (λ c. b == c) (codes "!#$%&'*+-.^_`|~")

-- a token (RFC 9110, section 5.6.2)
abbrev pub is_token : List ℕ → Bool
is_token text = is_any text && list_all is_token_byte text

-- a space or a tab (RFC 9110, section 5.6.3)
abbrev pub is_blank : ℕ → Bool
is_blank b = b == 32 || b == 9

-- without the spaces and tabs in front
abbrev pub skip_blanks : List ℕ → List ℕ
skip_blanks [] = []
skip_blanks (b ∷ bytes) = if is_blank b then skip_blanks bytes else b ∷ bytes

-- without outer spaces and tabs
abbrev pub trim_blanks : List ℕ → List ℕ
trim_blanks bytes = reverse (skip_blanks (reverse (skip_blanks bytes)))

-- ---- quoted strings (RFC 9110, section 5.6.4)

-- where the byte behind this one stands
abbrev pub after_byte : Quoting → ℕ → Quoting
after_byte Outside b = if b == 34 then Within else Outside
after_byte Within b = if b == 34 then Outside else (if b == 92 then Escaped else Within)
after_byte Escaped b = Within

-- outside of quoted strings
abbrev pub is_outside : Quoting → Bool
is_outside Outside = true
is_outside Within = false
is_outside Escaped = false

-- a separator begins a piece, and another byte joins the first
abbrev pub cut_if : Bool → ℕ → List (List ℕ) → List (List ℕ)
cut_if true b pieces = [] ∷ pieces
cut_if false b pieces = onto_first b pieces

-- the pieces between the separators that stand outside of quoted strings, from a byte on
abbrev pub pieces_from : Quoting → ℕ → List ℕ → List (List ℕ)
pieces_from at separator [] = [] ∷ []
pieces_from at separator (b ∷ bytes) = cut_if (is_outside at && b == separator) b (pieces_from (after_byte at b) separator bytes)

-- the pieces of a text
abbrev pub unquoted_pieces : ℕ → List ℕ → List (List ℕ)
unquoted_pieces = pieces_from Outside

-- what a byte of a quoted string adds to its content; nothing stands behind the closing quote
abbrev pub with_content : Quoting → ℕ → Option (List ℕ) → Option (List ℕ)
with_content Outside b content = None
with_content Within b content = if b == 34 || b == 92 then content else option_map (λ bytes. b ∷ bytes) content
with_content Escaped b content = option_map (λ bytes. b ∷ bytes) content

-- the content of a quoted string from a byte of it on
abbrev pub content_from : Quoting → List ℕ → Option (List ℕ)
content_from at [] = some_if (is_outside at) []
content_from at (b ∷ bytes) = with_content at b (content_from (after_byte at b) bytes)

-- ---- parameters and media types

-- a token, or the content of a quoted string
abbrev pub value_of : List ℕ → Option (List ℕ)
value_of text = if slice_index text 0 == 34 then content_from Within (drop 1 text) else some_if (is_token text) text

-- `token=value` (RFC 9110, section 5.6.6)
abbrev pub param_of : List ℕ → Option Param
param_of text = do
  let parts = halves_at equals_sign text
  value ← value_of parts.1
  some_if (is_token parts.0) (record { name = parts.0; value = value })

-- `token/token`
abbrev pub bare_type_of : List ℕ → Option (List ℕ × List ℕ)
bare_type_of text =
    let parts = halves_at slash text in
    some_if (is_token parts.0 && is_token parts.1) parts

-- the first piece is the type, and each other piece is empty or a parameter
abbrev pub media_of_pieces : List (List ℕ) → Option Media
media_of_pieces [] = None
media_of_pieces (front ∷ pieces) = do
  (main, sub) ← bare_type_of front
  params ← all_some (map param_of (filter is_any pieces))
  Some (record { main = main; sub = sub; params = params })

-- the media type that a text is, where it is one (RFC 9110, section 8.3.1)
abbrev pub media_of : List ℕ → Option Media
media_of text = media_of_pieces (map trim_blanks (unquoted_pieces semicolon text))
