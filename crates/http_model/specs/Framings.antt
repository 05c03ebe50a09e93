-- How a head's fields frame its body, or the first rule that they break (RFC 9110 and RFC 9112).
use Rattle.std.specs.Prelude.{ℕ, Bool, true, false, not, ◌&&◌, ◌||◌, ◌==◌, nat_lt, List, [], ◌∷◌, map, filter, length, codes, Result, Ok, Err, if◌then◌else◌}
use Rattle.std.specs.List.{list_all, list_any, flat_map}
use Rattle.std.specs.Char.{is_ascii_digit, to_ascii_lowercase}
use Rattle.std.specs.Str.Parse.{digits_value}
use Rattle.httparse.specs.Grammar.{trim_ows}
use Rattle.http_messages.specs.declared.messages.Message.{Message}
use Rattle.http_messages.specs.declared.messages.Field.{Field}
use Rattle.http_messages.specs.declared.framings.Framing.{Framing}
use Rattle.http_messages.specs.declared.framings.Framing.TheVariants.{Empty, Length, Chunked}
use Rattle.http_messages.specs.declared.framings.HeadFault.{HeadFault}
use Rattle.http_messages.specs.declared.framings.HeadFault.TheVariants.{Host, TwoFramings, BadCoding, UnknownCoding, BadLength, LongBody, Expectation}
use Rattle.http_messages.specs.ReplyText.{interim_text}
use Rattle.http_messages.specs.declared.limits.TheConstants.{BODY_LIMIT, MESSAGE_LIMIT}

-- ---- fields (RFC 9110, section 5)

-- equal texts
abbrev pub same_bytes : List ℕ → List ℕ → Bool
same_bytes [] [] = true
same_bytes [] (y ∷ ys) = false
same_bytes (x ∷ xs) [] = false
same_bytes (x ∷ xs) (y ∷ ys) = (x == y) && same_bytes xs ys

-- ASCII letters in lower case
abbrev pub lower : List ℕ → List ℕ
lower bytes = map to_ascii_lowercase bytes

-- equal in any case
abbrev pub same_in_any_case : List ℕ → List ℕ → Bool
same_in_any_case a b = same_bytes (lower a) (lower b)

-- the values of the fields of one name, in order (RFC 9110, sections 5.1 and 5.3)
abbrev pub values_of : List ℕ → List Field → List (List ℕ)
values_of name fields = map (λ f. f.value) (filter (λ f. same_in_any_case f.name name) fields)

-- the parts of a text between commas (RFC 9110, section 5.6.1)
unfoldable pub comma_parts : List ℕ → List (List ℕ)
comma_parts [] = [] ∷ []
comma_parts (b ∷ bytes) = if b == 44 then [] ∷ comma_parts bytes else onto b (comma_parts bytes)
  where
    onto : ℕ → List (List ℕ) → List (List ℕ)
    onto b [] = (b ∷ []) ∷ []
    onto b (p ∷ parts) = (b ∷ p) ∷ parts

-- the parts of several values, in order
abbrev pub parts_of : List (List ℕ) → List (List ℕ)
parts_of values = flat_map comma_parts values

-- the first text, or the second where the first is empty
abbrev pub or_text : List ℕ → List ℕ → List ℕ
or_text [] other = other
or_text (b ∷ bytes) other = b ∷ bytes

-- the last part that is not empty without its outer spaces and tabs, or nothing
abbrev pub last_part : List (List ℕ) → List ℕ
last_part [] = []
last_part (p ∷ parts) = or_text (last_part parts) (trim_ows p)

-- there is no such field
abbrev pub is_none : List (List ℕ) → Bool
is_none values = length values == 0

-- there is one such field
abbrev pub is_one : List (List ℕ) → Bool
is_one values = length values == 1

-- the value of the first, or nothing
abbrev pub first_value : List (List ℕ) → List ℕ
first_value [] = []
first_value (v ∷ values) = v

-- ---- the fields that frame a body

-- the values of Host (RFC 9110, section 7.2)
abbrev pub hosts_of : Message → List (List ℕ)
hosts_of m = values_of (codes "host") m.fields

-- the values of Content-Length (RFC 9110, section 8.6)
abbrev pub lengths_of : Message → List (List ℕ)
lengths_of m = values_of (codes "content-length") m.fields

-- the values of Transfer-Encoding (RFC 9112, section 6.1)
abbrev pub codings_of : Message → List (List ℕ)
codings_of m = values_of (codes "transfer-encoding") m.fields

-- the values of Expect (RFC 9110, section 10.1.1)
abbrev pub expects_of : Message → List (List ℕ)
expects_of m = values_of (codes "expect") m.fields

-- the coding chunked, in any case (RFC 9112, section 7)
abbrev pub is_chunked : List ℕ → Bool
is_chunked coding = same_in_any_case coding (codes "chunked")

-- one or more digits (RFC 9110, section 8.6)
abbrev pub is_number : List ℕ → Bool
is_number text = nat_lt 0 (length text) && list_all is_ascii_digit text

-- the number that the first value is (RFC 9110, section 8.6)
abbrev pub size_of : List (List ℕ) → ℕ
size_of lengths = digits_value 10 (first_value lengths)

-- ---- the rules, in the order in which they are judged

-- HTTP/1.1 without exactly one Host, or HTTP/1.0 with more than one (RFC 9112, section 3.2)
abbrev pub breaks_host : Message → Bool
breaks_host m = (m.minor == 1 && not (is_one (hosts_of m))) || (m.minor == 0 && nat_lt 1 (length (hosts_of m)))

-- Content-Length and Transfer-Encoding (RFC 9112, section 6.3, item 3)
abbrev pub has_two_framings : Message → Bool
has_two_framings m = not (is_none (lengths_of m)) && not (is_none (codings_of m))

-- Transfer-Encoding in HTTP/1.0, or with a last coding other than chunked (RFC 9112, sections 6.1 and 6.3, item 4)
abbrev pub has_bad_coding : Message → Bool
has_bad_coding m = not (is_none (codings_of m)) && (m.minor == 0 || not (is_chunked (last_part (parts_of (codings_of m)))))

-- Transfer-Encoding other than one field of the one coding chunked (RFC 9112, section 6.1)
abbrev pub has_unknown_coding : Message → Bool
has_unknown_coding m = not (is_none (codings_of m)) && not (is_one (codings_of m) && is_chunked (first_value (codings_of m)))

-- more than one Content-Length, or one that is no number (RFC 9112, section 6.3, item 5)
abbrev pub has_bad_length : Message → Bool
has_bad_length m = not (is_none (lengths_of m)) && not (is_one (lengths_of m) && is_number (first_value (lengths_of m)))

-- a Content-Length above the limit (RFC 9110, section 15.5.14)
abbrev pub has_long_body : Message → Bool
has_long_body m = not (is_none (lengths_of m)) && nat_lt BODY_LIMIT (size_of (lengths_of m))

-- HTTP/1.1 with an Expect other than 100-continue (RFC 9110, section 10.1.1)
abbrev pub has_other_expectation : Message → Bool
has_other_expectation m = m.minor == 1 && list_any (λ e. not (same_in_any_case e (codes "100-continue"))) (expects_of m)

-- the framing of a head that breaks no rule (RFC 9112, section 6.3)
abbrev pub framed_by : Message → Framing
framed_by m = if not (is_none (codings_of m)) then Chunked else (if is_none (lengths_of m) then Empty else Length (size_of (lengths_of m)))

-- the framing, or the first rule that the head breaks (RFC 9112, section 6.3)
unfoldable pub framing_of : Message → Result Framing HeadFault
framing_of m =
    if breaks_host m then Err Host
    else (if has_two_framings m then Err TwoFramings
    else (if has_bad_coding m then Err BadCoding
    else (if has_unknown_coding m then Err UnknownCoding
    else (if has_bad_length m then Err BadLength
    else (if has_long_body m then Err LongBody
    else (if has_other_expectation m then Err Expectation
    else Ok (framed_by m)))))))

-- ---- what follows from a head

-- a body follows the head (RFC 9112, section 6)
abbrev pub has_body : Framing → Bool
has_body Empty = false
has_body (Length n) = not (n == 0)
has_body Chunked = true

-- a body follows a head that breaks no rule
abbrev pub frames_body : Result Framing HeadFault → Bool
frames_body (Ok framing) = has_body framing
frames_body (Err fault) = false

-- the sender waits to be asked for the body (RFC 9110, section 10.1.1)
unfoldable pub expects_continue : Message → Bool
expects_continue m = (m.minor == 1 && not (is_none (expects_of m))) && frames_body (framing_of m)

-- the text that asks for the message's body, where its sender waits for that (RFC 9110, section 15.2.1)
abbrev pub interim_of : Message → List ℕ
interim_of m = if expects_continue m then interim_text else []

-- the reply has no body (RFC 9110, section 9.3.2)
unfoldable pub is_head : Message → Bool
is_head m = same_bytes m.method (codes "HEAD")

-- the reply to the message closes the connection: by its version, by its fields, or as the i-th (RFC 9112, sections 9.3 and 9.6)
unfoldable pub closes : Message → ℕ → Bool
closes m i =
    m.minor == 0
    || list_any (λ o. same_in_any_case (trim_ows o) (codes "close")) (parts_of (values_of (codes "connection") m.fields))
    || i == MESSAGE_LIMIT
