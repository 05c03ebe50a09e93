-- Inputs with their answers, computed by the definitions.
use Rattle.std.proofs.Common.{◌≡◌, ℕ, true, false, List, [], ◌∷◌, length, refl, Ok, Err, inl, inr}
use Rattle.std.specs.Prelude.{codes, None, ◌++◌, get_or, IsTrue}
use Rattle.std.specs.Fmt.{digits}
use Rattle.std.proofs.Common.{◌<◌, ◌≤◌, arith, ap, ◌∙◌}
use Rattle.std.specs.List.{list_all, flat_map}
use Rattle.std.proofs.lemmas.List.Elements.{All-nil, All-cons, All-head}
use Rattle.std.proofs.lemmas.List.Sums.{AllPass-from_list_all}
use Rattle.httparse.specs.Grammar.{AllPass, NeverHasSection, trim_ows, LineEnd, print_end, print_field, ChunkLine, IsChunkLine, print_chunk_line, is_ows, Field, IsField, crlf, lf, is_token_byte, is_value_byte}
use Rattle.std.specs.Char.{is_ascii_hexdigit}
use Rattle.http_messages.specs.declared.messages.Message.{Message}
use Rattle.http_messages.specs.declared.messages.Field.{Field as MessageField}
use Rattle.http_messages.specs.ReplyText.{reason, reply_text, interim_text}
use Rattle.http_messages.specs.declared.framings.Framing.TheVariants.{Empty, Length, Chunked}
use Rattle.http_messages.specs.declared.framings.HeadFault.TheVariants.{Host, TwoFramings, BadCoding, UnknownCoding, BadLength, LongBody, Expectation}
use Rattle.http_model.specs.Framings.{comma_parts, framing_of, expects_continue, closes, interim_of}
use Rattle.http_model.specs.Bodies.{Chunk, IsChunk, ReadsChunked, bad_end, IsBadChunked, IsLargeChunked, IsCutChunked, bad_trailers, cut_end, cut_trailers}
use Rattle.http_messages.specs.declared.framings.RefusedRest.TheVariants.{Hopeless, TooLarge, TooMany, Head, BadChunk, LargeBody}
use Rattle.json.specs.Print.{escape_byte}
use Rattle.http_model.specs.Refusals.{refusal_of}
use Rattle.http_model.specs.Hopeless.{target_so_far, start_of, after_lines}
use Rattle.http_model.specs.Blanks.{empty_lines}
use Rattle.http_model.specs.Targets.{has_visible_target}
use Rattle.http_model.specs.Heads.{is_visible}
use Rattle.http_model.specs.Requests.{LastMessageCloses}
use Rattle.http_messages.specs.declared.limits.TheConstants.{CHUNK_LINE_LIMIT, FIELD_LIMIT, HEAD_LIMIT, TRAILER_LIMIT}

abbrev field : List ℕ → List ℕ → MessageField
field name value = record { name = name; value = value }

abbrev the_host : MessageField
the_host = field (codes "Host") (codes "h")

abbrev length_is : List ℕ → MessageField
length_is value = field (codes "Content-Length") value

abbrev coding_is : List ℕ → MessageField
coding_is value = field (codes "Transfer-Encoding") value

abbrev expect_is : List ℕ → MessageField
expect_is value = field (codes "Expect") value

abbrev connection_is : List ℕ → MessageField
connection_is value = field (codes "Connection") value

-- a POST of that version with those fields
abbrev post : ℕ → List MessageField → Message
post minor fields = record { method = codes "POST"; target = codes "/notes"; minor = minor; fields = fields; body = [] }

-- ---- framings, and the rule that is broken first

sized_55 : framing_of (post 1 (the_host ∷ length_is (codes "55") ∷ [])) ≡ Ok (Length 55)
unfolding framing_of comma_parts trim_ows
sized_55 = refl

no_framing : framing_of (post 1 (the_host ∷ [])) ≡ Ok Empty
unfolding framing_of comma_parts trim_ows
no_framing = refl

-- a name in any case, and any Host
any_name : framing_of (post 1 (field (codes "hOST") [] ∷ field (codes "cONTENT-lENGTH") (codes "3") ∷ [])) ≡ Ok (Length 3)
unfolding framing_of comma_parts trim_ows
any_name = refl

no_host : framing_of (post 1 ([])) ≡ Err Host
unfolding framing_of comma_parts trim_ows
no_host = refl

two_hosts : framing_of (post 1 (the_host ∷ the_host ∷ [])) ≡ Err Host
unfolding framing_of comma_parts trim_ows
two_hosts = refl

old_no_host : framing_of (post 0 ([])) ≡ Ok Empty
unfolding framing_of comma_parts trim_ows
old_no_host = refl

old_two_hosts : framing_of (post 0 (the_host ∷ the_host ∷ [])) ≡ Err Host
unfolding framing_of comma_parts trim_ows
old_two_hosts = refl

host_first : framing_of (post 1 (length_is (codes "5") ∷ coding_is (codes "chunked") ∷ [])) ≡ Err Host
unfolding framing_of comma_parts trim_ows
host_first = refl

both_framings : framing_of (post 1 (the_host ∷ length_is (codes "5") ∷ coding_is (codes "chunked") ∷ [])) ≡ Err TwoFramings
unfolding framing_of comma_parts trim_ows
both_framings = refl

old_chunked : framing_of (post 0 (the_host ∷ coding_is (codes "chunked") ∷ [])) ≡ Err BadCoding
unfolding framing_of comma_parts trim_ows
old_chunked = refl

gzip : framing_of (post 1 (the_host ∷ coding_is (codes "gzip") ∷ [])) ≡ Err BadCoding
unfolding framing_of comma_parts trim_ows
gzip = refl

chunked_gzip : framing_of (post 1 (the_host ∷ coding_is (codes "chunked, gzip") ∷ [])) ≡ Err BadCoding
unfolding framing_of comma_parts trim_ows
chunked_gzip = refl

gzip_chunked : framing_of (post 1 (the_host ∷ coding_is (codes "gzip, chunked") ∷ [])) ≡ Err UnknownCoding
unfolding framing_of comma_parts trim_ows
gzip_chunked = refl

-- in two fields
gzip_then_chunked : framing_of (post 1 (the_host ∷ coding_is (codes "gzip") ∷ coding_is (codes "chunked") ∷ [])) ≡ Err UnknownCoding
unfolding framing_of comma_parts trim_ows
gzip_then_chunked = refl

chunked_twice : framing_of (post 1 (the_host ∷ coding_is (codes "chunked") ∷ coding_is (codes "chunked") ∷ [])) ≡ Err UnknownCoding
unfolding framing_of comma_parts trim_ows
chunked_twice = refl

-- the last part that is not empty is chunked, and the value is another
empty_parts : framing_of (post 1 (the_host ∷ coding_is (codes "chunked, , ,") ∷ [])) ≡ Err UnknownCoding
unfolding framing_of comma_parts trim_ows
empty_parts = refl

-- no such part
only_commas : framing_of (post 1 (the_host ∷ coding_is (codes ", ,") ∷ [])) ≡ Err BadCoding
unfolding framing_of comma_parts trim_ows
only_commas = refl

empty_coding : framing_of (post 1 (the_host ∷ coding_is (codes "") ∷ [])) ≡ Err BadCoding
unfolding framing_of comma_parts trim_ows
empty_coding = refl

any_case_chunked : framing_of (post 1 (the_host ∷ coding_is (codes "CHunKed") ∷ [])) ≡ Ok Chunked
unfolding framing_of comma_parts trim_ows
any_case_chunked = refl

length_twice : framing_of (post 1 (the_host ∷ length_is (codes "5") ∷ length_is (codes "5") ∷ [])) ≡ Err BadLength
unfolding framing_of comma_parts trim_ows
length_twice = refl

length_list : framing_of (post 1 (the_host ∷ length_is (codes "5, 5") ∷ [])) ≡ Err BadLength
unfolding framing_of comma_parts trim_ows
length_list = refl

length_plus : framing_of (post 1 (the_host ∷ length_is (codes "+5") ∷ [])) ≡ Err BadLength
unfolding framing_of comma_parts trim_ows
length_plus = refl

length_empty : framing_of (post 1 (the_host ∷ length_is (codes "") ∷ [])) ≡ Err BadLength
unfolding framing_of comma_parts trim_ows
length_empty = refl

length_most : framing_of (post 1 (the_host ∷ length_is (codes "1048576") ∷ [])) ≡ Ok (Length 1048576)
unfolding framing_of comma_parts trim_ows
length_most = refl

length_more : framing_of (post 1 (the_host ∷ length_is (codes "1048577") ∷ [])) ≡ Err LongBody
unfolding framing_of comma_parts trim_ows
length_more = refl

length_digits : framing_of (post 1 (the_host ∷ length_is (codes "99999999999999999999") ∷ [])) ≡ Err LongBody
unfolding framing_of comma_parts trim_ows
length_digits = refl

length_zeros : framing_of (post 1 (the_host ∷ length_is (codes "00000000000000000000005") ∷ [])) ≡ Ok (Length 5)
unfolding framing_of comma_parts trim_ows
length_zeros = refl

expect_other : framing_of (post 1 (the_host ∷ expect_is (codes "200-ok") ∷ [])) ≡ Err Expectation
unfolding framing_of comma_parts trim_ows
expect_other = refl

expect_any_case : framing_of (post 1 (the_host ∷ expect_is (codes "100-Continue") ∷ length_is (codes "1") ∷ [])) ≡ Ok (Length 1)
unfolding framing_of comma_parts trim_ows
expect_any_case = refl

-- one of two is another
expect_one_other : framing_of (post 1 (the_host ∷ expect_is (codes "100-continue") ∷ expect_is (codes "") ∷ [])) ≡ Err Expectation
unfolding framing_of comma_parts trim_ows
expect_one_other = refl

-- an old version ignores it
expect_old : framing_of (post 0 (expect_is (codes "200-ok") ∷ [])) ≡ Ok Empty
unfolding framing_of comma_parts trim_ows
expect_old = refl

length_before_expect : framing_of (post 1 (the_host ∷ expect_is (codes "200-ok") ∷ length_is (codes "1048577") ∷ [])) ≡ Err LongBody
unfolding framing_of comma_parts trim_ows
length_before_expect = refl

-- ---- which replies close

stays_open : closes (post 1 (the_host ∷ [])) 1 ≡ false
unfolding closes comma_parts trim_ows
stays_open = refl

old_closes : closes (post 0 (connection_is (codes "keep-alive") ∷ [])) 1 ≡ true
unfolding closes comma_parts trim_ows
old_closes = refl

asked_to_close : closes (post 1 (the_host ∷ connection_is (codes "Keep-Alive ,\tCLOSE") ∷ [])) 7 ≡ true
unfolding closes comma_parts trim_ows
asked_to_close = refl

asked_in_second : closes (post 1 (the_host ∷ connection_is (codes "te") ∷ connection_is (codes ",close,") ∷ [])) 7 ≡ true
unfolding closes comma_parts trim_ows
asked_in_second = refl

other_option : closes (post 1 (the_host ∷ connection_is (codes "closed, not close") ∷ [])) 7 ≡ false
unfolding closes comma_parts trim_ows
other_option = refl

last_permitted : closes (post 1 (the_host ∷ [])) 1000000 ≡ true
unfolding closes comma_parts trim_ows
last_permitted = refl

before_last : closes (post 1 (the_host ∷ [])) 999999 ≡ false
unfolding closes comma_parts trim_ows
before_last = refl

-- ---- the interim text

asks_chunked : interim_of (post 1 (the_host ∷ coding_is (codes "chunked") ∷ expect_is (codes "100-continue") ∷ [])) ≡ codes "HTTP/1.1 100 Continue\r\n\r\n"
unfolding expects_continue framing_of comma_parts trim_ows interim_text
asks_chunked = refl

asks_sized : interim_of (post 1 (the_host ∷ length_is (codes "5") ∷ expect_is (codes "100-CONTINUE") ∷ [])) ≡ codes "HTTP/1.1 100 Continue\r\n\r\n"
unfolding expects_continue framing_of comma_parts trim_ows interim_text
asks_sized = refl

asks_no_empty : interim_of (post 1 (the_host ∷ length_is (codes "0") ∷ expect_is (codes "100-continue") ∷ [])) ≡ []
unfolding expects_continue framing_of comma_parts trim_ows interim_text
asks_no_empty = refl

asks_no_none : interim_of (post 1 (the_host ∷ expect_is (codes "100-continue") ∷ [])) ≡ []
unfolding expects_continue framing_of comma_parts trim_ows interim_text
asks_no_none = refl

asks_no_old : interim_of (post 0 (the_host ∷ length_is (codes "5") ∷ expect_is (codes "100-continue") ∷ [])) ≡ []
unfolding expects_continue framing_of comma_parts trim_ows interim_text
asks_no_old = refl

asks_no_field : interim_of (post 1 (the_host ∷ length_is (codes "5") ∷ [])) ≡ []
unfolding expects_continue framing_of comma_parts trim_ows interim_text
asks_no_field = refl

asks_no_refused : interim_of (post 1 (the_host ∷ length_is (codes "5") ∷ coding_is (codes "chunked") ∷ expect_is (codes "100-continue") ∷ [])) ≡ []
unfolding expects_continue framing_of comma_parts trim_ows interim_text
asks_no_refused = refl

-- ---- the replies to what is refused

refused_hopeless : reply_text (refusal_of Hopeless) false true ≡ codes "HTTP/1.1 400 Bad Request\r\nVary: Accept\r\nContent-Type: application/vnd.api+json\r\nContent-Length: 78\r\nConnection: close\r\n\r\n{\"errors\":[{\"code\":\"bad-message\",\"status\":\"400\",\"title\":\"Malformed message\"}]}"
unfolding reply_text reason digits escape_byte refusal_of
refused_hopeless = refl

refused_large : reply_text (refusal_of TooLarge) false true ≡ codes "HTTP/1.1 431 Request Header Fields Too Large\r\nVary: Accept\r\nContent-Type: application/vnd.api+json\r\nContent-Length: 78\r\nConnection: close\r\n\r\n{\"errors\":[{\"code\":\"head-too-large\",\"status\":\"431\",\"title\":\"Head too large\"}]}"
unfolding reply_text reason digits escape_byte refusal_of
refused_large = refl

refused_many : reply_text (refusal_of TooMany) false true ≡ codes "HTTP/1.1 431 Request Header Fields Too Large\r\nVary: Accept\r\nContent-Type: application/vnd.api+json\r\nContent-Length: 78\r\nConnection: close\r\n\r\n{\"errors\":[{\"code\":\"head-too-large\",\"status\":\"431\",\"title\":\"Head too large\"}]}"
unfolding reply_text reason digits escape_byte refusal_of
refused_many = refl

refused_host : reply_text (refusal_of (Head Host)) false true ≡ codes "HTTP/1.1 400 Bad Request\r\nVary: Accept\r\nContent-Type: application/vnd.api+json\r\nContent-Length: 78\r\nConnection: close\r\n\r\n{\"errors\":[{\"code\":\"bad-message\",\"status\":\"400\",\"title\":\"Malformed message\"}]}"
unfolding reply_text reason digits escape_byte refusal_of
refused_host = refl

refused_framings : reply_text (refusal_of (Head TwoFramings)) false true ≡ codes "HTTP/1.1 400 Bad Request\r\nVary: Accept\r\nContent-Type: application/vnd.api+json\r\nContent-Length: 78\r\nConnection: close\r\n\r\n{\"errors\":[{\"code\":\"bad-message\",\"status\":\"400\",\"title\":\"Malformed message\"}]}"
unfolding reply_text reason digits escape_byte refusal_of
refused_framings = refl

refused_coding : reply_text (refusal_of (Head BadCoding)) false true ≡ codes "HTTP/1.1 400 Bad Request\r\nVary: Accept\r\nContent-Type: application/vnd.api+json\r\nContent-Length: 78\r\nConnection: close\r\n\r\n{\"errors\":[{\"code\":\"bad-message\",\"status\":\"400\",\"title\":\"Malformed message\"}]}"
unfolding reply_text reason digits escape_byte refusal_of
refused_coding = refl

refused_unknown : reply_text (refusal_of (Head UnknownCoding)) false true ≡ codes "HTTP/1.1 501 Not Implemented\r\nVary: Accept\r\nContent-Type: application/vnd.api+json\r\nContent-Length: 87\r\nConnection: close\r\n\r\n{\"errors\":[{\"code\":\"unknown-coding\",\"status\":\"501\",\"title\":\"Unknown transfer coding\"}]}"
unfolding reply_text reason digits escape_byte refusal_of
refused_unknown = refl

refused_length : reply_text (refusal_of (Head BadLength)) false true ≡ codes "HTTP/1.1 400 Bad Request\r\nVary: Accept\r\nContent-Type: application/vnd.api+json\r\nContent-Length: 78\r\nConnection: close\r\n\r\n{\"errors\":[{\"code\":\"bad-message\",\"status\":\"400\",\"title\":\"Malformed message\"}]}"
unfolding reply_text reason digits escape_byte refusal_of
refused_length = refl

refused_long : reply_text (refusal_of (Head LongBody)) false true ≡ codes "HTTP/1.1 413 Content Too Large\r\nVary: Accept\r\nContent-Type: application/vnd.api+json\r\nContent-Length: 78\r\nConnection: close\r\n\r\n{\"errors\":[{\"code\":\"body-too-large\",\"status\":\"413\",\"title\":\"Body too large\"}]}"
unfolding reply_text reason digits escape_byte refusal_of
refused_long = refl

refused_expect : reply_text (refusal_of (Head Expectation)) false true ≡ codes "HTTP/1.1 417 Expectation Failed\r\nVary: Accept\r\nContent-Type: application/vnd.api+json\r\nContent-Length: 88\r\nConnection: close\r\n\r\n{\"errors\":[{\"code\":\"unknown-expectation\",\"status\":\"417\",\"title\":\"Unknown expectation\"}]}"
unfolding reply_text reason digits escape_byte refusal_of
refused_expect = refl

refused_chunk : reply_text (refusal_of BadChunk) false true ≡ codes "HTTP/1.1 400 Bad Request\r\nVary: Accept\r\nContent-Type: application/vnd.api+json\r\nContent-Length: 78\r\nConnection: close\r\n\r\n{\"errors\":[{\"code\":\"bad-message\",\"status\":\"400\",\"title\":\"Malformed message\"}]}"
unfolding reply_text reason digits escape_byte refusal_of
refused_chunk = refl

refused_body : reply_text (refusal_of LargeBody) false true ≡ codes "HTTP/1.1 413 Content Too Large\r\nVary: Accept\r\nContent-Type: application/vnd.api+json\r\nContent-Length: 78\r\nConnection: close\r\n\r\n{\"errors\":[{\"code\":\"body-too-large\",\"status\":\"413\",\"title\":\"Body too large\"}]}"
unfolding reply_text reason digits escape_byte refusal_of
refused_body = refl

refused_to_head : reply_text (refusal_of (Head Host)) true true ≡ codes "HTTP/1.1 400 Bad Request\r\nVary: Accept\r\nContent-Type: application/vnd.api+json\r\nContent-Length: 78\r\nConnection: close\r\n\r\n"
unfolding reply_text reason digits escape_byte refusal_of
refused_to_head = refl

-- ---- targets so far

in_target : target_so_far (codes "\r\n\nGET /art") ≡ codes "/art"
in_target = refl

in_target_start : start_of (codes "\r\n\nGET /art") ≡ codes "\r\n\nGET"
in_target_start = refl

at_target : target_so_far (codes "GET ") ≡ []
at_target = refl

at_target_start : start_of (codes "GET ") ≡ codes "GET"
at_target_start = refl

behind_target : target_so_far (codes "GET /art ") ≡ codes "/art"
behind_target = refl

behind_target_start : start_of (codes "GET /art ") ≡ codes "GET /art "
behind_target_start = refl

cut_line : target_so_far (codes "GET /art\r") ≡ codes "/art"
cut_line = refl

cut_line_start : start_of (codes "GET /art\r") ≡ codes "GET /art\r"
cut_line_start = refl

in_method : target_so_far (codes "\r\nGE") ≡ []
in_method = refl

in_method_start : start_of (codes "\r\nGE") ≡ codes "\r\nGE"
in_method_start = refl

lone_cr : target_so_far (codes "\rGET /a") ≡ []
lone_cr = refl

lone_cr_start : start_of (codes "\rGET /a") ≡ codes "\rGET /a"
lone_cr_start = refl

two_spaces : target_so_far (codes "GET  /a") ≡ []
two_spaces = refl

two_spaces_start : start_of (codes "GET  /a") ≡ codes "GET  /a"
two_spaces_start = refl

-- ---- chunks

-- a line of such digits and no more
abbrev plain_line : List ℕ → ChunkLine
plain_line digits = record { digits = digits; pad = []; extension = None }

is_plain_line : (digits : List ℕ) → 0 < length digits → length digits ≤ 16 → list_all is_ascii_hexdigit digits ≡ true → IsChunkLine (plain_line digits)
is_plain_line digits some few hex = record {
  digits = (some, few, AllPass-from_list_all is_ascii_hexdigit digits hex);
  pad = All-nil (λ (b : ℕ). is_ows b ≡ true);
  extension = tt;
}

abbrev abc : Chunk
abc = record { line = plain_line (codes "3"); content = codes "abc" }

abc_is : IsChunk abc
unfolding print_chunk_line
abc_is = record { line = is_plain_line (codes "3") (omega arith) (omega arith) refl; fits = omega arith; some = omega arith; size = refl }

abbrev a_trailer : Field
a_trailer = record { name = codes "A"; raw = codes " b"; end = lf }

-- one chunk, the last, a trailer and what follows
whole_body : ReadsChunked (codes "3\r\nabc\r\n0\r\nA: b\n\r\nGET") (codes "abc") (codes "GET")
unfolding print_chunk_line is_token_byte
whole_body = record {
  chunks = abc ∷ [];
  left = codes "0\r\nA: b\n\r\nGET";
  so_far = record { each = All-cons IsChunk abc [] abc_is (All-nil IsChunk); within = omega arith; text = refl };
  last = plain_line (codes "0");
  middle = codes "A: b\n\r\nGET";
  line = record { reads = (is_plain_line (codes "0") (omega arith) (omega arith) refl, refl); fits = omega arith };
  zero = refl;
  trailers = record {
    fields = a_trailer ∷ [];
    last = crlf;
    reads = (All-cons IsField a_trailer [] (record { name = (omega arith, AllPass-from_list_all is_token_byte (codes "A") refl); raw = AllPass-from_list_all is_value_byte (codes " b") refl }) (All-nil IsField), refl);
    fits = omega arith;
  };
  same = refl;
}

-- a chunk of one byte, behind which another stands: the place is that of the chunk's end
bad_place : IsBadChunked (codes "1\r\nab") 4
unfolding print_chunk_line
bad_place = record {
  chunks = [];
  left = codes "1\r\nab";
  so_far = record { each = All-nil IsChunk; within = omega arith; text = refl };
  on = 4;
  piece = bad_end (plain_line (codes "1")) (codes "ab") (codes "a") (codes "b")
      (record { reads = (is_plain_line (codes "1") (omega arith) (omega arith) refl, refl); fits = omega arith }) (omega arith) (omega arith) refl refl (λ e. omega (arith, e));
  at = refl;
}

-- 1,048,577 bytes are refused at their line
too_much : IsLargeChunked (codes "100001\r\n")
unfolding print_chunk_line
too_much = record {
  chunks = [];
  left = codes "100001\r\n";
  so_far = record { each = All-nil IsChunk; within = omega arith; text = refl };
  line = plain_line (codes "100001");
  middle = [];
  takes = record { reads = (is_plain_line (codes "100001") (omega arith) (omega arith) refl, refl); fits = omega arith };
  over = omega arith;
}

-- ---- empty lines (RFC 9112, section 2.2)

no_line : empty_lines false [] ≡ true
no_line = refl

whole_lines : empty_lines false (codes "\r\n\n\r\n") ≡ true
whole_lines = refl

open_line : empty_lines false (codes "\n\r") ≡ false
open_line = refl

-- the CR stands before the bytes
ended_line : empty_lines true (codes "\n") ≡ true
ended_line = refl

cr_twice : empty_lines false (codes "\r\r\n") ≡ false
cr_twice = refl

-- a vertical tab and the byte behind CR
no_line_end : empty_lines false (11 ∷ []) ≡ false
no_line_end = refl

no_carriage_return : empty_lines false (14 ∷ 10 ∷ []) ≡ false
no_carriage_return = refl

behind_line : empty_lines false (codes "\r\nG") ≡ false
behind_line = refl

only_lines : after_lines (codes "\r\n\n") ≡ []
only_lines = refl

lone_lf : after_lines (codes "\n") ≡ []
lone_lf = refl

lines_and_cr : after_lines (codes "\n\r") ≡ codes "\r"
lines_and_cr = refl

lines_and_word : after_lines (codes "\r\n\nG\r\n") ≡ codes "G\r\n"
lines_and_word = refl

vertical_tab : after_lines (11 ∷ []) ≡ 11 ∷ []
vertical_tab = refl

-- ---- visible ASCII is 33 to 126

space_is_not : is_visible 32 ≡ false
space_is_not = refl

first_visible : is_visible 33 ≡ true
first_visible = refl

last_visible : is_visible 126 ≡ true
last_visible = refl

delete_is_not : is_visible 127 ≡ false
delete_is_not = refl

-- ---- the limits

greatest_head : HEAD_LIMIT ≡ 16384
greatest_head = refl

most_fields : FIELD_LIMIT ≡ 64
most_fields = refl

greatest_line : CHUNK_LINE_LIMIT ≡ 1024
greatest_line = refl

greatest_trailers : TRAILER_LIMIT ≡ 16384
greatest_trailers = refl

-- ---- the 1,000,000th message is the last

abbrev plain_post : Message
plain_post = post 1 (the_host ∷ [])

never : false ≡ true → ⊥
never e = cc

last_one_closes : LastMessageCloses 999999 (plain_post ∷ [])
unfolding closes comma_parts trim_ows
last_one_closes = inl (refl, refl)

second_closes : LastMessageCloses 999998 (plain_post ∷ plain_post ∷ [])
unfolding closes comma_parts trim_ows
second_closes = inr (inl (refl, refl))

first_does_not : LastMessageCloses 999998 (plain_post ∷ []) → ⊥
unfolding closes comma_parts trim_ows
first_does_not (inl (e, t)) = never t
first_does_not (inr later) = later

-- a message that closes, and another behind it
not_the_last : LastMessageCloses 0 (post 0 [] ∷ plain_post ∷ []) → ⊥
unfolding closes comma_parts trim_ows
not_the_last (inl (e, t)) = cc
not_the_last (inr (inl (e, t))) = never t
not_the_last (inr (inr later)) = later

-- ---- chunks that are cut

-- a chunk of one byte, whose end is cut
cut_behind_byte : IsCutChunked (codes "1\r\na\r")
unfolding print_chunk_line
cut_behind_byte = record {
  chunks = [];
  left = codes "1\r\na\r";
  so_far = record { each = All-nil IsChunk; within = omega arith; text = refl };
  piece = cut_end (plain_line (codes "1")) (codes "a\r") (codes "a") (codes "\r")
      (record { reads = (is_plain_line (codes "1") (omega arith) (omega arith) refl, refl); fits = omega arith }) (omega arith) (omega arith) refl refl (inr refl);
}

nothing_more : (xs : List ℕ) (last : LineEnd) (rest : List ℕ) → [] ≡ (xs ++ print_end last) ++ rest → ⊥
nothing_more [] crlf rest e = cc
nothing_more [] lf rest e = cc
nothing_more (x ∷ xs) last rest e = cc

-- no trailer section has come behind the last chunk
cut_behind_last : IsCutChunked (codes "0\r\n")
unfolding print_chunk_line
cut_behind_last = record {
  chunks = [];
  left = codes "0\r\n";
  so_far = record { each = All-nil IsChunk; within = omega arith; text = refl };
  piece = cut_trailers (plain_line (codes "0")) []
      (record { reads = (is_plain_line (codes "0") (omega arith) (omega arith) refl, refl); fits = omega arith }) refl (omega arith)
      (λ fields last rest reads. nothing_more (flat_map print_field fields) last rest reads.1)
      (codes "\n", [], lf, (All-nil IsField, refl));
}

-- ---- targets by their test: visible ASCII up to the next space

target_in_line : has_visible_target (codes "\r\n\nGET /art HTTP/1.1") ≡ true
target_in_line = refl

no_target_yet : has_visible_target (codes "GE" ++ 200 ∷ []) ≡ true
no_target_yet = refl

delete_in_target : has_visible_target (codes "GET /" ++ 127 ∷ codes "a ") ≡ false
delete_in_target = refl

other_byte_in_target : has_visible_target (codes "\nGET /a" ++ 200 ∷ []) ≡ false
other_byte_in_target = refl

byte_behind_target : has_visible_target (codes "GET / " ++ 200 ∷ []) ≡ true
byte_behind_target = refl

-- ---- a trailer section that never comes

-- a name does not begin with NUL
at_name : (name a b c d rest more : List ℕ) → 0 < length name → AllPass is_token_byte name → 0 ∷ more ≡ ((((name ++ a) ++ b) ++ c) ++ d) ++ rest → ⊥
unfolding is_token_byte
at_name [] a b c d rest more some tokens e = omega (arith, some)
at_name (x ∷ name) a b c d rest more some tokens e =
    never (ap (λ l. is_token_byte (get_or l 0 0)) e ∙ All-head (λ y. IsTrue (is_token_byte y)) x name tokens)

never_trailers : NeverHasSection (0 ∷ [])
never_trailers more [] crlf rest (each, e) = cc
never_trailers more [] lf rest (each, e) = cc
never_trailers more (f ∷ fields) last rest (each, e) =
    let is = All-head IsField f fields each in
    at_name f.name (58 ∷ f.raw) (print_end f.end) (flat_map print_field fields) (print_end last) rest more is.name.0 is.name.1 e

-- NUL behind the last chunk: the place is that of the trailer section
bad_trailer : IsBadChunked (codes "0\r\n" ++ 0 ∷ []) 3
unfolding print_chunk_line
bad_trailer = record {
  chunks = [];
  left = codes "0\r\n" ++ 0 ∷ [];
  so_far = record { each = All-nil IsChunk; within = omega arith; text = refl };
  on = 3;
  piece = bad_trailers (plain_line (codes "0")) (0 ∷ [])
      (record { reads = (is_plain_line (codes "0") (omega arith) (omega arith) refl, refl); fits = omega arith }) refl
      (never_trailers [], inl never_trailers);
  at = refl;
}
