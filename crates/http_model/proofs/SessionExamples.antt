-- A few inputs with their messages, refusals and sessions.
use Rattle.std.proofs.Common.{◌≡◌, ℕ, ◌<◌, true, false, List, [], ◌∷◌, ◌++◌, length, refl, arith, inl, inr}
use Rattle.std.specs.Prelude.{codes, All, IsFalse}
use Rattle.std.specs.Fmt.{digits}
use Rattle.std.specs.List.{list_all}
use Rattle.std.proofs.lemmas.List.Elements.{All-nil, All-cons}
use Rattle.std.proofs.lemmas.List.Sums.{AllPass-from_list_all}
use Rattle.std.proofs.lemmas.Str.{IsUtf8-from_ascii}
use Rattle.httparse.specs.Grammar.{RequestHead, print_request, Field, IsField, crlf, lf, is_token_byte, is_uri_byte, is_value_byte, trim_ows}
use Rattle.http_messages.specs.declared.messages.Message.{Message}
use Rattle.http_messages.specs.declared.messages.Reply.{Reply}
use Rattle.http_messages.specs.Replies.{plain_reply}
use Rattle.http_messages.specs.declared.framings.Framing.TheVariants.{Empty}
use Rattle.http_messages.specs.declared.framings.HeadFault.TheVariants.{TwoFramings}
use Rattle.http_messages.specs.declared.framings.RefusedRest.TheVariants.{Head}
use Rattle.http_messages.specs.declared.ends.SessionEnd.TheVariants.{Closed, Refused}
use Rattle.http_messages.specs.ReplyText.{reason, reply_text}
use Rattle.http_model.specs.Heads.{is_visible}
use Rattle.http_model.specs.Framings.{framing_of, comma_parts, expects_continue, is_head, closes}
use Rattle.http_model.specs.Requests.{ReadsWholeHead, ReadsMessage}
use Rattle.json.specs.Print.{escape_byte}
use Rattle.http_model.specs.Refusals.{refusal_of}
use Rattle.http_model.specs.Exchanges.{planned_reply, planned_task, Plans, Exchange, closes_by}
use Rattle.http_model.specs.Served.{Served}
use Rattle.http_model.proofs.Heads.{ascii_of}

-- ---- heads

abbrev line : List ℕ → List ℕ → Field
line name raw = record { name = name; raw = raw; end = crlf }

is_line : (name raw : List ℕ) → 0 < length name → list_all is_token_byte name ≡ true → list_all is_value_byte raw ≡ true → IsField (line name raw)
is_line name raw some token value =
    record { name = (some, AllPass-from_list_all is_token_byte name token); raw = AllPass-from_list_all is_value_byte raw value }

abbrev request : List ℕ → List ℕ → List Field → RequestHead
request method target fields = record { blank = []; method = method; target = target; minor = 1; line_end = crlf; fields = fields; last = crlf }

abbrev get_bytes : List ℕ
get_bytes = codes "GET /notes/7 HTTP/1.1\r\nHost: h\r\n\r\n"

abbrev get_message : Message
get_message = record { method = codes "GET"; target = codes "/notes/7"; minor = 1; fields = record { name = codes "Host"; value = codes "h" } ∷ []; body = [] }

get_head : ReadsWholeHead get_bytes get_message []
unfolding print_request is_token_byte trim_ows
get_head = record {
  head = request (codes "GET") (codes "/notes/7") (line (codes "Host") (codes " h") ∷ []);
  reads = record {
    reads = (
      record {
        method = (omega arith, AllPass-from_list_all is_token_byte (codes "GET") refl);
        target = (omega arith, AllPass-from_list_all is_uri_byte (codes "/notes/7") refl);
        target_text = IsUtf8-from_ascii (codes "/notes/7") (ascii_of (codes "/notes/7") (AllPass-from_list_all is_visible (codes "/notes/7") refl));
        minor = omega arith;
        fields = All-cons IsField _ [] (is_line (codes "Host") (codes " h") (omega arith) refl refl) (All-nil IsField);
      },
      refl,
    );
    target = AllPass-from_list_all is_visible (codes "/notes/7") refl;
  };
  fits = omega arith;
  fields = omega arith;
  message = record { method = refl; target = refl; minor = refl; fields = refl; body = refl };
}

get_reads : ReadsMessage get_bytes get_message []
unfolding framing_of comma_parts trim_ows
get_reads = record { bare = get_message; middle = []; head = get_head; framed = Empty; framing = refl; content = (refl, refl); same = refl }

-- ---- sessions

-- a plan by which each message is the task 7, and entries with that task and a reply
abbrev all_tasks : Plans ℕ (ℕ × Reply)
all_tasks = record { plan = λ m. planned_task 7; task_of = λ e. e.0; reply_of = λ e. e.1 }

-- no input
nothing : Served all_tasks 0 [] [] false 0 [] [] Closed
nothing = record {
  untaken = [];
  front = refl;
  exchanges = [];
  rest = [];
  more = [];
  tail = [];
  runs = (refl, refl);
  joined = refl;
  sent = refl;
  ends = (inl (All-nil _, (omega arith, ([], refl))), refl, refl);
}

abbrev not_found : Reply
not_found = plain_reply 404 (codes "{\"errors\":[{\"code\":\"not-found\",\"status\":\"404\",\"title\":\"Not found\"}]}")

abbrev one_exchange : Exchange (ℕ × Reply)
one_exchange = record { number = 1; message = get_message; reply = not_found; entries = (7, not_found) ∷ [] }

-- one message, which is a task, and the end of the input behind it
one_task : Served all_tasks 0 get_bytes get_bytes false 1 ((7, not_found) ∷ [])
    (codes "HTTP/1.1 404 Not Found\r\nVary: Accept\r\nContent-Type: application/vnd.api+json\r\nContent-Length: 68\r\n\r\n{\"errors\":[{\"code\":\"not-found\",\"status\":\"404\",\"title\":\"Not found\"}]}") Closed
unfolding reply_text reason digits expects_continue framing_of comma_parts trim_ows is_head closes
one_task = record {
  untaken = [];
  front = refl;
  exchanges = one_exchange ∷ [];
  rest = [];
  more = [];
  tail = [];
  runs = ([], get_reads, refl, ((7, not_found), refl, refl, refl), (refl, refl));
  joined = refl;
  sent = refl;
  ends = (inl (All-cons (λ x. IsFalse (closes_by x)) one_exchange [] refl (All-nil (λ x. IsFalse (closes_by x))), (omega arith, ([], refl))), refl, refl);
}

-- ---- a head that breaks a rule

abbrev two_framings_head : List ℕ
two_framings_head = codes "POST /notes HTTP/1.1\r\nHost: h\r\nContent-Length: 5\r\nTransfer-Encoding: chunked\r\n\r\n"

abbrev next_bytes : List ℕ
next_bytes = codes "GET /notes HTTP/1.1\r\nHost: h\r\n\r\n"

abbrev two_framings_message : Message
two_framings_message = record {
  method = codes "POST";
  target = codes "/notes";
  minor = 1;
  fields = record { name = codes "Host"; value = codes "h" } ∷ record { name = codes "Content-Length"; value = codes "5" }
      ∷ record { name = codes "Transfer-Encoding"; value = codes "chunked" } ∷ [];
  body = [];
}

abbrev coding_lines : List Field
coding_lines = line (codes "Transfer-Encoding") (codes " chunked") ∷ []

abbrev length_lines : List Field
length_lines = line (codes "Content-Length") (codes " 5") ∷ coding_lines

abbrev two_framings_lines : List Field
two_framings_lines = line (codes "Host") (codes " h") ∷ length_lines

lines_are : All IsField two_framings_lines
unfolding is_token_byte
lines_are =
    All-cons IsField (line (codes "Host") (codes " h")) length_lines (is_line (codes "Host") (codes " h") (omega arith) refl refl)
    (All-cons IsField (line (codes "Content-Length") (codes " 5")) coding_lines (is_line (codes "Content-Length") (codes " 5") (omega arith) refl refl)
    (All-cons IsField (line (codes "Transfer-Encoding") (codes " chunked")) [] (is_line (codes "Transfer-Encoding") (codes " chunked") (omega arith) refl refl) (All-nil IsField)))

two_framings_reads : ReadsWholeHead (two_framings_head ++ next_bytes) two_framings_message next_bytes
unfolding print_request is_token_byte trim_ows
two_framings_reads = record {
  head = request (codes "POST") (codes "/notes") two_framings_lines;
  reads = record {
    reads = (
      record {
        method = (omega arith, AllPass-from_list_all is_token_byte (codes "POST") refl);
        target = (omega arith, AllPass-from_list_all is_uri_byte (codes "/notes") refl);
        target_text = IsUtf8-from_ascii (codes "/notes") (ascii_of (codes "/notes") (AllPass-from_list_all is_visible (codes "/notes") refl));
        minor = omega arith;
        fields = lines_are;
      },
      refl,
    );
    target = AllPass-from_list_all is_visible (codes "/notes") refl;
  };
  fits = omega arith;
  fields = omega arith;
  message = record { method = refl; target = refl; minor = refl; fields = refl; body = refl };
}

-- one reply, and what follows is not read
refused_framings : Served all_tasks 0 (two_framings_head ++ next_bytes) two_framings_head false 0 []
    (codes "HTTP/1.1 400 Bad Request\r\nVary: Accept\r\nContent-Type: application/vnd.api+json\r\nContent-Length: 78\r\nConnection: close\r\n\r\n{\"errors\":[{\"code\":\"bad-message\",\"status\":\"400\",\"title\":\"Malformed message\"}]}") (Refused 400)
unfolding reply_text reason digits escape_byte refusal_of framing_of comma_parts trim_ows is_head
refused_framings = record {
  untaken = next_bytes;
  front = refl;
  exchanges = [];
  rest = two_framings_head ++ next_bytes;
  more = [];
  tail = codes "HTTP/1.1 400 Bad Request\r\nVary: Accept\r\nContent-Type: application/vnd.api+json\r\nContent-Length: 78\r\nConnection: close\r\n\r\n{\"errors\":[{\"code\":\"bad-message\",\"status\":\"400\",\"title\":\"Malformed message\"}]}";
  runs = (refl, refl);
  joined = refl;
  sent = refl;
  ends = (
    All-nil (λ (x : Exchange (ℕ × Reply)). IsFalse (closes_by x)),
    record {
      why = Head TwoFramings;
      early = [];
      head_only = false;
      refused = (two_framings_message, next_bytes, two_framings_reads, refl, refl, refl);
      status_of = refl;
      whole = refl;
    },
    refl,
  );
}

-- ---- a message that closes

abbrev old_head_bytes : List ℕ
old_head_bytes = codes "\r\nHEAD /x HTTP/1.0\n\n"

abbrev old_head_message : Message
old_head_message = record { method = codes "HEAD"; target = codes "/x"; minor = 0; fields = []; body = [] }

old_head_reads : ReadsMessage (old_head_bytes ++ codes "??") old_head_message (codes "??")
unfolding print_request is_token_byte framing_of comma_parts trim_ows
old_head_reads = record {
  bare = old_head_message;
  middle = codes "??";
  head = record {
    head = record { blank = crlf ∷ []; method = codes "HEAD"; target = codes "/x"; minor = 0; line_end = lf; fields = []; last = lf };
    reads = record {
      reads = (
        record {
          method = (omega arith, AllPass-from_list_all is_token_byte (codes "HEAD") refl);
          target = (omega arith, AllPass-from_list_all is_uri_byte (codes "/x") refl);
          target_text = IsUtf8-from_ascii (codes "/x") (ascii_of (codes "/x") (AllPass-from_list_all is_visible (codes "/x") refl));
          minor = omega arith;
          fields = All-nil IsField;
        },
        refl,
      );
      target = AllPass-from_list_all is_visible (codes "/x") refl;
    };
    fits = omega arith;
    fields = omega arith;
    message = record { method = refl; target = refl; minor = refl; fields = refl; body = refl };
  };
  framed = Empty;
  framing = refl;
  content = (refl, refl);
  same = refl;
}

-- a plan by which each message has that reply
abbrev all_fixed : Plans ℕ (ℕ × Reply)
all_fixed = record { plan = λ m. planned_reply not_found; task_of = λ e. e.0; reply_of = λ e. e.1 }

abbrev old_exchange : Exchange (ℕ × Reply)
old_exchange = record { number = 1; message = old_head_message; reply = not_found; entries = [] }

-- the reply has no body and closes, and what follows is not judged
closed_by_last : Served all_fixed 0 (old_head_bytes ++ codes "??") (old_head_bytes ++ codes "??") false 1 []
    (codes "HTTP/1.1 404 Not Found\r\nVary: Accept\r\nContent-Type: application/vnd.api+json\r\nContent-Length: 68\r\nConnection: close\r\n\r\n") Closed
unfolding reply_text reason digits expects_continue framing_of comma_parts trim_ows is_head closes
closed_by_last = record {
  untaken = [];
  front = refl;
  exchanges = old_exchange ∷ [];
  rest = codes "??";
  more = [];
  tail = [];
  runs = (codes "??", old_head_reads, refl, (refl, refl), (refl, refl));
  joined = refl;
  sent = refl;
  ends = (
    inr (record { front = []; last = old_exchange; whole = refl; open_front = All-nil (λ (x : Exchange (ℕ × Reply)). IsFalse (closes_by x)); closing = refl }),
    refl,
    refl,
  );
}
