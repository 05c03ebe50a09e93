-- Replies with their texts, computed by the definitions.
use Rattle.std.proofs.Common.{◌≡◌, ℕ, true, false, List, [], ◌∷◌, ◌++◌, refl}
use Rattle.std.specs.Prelude.{codes, Some, None, map}
use Rattle.std.specs.Fmt.{digits}
use Rattle.http_messages.specs.declared.messages.Reply.{Reply}
use Rattle.http_messages.specs.declared.messages.Content.TheVariants as content
use Rattle.http_messages.specs.declared.messages.Allow.TheVariants as allow
use Rattle.http_messages.specs.declared.messages.Stop.TheVariants as stop
use Rattle.http_messages.specs.Replies.{bare_reply, plain_reply, located_reply}
use Rattle.http_messages.specs.ReplyText.{reason, reply_text, interim_text, unavailable_text, stop_text, methods}

abbrev note : List ℕ
note = codes "{\"data\":{\"attributes\":{\"text\":\"hello\"},\"id\":\"1\",\"links\":{\"self\":\"/notes/1\"},\"type\":\"notes\"}}"

abbrev fetched_reply : Reply
fetched_reply = plain_reply 200 note

abbrev created_reply : Reply
created_reply = located_reply 201 (codes "/notes/1") note

created : reply_text created_reply false false ≡ codes "HTTP/1.1 201 Created\r\nVary: Accept\r\nContent-Type: application/vnd.api+json\r\nContent-Length: 92\r\nLocation: /notes/1\r\n\r\n" ++ note
unfolding reply_text reason digits
created = refl

fetched : reply_text fetched_reply false false ≡ codes "HTTP/1.1 200 OK\r\nVary: Accept\r\nContent-Type: application/vnd.api+json\r\nContent-Length: 92\r\n\r\n" ++ note
unfolding reply_text reason digits
fetched = refl

-- the same to HEAD, on a connection that closes
fetched_head : reply_text fetched_reply true true ≡ codes "HTTP/1.1 200 OK\r\nVary: Accept\r\nContent-Type: application/vnd.api+json\r\nContent-Length: 92\r\nConnection: close\r\n\r\n"
unfolding reply_text reason digits
fetched_head = refl

-- a 204 has neither length nor body
gone : reply_text (record (bare_reply 204) { body = note }) false true ≡ codes "HTTP/1.1 204 No Content\r\nVary: Accept\r\nConnection: close\r\n\r\n"
unfolding reply_text reason digits
gone = refl

not_allowed : reply_text (record (bare_reply 405) { content = content.Plain; allow = allow.Resource; body = codes "{\"errors\":[{\"code\":\"method-not-allowed\",\"status\":\"405\",\"title\":\"Method not allowed\"}]}" }) false false ≡ codes "HTTP/1.1 405 Method Not Allowed\r\nVary: Accept\r\nContent-Type: application/vnd.api+json\r\nContent-Length: 86\r\nAllow: GET, HEAD, PATCH, DELETE\r\n\r\n{\"errors\":[{\"code\":\"method-not-allowed\",\"status\":\"405\",\"title\":\"Method not allowed\"}]}"
unfolding reply_text reason digits
not_allowed = refl

page : reply_text (record (bare_reply 200) { content = content.Page; body = codes "{\"data\":[],\"links\":{\"next\":null,\"prev\":null}}" }) false false ≡ codes "HTTP/1.1 200 OK\r\nVary: Accept\r\nContent-Type: application/vnd.api+json;profile=\"https://jsonapi.org/profiles/ethanresnick/cursor-pagination/\"\r\nContent-Length: 45\r\n\r\n{\"data\":[],\"links\":{\"next\":null,\"prev\":null}}"
unfolding reply_text reason digits
page = refl

results : reply_text (record (bare_reply 200) { content = content.Atomic; body = codes "{\"atomic:results\":[{}]}" }) false false ≡ codes "HTTP/1.1 200 OK\r\nVary: Accept\r\nContent-Type: application/vnd.api+json;ext=\"https://jsonapi.org/ext/atomic\"\r\nContent-Length: 23\r\n\r\n{\"atomic:results\":[{}]}"
unfolding reply_text reason digits
results = refl

refused : reply_text (record (bare_reply 400) { content = content.Plain; body = codes "{\"errors\":[{\"code\":\"bad-message\",\"status\":\"400\",\"title\":\"Malformed message\"}]}" }) false true ≡ codes "HTTP/1.1 400 Bad Request\r\nVary: Accept\r\nContent-Type: application/vnd.api+json\r\nContent-Length: 78\r\nConnection: close\r\n\r\n{\"errors\":[{\"code\":\"bad-message\",\"status\":\"400\",\"title\":\"Malformed message\"}]}"
unfolding reply_text reason digits
refused = refl

-- another status has no reason, and the space before it stays
other_status : reply_text (bare_reply 299) false false ≡ codes "HTTP/1.1 299 \r\nVary: Accept\r\nContent-Length: 0\r\n\r\n"
unfolding reply_text reason digits
other_status = refl

-- the reasons of all statuses that are answered
reasons : map reason (200 ∷ 201 ∷ 204 ∷ 400 ∷ 403 ∷ 404 ∷ 405 ∷ 406 ∷ 409 ∷ 413 ∷ 415 ∷ 417 ∷ 422 ∷ 431 ∷ 500 ∷ 501 ∷ 502 ∷ 503 ∷ 507 ∷ [])
    ≡ map codes ("OK" ∷ "Created" ∷ "No Content" ∷ "Bad Request" ∷ "Forbidden" ∷ "Not Found" ∷ "Method Not Allowed" ∷ "Not Acceptable"
    ∷ "Conflict" ∷ "Content Too Large" ∷ "Unsupported Media Type" ∷ "Expectation Failed" ∷ "Unprocessable Content"
    ∷ "Request Header Fields Too Large" ∷ "Internal Server Error" ∷ "Not Implemented" ∷ "Bad Gateway" ∷ "Service Unavailable"
    ∷ "Insufficient Storage" ∷ [])
unfolding reason
reasons = refl

-- the methods of all targets
all_methods : map methods (allow.Collection ∷ allow.Resource ∷ allow.Related ∷ allow.One ∷ allow.Many ∷ allow.Operations ∷ [])
    ≡ map codes ("GET, HEAD, POST" ∷ "GET, HEAD, PATCH, DELETE" ∷ "GET, HEAD" ∷ "GET, HEAD, PATCH" ∷ "GET, HEAD, PATCH, POST, DELETE" ∷ "POST" ∷ [])
all_methods = refl

-- the fixed texts are those of empty replies that close
unavailable : reply_text (bare_reply 503) false true ≡ unavailable_text
unfolding reply_text reason digits unavailable_text
unavailable = refl

worn : reply_text (bare_reply 507) false true ≡ stop_text stop.Worn
unfolding reply_text reason digits stop_text
worn = refl

store_fault : reply_text (bare_reply 500) false true ≡ stop_text stop.Store
unfolding reply_text reason digits stop_text
store_fault = refl

feed_fault : reply_text (bare_reply 502) false true ≡ stop_text stop.Feed
unfolding reply_text reason digits stop_text
feed_fault = refl

interim : interim_text ≡ codes "HTTP/1.1 100 Continue\r\n\r\n"
unfolding interim_text
interim = refl
