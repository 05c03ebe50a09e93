-- The requests of a workload (of this project).
use Rattle.std.specs.Prelude.{ℕ, ◌+◌, ◌-◌, ◌==◌, zero, suc, Bool, not, ◌&&◌, nat_le, nat_lt, List, [], ◌∷◌, ◌++◌, length, codes, decimal, if◌then◌else◌}
use Rattle.workload_maker.specs.declared.requests.Request.{Request}
use Rattle.workload_maker.specs.declared.requests.Request.TheVariants.{AddPerson, AddArticle, SetViews, DropArticle, ReadPage, ReadArticle, AddComment}
use Rattle.workload_maker.specs.Draws.{drawn, next_state}

-- ---- texts (RFC 9112, section 3)

-- a request without a body
abbrev pub bare_text : List ℕ → List ℕ → List ℕ
bare_text method target = method ++ (codes " " ++ (target ++ codes " HTTP/1.1\r\nHost: h\r\n\r\n"))

-- a request with a body
abbrev pub full_text : List ℕ → List ℕ → List ℕ → List ℕ
full_text method target body =
    method ++ (codes " " ++ (target ++ (codes " HTTP/1.1\r\nHost: h\r\nContent-Type: application/vnd.api+json\r\nContent-Length: " ++ (decimal (length body) ++ (codes "\r\n\r\n" ++ body)))))

-- a number within a text
abbrev pub around : List ℕ → ℕ → List ℕ → List ℕ
around before number behind = before ++ (decimal number ++ behind)

abbrev pub article_target : ℕ → List ℕ
article_target number = codes "/articles/" ++ decimal number

-- the documents that are sent (JSON:API 1.1, "Creating Resources", "Updating Resources")
abbrev pub person_body : ℕ → List ℕ
person_body number = around (codes "{\"data\":{\"attributes\":{\"name\":\"p") number (codes "\"},\"type\":\"people\"}}")

abbrev pub article_body : ℕ → ℕ → List ℕ
article_body title author =
    around (codes "{\"data\":{\"attributes\":{\"title\":\"t") title
    (around (codes "\"},\"relationships\":{\"author\":{\"data\":{\"id\":\"") author (codes "\",\"type\":\"people\"}}},\"type\":\"articles\"}}"))

abbrev pub views_body : ℕ → ℕ → List ℕ
views_body article views =
    around (codes "{\"data\":{\"attributes\":{\"views\":") views (around (codes "},\"id\":\"") article (codes "\",\"type\":\"articles\"}}"))

abbrev pub comment_body : ℕ → List ℕ
comment_body number = around (codes "{\"data\":{\"attributes\":{\"text\":\"c") number (codes "\"},\"type\":\"comments\"}}")

-- the text of what a request asks for
abbrev pub text_of : Request → List ℕ
text_of (AddPerson number) = full_text (codes "POST") (codes "/people") (person_body number)
text_of (AddArticle title author) = full_text (codes "POST") (codes "/articles") (article_body title author)
text_of (SetViews article views) = full_text (codes "PATCH") (article_target article) (views_body article views)
text_of (DropArticle article) = bare_text (codes "DELETE") (article_target article)
text_of ReadPage = bare_text (codes "GET") (codes "/articles?page[size]=20&include=author")
text_of (ReadArticle article) = bare_text (codes "GET") (article_target article)
text_of (AddComment number) = full_text (codes "POST") (codes "/comments") (comment_body number)

-- ---- requests by their numbers

-- the people that are made first
abbrev pub people : ℕ
people = 10

-- the request behind the people of that number, where its kind was drawn and led to this state
abbrev pub request_of : ℕ → ℕ → ℕ → Request
request_of kind number state =
    if nat_lt kind 4 then AddArticle number (drawn state 10 + 1)
    else (if nat_lt kind 6 then SetViews (drawn state number + 1) number
    else (if kind == 6 then DropArticle (drawn state number + 1)
    else (if kind == 7 then ReadPage
    else (if kind == 8 then ReadArticle (drawn state number + 1)
    else AddComment number))))

-- whether a request of that kind draws a second number
abbrev pub draws_again : ℕ → Bool
draws_again kind = nat_lt kind 9 && not (kind == 7)

-- the request of a number, from 1, in a state: first the people, without a draw
abbrev pub request_at : ℕ → ℕ → Request
request_at number state =
    if nat_le number people then AddPerson number
    else request_of (drawn state 10) (number - people) (next_state state)

-- the state behind it
abbrev pub state_after : ℕ → ℕ → ℕ
state_after number state =
    if nat_le number people then state
    else (if draws_again (drawn state 10) then next_state (next_state state) else next_state state)

-- its text
abbrev pub request_text : ℕ → ℕ → List ℕ
request_text number state = text_of (request_at number state)

-- ---- all requests of a seed

-- the state behind the first so many
abbrev pub state_at : ℕ → ℕ → ℕ
state_at seed zero = seed
state_at seed (suc count) = state_after (suc count) (state_at seed count)

-- the texts of the first so many
abbrev pub first_requests : ℕ → ℕ → List (List ℕ)
first_requests seed zero = []
first_requests seed (suc count) = first_requests seed count ++ request_text (suc count) (state_at seed count) ∷ []

-- the people, and so many requests behind them
abbrev pub requests : ℕ → ℕ → List (List ℕ)
requests count seed = first_requests seed (people + count)
