-- Numbers that are drawn, and requests with their texts, computed by the definitions.
use Rattle.std.proofs.Common.{◌≡◌, ℕ, List, [], ◌∷◌, refl}
use Rattle.std.specs.Prelude.{◌+◌, zero, suc, codes, length}
use Rattle.std.specs.Fmt.{digits}
use Rattle.workload_maker.specs.declared.requests.Request.{Request}
use Rattle.workload_maker.specs.declared.requests.Request.TheVariants.{AddPerson, AddArticle, SetViews, DropArticle, ReadPage, ReadArticle, AddComment}
use Rattle.workload_maker.specs.Draws.{drawn, next_state}
use Rattle.workload_maker.specs.Requests.{request_at, requests, state_at, text_of}

-- ---- numbers

abbrev drawn_from : ℕ → ℕ → List ℕ
drawn_from zero state = []
drawn_from (suc count) state = drawn state 10 ∷ drawn_from count (next_state state)

of_zero : drawn_from 6 0 ≡ 7 ∷ 4 ∷ 7 ∷ 6 ∷ 5 ∷ 1 ∷ []
of_zero = refl

of_seven : drawn_from 6 7 ≡ 8 ∷ 1 ∷ 3 ∷ 3 ∷ 5 ∷ 9 ∷ []
of_seven = refl

state_behind : next_state 7 ≡ 9098160460397411210
state_behind = refl

-- ---- what is asked for

abbrev at : ℕ → ℕ → Request
at seed count = request_at (count + 1) (state_at seed count)

last_person : at 7 9 ≡ AddPerson 10
last_person = refl

seed_stays : state_at 7 10 ≡ 7
seed_stays = refl

first_of_zero : at 0 10 ≡ ReadPage
first_of_zero = refl

first_of_seven : at 7 10 ≡ ReadArticle 1
first_of_seven = refl

second_of_seven : at 7 11 ≡ AddArticle 2 4
second_of_seven = refl

third_of_seven : at 7 12 ≡ SetViews 3 3
third_of_seven = refl

fourth_of_seven : at 7 13 ≡ SetViews 1 4
fourth_of_seven = refl

fifth_of_seven : at 7 14 ≡ AddComment 5
fifth_of_seven = refl

sixth_of_seven : at 7 15 ≡ DropArticle 2
sixth_of_seven = refl

all : length (requests 6 7) ≡ 16
all = refl

-- ---- texts

person : text_of (AddPerson 10) ≡ codes "POST /people HTTP/1.1\r\nHost: h\r\nContent-Type: application/vnd.api+json\r\nContent-Length: 54\r\n\r\n{\"data\":{\"attributes\":{\"name\":\"p10\"},\"type\":\"people\"}}"
unfolding digits
person = refl

article : text_of (AddArticle 2 4) ≡ codes "POST /articles HTTP/1.1\r\nHost: h\r\nContent-Type: application/vnd.api+json\r\nContent-Length: 119\r\n\r\n{\"data\":{\"attributes\":{\"title\":\"t2\"},\"relationships\":{\"author\":{\"data\":{\"id\":\"4\",\"type\":\"people\"}}},\"type\":\"articles\"}}"
unfolding digits
article = refl

views : text_of (SetViews 3 7) ≡ codes "PATCH /articles/3 HTTP/1.1\r\nHost: h\r\nContent-Type: application/vnd.api+json\r\nContent-Length: 62\r\n\r\n{\"data\":{\"attributes\":{\"views\":7},\"id\":\"3\",\"type\":\"articles\"}}"
unfolding digits
views = refl

dropped : text_of (DropArticle 2) ≡ codes "DELETE /articles/2 HTTP/1.1\r\nHost: h\r\n\r\n"
unfolding digits
dropped = refl

page : text_of ReadPage ≡ codes "GET /articles?page[size]=20&include=author HTTP/1.1\r\nHost: h\r\n\r\n"
unfolding digits
page = refl

read : text_of (ReadArticle 1) ≡ codes "GET /articles/1 HTTP/1.1\r\nHost: h\r\n\r\n"
unfolding digits
read = refl

comment : text_of (AddComment 5) ≡ codes "POST /comments HTTP/1.1\r\nHost: h\r\nContent-Type: application/vnd.api+json\r\nContent-Length: 55\r\n\r\n{\"data\":{\"attributes\":{\"text\":\"c5\"},\"type\":\"comments\"}}"
unfolding digits
comment = refl
