-- Queries, worked.
use Rattle.std.specs.Prelude.{◌≡◌, ℕ, List, [], ◌∷◌, true, false, Some, None, Result, Ok, Err, codes, refl}
use Rattle.resource_schema.specs.declared.targets.Target.{Target}
use Rattle.resource_schema.specs.declared.targets.Target.TheVariants as target
use Rattle.error_objects.specs.declared.codes.Code.{Code}
use Rattle.error_objects.specs.declared.codes.Code.TheVariants as code
use Rattle.error_objects.specs.declared.refusals.Refusal.{Refusal}
use Rattle.task_forms.specs.declared.queries.Query.{Query}
use Rattle.resource_schema.specs.declared.values.AttrValue.TheVariants as value
use Rattle.error_objects.specs.Refusals.{at_parameter}
use Rattle.task_forms.specs.Queries.{first_page, no_query}
use Rattle.request_model.specs.Queries.{in_brackets, query_of, pairs_of, page_size_of, no_parameter}
use Rattle.request_model.proofs.OnLiterals.{requests_on_literals}
use Rattle.request_model.proofs.Blog.{blog}

abbrev refused : Code → List ℕ → Result Query Refusal
refused c name = Err (at_parameter c name)

abbrev article : Target
article = target.Resource (record { kind = 0; id = codes "1" })

abbrev articles : List ℕ → Result Query Refusal
articles text = query_of blog (target.Collection 0) text

decoded_pairs : pairs_of (codes "a=1&&b+c=%41%FF&d") ≡ (codes "a", codes "1") ∷ (codes "b c", 65 ∷ 239 ∷ 191 ∷ 189 ∷ []) ∷ (codes "d", []) ∷ []
unfolding requests_on_literals
decoded_pairs = refl

nothing : articles [] ≡ Ok no_query
unfolding requests_on_literals
nothing = refl

sorted : articles (codes "sort=-title,views&page[size]=2") ≡ Ok (record {
  pairs = (codes "sort", codes "-title,views") ∷ (codes "page[size]", codes "2") ∷ [];
  include = None;
  fields = [];
  sort = record { attribute = 1; descending = true } ∷ record { attribute = 2; descending = false } ∷ [];
  page = record { size = 2; after = None; before = None };
})
unfolding requests_on_literals
sorted = refl

sort_of_relationship : articles (codes "sort=author") ≡ refused code.BadSort (codes "sort")
unfolding requests_on_literals
sort_of_relationship = refl

sort_twice : articles (codes "sort=title&sort=title") ≡ refused code.RepeatedParameter (codes "sort")
unfolding requests_on_literals
sort_twice = refl

-- the first from left to right, whatever is wrong with it
unknown_first : articles (codes "x=1&sort=author") ≡ refused code.UnknownParameter (codes "x")
unfolding requests_on_literals
unknown_first = refl

size_of_resource : query_of blog article (codes "page%5Bsize%5D=1") ≡ refused code.UnknownParameter (codes "page[size]")
unfolding requests_on_literals
size_of_resource = refl

too_large : articles (codes "page[size]=1001") ≡ refused code.BadPageSize (codes "page[size]")
unfolding requests_on_literals
too_large = refl

included : query_of blog article (codes "include=author,comments.author&fields[articles]=title") ≡ Ok (record {
  pairs = (codes "include", codes "author,comments.author") ∷ (codes "fields[articles]", codes "title") ∷ [];
  include = Some (record { rels = 0 ∷ [] } ∷ record { rels = 1 ∷ 0 ∷ [] } ∷ []);
  fields = (0, codes "title" ∷ []) ∷ [];
  sort = [];
  page = first_page;
})
unfolding requests_on_literals
included = refl

include_of_attribute : query_of blog article (codes "include=author.name") ≡ refused code.BadInclude (codes "include")
unfolding requests_on_literals
include_of_attribute = refl

fields_of_unknown : query_of blog article (codes "fields[tags]=x") ≡ refused code.BadFields (codes "fields[tags]")
unfolding requests_on_literals
fields_of_unknown = refl

include_of_linkage : query_of blog (target.Linkage (record { kind = 0; id = codes "1" }) 0) (codes "include=author") ≡ refused code.UnknownParameter (codes "include")
unfolding requests_on_literals
include_of_linkage = refl

-- the values of a cursor have the forms of the sort, wherever `sort` stands
cursor_of_sort : articles (codes "page[after]=W251bGwsIjIiXQ&sort=draft") ≡ Ok (record {
  pairs = (codes "page[after]", codes "W251bGwsIjIiXQ") ∷ (codes "sort", codes "draft") ∷ [];
  include = None;
  fields = [];
  sort = record { attribute = 0; descending = false } ∷ [];
  page = record { size = 50; after = Some (record { values = value.Null ∷ []; id = codes "2" }); before = None };
})
unfolding requests_on_literals
cursor_of_sort = refl

padded_cursor : articles (codes "page[after]=WyIyIl0=") ≡ refused code.BadCursor (codes "page[after]")
unfolding requests_on_literals
padded_cursor = refl

two_cursors : articles (codes "page[after]=WyIxIl0&page[before]=WyI1Il0&page[size]=2") ≡ Ok (record no_query {
  pairs = (codes "page[after]", codes "WyIxIl0") ∷ (codes "page[before]", codes "WyI1Il0") ∷ (codes "page[size]", codes "2") ∷ [];
  page = record { size = 2; after = Some (record { values = []; id = codes "1" }); before = Some (record { values = []; id = codes "5" }) };
})
unfolding requests_on_literals
two_cursors = refl

-- `include` without a path is there and asks for nothing
empty_include : query_of blog article (codes "include=") ≡ Ok (record no_query { pairs = (codes "include", []) ∷ []; include = Some [] })
unfolding requests_on_literals
empty_include = refl

empty_field_set : query_of blog article (codes "fields[articles]=&include=author") ≡ Ok (record no_query { pairs = (codes "fields[articles]", []) ∷ (codes "include", codes "author") ∷ []; include = Some (record { rels = 0 ∷ [] } ∷ []); fields = (0, []) ∷ [] })
unfolding requests_on_literals
empty_field_set = refl

-- the name of a family without its end is no member of it
half_family : articles (codes "fields[articles=title") ≡ refused code.UnknownParameter (codes "fields[articles")
unfolding requests_on_literals
half_family = refl

empty_family : articles (codes "fields[]=title") ≡ refused code.BadFields (codes "fields[]")
unfolding requests_on_literals
empty_family = refl

-- the least and the greatest page, in 1 to 9 digits
least_page : page_size_of (codes "1") ≡ Some 1
unfolding requests_on_literals
least_page = refl

greatest_page : page_size_of (codes "1000") ≡ Some 1000
unfolding requests_on_literals
greatest_page = refl

page_of_none : page_size_of (codes "0") ≡ None
unfolding requests_on_literals
page_of_none = refl

page_too_large : page_size_of (codes "1001") ≡ None
unfolding requests_on_literals
page_too_large = refl

nine_digits : page_size_of (codes "000000001") ≡ Some 1
unfolding requests_on_literals
nine_digits = refl

ten_digits : page_size_of (codes "0000000001") ≡ None
unfolding requests_on_literals
ten_digits = refl

no_digits : page_size_of [] ≡ None
unfolding requests_on_literals
no_digits = refl

-- a sign is no digit
signed_size : page_size_of (codes "+1") ≡ None
unfolding requests_on_literals
signed_size = refl

letter_in_size : page_size_of (codes "1a") ≡ None
unfolding requests_on_literals
letter_in_size = refl

size_of_none : articles (codes "page[size]=0") ≡ refused code.BadPageSize (codes "page[size]")
unfolding requests_on_literals
size_of_none = refl

size_twice : articles (codes "page[size]=1&page[size]=2") ≡ refused code.RepeatedParameter (codes "page[size]")
unfolding requests_on_literals
size_twice = refl

-- an unknown parameter is no repeated one
unknown_twice : articles (codes "x=1&x=1") ≡ refused code.UnknownParameter (codes "x")
unfolding requests_on_literals
unknown_twice = refl

-- an empty value of `sort` names no attribute
empty_sort : articles (codes "sort=") ≡ refused code.BadSort (codes "sort")
unfolding requests_on_literals
empty_sort = refl

-- both orders of one attribute
both_orders : articles (codes "sort=title,-title") ≡ refused code.BadSort (codes "sort")
unfolding requests_on_literals
both_orders = refl

two_signs : articles (codes "sort=--title") ≡ refused code.BadSort (codes "sort")
unfolding requests_on_literals
two_signs = refl

-- a cursor is repeated as any parameter is
cursor_twice : articles (codes "page[after]=WyIyIl0&page[after]=WyIyIl0") ≡ refused code.RepeatedParameter (codes "page[after]")
unfolding requests_on_literals
cursor_twice = refl

-- the cursors are judged after the pairs, `page[after]` first
bad_cursors : articles (codes "page[before]=y&page[after]=x") ≡ refused code.BadCursor (codes "page[after]")
unfolding requests_on_literals
bad_cursors = refl

bad_second_cursor : articles (codes "page[before]=y&page[after]=WyIyIl0") ≡ refused code.BadCursor (codes "page[before]")
unfolding requests_on_literals
bad_second_cursor = refl

range_and_unknown : articles (codes "page[after]=x&page[before]=y&z") ≡ refused code.UnknownParameter (codes "z")
unfolding requests_on_literals
range_and_unknown = refl

bad_before : articles (codes "page[before]=y") ≡ refused code.BadCursor (codes "page[before]")
unfolding requests_on_literals
bad_before = refl

-- null in a cursor of `title`, which is never null
null_in_cursor : articles (codes "page[after]=W251bGwsIjIiXQ&sort=title") ≡ refused code.BadCursor (codes "page[after]")
unfolding requests_on_literals
null_in_cursor = refl

before_cursor : articles (codes "page[before]=WyIyIl0&page[size]=1000") ≡ Ok (record no_query { pairs = (codes "page[before]", codes "WyIyIl0") ∷ (codes "page[size]", codes "1000") ∷ []; page = record { size = 1000; after = None; before = Some (record { values = []; id = codes "2" }) } })
unfolding requests_on_literals
before_cursor = refl

after_cursor : articles (codes "page[after]=WyIyIl0") ≡ Ok (record no_query { pairs = (codes "page[after]", codes "WyIyIl0") ∷ []; page = record { size = 50; after = Some (record { values = []; id = codes "2" }); before = None } })
unfolding requests_on_literals
after_cursor = refl

-- two members of one family
two_field_sets : query_of blog article (codes "fields[people]=name&fields[articles]=comments,title") ≡ Ok (record no_query { pairs = (codes "fields[people]", codes "name") ∷ (codes "fields[articles]", codes "comments,title") ∷ []; fields = (2, codes "name" ∷ []) ∷ (0, codes "comments" ∷ codes "title" ∷ []) ∷ [] })
unfolding requests_on_literals
two_field_sets = refl

field_set_twice : articles (codes "fields[people]=name&fields[people]=") ≡ refused code.RepeatedParameter (codes "fields[people]")
unfolding requests_on_literals
field_set_twice = refl

field_of_another_type : articles (codes "fields[people]=title") ≡ refused code.BadFields (codes "fields[people]")
unfolding requests_on_literals
field_of_another_type = refl

one_bad_field : articles (codes "fields[articles]=title,name") ≡ refused code.BadFields (codes "fields[articles]")
unfolding requests_on_literals
one_bad_field = refl

one_bad_path : articles (codes "include=author,name") ≡ refused code.BadInclude (codes "include")
unfolding requests_on_literals
one_bad_path = refl

include_twice : articles (codes "include=author&include=") ≡ refused code.RepeatedParameter (codes "include")
unfolding requests_on_literals
include_twice = refl

-- a path goes on from the type that the one before leads to
path_off_its_type : articles (codes "include=author.comments") ≡ refused code.BadInclude (codes "include")
unfolding requests_on_literals
path_off_its_type = refl

-- what the targets know
abbrev comments_of : Target
comments_of = target.Related (record { kind = 0; id = codes "1" }) 1

abbrev author_of : Target
author_of = target.Related (record { kind = 0; id = codes "1" }) 0

abbrev link_of : Target
link_of = target.Linkage (record { kind = 0; id = codes "1" }) 1

-- the primary data are comments
sort_of_related : query_of blog comments_of (codes "sort=text&include=author") ≡ Ok (record no_query { pairs = (codes "sort", codes "text") ∷ (codes "include", codes "author") ∷ []; include = Some (record { rels = 0 ∷ [] } ∷ []); sort = record { attribute = 0; descending = false } ∷ [] })
unfolding requests_on_literals
sort_of_related = refl

cursor_of_related : query_of blog comments_of (codes "page[size]=1&page[before]=WyIyIl0") ≡ Ok (record no_query { pairs = (codes "page[size]", codes "1") ∷ (codes "page[before]", codes "WyIyIl0") ∷ []; page = record { size = 1; after = None; before = Some (record { values = []; id = codes "2" }) } })
unfolding requests_on_literals
cursor_of_related = refl

title_of_related : query_of blog comments_of (codes "sort=title") ≡ refused code.BadSort (codes "sort")
unfolding requests_on_literals
title_of_related = refl

-- one resource is no page
sort_of_one : query_of blog author_of (codes "sort=name") ≡ refused code.UnknownParameter (codes "sort")
unfolding requests_on_literals
sort_of_one = refl

fields_of_one : query_of blog author_of (codes "fields[people]=name") ≡ Ok (record no_query { pairs = (codes "fields[people]", codes "name") ∷ []; fields = (2, codes "name" ∷ []) ∷ [] })
unfolding requests_on_literals
fields_of_one = refl

include_of_one : query_of blog author_of (codes "include=author") ≡ refused code.BadInclude (codes "include")
unfolding requests_on_literals
include_of_one = refl

sort_of_resource : query_of blog article (codes "sort=title") ≡ refused code.UnknownParameter (codes "sort")
unfolding requests_on_literals
sort_of_resource = refl

after_of_resource : query_of blog article (codes "page[after]=WyIyIl0") ≡ refused code.UnknownParameter (codes "page[after]")
unfolding requests_on_literals
after_of_resource = refl

-- a linkage and the list of operations know no parameter
sort_of_linkage : query_of blog link_of (codes "sort=text") ≡ refused code.UnknownParameter (codes "sort")
unfolding requests_on_literals
sort_of_linkage = refl

fields_of_linkage : query_of blog link_of (codes "fields[comments]=text") ≡ refused code.UnknownParameter (codes "fields[comments]")
unfolding requests_on_literals
fields_of_linkage = refl

include_of_list : query_of blog target.Operations (codes "include=author") ≡ refused code.UnknownParameter (codes "include")
unfolding requests_on_literals
include_of_list = refl

sort_of_list : query_of blog target.Operations (codes "sort=title") ≡ refused code.UnknownParameter (codes "sort")
unfolding requests_on_literals
sort_of_list = refl

-- other methods know none, whatever its name
no_pair : no_parameter [] ≡ None
unfolding requests_on_literals
no_pair = refl

known_name : no_parameter (pairs_of (codes "page%5Bsize%5D=1&x")) ≡ Some (at_parameter code.UnknownParameter (codes "page[size]"))
unfolding requests_on_literals
known_name = refl

in_page : in_brackets (codes "page") (codes "page[size]") ≡ Some (codes "size")
unfolding requests_on_literals
in_page = refl

of_another_family : in_brackets (codes "filter") (codes "fields[notes]") ≡ None
unfolding requests_on_literals
of_another_family = refl

behind_brackets : in_brackets (codes "fields") (codes "fields[notes]s") ≡ None
unfolding requests_on_literals
behind_brackets = refl

in_no_brackets : in_brackets (codes "fields") (codes "fields") ≡ None
unfolding requests_on_literals
in_no_brackets = refl
