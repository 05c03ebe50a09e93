-- Targets, worked.
use Rattle.std.specs.Prelude.{◌≡◌, [], false, Some, None, codes, refl, ℕ, List, ◌∷◌, ◌++◌}
use Rattle.request_model.proofs.OnLiterals.{requests_on_literals}
use Rattle.resource_schema.specs.declared.targets.Target.TheVariants as target
use Rattle.http_messages.specs.declared.messages.Allow.{Allow}
use Rattle.http_messages.specs.declared.messages.Allow.TheVariants as allow
use Rattle.http_messages.specs.ReplyText as text_of
use Rattle.request_model.specs.declared.forms.Need.TheVariants as need
use Rattle.request_model.specs.Targets.{split_target, target_of_path, allow_of, allowed_methods, allows, need_of}
use Rattle.request_model.proofs.Blog.{blog}

in_origin_form : split_target (codes "/notes?page[size]=2?") ≡ Some (codes "/notes", codes "page[size]=2?")
in_origin_form = refl

in_absolute_form : split_target (codes "HtTp://h:80/notes/1?x") ≡ Some (codes "/notes/1", codes "x")
in_absolute_form = refl

without_path : split_target (codes "https://h?x/y") ≡ Some (codes "/", codes "x/y")
without_path = refl

only_authority : split_target (codes "http://h") ≡ Some (codes "/", [])
only_authority = refl

asterisk_form : split_target (codes "*") ≡ None
asterisk_form = refl

a_collection : target_of_path blog (codes "/people") ≡ Some (target.Collection 2)
unfolding requests_on_literals
a_collection = refl

-- segments are decoded
a_resource : target_of_path blog (codes "/%61rticles/%31") ≡ Some (target.Resource (record { kind = 0; id = codes "1" }))
unfolding requests_on_literals
a_resource = refl

a_related : target_of_path blog (codes "/articles/1/comments") ≡ Some (target.Related (record { kind = 0; id = codes "1" }) 1)
unfolding requests_on_literals
a_related = refl

a_linkage : target_of_path blog (codes "/articles/1/relationships/author") ≡ Some (target.Linkage (record { kind = 0; id = codes "1" }) 0)
unfolding requests_on_literals
a_linkage = refl

-- `relationships` is matched as it stands, and a segment that is no UTF-8 names nothing
encoded_word : target_of_path blog (codes "/articles/1/%72elationships/author") ≡ None
unfolding requests_on_literals
encoded_word = refl

no_utf8 : target_of_path blog (codes "/articles/%FF") ≡ None
unfolding requests_on_literals
no_utf8 = refl

a_list : target_of_path blog (codes "/operations") ≡ Some target.Operations
unfolding requests_on_literals
a_list = refl

-- words with a comma and a space between them
joined : List (List ℕ) → List ℕ
joined [] = []
joined (m ∷ []) = m
joined (m ∷ n ∷ ms) = m ++ codes ", " ++ joined (n ∷ ms)

-- what the field Allow says is the list of the methods that are answered (RFC 9110, section 10.2.1)
allow_names_methods : (a : Allow) → text_of.methods a ≡ joined (allowed_methods a)
unfolding joined
allow_names_methods allow.Nothing = refl
allow_names_methods allow.Collection = refl
allow_names_methods allow.Resource = refl
allow_names_methods allow.Related = refl
allow_names_methods allow.One = refl
allow_names_methods allow.Many = refl
allow_names_methods allow.Operations = refl

to_one_methods : allowed_methods (allow_of blog (target.Linkage (record { kind = 0; id = codes "1" }) 0)) ≡ codes "GET" ∷ codes "HEAD" ∷ codes "PATCH" ∷ []
to_one_methods = refl

unknown_method : allows allow.Resource (codes "PUT") ≡ false
unknown_method = refl

removal_of_links : need_of allow.Many (codes "DELETE") ≡ need.Document
removal_of_links = refl

-- ---- forms of targets

other_scheme : split_target (codes "ftp://h/x") ≡ None
unfolding requests_on_literals
other_scheme = refl

half_scheme : split_target (codes "http:/h/x") ≡ None
unfolding requests_on_literals
half_scheme = refl

secure_scheme : split_target (codes "HTTPS://h/notes?a") ≡ Some (codes "/notes", codes "a")
unfolding requests_on_literals
secure_scheme = refl

no_target : split_target [] ≡ None
unfolding requests_on_literals
no_target = refl

authority_form : split_target (codes "h:80") ≡ None
unfolding requests_on_literals
authority_form = refl

without_query : split_target (codes "/notes") ≡ Some (codes "/notes", [])
unfolding requests_on_literals
without_query = refl

only_query : split_target (codes "/?a") ≡ Some (codes "/", codes "a")
unfolding requests_on_literals
only_query = refl

-- ---- paths that lead nowhere

root : target_of_path blog (codes "/") ≡ None
unfolding requests_on_literals
root = refl

empty_path : target_of_path blog [] ≡ None
unfolding requests_on_literals
empty_path = refl

unrooted : target_of_path blog (codes "people") ≡ None
unfolding requests_on_literals
unrooted = refl

before_root : target_of_path blog (codes "x/people") ≡ None
unfolding requests_on_literals
before_root = refl

end_slash : target_of_path blog (codes "/people/") ≡ None
unfolding requests_on_literals
end_slash = refl

two_slashes : target_of_path blog (codes "//people") ≡ None
unfolding requests_on_literals
two_slashes = refl

unknown_type : target_of_path blog (codes "/tags") ≡ None
unfolding requests_on_literals
unknown_type = refl

type_in_other_case : target_of_path blog (codes "/People") ≡ None
unfolding requests_on_literals
type_in_other_case = refl

bad_id : target_of_path blog (codes "/people/a%20b") ≡ None
unfolding requests_on_literals
bad_id = refl

attribute_name : target_of_path blog (codes "/articles/1/title") ≡ None
unfolding requests_on_literals
attribute_name = refl

no_relationship : target_of_path blog (codes "/articles/1/relationships") ≡ None
unfolding requests_on_literals
no_relationship = refl

attribute_linkage : target_of_path blog (codes "/articles/1/relationships/title") ≡ None
unfolding requests_on_literals
attribute_linkage = refl

other_word : target_of_path blog (codes "/articles/1/relations/author") ≡ None
unfolding requests_on_literals
other_word = refl

too_long : target_of_path blog (codes "/articles/1/relationships/author/x") ≡ None
unfolding requests_on_literals
too_long = refl

encoded_operations : target_of_path blog (codes "/%6Fperations") ≡ None
unfolding requests_on_literals
encoded_operations = refl

below_operations : target_of_path blog (codes "/operations/1") ≡ None
unfolding requests_on_literals
below_operations = refl

encoded_relationship : target_of_path blog (codes "/articles/1/relationships/%61uthor") ≡ Some (target.Linkage (record { kind = 0; id = codes "1" }) 0)
unfolding requests_on_literals
encoded_relationship = refl

encoded_related : target_of_path blog (codes "/articles/1/%61uthor") ≡ Some (target.Related (record { kind = 0; id = codes "1" }) 0)
unfolding requests_on_literals
encoded_related = refl

-- an encoded slash separates nothing
encoded_slash : target_of_path blog (codes "/articles%2F1") ≡ None
unfolding requests_on_literals
encoded_slash = refl

-- ---- methods

of_collection : allowed_methods allow.Collection ≡ codes "GET" ∷ codes "HEAD" ∷ codes "POST" ∷ []
unfolding requests_on_literals
of_collection = refl

of_resource : allowed_methods allow.Resource ≡ codes "GET" ∷ codes "HEAD" ∷ codes "PATCH" ∷ codes "DELETE" ∷ []
unfolding requests_on_literals
of_resource = refl

of_related : allowed_methods allow.Related ≡ codes "GET" ∷ codes "HEAD" ∷ []
unfolding requests_on_literals
of_related = refl

of_one : allowed_methods allow.One ≡ codes "GET" ∷ codes "HEAD" ∷ codes "PATCH" ∷ []
unfolding requests_on_literals
of_one = refl

of_many : allowed_methods allow.Many ≡ codes "GET" ∷ codes "HEAD" ∷ codes "PATCH" ∷ codes "POST" ∷ codes "DELETE" ∷ []
unfolding requests_on_literals
of_many = refl

of_operations : allowed_methods allow.Operations ≡ codes "POST" ∷ []
unfolding requests_on_literals
of_operations = refl

-- methods are matched by their bytes
method_in_other_case : allows allow.Collection (codes "get") ≡ false
unfolding requests_on_literals
method_in_other_case = refl

collection_allows : allow_of blog (target.Collection 0) ≡ allow.Collection
unfolding requests_on_literals
collection_allows = refl

resource_allows : allow_of blog (target.Resource (record { kind = 0; id = codes "1" })) ≡ allow.Resource
unfolding requests_on_literals
resource_allows = refl

related_allows : allow_of blog (target.Related (record { kind = 0; id = codes "1" }) 1) ≡ allow.Related
unfolding requests_on_literals
related_allows = refl

many_allows : allow_of blog (target.Linkage (record { kind = 0; id = codes "1" }) 1) ≡ allow.Many
unfolding requests_on_literals
many_allows = refl

operations_allow : allow_of blog target.Operations ≡ allow.Operations
unfolding requests_on_literals
operations_allow = refl

-- ---- what needs a body

get_of_collection : need_of allow.Collection (codes "GET") ≡ need.Nothing
unfolding requests_on_literals
get_of_collection = refl

head_of_collection : need_of allow.Collection (codes "HEAD") ≡ need.Nothing
unfolding requests_on_literals
head_of_collection = refl

post_of_collection : need_of allow.Collection (codes "POST") ≡ need.Document
unfolding requests_on_literals
post_of_collection = refl

get_of_resource : need_of allow.Resource (codes "GET") ≡ need.Nothing
unfolding requests_on_literals
get_of_resource = refl

patch_of_resource : need_of allow.Resource (codes "PATCH") ≡ need.Document
unfolding requests_on_literals
patch_of_resource = refl

delete_of_resource : need_of allow.Resource (codes "DELETE") ≡ need.Nothing
unfolding requests_on_literals
delete_of_resource = refl

get_of_related : need_of allow.Related (codes "GET") ≡ need.Nothing
unfolding requests_on_literals
get_of_related = refl

head_of_related : need_of allow.Related (codes "HEAD") ≡ need.Nothing
unfolding requests_on_literals
head_of_related = refl

get_of_one : need_of allow.One (codes "GET") ≡ need.Nothing
unfolding requests_on_literals
get_of_one = refl

patch_of_one : need_of allow.One (codes "PATCH") ≡ need.Document
unfolding requests_on_literals
patch_of_one = refl

head_of_many : need_of allow.Many (codes "HEAD") ≡ need.Nothing
unfolding requests_on_literals
head_of_many = refl

patch_of_many : need_of allow.Many (codes "PATCH") ≡ need.Document
unfolding requests_on_literals
patch_of_many = refl

post_of_many : need_of allow.Many (codes "POST") ≡ need.Document
unfolding requests_on_literals
post_of_many = refl

post_of_operations : need_of allow.Operations (codes "POST") ≡ need.Atomic
unfolding requests_on_literals
post_of_operations = refl
