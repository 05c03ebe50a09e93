-- Negotiation, worked.
use Rattle.std.specs.Prelude.{◌≡◌, ℕ, List, [], ◌∷◌, ◌++◌, true, false, Some, None, codes, refl}
use Rattle.request_model.proofs.OnLiterals.{requests_on_literals}
use Rattle.http_messages.specs.declared.messages.Field.{Field}
use Rattle.request_model.specs.declared.forms.Need.TheVariants as need
use Rattle.request_model.specs.declared.forms.ContentVerdict.TheVariants.{Good, BadType, BadEncoding}
use Rattle.request_model.specs.MediaTypes.{media_of}
use Rattle.request_model.specs.Negotiation.{content, acceptable}

abbrev field : List ℕ → List ℕ → Field
field name value = record { name = name; value = value }

a_media_type : media_of (codes " text/html ;; q=0.5 ; title=\"a \\\"b\\\"; c\"") ≡ Some (record { main = codes "text"; sub = codes "html"; params = record { name = codes "q"; value = codes "0.5" } ∷ record { name = codes "title"; value = codes "a \"b\"; c" } ∷ [] })
a_media_type = refl

open_quote : media_of (codes "text/html;a=\"b") ≡ None
open_quote = refl

plain_type : content (field (codes "content-type") (codes "application/vnd.api+json") ∷ []) need.Document ≡ Good
unfolding requests_on_literals
plain_type = refl

-- a parameter but `ext` and `profile` is refused
with_charset : content (field (codes "Content-Type") (codes "application/vnd.api+json; charset=utf-8") ∷ []) need.Document ≡ BadType
unfolding requests_on_literals
with_charset = refl

no_type : content [] need.Document ≡ BadType
no_type = refl

no_need : content (field (codes "Content-Type") (codes "text/plain") ∷ []) need.Nothing ≡ Good
unfolding requests_on_literals
no_need = refl

atomic_type : content (field (codes "Content-Type") (codes "application/vnd.api+json; ext=\"https://jsonapi.org/ext/atomic\"") ∷ []) need.Atomic ≡ Good
unfolding requests_on_literals
atomic_type = refl

list_without_extension : content (field (codes "Content-Type") (codes "application/vnd.api+json") ∷ []) need.Atomic ≡ BadType
unfolding requests_on_literals
list_without_extension = refl

compressed : content (field (codes "Content-Type") (codes "application/vnd.api+json") ∷ field (codes "Content-Encoding") (codes "gzip") ∷ []) need.Document ≡ BadEncoding
unfolding requests_on_literals
compressed = refl

-- one good instance is enough
second_is_good : acceptable (field (codes "Accept") (codes "application/vnd.api+json; charset=utf-8, application/vnd.api+json;q=0.1") ∷ []) ≡ true
unfolding requests_on_literals
second_is_good = refl

none_is_good : acceptable (field (codes "Accept") (codes "application/vnd.api+json; charset=utf-8") ∷ []) ≡ false
unfolding requests_on_literals
none_is_good = refl

any_type : acceptable (field (codes "Accept") (codes "*/*") ∷ []) ≡ true
unfolding requests_on_literals
any_type = refl

no_accept : acceptable [] ≡ true
no_accept = refl

-- a comma in a quoted string separates nothing
quoted_comma : acceptable (field (codes "accept") (codes "text/html;a=\",application/vnd.api+json;b=c,\"") ∷ []) ≡ true
unfolding requests_on_literals
quoted_comma = refl

-- ---- media types

-- every byte of a token but letters and digits
token_bytes : media_of (codes "!#$%&'*+-.^_`|~/AZaz09;x=1") ≡ Some (record { main = codes "!#$%&'*+-.^_`|~"; sub = codes "AZaz09"; params = record { name = codes "x"; value = codes "1" } ∷ [] })
unfolding requests_on_literals
token_bytes = refl

no_slash : media_of (codes "text") ≡ None
unfolding requests_on_literals
no_slash = refl

no_main : media_of (codes "/html") ≡ None
unfolding requests_on_literals
no_main = refl

no_sub : media_of (codes "text/") ≡ None
unfolding requests_on_literals
no_sub = refl

two_slashes : media_of (codes "a/b/c") ≡ None
unfolding requests_on_literals
two_slashes = refl

blank_in_type : media_of (codes "a /b") ≡ None
unfolding requests_on_literals
blank_in_type = refl

no_equals_sign : media_of (codes "a/b;c") ≡ None
unfolding requests_on_literals
no_equals_sign = refl

no_name : media_of (codes "a/b;=c") ≡ None
unfolding requests_on_literals
no_name = refl

no_value : media_of (codes "a/b;c=") ≡ None
unfolding requests_on_literals
no_value = refl

-- no blank around `=`
blank_before_value : media_of (codes "a/b;c= d") ≡ None
unfolding requests_on_literals
blank_before_value = refl

-- tabs are blanks as well
with_tab : media_of (codes "a/b" ++ 9 ∷ codes ";" ++ 9 ∷ codes "c=d" ++ 9 ∷ []) ≡ Some (record { main = codes "a"; sub = codes "b"; params = record { name = codes "c"; value = codes "d" } ∷ [] })
unfolding requests_on_literals
with_tab = refl

-- an empty string is a value
empty_string : media_of (codes "a/b;c=\"\"") ≡ Some (record { main = codes "a"; sub = codes "b"; params = record { name = codes "c"; value = [] } ∷ [] })
unfolding requests_on_literals
empty_string = refl

-- the blanks of a string stay
blanks_in_string : media_of (codes "a/b;c=\" d \"") ≡ Some (record { main = codes "a"; sub = codes "b"; params = record { name = codes "c"; value = codes " d " } ∷ [] })
unfolding requests_on_literals
blanks_in_string = refl

-- an escape stands for its byte, and separates nothing
escaped_semicolon : media_of (codes "a/b;c=\"\\;d\"") ≡ Some (record { main = codes "a"; sub = codes "b"; params = record { name = codes "c"; value = codes ";d" } ∷ [] })
unfolding requests_on_literals
escaped_semicolon = refl

escaped_escape : media_of (codes "a/b;c=\"\\\\\"") ≡ Some (record { main = codes "a"; sub = codes "b"; params = record { name = codes "c"; value = codes "\\" } ∷ [] })
unfolding requests_on_literals
escaped_escape = refl

open_escape : media_of (codes "a/b;c=\"\\") ≡ None
unfolding requests_on_literals
open_escape = refl

escaped_end : media_of (codes "a/b;c=\"d\\\"") ≡ None
unfolding requests_on_literals
escaped_end = refl

behind_string : media_of (codes "a/b;c=\"d\"e") ≡ None
unfolding requests_on_literals
behind_string = refl

quote_in_token : media_of (codes "a/b;c=d\"e\"") ≡ None
unfolding requests_on_literals
quote_in_token = refl

string_for_name : media_of (codes "a/b;\"c\"=d") ≡ None
unfolding requests_on_literals
string_for_name = refl

-- ---- Content-Type and Content-Encoding

-- a JSON:API type where no body is needed: a removal
type_without_need : content (field (codes "Content-Type") (codes "application/vnd.api+json") ∷ []) need.Nothing ≡ Good
unfolding requests_on_literals
type_without_need = refl

extension_without_need : content (field (codes "Content-Type") (codes "application/vnd.api+json;ext=\"https://jsonapi.org/ext/atomic\"") ∷ []) need.Nothing ≡ Good
unfolding requests_on_literals
extension_without_need = refl

charset_without_need : content (field (codes "Content-Type") (codes "application/vnd.api+json;charset=utf-8") ∷ []) need.Nothing ≡ BadType
unfolding requests_on_literals
charset_without_need = refl

no_field_without_need : content ([]) need.Nothing ≡ Good
unfolding requests_on_literals
no_field_without_need = refl

coding_without_need : content (field (codes "Content-Encoding") (codes "gzip") ∷ []) need.Nothing ≡ Good
unfolding requests_on_literals
coding_without_need = refl

no_list_type : content ([]) need.Atomic ≡ BadType
unfolding requests_on_literals
no_list_type = refl

two_types : content (field (codes "Content-Type") (codes "application/vnd.api+json") ∷ field (codes "Content-Type") (codes "application/vnd.api+json") ∷ []) need.Document ≡ BadType
unfolding requests_on_literals
two_types = refl

two_types_without_need : content (field (codes "Content-Type") (codes "text/plain") ∷ field (codes "Content-Type") (codes "text/plain") ∷ []) need.Nothing ≡ BadType
unfolding requests_on_literals
two_types_without_need = refl

another_type : content (field (codes "Content-Type") (codes "application/json") ∷ []) need.Document ≡ BadType
unfolding requests_on_literals
another_type = refl

-- both parts of the type count
another_main : content (field (codes "Content-Type") (codes "text/vnd.api+json") ∷ []) need.Document ≡ BadType
unfolding requests_on_literals
another_main = refl

another_main_without_need : content (field (codes "Content-Type") (codes "text/vnd.api+json;charset=utf-8") ∷ []) need.Nothing ≡ Good
unfolding requests_on_literals
another_main_without_need = refl

another_sub_without_need : content (field (codes "Content-Type") (codes "application/json;charset=utf-8") ∷ []) need.Nothing ≡ Good
unfolding requests_on_literals
another_sub_without_need = refl

no_media_type : content (field (codes "Content-Type") (codes "json") ∷ []) need.Document ≡ BadType
unfolding requests_on_literals
no_media_type = refl

no_media_type_without_need : content (field (codes "Content-Type") (codes "json") ∷ []) need.Nothing ≡ Good
unfolding requests_on_literals
no_media_type_without_need = refl

in_any_case : content (field (codes "CONTENT-TYPE") (codes "Application/VND.API+json; Profile=x; EXT=\"https://jsonapi.org/ext/atomic\"") ∷ []) need.Document ≡ Good
unfolding requests_on_literals
in_any_case = refl

with_profile : content (field (codes "Content-Type") (codes "application/vnd.api+json;profile=\"https://e.org/a https://e.org/b\"") ∷ []) need.Document ≡ Good
unfolding requests_on_literals
with_profile = refl

unknown_extension : content (field (codes "Content-Type") (codes "application/vnd.api+json;ext=\"https://e.org/x\"") ∷ []) need.Document ≡ BadType
unfolding requests_on_literals
unknown_extension = refl

-- one unknown URI among those of `ext`
one_unknown_extension : content (field (codes "Content-Type") (codes "application/vnd.api+json;ext=\"https://jsonapi.org/ext/atomic https://e.org/x\"") ∷ []) need.Atomic ≡ BadType
unfolding requests_on_literals
one_unknown_extension = refl

extension_between_spaces : content (field (codes "Content-Type") (codes "application/vnd.api+json;ext=\" https://jsonapi.org/ext/atomic  https://jsonapi.org/ext/atomic \"") ∷ []) need.Atomic ≡ Good
unfolding requests_on_literals
extension_between_spaces = refl

no_extension : content (field (codes "Content-Type") (codes "application/vnd.api+json;ext=\"\"") ∷ []) need.Document ≡ Good
unfolding requests_on_literals
no_extension = refl

no_extension_of_list : content (field (codes "Content-Type") (codes "application/vnd.api+json;ext=\"\"") ∷ []) need.Atomic ≡ BadType
unfolding requests_on_literals
no_extension_of_list = refl

-- URIs are matched by their bytes
extension_in_other_case : content (field (codes "Content-Type") (codes "application/vnd.api+json;ext=\"https://jsonapi.org/ext/Atomic\"") ∷ []) need.Document ≡ BadType
unfolding requests_on_literals
extension_in_other_case = refl

extension_as_profile : content (field (codes "Content-Type") (codes "application/vnd.api+json;profile=\"https://jsonapi.org/ext/atomic\"") ∷ []) need.Atomic ≡ BadType
unfolding requests_on_literals
extension_as_profile = refl

identity_in_any_case : content (field (codes "Content-Type") (codes "application/vnd.api+json") ∷ field (codes "Content-Encoding") (codes "Identity") ∷ []) need.Document ≡ Good
unfolding requests_on_literals
identity_in_any_case = refl

two_codings : content (field (codes "Content-Type") (codes "application/vnd.api+json") ∷ field (codes "Content-Encoding") (codes "identity") ∷ field (codes "Content-Encoding") (codes "gzip") ∷ []) need.Document ≡ BadEncoding
unfolding requests_on_literals
two_codings = refl

list_with_coding : content (field (codes "Content-Type") (codes "application/vnd.api+json;ext=\"https://jsonapi.org/ext/atomic\"") ∷ field (codes "Content-Encoding") (codes "gzip") ∷ []) need.Atomic ≡ BadEncoding
unfolding requests_on_literals
list_with_coding = refl

-- the type is judged first
type_before_coding : content (field (codes "Content-Type") (codes "text/plain") ∷ field (codes "Content-Encoding") (codes "gzip") ∷ []) need.Document ≡ BadType
unfolding requests_on_literals
type_before_coding = refl

-- ---- Accept

with_weight : acceptable (field (codes "Accept") (codes "application/vnd.api+json;q=0.5") ∷ []) ≡ true
unfolding requests_on_literals
with_weight = refl

weight_in_any_case : acceptable (field (codes "Accept") (codes "application/vnd.api+json;Q=0") ∷ []) ≡ true
unfolding requests_on_literals
weight_in_any_case = refl

accept_extension : acceptable (field (codes "Accept") (codes "application/vnd.api+json;ext=\"https://jsonapi.org/ext/atomic\"") ∷ []) ≡ true
unfolding requests_on_literals
accept_extension = refl

accept_profile : acceptable (field (codes "Accept") (codes "application/vnd.api+json;profile=\"https://e.org/a\"") ∷ []) ≡ true
unfolding requests_on_literals
accept_profile = refl

accept_unknown_extension : acceptable (field (codes "Accept") (codes "application/vnd.api+json;ext=\"https://e.org/x\"") ∷ []) ≡ false
unfolding requests_on_literals
accept_unknown_extension = refl

-- a type of another name does not help
other_beside : acceptable (field (codes "Accept") (codes "text/html, */*, application/vnd.api+json;charset=utf-8") ∷ []) ≡ false
unfolding requests_on_literals
other_beside = refl

-- all fields together are one list
good_in_second_field : acceptable (field (codes "Accept") (codes "application/vnd.api+json;charset=utf-8") ∷ field (codes "Accept") (codes "application/vnd.api+json") ∷ []) ≡ true
unfolding requests_on_literals
good_in_second_field = refl

bad_in_both_fields : acceptable (field (codes "Accept") (codes "application/vnd.api+json;charset=utf-8") ∷ field (codes "Accept") (codes "text/html,application/vnd.api+json;x=1") ∷ []) ≡ false
unfolding requests_on_literals
bad_in_both_fields = refl

-- an element that is no media type is skipped
skipped_element : acceptable (field (codes "Accept") (codes "application/vnd.api+json;charset, ;,") ∷ []) ≡ true
unfolding requests_on_literals
skipped_element = refl

empty_accept : acceptable (field (codes "Accept") [] ∷ []) ≡ true
unfolding requests_on_literals
empty_accept = refl

comma_in_string : acceptable (field (codes "Accept") (codes "application/vnd.api+json;x=\"a,application/vnd.api+json\"") ∷ []) ≡ false
unfolding requests_on_literals
comma_in_string = refl

escaped_quote_in_string : acceptable (field (codes "Accept") (codes "application/vnd.api+json;x=\"\\\",application/vnd.api+json\"") ∷ []) ≡ false
unfolding requests_on_literals
escaped_quote_in_string = refl
