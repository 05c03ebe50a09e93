-- Worked rows of the definitions, by computing them.
use Rattle.std.proofs.Common.{◌≡◌, [], ◌∷◌, ◌++◌, codes, Some, None, option_map, option_and_then, pos, negsuc, true, refl, replicate}
use Rattle.std.specs.Fmt.{digits}
use Rattle.std.specs.Str.{is_utf8, chars}
use lib.Utf8.{encode}
use Rattle.serde_json.proofs.OnLiterals.{serde_json_on_literals}
use Rattle.serde_json.specs.Data.{unsigned, negative, null, boolean, number, string, array, object, no_items, item, member, no_members, depth}
use Rattle.serde_json.specs.Find.{get}
use Rattle.serde_json.specs.Written.{compact_text}
use Rattle.json_forms.specs.Json.{json_of, int_of, text_at}
use Rattle.json_forms.specs.Pointer.{escape, ◌//◌}

notes_schema : json_of (codes "{\"types\":{\"notes\":{\"attributes\":{\"text\":{\"type\":\"text\"}}}}}")
    ≡ Some (object (member (codes "types") (object (member (codes "notes") (object (member (codes "attributes") (object (member (codes "text") (object (member (codes "type") (string (codes "text")) no_members)) no_members)) no_members)) no_members)) no_members))
unfolding serde_json_on_literals is_utf8 chars encode
notes_schema = refl

-- the default of `views` of articles
blog_schema : option_and_then int_of (option_and_then (get (codes "default")) (option_and_then (get (codes "views")) (option_and_then (get (codes "attributes")) (option_and_then (get (codes "articles")) (option_and_then (get (codes "types")) (json_of (codes "{\"types\":{\"articles\":{\"attributes\":{\"draft\":{\"type\":\"bool\",\"nullable\":true},\"title\":{\"type\":\"text\"},\"views\":{\"type\":\"int\",\"default\":0}},\"relationships\":{\"author\":{\"kind\":\"one\",\"target\":\"people\"},\"comments\":{\"kind\":\"many\",\"target\":\"comments\"}}},\"comments\":{\"attributes\":{\"text\":{\"type\":\"text\"}},\"relationships\":{\"author\":{\"kind\":\"one\",\"target\":\"people\"}}},\"people\":{\"client-ids\":true,\"attributes\":{\"name\":{\"type\":\"text\"}}}}}")))))))
    ≡ Some (pos 0)
unfolding serde_json_on_literals is_utf8 chars encode
blog_schema = refl

no_text_is_empty : json_of [] ≡ None
unfolding serde_json_on_literals is_utf8 chars encode
no_text_is_empty = refl

no_bytes_behind : json_of (codes "{} x") ≡ None
unfolding serde_json_on_literals is_utf8 chars encode
no_bytes_behind = refl

no_broken_utf8 : json_of (34 ∷ 255 ∷ 34 ∷ []) ≡ None
unfolding serde_json_on_literals is_utf8 chars encode
no_broken_utf8 = refl

no_lone_surrogate : json_of (codes "\"\\ud800\"") ≡ None
unfolding serde_json_on_literals is_utf8 chars encode
no_lone_surrogate = refl

no_huge_float : json_of (codes "[1e400]") ≡ None
unfolding serde_json_on_literals is_utf8 chars encode
no_huge_float = refl

-- of two members with one name the last stays, and the names stand in byte order
last_stays : json_of (codes "{\"a\":1,\"b\":2,\"a\":3}") ≡ Some (object (member (codes "a") (number (unsigned 3)) (member (codes "b") (number (unsigned 2)) no_members)))
unfolding serde_json_on_literals is_utf8 chars encode
last_stays = refl

text_of_member : option_and_then (text_at (codes "id")) (json_of (codes "{\"type\":\"people\",\"id\":\"7\"}")) ≡ Some (codes "7")
unfolding serde_json_on_literals is_utf8 chars encode
text_of_member = refl

-- ---- integers

minus_zero : option_and_then int_of (json_of (codes "-0")) ≡ None
unfolding serde_json_on_literals is_utf8 chars encode
minus_zero = refl

greatest_int : option_and_then int_of (json_of (codes "9223372036854775807")) ≡ Some (pos 9223372036854775807)
unfolding serde_json_on_literals is_utf8 chars encode
greatest_int = refl

too_great_int : option_and_then int_of (json_of (codes "9223372036854775808")) ≡ None
unfolding serde_json_on_literals is_utf8 chars encode
too_great_int = refl

least_int : option_and_then int_of (json_of (codes "-9223372036854775808")) ≡ Some (negsuc 9223372036854775807)
unfolding serde_json_on_literals is_utf8 chars encode
least_int = refl

one_point_zero : option_and_then int_of (json_of (codes "1.0")) ≡ None
unfolding serde_json_on_literals is_utf8 chars encode
one_point_zero = refl

-- ---- pointers (RFC 6901, sections 3 and 5)

escaped : escape (codes "a~/b") ≡ codes "a~0~1b"
unfolding escape
escaped = refl

member_pointer : codes "/data/attributes" // codes "m~n" ≡ codes "/data/attributes/m~0n"
unfolding escape
member_pointer = refl

-- ---- written texts

document : compact_text (object (member (codes "data") (array (item (object (member (codes "id") (string (codes "7")) (member (codes "type") (string (codes "people")) no_members))) (item null no_items))) (member (codes "meta") (object (member (codes "count") (number (negative (negsuc 0))) (member (codes "done") (boolean true) no_members))) no_members)))
    ≡ codes "{\"data\":[{\"id\":\"7\",\"type\":\"people\"},null],\"meta\":{\"count\":-1,\"done\":true}}"
unfolding serde_json_on_literals digits
document = refl

two_sort_values : compact_text (array (item null (item (string (codes "2")) no_items))) ≡ codes "[null,\"2\"]"
unfolding serde_json_on_literals digits
two_sort_values = refl

-- ---- how deep a text may nest

-- ninety-one is `[`, and ninety-three `]`
nests_127 : option_map depth (json_of (replicate 127 91 ++ replicate 127 93)) ≡ Some 127
unfolding serde_json_on_literals is_utf8 chars encode
nests_127 = refl

nests_128 : json_of (replicate 128 91 ++ replicate 128 93) ≡ None
unfolding serde_json_on_literals is_utf8 chars encode
nests_128 = refl
