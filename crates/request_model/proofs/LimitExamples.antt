-- Limits, worked.
use Rattle.std.specs.Prelude.{◌≡◌, ℕ, List, [], ◌∷◌, map, ◌++◌, replicate, true, false, None, Err, codes, refl, is_some, nat_le, length}
use Rattle.serde_json.specs.Data.{Data, null, string, array, object, member, no_members}
use Rattle.serde_json.specs.View.{items_of}
use Rattle.resource_schema.specs.declared.schema.Schema.{Schema}
use Rattle.resource_schema.specs.declared.values.Form.TheVariants as form
use Rattle.resource_schema.specs.declared.values.AttrValue.TheVariants as value
use Rattle.resource_schema.specs.Kinds.{to_one}
use Rattle.error_objects.specs.declared.codes.Code.TheVariants as code
use Rattle.error_objects.specs.Refusals.{at_pointer}
use Rattle.std.specs.List.{enumerate_from}
use Rattle.std.proofs.Common.{ap, ◌∙◌, IsAscii, zero, suc, arith}
use Rattle.std.proofs.lemmas.Str.{IsUtf8-from_ascii, is_utf8-from_IsUtf8}
use Rattle.request_model.specs.Words.{all_ok, some_if}
use Rattle.request_model.specs.Results.{◌>>◌, err_if}
use Rattle.request_model.specs.ReadingLaws.{items_list-items_of}
use Rattle.request_model.specs.Documents.{bad_document, indexed, many_linkage}
use Rattle.request_model.specs.Values.{value_from}
use Rattle.json_forms.specs.Json.{json_of, items_list}
use Rattle.request_model.specs.Queries.{include_path, paths_of, sort_keys_of}
use Rattle.request_model.specs.OperationLists.{operations_of}
use Rattle.request_model.proofs.OnLiterals.{requests_on_literals}
use Rattle.request_model.proofs.Blog.{blog, text_attribute}

abbrev list_of : ℕ → Data
list_of n = object (member (codes "atomic:operations") (array (items_of (replicate n null))) no_members)

too_many_operations : operations_of blog (list_of 1001) ≡ Err (at_pointer code.TooManyOperations (codes "/atomic:operations"))
unfolding requests_on_literals
too_many_operations = refl

thousand_operations : operations_of blog (list_of 1000) ≡ Err (at_pointer code.BadDocument (codes "/atomic:operations/0"))
unfolding requests_on_literals
thousand_operations = refl

nested_127 : is_some (json_of (replicate 127 91 ++ replicate 127 93)) ≡ true
unfolding requests_on_literals
nested_127 = refl

nested_128 : json_of (replicate 128 91 ++ replicate 128 93) ≡ None
unfolding requests_on_literals
nested_128 = refl

ascii : (n : ℕ) → IsAscii (replicate n 120)
ascii zero i = omega arith
ascii (suc n) zero = omega arith
ascii (suc n) (suc i) = ascii n i

long_text : is_some (value_from form.Text false (string (replicate 65536 120))) ≡ true
long_text = ap (λ b. is_some (some_if b (value.Text (replicate 65536 120)))) (is_utf8-from_IsUtf8 (replicate 65536 120) (IsUtf8-from_ascii (replicate 65536 120) (ascii 65536)))

too_long_text : value_from form.Text false (string (replicate 65537 120)) ≡ None
too_long_text = refl

attribute_twice : sort_keys_of blog 0 (codes "title,title,title") ≡ None
unfolding requests_on_literals
attribute_twice = refl

sixteen_paths : is_some (paths_of blog 0 (codes "author,author,author,author,author,author,author,author,author,author,author,author,author,author,author,author")) ≡ true
unfolding requests_on_literals
sixteen_paths = refl

seventeen_paths : paths_of blog 0 (codes "author,author,author,author,author,author,author,author,author,author,author,author,author,author,author,author,author") ≡ None
unfolding requests_on_literals
seventeen_paths = refl

-- a type with nine attributes and a relationship to itself
abbrev wide : Schema
wide =
    record { name = codes "t"; client_ids = false; attributes = map (λ b. text_attribute (b ∷ [])) (codes "abcdefghi"); relationships = to_one (codes "up") 0 ∷ [] } ∷ []

eight_sort_keys : is_some (sort_keys_of wide 0 (codes "a,b,c,d,e,f,g,-h")) ≡ true
unfolding requests_on_literals
eight_sort_keys = refl

nine_sort_keys : sort_keys_of wide 0 (codes "a,b,c,d,e,f,g,h,i") ≡ None
unfolding requests_on_literals
nine_sort_keys = refl

eight_names : is_some (include_path wide 0 (codes "up.up.up.up.up.up.up.up")) ≡ true
unfolding requests_on_literals
eight_names = refl

nine_names : include_path wide 0 (codes "up.up.up.up.up.up.up.up.up") ≡ None
unfolding requests_on_literals
nine_names = refl

no_name_in_path : include_path wide 0 (codes "up..up") ≡ None
unfolding requests_on_literals
no_name_in_path = refl

-- an array of 2 ^ 32 members or more
many_members : (ds : List Data) → nat_le 4294967296 (length ds) ≡ true → many_linkage blog 1 (codes "/data") (array (items_of ds)) ≡ Err (at_pointer code.BadDocument (codes "/data"))
many_members ds over =
    ap (λ b. ◌>>◌ (err_if b (bad_document (codes "/data"))) (all_ok (map (indexed blog 1 (codes "/data")) (enumerate_from 0 (items_list (items_of ds))))))
    (ap (λ l. nat_le 4294967296 (length l)) (items_list-items_of ds) ∙ over)
