-- The operations of a list, worked: each word and what it is aimed at.
use Rattle.std.specs.Prelude.{◌≡◌, ℕ, List, [], ◌∷◌, ◌++◌, Some, None, Option, Result, Ok, Err, codes, refl, option_map}
use Rattle.resource_schema.specs.declared.values.AttrValue.TheVariants as value
use Rattle.error_objects.specs.declared.codes.Code.{Code}
use Rattle.error_objects.specs.declared.codes.Code.TheVariants as code
use Rattle.error_objects.specs.declared.refusals.Refusal.{Refusal}
use Rattle.task_forms.specs.declared.operations.Named.TheVariants as named
use Rattle.task_forms.specs.declared.operations.Where.TheVariants as stands
use Rattle.task_forms.specs.declared.operations.Operation.{Operation}
use Rattle.task_forms.specs.declared.operations.Operation.TheVariants.{Create, Update, Remove, SetLinks, AddLinks, DropLinks}
use Rattle.error_objects.specs.Refusals.{at_pointer}
use Rattle.json_forms.specs.Json.{json_of}
use Rattle.request_model.specs.OperationLists.{operations_of}
use Rattle.request_model.proofs.OnLiterals.{requests_on_literals}
use Rattle.request_model.proofs.Blog.{blog}

abbrev Answer : Type 0
Answer = Option (Result (List Operation) Refusal)

abbrev operations : List ℕ → Answer
operations text = option_map (operations_of blog) (json_of (codes "{\"atomic:operations\":" ++ text ++ codes "}"))

abbrev refused : Code → List ℕ → Answer
refused c at = Some (Err (at_pointer c at))

abbrev document : List ℕ → Answer
document text = option_map (operations_of blog) (json_of text)

-- ---- the document

root_no_object : document (codes "[]") ≡ refused code.BadDocument []
unfolding requests_on_literals
root_no_object = refl

no_list : document (codes "{}") ≡ refused code.BadDocument []
unfolding requests_on_literals
no_list = refl

list_no_array : operations (codes "{}") ≡ refused code.BadDocument (codes "/atomic:operations")
unfolding requests_on_literals
list_no_array = refl

results_beside : document (codes "{\"atomic:results\":[],\"atomic:operations\":1}") ≡ refused code.BadDocument (codes "/atomic:results")
unfolding requests_on_literals
results_beside = refl

included_beside : document (codes "{\"included\":[],\"atomic:operations\":1}") ≡ refused code.BadDocument (codes "/included")
unfolding requests_on_literals
included_beside = refl

-- other members are ignored
meta_beside : document (codes "{\"meta\":{},\"atomic:operations\":[{\"op\":\"remove\",\"ref\":{\"type\":\"people\",\"id\":\"9\"},\"meta\":1}]}") ≡ Some (Ok (Remove (record { named = named.Id (record { kind = 2; id = codes "9" }); place = stands.Ref }) ∷ []))
unfolding requests_on_literals
meta_beside = refl

-- ---- the word

no_operation_object : operations (codes "[1]") ≡ refused code.BadDocument (codes "/atomic:operations/0")
unfolding requests_on_literals
no_operation_object = refl

no_word : operations (codes "[{\"data\":{\"type\":\"people\",\"attributes\":{\"name\":\"A\"}}}]") ≡ refused code.BadDocument (codes "/atomic:operations/0")
unfolding requests_on_literals
no_word = refl

word_no_text : operations (codes "[{\"op\":1}]") ≡ refused code.BadDocument (codes "/atomic:operations/0/op")
unfolding requests_on_literals
word_no_text = refl

-- words are matched by their bytes
other_case : operations (codes "[{\"op\":\"Add\",\"data\":{\"type\":\"people\",\"attributes\":{\"name\":\"A\"}}}]") ≡ refused code.BadDocument (codes "/atomic:operations/0/op")
unfolding requests_on_literals
other_case = refl

-- the operations are read in order
first_of_two : operations (codes "[{\"op\":\"add\"},{\"op\":\"move\"}]") ≡ refused code.BadDocument (codes "/atomic:operations/0")
unfolding requests_on_literals
first_of_two = refl

-- ---- by `ref`

ref_no_object : operations (codes "[{\"op\":\"update\",\"ref\":null}]") ≡ refused code.BadDocument (codes "/atomic:operations/0/ref")
unfolding requests_on_literals
ref_no_object = refl

ref_without_type : operations (codes "[{\"op\":\"remove\",\"ref\":{\"id\":\"9\"}}]") ≡ refused code.BadDocument (codes "/atomic:operations/0/ref")
unfolding requests_on_literals
ref_without_type = refl

ref_without_id : operations (codes "[{\"op\":\"remove\",\"ref\":{\"type\":\"people\"}}]") ≡ refused code.BadDocument (codes "/atomic:operations/0/ref")
unfolding requests_on_literals
ref_without_id = refl

-- its form is judged before its names
ref_form_first : operations (codes "[{\"op\":\"remove\",\"ref\":{\"type\":\"tags\"}}]") ≡ refused code.BadDocument (codes "/atomic:operations/0/ref")
unfolding requests_on_literals
ref_form_first = refl

ref_with_both_ids : operations (codes "[{\"op\":\"remove\",\"ref\":{\"type\":\"people\",\"id\":\"9\",\"lid\":\"p\"}}]") ≡ refused code.BadDocument (codes "/atomic:operations/0/ref")
unfolding requests_on_literals
ref_with_both_ids = refl

ref_of_unknown_type : operations (codes "[{\"op\":\"remove\",\"ref\":{\"type\":\"tags\",\"id\":\"9\"}}]") ≡ refused code.NotFound (codes "/atomic:operations/0/ref/type")
unfolding requests_on_literals
ref_of_unknown_type = refl

-- no resource has such an id
ref_with_bad_id : operations (codes "[{\"op\":\"remove\",\"ref\":{\"type\":\"people\",\"id\":\"a b\"}}]") ≡ refused code.NotFound (codes "/atomic:operations/0/ref/id")
unfolding requests_on_literals
ref_with_bad_id = refl

bad_id_before_relationship : operations (codes "[{\"op\":\"add\",\"ref\":{\"type\":\"articles\",\"id\":\"\",\"relationship\":\"x\"}}]") ≡ refused code.NotFound (codes "/atomic:operations/0/ref/id")
unfolding requests_on_literals
bad_id_before_relationship = refl

-- a local id is any text
ref_with_any_lid : operations (codes "[{\"op\":\"remove\",\"ref\":{\"type\":\"people\",\"lid\":\"a b\"}}]") ≡ Some (Ok (Remove (record { named = named.Lid 2 (codes "a b"); place = stands.Ref }) ∷ []))
unfolding requests_on_literals
ref_with_any_lid = refl

-- the form of a ref is blamed on the ref as a whole
ref_relationship_no_text : operations (codes "[{\"op\":\"add\",\"ref\":{\"type\":\"tags\",\"id\":\"1\",\"relationship\":1}}]") ≡ refused code.BadDocument (codes "/atomic:operations/0/ref")
unfolding requests_on_literals
ref_relationship_no_text = refl

ref_of_unknown_relationship : operations (codes "[{\"op\":\"add\",\"ref\":{\"type\":\"articles\",\"id\":\"1\",\"relationship\":\"title\"}}]") ≡ refused code.NotFound (codes "/atomic:operations/0/ref/relationship")
unfolding requests_on_literals
ref_of_unknown_relationship = refl

-- ---- by `href`

href_no_text : operations (codes "[{\"op\":\"remove\",\"href\":1}]") ≡ refused code.BadDocument (codes "/atomic:operations/0/href")
unfolding requests_on_literals
href_no_text = refl

href_of_unknown_type : operations (codes "[{\"op\":\"remove\",\"href\":\"/tags/9\"}]") ≡ refused code.NotFound (codes "/atomic:operations/0/href")
unfolding requests_on_literals
href_of_unknown_type = refl

href_with_bad_id : operations (codes "[{\"op\":\"remove\",\"href\":\"/people/a%20b\"}]") ≡ refused code.NotFound (codes "/atomic:operations/0/href")
unfolding requests_on_literals
href_with_bad_id = refl

both_aims : operations (codes "[{\"op\":\"remove\",\"ref\":{\"type\":\"people\",\"id\":\"9\"},\"href\":\"/people/9\"}]") ≡ refused code.BadDocument (codes "/atomic:operations/0")
unfolding requests_on_literals
both_aims = refl

href_of_list : operations (codes "[{\"op\":\"add\",\"href\":\"/operations\",\"data\":{\"type\":\"people\",\"attributes\":{\"name\":\"A\"}}}]") ≡ refused code.BadDocument (codes "/atomic:operations/0/href")
unfolding requests_on_literals
href_of_list = refl

-- ---- `add`

add_by_collection : operations (codes "[{\"op\":\"add\",\"href\":\"/people\",\"data\":{\"type\":\"people\",\"id\":\"ann\",\"attributes\":{\"name\":\"A\"}}}]") ≡ Some (Ok (Create 2 (Some (codes "ann")) None (value.Text (codes "A") ∷ []) [] ∷ []))
unfolding requests_on_literals
add_by_collection = refl

add_of_other_type : operations (codes "[{\"op\":\"add\",\"href\":\"/comments\",\"data\":{\"type\":\"people\",\"attributes\":{\"name\":\"A\"}}}]") ≡ refused code.TypeMismatch (codes "/atomic:operations/0/data/type")
unfolding requests_on_literals
add_of_other_type = refl

add_to_resource : operations (codes "[{\"op\":\"add\",\"href\":\"/people/9\",\"data\":{\"type\":\"people\",\"attributes\":{\"name\":\"A\"}}}]") ≡ refused code.BadDocument (codes "/atomic:operations/0/href")
unfolding requests_on_literals
add_to_resource = refl

add_to_ref : operations (codes "[{\"op\":\"add\",\"ref\":{\"type\":\"people\",\"id\":\"9\"},\"data\":{\"type\":\"people\",\"attributes\":{\"name\":\"A\"}}}]") ≡ refused code.BadDocument (codes "/atomic:operations/0/ref")
unfolding requests_on_literals
add_to_ref = refl

add_without_data : operations (codes "[{\"op\":\"add\"}]") ≡ refused code.BadDocument (codes "/atomic:operations/0")
unfolding requests_on_literals
add_without_data = refl

add_links_by_href : operations (codes "[{\"op\":\"add\",\"href\":\"/articles/1/relationships/comments\",\"data\":[{\"type\":\"comments\",\"lid\":\"c\"}]}]") ≡ Some (Ok (AddLinks (record { named = named.Id (record { kind = 0; id = codes "1" }); place = stands.Href }) 1 (record { named = named.Lid 1 (codes "c"); index = Some 0 } ∷ []) ∷ []))
unfolding requests_on_literals
add_links_by_href = refl

-- the pair of word and target is judged before the data
add_one_without_data : operations (codes "[{\"op\":\"add\",\"ref\":{\"type\":\"articles\",\"id\":\"1\",\"relationship\":\"author\"}}]") ≡ refused code.BadDocument (codes "/atomic:operations/0/op")
unfolding requests_on_literals
add_one_without_data = refl

-- ---- `update`

update_without_data : operations (codes "[{\"op\":\"update\",\"ref\":{\"type\":\"people\",\"id\":\"9\"}}]") ≡ refused code.BadDocument (codes "/atomic:operations/0")
unfolding requests_on_literals
update_without_data = refl

update_of_collection : operations (codes "[{\"op\":\"update\",\"href\":\"/people\",\"data\":{\"type\":\"people\",\"id\":\"9\"}}]") ≡ refused code.BadDocument (codes "/atomic:operations/0/href")
unfolding requests_on_literals
update_of_collection = refl

update_by_data : operations (codes "[{\"op\":\"update\",\"data\":{\"type\":\"people\",\"id\":\"9\"}}]") ≡ Some (Ok (Update (record { named = named.Id (record { kind = 2; id = codes "9" }); place = stands.Data }) [] [] ∷ []))
unfolding requests_on_literals
update_by_data = refl

update_of_bad_id : operations (codes "[{\"op\":\"update\",\"data\":{\"type\":\"people\",\"id\":\"a b\"}}]") ≡ refused code.NotFound (codes "/atomic:operations/0/data/id")
unfolding requests_on_literals
update_of_bad_id = refl

update_without_name : operations (codes "[{\"op\":\"update\",\"data\":{\"type\":\"people\"}}]") ≡ refused code.BadDocument (codes "/atomic:operations/0/data")
unfolding requests_on_literals
update_without_name = refl

update_with_two_names : operations (codes "[{\"op\":\"update\",\"data\":{\"type\":\"people\",\"id\":\"9\",\"lid\":\"p\"}}]") ≡ refused code.BadDocument (codes "/atomic:operations/0/data")
unfolding requests_on_literals
update_with_two_names = refl

aimed_update_with_two_names : operations (codes "[{\"op\":\"update\",\"ref\":{\"type\":\"people\",\"id\":\"9\"},\"data\":{\"type\":\"people\",\"id\":\"9\",\"lid\":\"p\"}}]") ≡ refused code.BadDocument (codes "/atomic:operations/0/data")
unfolding requests_on_literals
aimed_update_with_two_names = refl

lid_no_text : operations (codes "[{\"op\":\"update\",\"data\":{\"type\":\"people\",\"lid\":1}}]") ≡ refused code.BadDocument (codes "/atomic:operations/0/data/lid")
unfolding requests_on_literals
lid_no_text = refl

update_by_ref : operations (codes "[{\"op\":\"update\",\"ref\":{\"type\":\"people\",\"lid\":\"p\"},\"data\":{\"type\":\"people\",\"lid\":\"p\"}}]") ≡ Some (Ok (Update (record { named = named.Lid 2 (codes "p"); place = stands.Ref }) [] [] ∷ []))
unfolding requests_on_literals
update_by_ref = refl

-- the data names what `ref` or `href` names, and in the same way
other_id : operations (codes "[{\"op\":\"update\",\"ref\":{\"type\":\"people\",\"id\":\"9\"},\"data\":{\"type\":\"people\",\"id\":\"8\"}}]") ≡ refused code.IdMismatch (codes "/atomic:operations/0/data/id")
unfolding requests_on_literals
other_id = refl

other_lid : operations (codes "[{\"op\":\"update\",\"ref\":{\"type\":\"people\",\"lid\":\"p\"},\"data\":{\"type\":\"people\",\"lid\":\"q\"}}]") ≡ refused code.IdMismatch (codes "/atomic:operations/0/data/lid")
unfolding requests_on_literals
other_lid = refl

lid_for_id : operations (codes "[{\"op\":\"update\",\"ref\":{\"type\":\"people\",\"id\":\"p\"},\"data\":{\"type\":\"people\",\"lid\":\"p\"}}]") ≡ refused code.IdMismatch (codes "/atomic:operations/0/data/lid")
unfolding requests_on_literals
lid_for_id = refl

id_for_lid : operations (codes "[{\"op\":\"update\",\"ref\":{\"type\":\"people\",\"lid\":\"p\"},\"data\":{\"type\":\"people\",\"id\":\"p\"}}]") ≡ refused code.IdMismatch (codes "/atomic:operations/0/data/id")
unfolding requests_on_literals
id_for_lid = refl

lid_for_path : operations (codes "[{\"op\":\"update\",\"href\":\"/people/p\",\"data\":{\"type\":\"people\",\"lid\":\"p\"}}]") ≡ refused code.IdMismatch (codes "/atomic:operations/0/data/lid")
unfolding requests_on_literals
lid_for_path = refl

update_of_other_type : operations (codes "[{\"op\":\"update\",\"href\":\"/people/9\",\"data\":{\"type\":\"comments\",\"id\":\"9\"}}]") ≡ refused code.TypeMismatch (codes "/atomic:operations/0/data/type")
unfolding requests_on_literals
update_of_other_type = refl

set_one : operations (codes "[{\"op\":\"update\",\"ref\":{\"type\":\"articles\",\"id\":\"1\",\"relationship\":\"author\"},\"data\":{\"type\":\"people\",\"id\":\"9\"}}]") ≡ Some (Ok (SetLinks (record { named = named.Id (record { kind = 0; id = codes "1" }); place = stands.Ref }) 0 (record { named = named.Id (record { kind = 2; id = codes "9" }); index = None } ∷ []) ∷ []))
unfolding requests_on_literals
set_one = refl

set_many : operations (codes "[{\"op\":\"update\",\"href\":\"/articles/1/relationships/comments\",\"data\":[]}]") ≡ Some (Ok (SetLinks (record { named = named.Id (record { kind = 0; id = codes "1" }); place = stands.Href }) 1 [] ∷ []))
unfolding requests_on_literals
set_many = refl

set_null : operations (codes "[{\"op\":\"update\",\"href\":\"/articles/1/relationships/comments\",\"data\":null}]") ≡ refused code.BadDocument (codes "/atomic:operations/0/data")
unfolding requests_on_literals
set_null = refl

set_without_data : operations (codes "[{\"op\":\"update\",\"href\":\"/articles/1/relationships/author\"}]") ≡ refused code.BadDocument (codes "/atomic:operations/0")
unfolding requests_on_literals
set_without_data = refl

-- ---- `remove`

-- the removal of a resource needs no data
remove_with_data : operations (codes "[{\"op\":\"remove\",\"href\":\"/people/9\",\"data\":1}]") ≡ Some (Ok (Remove (record { named = named.Id (record { kind = 2; id = codes "9" }); place = stands.Href }) ∷ []))
unfolding requests_on_literals
remove_with_data = refl

remove_nothing : operations (codes "[{\"op\":\"remove\",\"data\":{\"type\":\"people\",\"id\":\"9\"}}]") ≡ refused code.BadDocument (codes "/atomic:operations/0")
unfolding requests_on_literals
remove_nothing = refl

remove_collection : operations (codes "[{\"op\":\"remove\",\"href\":\"/people\"}]") ≡ refused code.BadDocument (codes "/atomic:operations/0/href")
unfolding requests_on_literals
remove_collection = refl

remove_related : operations (codes "[{\"op\":\"remove\",\"href\":\"/articles/1/comments\"}]") ≡ refused code.BadDocument (codes "/atomic:operations/0/href")
unfolding requests_on_literals
remove_related = refl

remove_one : operations (codes "[{\"op\":\"remove\",\"href\":\"/articles/1/relationships/author\",\"data\":{\"type\":\"people\",\"id\":\"9\"}}]") ≡ refused code.BadDocument (codes "/atomic:operations/0/op")
unfolding requests_on_literals
remove_one = refl

remove_many : operations (codes "[{\"op\":\"remove\",\"ref\":{\"type\":\"articles\",\"id\":\"1\",\"relationship\":\"comments\"},\"data\":[{\"type\":\"comments\",\"id\":\"7\"},{\"type\":\"comments\",\"id\":\"8\"}]}]") ≡ Some (Ok (DropLinks (record { named = named.Id (record { kind = 0; id = codes "1" }); place = stands.Ref }) 1 (record { named = named.Id (record { kind = 1; id = codes "7" }); index = Some 0 } ∷ record { named = named.Id (record { kind = 1; id = codes "8" }); index = Some 1 } ∷ []) ∷ []))
unfolding requests_on_literals
remove_many = refl

remove_many_without_data : operations (codes "[{\"op\":\"remove\",\"ref\":{\"type\":\"articles\",\"id\":\"1\",\"relationship\":\"comments\"}}]") ≡ refused code.BadDocument (codes "/atomic:operations/0")
unfolding requests_on_literals
remove_many_without_data = refl

remove_wrong_member : operations (codes "[{\"op\":\"remove\",\"href\":\"/articles/1/relationships/comments\",\"data\":[{\"type\":\"comments\",\"id\":\"7\"},{\"type\":\"people\",\"id\":\"7\"}]}]") ≡ refused code.WrongTarget (codes "/atomic:operations/0/data/1/type")
unfolding requests_on_literals
remove_wrong_member = refl

-- the first of the members that may not be there, in the order results, data, included
results_and_data : document (codes "{\"data\":1,\"atomic:results\":[],\"atomic:operations\":1}") ≡ refused code.BadDocument (codes "/atomic:results")
unfolding requests_on_literals
results_and_data = refl

data_and_included : document (codes "{\"included\":[],\"data\":1,\"atomic:operations\":1}") ≡ refused code.BadDocument (codes "/data")
unfolding requests_on_literals
data_and_included = refl
