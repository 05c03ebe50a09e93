-- Lists of operations, worked.
use Rattle.std.specs.Prelude.{◌≡◌, ℕ, List, [], ◌∷◌, ◌++◌, Some, None, Option, Result, Ok, Err, codes, refl, pos, option_map}
use Rattle.resource_schema.specs.declared.values.AttrValue.TheVariants as value
use Rattle.error_objects.specs.declared.codes.Code.{Code}
use Rattle.error_objects.specs.declared.codes.Code.TheVariants as code
use Rattle.error_objects.specs.declared.refusals.Refusal.{Refusal}
use Rattle.task_forms.specs.declared.operations.Named.TheVariants as named
use Rattle.task_forms.specs.declared.operations.Where.TheVariants as stands
use Rattle.task_forms.specs.declared.operations.Operation.{Operation}
use Rattle.task_forms.specs.declared.operations.Operation.TheVariants.{Create, Update, Remove, AddLinks}
use Rattle.error_objects.specs.Refusals.{at_pointer}
use Rattle.json_forms.specs.Json.{json_of}
use Rattle.request_model.specs.OperationLists.{operations_of}
use Rattle.request_model.proofs.OnLiterals.{requests_on_literals}
use Rattle.request_model.proofs.Blog.{blog}

abbrev Answer : Type 0
Answer = Option (Result (List Operation) Refusal)

abbrev operations : List ℕ → Answer
operations text = option_map (operations_of blog) (json_of (codes "{\"atomic:operations\":" ++ text ++ codes "}"))

abbrev refused : Code → List ℕ → Answer
refused c at = Some (Err (at_pointer c at))

-- a person, an article by that person, and a link that the article gets
three_operations : operations (codes "[{\"op\":\"add\",\"data\":{\"type\":\"people\",\"lid\":\"p\",\"attributes\":{\"name\":\"Ann\"}}},{\"op\":\"add\",\"data\":{\"type\":\"articles\",\"lid\":\"a\",\"attributes\":{\"title\":\"T\"},\"relationships\":{\"author\":{\"data\":{\"type\":\"people\",\"lid\":\"p\"}}}}},{\"op\":\"add\",\"ref\":{\"type\":\"articles\",\"lid\":\"a\",\"relationship\":\"comments\"},\"data\":[{\"type\":\"comments\",\"id\":\"1\"}]}]")
    ≡ Some (Ok (
    Create 2 None (Some (codes "p")) (value.Text (codes "Ann") ∷ []) []
    ∷ Create 0 None (Some (codes "a")) (value.Null ∷ value.Text (codes "T") ∷ value.Int (pos 0) ∷ []) ((0, record { named = named.Lid 2 (codes "p"); index = None } ∷ []) ∷ [])
    ∷ AddLinks (record { named = named.Lid 0 (codes "a"); place = stands.Ref }) 1 (record { named = named.Id (record { kind = 1; id = codes "1" }); index = Some 0 } ∷ [])
    ∷ []))
unfolding requests_on_literals
three_operations = refl

empty_list : operations (codes "[]") ≡ refused code.BadDocument (codes "/atomic:operations")
unfolding requests_on_literals
empty_list = refl

unknown_op : operations (codes "[{\"op\":\"add\",\"data\":{\"type\":\"people\",\"attributes\":{\"name\":\"Ann\"}}},{\"op\":\"move\"}]") ≡ refused code.BadDocument (codes "/atomic:operations/1/op")
unfolding requests_on_literals
unknown_op = refl

removal : operations (codes "[{\"op\":\"remove\",\"ref\":{\"type\":\"people\",\"lid\":\"p\"}}]") ≡ Some (Ok (Remove (record { named = named.Lid 2 (codes "p"); place = stands.Ref }) ∷ []))
unfolding requests_on_literals
removal = refl

update_by_href : operations (codes "[{\"op\":\"update\",\"href\":\"/people/9\",\"data\":{\"type\":\"people\",\"id\":\"9\"}}]")
    ≡ Some (Ok (Update (record { named = named.Id (record { kind = 2; id = codes "9" }); place = stands.Href }) [] [] ∷ []))
unfolding requests_on_literals
update_by_href = refl

to_one_is_set : operations (codes "[{\"op\":\"add\",\"href\":\"/articles/1/relationships/author\",\"data\":null}]") ≡ refused code.BadDocument (codes "/atomic:operations/0/op")
unfolding requests_on_literals
to_one_is_set = refl

href_with_query : operations (codes "[{\"op\":\"remove\",\"href\":\"/people/9?x\"}]") ≡ refused code.NotFound (codes "/atomic:operations/0/href")
unfolding requests_on_literals
href_with_query = refl

related_href : operations (codes "[{\"op\":\"update\",\"href\":\"/articles/1/author\",\"data\":null}]") ≡ refused code.BadDocument (codes "/atomic:operations/0/href")
unfolding requests_on_literals
related_href = refl

two_aims : operations (codes "[{\"op\":\"update\",\"ref\":null,\"href\":\"/people/9\"}]") ≡ refused code.BadDocument (codes "/atomic:operations/0")
unfolding requests_on_literals
two_aims = refl

unknown_type : operations (codes "[{\"op\":\"add\",\"data\":{\"type\":\"tags\"}}]") ≡ refused code.NotFound (codes "/atomic:operations/0/data/type")
unfolding requests_on_literals
unknown_type = refl

local_update : operations (codes "[{\"op\":\"update\",\"data\":{\"type\":\"people\",\"lid\":\"p\",\"attributes\":{\"name\":\"Bo\"}}}]")
    ≡ Some (Ok (Update (record { named = named.Lid 2 (codes "p"); place = stands.Data }) ((0, value.Text (codes "Bo")) ∷ []) [] ∷ []))
unfolding requests_on_literals
local_update = refl

primary_data_beside : option_map (operations_of blog) (json_of (codes "{\"data\":1,\"atomic:operations\":[]}")) ≡ refused code.BadDocument (codes "/data")
unfolding requests_on_literals
primary_data_beside = refl
