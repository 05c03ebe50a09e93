-- Lists of operations (Atomic Operations extension, "Operation Objects"; the order in which faults are found is of this project).
use Rattle.std.specs.Prelude.{ℕ, ◌==◌, not, nat_lt, if◌then◌else◌, List, [], codes, length, map, decimal, is_some, Option, Some, None, Result, Ok, Err, ⊤}
use Rattle.std.specs.Option.{ok_or}
use Rattle.std.specs.List.{enumerate_from}
use Rattle.std.specs.Str.{bytes_eq}
use Rattle.serde_json.specs.Data.{Data}
use Rattle.serde_json.specs.Find.{get, as_array, as_str}
use Rattle.ident_rules.specs.declared.key.Key.{Key}
use Rattle.resource_schema.specs.declared.schema.Schema.{Schema}
use Rattle.task_forms.specs.declared.operations.Named.TheVariants as named
use Rattle.task_forms.specs.declared.operations.Where.TheVariants as stands
use Rattle.task_forms.specs.declared.operations.Who.{Who}
use Rattle.task_forms.specs.declared.operations.Member.{Member}
use Rattle.resource_schema.specs.declared.targets.Target.{Target}
use Rattle.resource_schema.specs.declared.targets.Target.TheVariants as target
use Rattle.task_forms.specs.declared.operations.Operation.{Operation}
use Rattle.task_forms.specs.declared.operations.Operation.TheVariants.{Remove, SetLinks, AddLinks, DropLinks}
use Rattle.task_forms.specs.declared.tasks.TheConstants.{OPERATION_LIMIT}
use Rattle.error_objects.specs.declared.codes.Code.TheVariants as code
use Rattle.error_objects.specs.declared.refusals.Refusal.{Refusal}
use Rattle.request_model.specs.declared.forms.Op.{Op}
use Rattle.request_model.specs.declared.forms.Op.TheVariants as op
use Rattle.request_model.specs.declared.forms.Aim.{Aim}
use Rattle.request_model.specs.declared.forms.Aim.TheVariants as aim
use Rattle.request_model.specs.declared.forms.Act.{Act}
use Rattle.request_model.specs.declared.forms.Act.TheVariants as act
use Rattle.task_forms.specs.Fit.{kind_of}
use Rattle.request_model.specs.Words.{all_ok, result_map}
use Rattle.request_model.specs.Results.{◌>>=◌, ◌>>◌, err_if}
use Rattle.error_objects.specs.Refusals.{at_pointer}
use Rattle.resource_schema.specs.Kinds.{number_of_kind, relationship_of, is_many}
use Rattle.json_forms.specs.Json.{items_list, text_at}
use Rattle.json_forms.specs.Pointer.{◌//◌}
use Rattle.request_model.specs.Targets.{target_of_path}
use Rattle.request_model.specs.Documents.{bad_document, object_at, text_member, named_in, keeps_rule, linkage_from, create_of, update_of}

-- ---- the word of an operation

-- the three words that there are
abbrev pub op_of : List ℕ → Option Op
op_of text =
    if bytes_eq text (codes "add") then Some op.Add
    else (if bytes_eq text (codes "update") then Some op.Update
    else (if bytes_eq text (codes "remove") then Some op.Remove else None))

-- the member `op`
abbrev pub op_at : List ℕ → Data → Result Op Refusal
op_at at d = do
  text ← text_member at (codes "op") d
  ok_or (op_of text) (bad_document (at // codes "op"))

-- ---- by `ref` (Atomic Operations extension, "ref")

-- a text, where there is something
abbrev pub optional_text : List ℕ → Option Data → Result (Option (List ℕ)) Refusal
optional_text at None = Ok None
optional_text at (Some d) = result_map Some (ok_or (as_str d) (bad_document at))

-- the resource itself, or one of its relationships
abbrev pub aim_of_ref : Schema → List ℕ → Who → Option (List ℕ) → Result Aim Refusal
aim_of_ref schema at who None = Ok (aim.Resource who)
aim_of_ref schema at who (Some name) =
    result_map (aim.Relationship who) (ok_or (relationship_of schema (kind_of who.named) name) (at_pointer code.NotFound (at // codes "relationship")))

-- what `ref` names; its form is judged before its names
abbrev pub ref_aim : Schema → List ℕ → Data → Result Aim Refusal
ref_aim schema at d = do
  type ← ok_or (text_at (codes "type") d) (bad_document at)
  ok_or (named_in 0 d) (bad_document at)
  rel ← optional_text at (get (codes "relationship") d)
  kind ← ok_or (number_of_kind schema type) (at_pointer code.NotFound (at // codes "type"))
  name ← ok_or (named_in kind d) (bad_document at)
  err_if (not (keeps_rule name)) (at_pointer code.NotFound (at // codes "id"))
  aim_of_ref schema at (record { named = name; place = stands.Ref }) rel

-- ---- by `href` (Atomic Operations extension, "href")

-- a resource that a path names
abbrev pub by_href : Key → Who
by_href key = record { named = named.Id key; place = stands.Href }

-- what a path is aimed at, by its target
abbrev pub aim_of_target : Target → Aim
aim_of_target (target.Collection kind) = aim.Collection kind
aim_of_target (target.Resource key) = aim.Resource (by_href key)
aim_of_target (target.Related key rel) = aim.Elsewhere
aim_of_target (target.Linkage key rel) = aim.Relationship (by_href key) rel
aim_of_target target.Operations = aim.Elsewhere

-- what `href` names; no path of a target has a query
abbrev pub href_aim : Schema → List ℕ → Data → Result Aim Refusal
href_aim schema at d = do
  path ← ok_or (as_str d) (bad_document at)
  t ← ok_or (target_of_path schema path) (at_pointer code.NotFound at)
  Ok (aim_of_target t)

-- at most one of `ref` and `href`, and for a removal one of them
abbrev pub aim_by : Schema → Op → List ℕ → Option Data → Option Data → Result Aim Refusal
aim_by schema word at (Some ref) (Some href) = Err (bad_document at)
aim_by schema word at (Some ref) None = ref_aim schema (at // codes "ref") ref
aim_by schema word at None (Some href) = href_aim schema (at // codes "href") href
aim_by schema op.Remove at None None = Err (bad_document at)
aim_by schema word at None None = Ok aim.Nothing

-- ---- what an operation does

-- `ref` or `href`, whichever one is there
abbrev pub aim_pointer : List ℕ → Data → List ℕ
aim_pointer at d = if is_some (get (codes "ref") d) then at // codes "ref" else at // codes "href"

-- a to-one relationship is only set
abbrev pub if_many : Schema → List ℕ → Who → ℕ → Act → Result Act Refusal
if_many schema at who rel does = if is_many schema (kind_of who.named) rel then Ok does else Err (bad_document (at // codes "op"))

-- the pairs of a word and what it is aimed at
abbrev pub act_of : Schema → List ℕ → Data → Op → Aim → Result Act Refusal
act_of schema at d op.Add aim.Nothing = Ok (act.Creates None)
act_of schema at d op.Add (aim.Collection kind) = Ok (act.Creates (Some kind))
act_of schema at d op.Add (aim.Relationship who rel) = if_many schema at who rel (act.Adds who rel)
act_of schema at d op.Update aim.Nothing = Ok (act.Updates None)
act_of schema at d op.Update (aim.Resource who) = Ok (act.Updates (Some who))
act_of schema at d op.Update (aim.Relationship who rel) = Ok (act.Sets who rel)
act_of schema at d op.Remove (aim.Resource who) = Ok (act.Removes who)
act_of schema at d op.Remove (aim.Relationship who rel) = if_many schema at who rel (act.Drops who rel)
act_of schema at d word aimed = Err (bad_document (aim_pointer at d))

-- the operation on the members of a relationship
abbrev pub with_members : Schema → List ℕ → Who → ℕ → (List Member → Operation) → Data → Result Operation Refusal
with_members schema at who rel make d = result_map make (linkage_from schema (kind_of who.named) rel at d)

-- the operation with its data
abbrev pub with_data : Schema → List ℕ → Act → Data → Result Operation Refusal
with_data schema at (act.Creates kind) d = create_of schema kind at d
with_data schema at (act.Updates who) d = update_of schema who at d
with_data schema at (act.Removes who) d = Ok (Remove who)
with_data schema at (act.Adds who rel) d = with_members schema at who rel (AddLinks who rel) d
with_data schema at (act.Sets who rel) d = with_members schema at who rel (SetLinks who rel) d
with_data schema at (act.Drops who rel) d = with_members schema at who rel (DropLinks who rel) d

-- the removal of a resource needs no data
abbrev pub operation_by : Schema → List ℕ → Act → Option Data → Result Operation Refusal
operation_by schema at (act.Removes who) found = Ok (Remove who)
operation_by schema at does None = Err (bad_document at)
operation_by schema at does (Some d) = with_data schema (at // codes "data") does d

-- one operation
abbrev pub operation_of : Schema → List ℕ → Data → Result Operation Refusal
operation_of schema at d = do
  object_at at d
  word ← op_at at d
  aimed ← aim_by schema word at (get (codes "ref") d) (get (codes "href") d)
  does ← act_of schema at d word aimed
  operation_by schema at does (get (codes "data") d)

-- ---- the list

-- no member of this name stands at the top
abbrev pub absent : List ℕ → Data → Result ⊤ Refusal
absent name d = err_if (is_some (get name d)) (bad_document ([] // name))

-- where the list stands
abbrev pub list_pointer : List ℕ
list_pointer = codes "/atomic:operations"

-- at most `OPERATION_LIMIT` operations, each in order (Atomic Operations extension, "Document Structure"; the limit is of this project)
abbrev pub operations_of : Schema → Data → Result (List Operation) Refusal
operations_of schema d = do
  object_at [] d
  absent (codes "atomic:results") d
  absent (codes "data") d
  absent (codes "included") d
  found ← ok_or (get (codes "atomic:operations") d) (bad_document [])
  items ← ok_or (as_array found) (bad_document list_pointer)
  err_if (length (items_list items) == 0) (bad_document list_pointer)
  err_if (nat_lt OPERATION_LIMIT (length (items_list items))) (at_pointer code.TooManyOperations list_pointer)
  all_ok (map (λ p. operation_of schema (list_pointer // decimal p.0) p.1) (enumerate_from 0 (items_list items)))
