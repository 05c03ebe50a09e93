-- Computed examples of operations and of lists of them: the world, the reply, and what each is refused for.
use Rattle.std.specs.Prelude.{◌≡◌, ℕ, List, [], ◌∷◌, true, false, Some, None, codes, map, pos, Err}
use Rattle.std.proofs.Common.{refl, arith}
use Rattle.std.specs.Fmt.{digits}
use Rattle.std.specs.List.{IsDistinct}
use Rattle.resource_schema.specs.Kinds.{to_one, to_many}
use Rattle.resource_schema.specs.declared.kinds.Relationship.{Relationship}
use Rattle.resource_schema.specs.declared.values.AttrValue.TheVariants as value
use Rattle.resource_schema.specs.declared.targets.Target.TheVariants as target
use Rattle.world_cells.specs.declared.rows.Link.{Link}
use Rattle.world_cells.specs.declared.rows.Link.TheVariants.{One, Many}
use Rattle.world_cells.specs.World.{World, empty_world, row_at}
use Rattle.task_forms.specs.Queries.{no_query}
use Rattle.task_forms.specs.declared.operations.Named.TheVariants as named
use Rattle.task_forms.specs.declared.operations.Where.TheVariants as stands
use Rattle.task_forms.specs.declared.operations.Who.{Who}
use Rattle.task_forms.specs.declared.operations.Operation.{Operation}
use Rattle.task_forms.specs.declared.operations.Operation.TheVariants.{Create, Update, Remove, SetLinks, AddLinks, DropLinks}
use Rattle.task_forms.specs.declared.tasks.ReplyForm.TheVariants as reply_form
use Rattle.task_forms.specs.declared.tasks.Task.TheVariants as task
use Rattle.error_objects.specs.declared.codes.Code.TheVariants as code
use Rattle.error_objects.specs.declared.refusals.Blame.TheVariants as blame
use Rattle.http_messages.specs.declared.messages.Content.TheVariants as content
use Rattle.http_messages.specs.declared.messages.Allow.TheVariants as allow
use Rattle.json.specs.Print.{escape_byte}
use Rattle.store_model.specs.Valid.{IsLinkOf}
use Rattle.store_model.specs.Run.{run, blame_under}
use Rattle.store_model.specs.Answer.{answer, effect}
use Rattle.store_model.specs.Pages.{rows_of}
use Rattle.store_model.proofs.Examples.{blog, no_cursors}
use Rattle.store_model.proofs.Rows.{key_at, named_by, member_of, one_member_of, person, article, blog_with_people, by_ann, with_comments, nodes, looped, list_of, with_lid, refused_with}

abbrev in_ref : Who → Who
in_ref who = record who { place = stands.Ref }

abbrev in_data : Who → Who
in_data who = record who { place = stands.Data }

abbrev by_lid : ℕ → List ℕ → Who
by_lid kind lid = record { named = named.Lid kind lid; place = stands.Ref }

-- each type of operation but Create, on article 1 and its comments
abbrev five : List Operation
five =
    Update (in_data (named_by 0 (codes "1"))) ((1, value.Text (codes "U")) ∷ []) []
    ∷ SetLinks (in_ref (named_by 0 (codes "1"))) 1 (member_of 1 0 (codes "2") ∷ [])
    ∷ AddLinks (in_ref (named_by 0 (codes "1"))) 1 (member_of 1 0 (codes "1") ∷ [])
    ∷ DropLinks (in_ref (named_by 0 (codes "1"))) 1 (member_of 1 0 (codes "1") ∷ [])
    ∷ Remove (in_ref (named_by 0 (codes "1"))) ∷ []

-- ---- replies of lists

-- a list without a Create has no document, whatever its operation
no_documents : map (λ o. answer blog with_comments (list_of (o ∷ []))) five ≡ map (λ o. record { status = 204; content = content.Nothing; location = None; allow = allow.Nothing; body = [] }) five
unfolding digits escape_byte
no_documents = refl

-- with one, each other operation has an empty result object
six_results : answer blog with_comments (list_of (with_lid ∷ five)) ≡ record { status = 200; content = content.Atomic; location = None; allow = allow.Nothing; body = codes "{\"atomic:results\":[{\"data\":{\"attributes\":{\"name\":\"Ann\"},\"id\":\"1\",\"links\":{\"self\":\"/people/1\"},\"type\":\"people\"}},{},{},{},{},{}]}" }
unfolding digits escape_byte
six_results = refl

-- each sees what the earlier ones did: comment 1 is added and dropped, and then the article removed
five_done : map (λ row. row.key) (rows_of (effect blog with_comments (list_of five)) 0) ≡ []
unfolding digits escape_byte
five_done = refl

-- what was created is shown as it then was
shown_as_created : (answer blog empty_world (list_of (with_lid ∷ Update (in_data (by_lid 2 (codes "p"))) ((0, value.Text (codes "Bea")) ∷ []) [] ∷ []))).body ≡ codes "{\"atomic:results\":[{\"data\":{\"attributes\":{\"name\":\"Ann\"},\"id\":\"1\",\"links\":{\"self\":\"/people/1\"},\"type\":\"people\"}},{}]}"
unfolding digits escape_byte
shown_as_created = refl

-- ---- what a fetch is answered by

fetched_contents : map (λ t. (answer blog blog_with_people (task.Fetch (record { target = t; query = no_query }))).content) (target.Collection 0 ∷ target.Resource (key_at 0 (codes "1")) ∷ target.Related (key_at 0 (codes "1")) 0 ∷ target.Related (key_at 0 (codes "1")) 1 ∷ target.Linkage (key_at 0 (codes "1")) 1 ∷ []) ≡ content.Page ∷ content.Plain ∷ content.Plain ∷ content.Page ∷ content.Plain ∷ []
unfolding digits escape_byte
fetched_contents = refl

-- the links and the linkage of a resource that is not there, too
not_found : map (λ t. answer blog blog_with_people (task.Fetch (record { target = t; query = no_query }))) (target.Resource (key_at 0 (codes "7")) ∷ target.Related (key_at 0 (codes "7")) 1 ∷ target.Linkage (key_at 0 (codes "7")) 0 ∷ []) ≡ map {A = ℕ} (λ n. refused_with 404 (codes "{\"errors\":[{\"code\":\"not-found\",\"status\":\"404\",\"title\":\"Not found\"}]}")) (0 ∷ 1 ∷ 2 ∷ [])
unfolding digits escape_byte
not_found = refl

-- ---- new rows

-- the last number is given once
last_id : effect blog (record { rows = []; counters = (1, 9223372036854775806) ∷ [] }) (list_of (Create 1 None None (value.Text (codes "c") ∷ []) [] ∷ [])) ≡ record { rows = (key_at 1 (codes "9223372036854775806"), record { key = key_at 1 (codes "9223372036854775806"); values = value.Text (codes "c") ∷ []; links = One None ∷ [] }) ∷ []; counters = (1, 9223372036854775807) ∷ [] }
unfolding digits escape_byte
last_id = refl

-- a client's id takes no number, not even of a type whose numbers ended
own_id_takes_none : effect blog (record { rows = []; counters = (2, 9223372036854775807) ∷ [] }) (list_of (person (codes "eve") (codes "Eve") ∷ [])) ≡ record { rows = (key_at 2 (codes "eve"), record { key = key_at 2 (codes "eve"); values = value.Text (codes "Eve") ∷ []; links = [] }) ∷ []; counters = (2, 9223372036854775807) ∷ [] }
unfolding digits escape_byte
own_id_takes_none = refl

-- no relationship given: none of a to-one, and an empty list of a to-many one
no_links_given : map (λ row. row.links) (rows_of (effect blog empty_world (list_of (article (codes "T") [] ∷ []))) 0) ≡ (One None ∷ Many [] ∷ []) ∷ []
unfolding digits escape_byte
no_links_given = refl

-- a removed row's number is not given again
number_once : map (λ row. row.key) (rows_of (effect blog with_comments (list_of (Remove (in_ref (named_by 0 (codes "1"))) ∷ Remove (in_ref (named_by 1 (codes "2"))) ∷ Create 1 None None (value.Text (codes "c3") ∷ []) [] ∷ []))) 1) ≡ key_at 1 (codes "1") ∷ key_at 1 (codes "3") ∷ []
unfolding digits escape_byte
number_once = refl

-- ---- changed rows

-- the attributes and the relationships that are given, and no other; to-many members are replaced, each once
abbrev updated_world : World
updated_world = effect blog blog_with_people (list_of (Update (in_data (named_by 0 (codes "1"))) ((1, value.Text (codes "U")) ∷ (2, value.Int (pos 7)) ∷ []) ((1, member_of 1 0 (codes "2") ∷ member_of 1 1 (codes "2") ∷ []) ∷ []) ∷ []))

updated_row : row_at updated_world (key_at 0 (codes "1")) ≡ Some (record { key = key_at 0 (codes "1"); values = value.Null ∷ value.Text (codes "U") ∷ value.Int (pos 7) ∷ []; links = One (Some (codes "ann")) ∷ Many (codes "2" ∷ []) ∷ [] })
unfolding digits escape_byte
updated_row = refl

-- no other row changes
others_stay : (rows_of updated_world 1 ≡ rows_of blog_with_people 1) × (rows_of updated_world 2 ≡ rows_of blog_with_people 2) × (updated_world.counters ≡ (0, 2) ∷ (1, 3) ∷ [])
unfolding digits escape_byte
others_stay = (refl, refl, refl)

-- both links of article 1 after an operation
abbrev links_after : Operation → List (List Link)
links_after o = map (λ row. row.links) (rows_of (effect blog blog_with_people (list_of (o ∷ []))) 0)

cleared_author : links_after (Update (in_data (named_by 0 (codes "1"))) [] ((0, []) ∷ [])) ≡ (One None ∷ Many (codes "1" ∷ codes "2" ∷ []) ∷ []) ∷ []
unfolding digits escape_byte
cleared_author = refl

other_author : links_after (SetLinks (in_ref (named_by 0 (codes "1"))) 0 (one_member_of 2 (codes "bob"))) ≡ (One (Some (codes "bob")) ∷ Many (codes "1" ∷ codes "2" ∷ []) ∷ []) ∷ []
unfolding digits escape_byte
other_author = refl

cleared_comments : links_after (SetLinks (in_ref (named_by 0 (codes "1"))) 1 []) ≡ (One (Some (codes "ann")) ∷ Many [] ∷ []) ∷ []
unfolding digits escape_byte
cleared_comments = refl

-- both are dropped, in any order, and what is not there is no error
all_dropped : links_after (DropLinks (in_ref (named_by 0 (codes "1"))) 1 (member_of 1 0 (codes "2") ∷ member_of 1 1 (codes "9") ∷ member_of 1 2 (codes "1") ∷ [])) ≡ (One (Some (codes "ann")) ∷ Many [] ∷ []) ∷ []
unfolding digits escape_byte
all_dropped = refl

-- new members come behind the old, in their order, by a local id too
added_behind : map (λ row. row.links) (rows_of (effect blog blog_with_people (list_of (
    Create 1 None (Some (codes "n")) (value.Text (codes "c3") ∷ []) []
    ∷ Create 1 None None (value.Text (codes "c4") ∷ []) []
    ∷ AddLinks (in_ref (named_by 0 (codes "1"))) 1 (member_of 1 0 (codes "4") ∷ member_of 1 1 (codes "1") ∷ record { named = named.Lid 1 (codes "n"); index = Some 2 } ∷ [])
    ∷ []))) 0) ≡ (One (Some (codes "ann")) ∷ Many (codes "1" ∷ codes "2" ∷ codes "4" ∷ codes "3" ∷ []) ∷ []) ∷ []
unfolding digits escape_byte
added_behind = refl

-- one row goes, and the others and the counters stay
removed_world : effect blog by_ann (list_of (Remove (in_ref (named_by 0 (codes "1"))) ∷ [])) ≡ record { rows = (key_at 2 (codes "ann"), record { key = key_at 2 (codes "ann"); values = value.Text (codes "Ann") ∷ []; links = [] }) ∷ []; counters = (0, 2) ∷ [] }
unfolding digits escape_byte
removed_world = refl

-- ---- refusals

-- a link of any relationship keeps a row, though the row links to itself too
kept_by_link : (run blog reply_form.Results with_comments (Remove (in_ref (named_by 1 (codes "2"))) ∷ []) ≡ Err (record { code = code.StillReferenced; blame = blame.Pointer (codes "/atomic:operations/0/ref") })) × (run nodes reply_form.Empty (effect nodes looped (list_of (Create 0 (Some (codes "y")) None [] ((1, one_member_of 0 (codes "x")) ∷ []) ∷ []))) (Remove (named_by 0 (codes "x")) ∷ []) ≡ Err (record { code = code.StillReferenced; blame = blame.Nothing }))
unfolding digits escape_byte
kept_by_link = (refl, refl)

-- a local id that is not bound, and a resource that is not there, where `ref`, `href` or `data` names them
unknown_lids : map (λ place. run blog reply_form.Results empty_world (Update (record { named = named.Lid 2 (codes "p"); place = place }) [] [] ∷ [])) (stands.Ref ∷ stands.Data ∷ []) ≡ Err (record { code = code.UnknownLid; blame = blame.Pointer (codes "/atomic:operations/0/ref/lid") }) ∷ Err (record { code = code.UnknownLid; blame = blame.Pointer (codes "/atomic:operations/0/data/lid") }) ∷ []
unfolding digits escape_byte
unknown_lids = refl

unknown_ids : map (λ place. run blog reply_form.Results empty_world (Update (record { named = named.Id (key_at 2 (codes "p")); place = place }) [] [] ∷ [])) (stands.Ref ∷ stands.Href ∷ stands.Data ∷ []) ≡ Err (record { code = code.NotFound; blame = blame.Pointer (codes "/atomic:operations/0/ref") }) ∷ Err (record { code = code.NotFound; blame = blame.Pointer (codes "/atomic:operations/0/href") }) ∷ Err (record { code = code.NotFound; blame = blame.Pointer (codes "/atomic:operations/0/data") }) ∷ []
unfolding digits escape_byte
unknown_ids = refl

-- each operation on a resource that is not there
no_resource : map (λ o. run blog reply_form.Results empty_world (o ∷ [])) (
    Remove (in_ref (named_by 0 (codes "1")))
    ∷ SetLinks (in_ref (named_by 0 (codes "1"))) 1 []
    ∷ AddLinks (in_ref (named_by 0 (codes "1"))) 1 []
    ∷ DropLinks (in_ref (named_by 0 (codes "1"))) 1 []
    ∷ []) ≡ map {A = ℕ} (λ n. Err (record { code = code.NotFound; blame = blame.Pointer (codes "/atomic:operations/0/ref") })) (0 ∷ 1 ∷ 2 ∷ 3 ∷ [])
unfolding digits escape_byte
no_resource = refl

-- a member that is not there, of each operation that looks for it
no_member : map (λ o. run blog reply_form.Results by_ann (o ∷ [])) (
    SetLinks (in_ref (named_by 0 (codes "1"))) 1 (member_of 1 0 (codes "9") ∷ [])
    ∷ AddLinks (in_ref (named_by 0 (codes "1"))) 1 (member_of 1 0 (codes "9") ∷ [])
    ∷ SetLinks (in_ref (named_by 0 (codes "1"))) 0 (one_member_of 2 (codes "9"))
    ∷ Update (in_data (named_by 0 (codes "1"))) [] ((0, one_member_of 2 (codes "9")) ∷ [])
    ∷ article (codes "T") ((0, one_member_of 2 (codes "9")) ∷ [])
    ∷ []) ≡ map (λ p. Err (record { code = code.RelatedNotFound; blame = blame.Pointer p })) (codes "/atomic:operations/0/data/0/id" ∷ codes "/atomic:operations/0/data/0/id" ∷ codes "/atomic:operations/0/data/id" ∷ codes "/atomic:operations/0/data/relationships/author/data/id" ∷ codes "/atomic:operations/0/data/relationships/author/data/id" ∷ [])
unfolding digits escape_byte
no_member = refl

-- a bound local id is refused before a taken id, and that before a member
refusals_in_order : map (λ lid. run blog reply_form.Results by_ann (with_lid ∷ Create 2 (Some (codes "ann")) (Some lid) (value.Text (codes "A") ∷ []) [] ∷ [])) (codes "p" ∷ codes "q" ∷ []) ≡ Err (record { code = code.LidBound; blame = blame.Pointer (codes "/atomic:operations/1/data/lid") }) ∷ Err (record { code = code.IdExists; blame = blame.Pointer (codes "/atomic:operations/1/data/id") }) ∷ []
unfolding digits escape_byte
refusals_in_order = refl

id_before_member : run nodes reply_form.Created looped (Create 0 (Some (codes "x")) None [] ((1, one_member_of 0 (codes "9")) ∷ []) ∷ []) ≡ Err (record { code = code.IdExists; blame = blame.Pointer (codes "/data/id") })
unfolding digits escape_byte
id_before_member = refl

-- no number is left, and that is said before a member
ended_before_member : run blog reply_form.Created (record { rows = []; counters = (1, 9223372036854775807) ∷ [] }) (Create 1 None None (value.Text (codes "c") ∷ []) ((0, one_member_of 2 (codes "9")) ∷ []) ∷ []) ≡ Err (record { code = code.IdsEnded; blame = blame.Nothing })
unfolding digits escape_byte
ended_before_member = refl

-- only a pointer is seen from the request
blamed : map (blame_under (codes "/atomic:operations/2")) (blame.Pointer (codes "/data") ∷ blame.Nothing ∷ blame.Parameter (codes "sort") ∷ blame.Header (codes "Accept") ∷ []) ≡ blame.Pointer (codes "/atomic:operations/2/data") ∷ blame.Nothing ∷ blame.Parameter (codes "sort") ∷ blame.Header (codes "Accept") ∷ []
blamed = refl

-- ---- links of valid rows

abbrev one : Relationship
one = to_one (codes "author") 2

abbrev many : Relationship
many = to_many (codes "comments") 1

links_by_relationship : IsLinkOf one (One None) × IsLinkOf one (One (Some (codes "ann"))) × (¬ IsLinkOf one (Many [])) × IsLinkOf many (Many []) × (¬ IsLinkOf many (One None))
unfolding IsDistinct
links_by_relationship = (refl, refl, λ h. cc h.0, (refl, tt, omega arith), λ h. cc h)
