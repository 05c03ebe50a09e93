-- One operation: the next world and the next local ids, or the first refusal (JSON:API 1.1, "Creating, Updating and Deleting Resources"; Atomic Operations extension, "Operation Objects").
use Rattle.std.specs.Prelude.{ℕ, ◌+◌, ◌||◌, ◌&&◌, ◌==◌, not, Bool, true, false, if◌then◌else◌, nat_lt, List, [], ◌∷◌, ◌++◌, map, length, is_some, is_none, Some, None, Option, Result, Ok, Err, slice_get, slice_set, get_or, decimal, option_map, codes}
use Rattle.std.specs.Option.{option_map_or, option_and_then}
use Rattle.std.specs.List.{list_any, filter, filter_map, range_with_len}
use Rattle.std.specs.Ordering.{nat_cmp, then_cmp, on}
use Rattle.std.specs.declared.cmp.Ordering.{Ordering}
use Rattle.std.specs.Cmp.{IsTotalOrder, nat_cmp_total, then_total, on_total}
use Rattle.std.specs.Cmp.Lexicographic.{slice_cmp, nat_list_cmp_total}
use Rattle.std.specs.FinMap.Entries.{find, put, where_key}
use Rattle.ident_rules.specs.declared.key.Key.{Key}
use Rattle.resource_schema.specs.declared.schema.Schema.{Schema}
use Rattle.resource_schema.specs.declared.kinds.Relationship.{Relationship}
use Rattle.resource_schema.specs.declared.values.AttrValue.{AttrValue}
use Rattle.world_cells.specs.declared.rows.Row.{Row}
use Rattle.world_cells.specs.declared.rows.Link.{Link}
use Rattle.world_cells.specs.declared.rows.Link.TheVariants.{One, Many}
use Rattle.task_forms.specs.declared.operations.Named.{Named}
use Rattle.task_forms.specs.declared.operations.Named.TheVariants as named
use Rattle.task_forms.specs.declared.operations.Where.{Where}
use Rattle.task_forms.specs.declared.operations.Where.TheVariants as stands
use Rattle.task_forms.specs.declared.operations.Who.{Who}
use Rattle.task_forms.specs.declared.operations.Member.{Member}
use Rattle.task_forms.specs.declared.operations.Operation.{Operation}
use Rattle.task_forms.specs.declared.operations.Operation.TheVariants.{Create, Update, Remove, SetLinks, AddLinks, DropLinks}
use Rattle.error_objects.specs.declared.codes.Code.{Code}
use Rattle.error_objects.specs.declared.codes.Code.TheVariants as code
use Rattle.error_objects.specs.declared.refusals.Blame.{Blame}
use Rattle.error_objects.specs.declared.refusals.Blame.TheVariants as blame
use Rattle.error_objects.specs.declared.refusals.Refusal.{Refusal}
use Rattle.error_objects.specs.Refusals.{refusal, at_pointer}
use Rattle.task_forms.specs.Fit.{kind_of}
use Rattle.ident_rules.specs.Key.{key_cmp, same_key}
use Rattle.world_cells.specs.World.{World, row_at, has_row, next_id, ids_of, no_link, link_at, links_to}
use Rattle.world_cells.specs.declared.cells.TheConstants.{LAST_NEXT_ID}
use Rattle.world_cells.specs.declared.rows.TheConstants.{LINK_LIMIT}
use Rattle.store_model.specs.Valid.{same_id}
use Rattle.resource_schema.specs.Kinds.{relationships_of}

-- ---- local ids ("Resource Identifier Objects"): a finite map from a type and a local id to an id

-- by type, and then by bytes
abbrev pub lid_cmp : ℕ × List ℕ → ℕ × List ℕ → Ordering
lid_cmp = then_cmp (on (λ l. l.0) nat_cmp) (on (λ l. l.1) (slice_cmp nat_cmp))

pub lid_cmp_total : IsTotalOrder lid_cmp
lid_cmp_total = then_total (on_total (λ l. l.0) nat_cmp_total) (on_total (λ l. l.1) nat_list_cmp_total)

-- what is bound
abbrev pub Lids : Type 0
Lids = List ((ℕ × List ℕ) × List ℕ)

-- the key that a name stands for, if it is bound
abbrev pub key_of : Lids → Named → Option Key
key_of lids (named.Id key) = Some key
key_of lids (named.Lid kind lid) = option_map (λ x. record { kind = kind; id = x }) (find lid_cmp (kind, lid) lids)

-- ---- refusals

-- the first refusal, if any
abbrev pub first_of : List (Option Refusal) → Option Refusal
first_of [] = None
first_of (None ∷ rest) = first_of rest
first_of (Some refusal ∷ rest) = Some refusal

-- a refusal where a test holds
abbrev pub when : Bool → Refusal → Option Refusal
when b refusal = if b then Some refusal else None

-- What is blamed: what named the resource, and what stands under it. The path of a plain request is no source ("Error Objects").
abbrev pub target_blame : Where → List ℕ → Blame
target_blame stands.Plain [] = blame.Nothing
target_blame stands.Plain (c ∷ after) = blame.Pointer (c ∷ after)
target_blame stands.Ref after = blame.Pointer (codes "/ref" ++ after)
target_blame stands.Href after = blame.Pointer (codes "/href" ++ after)
target_blame stands.Data after = blame.Pointer (codes "/data" ++ after)

-- a refusal of the resource that an operation changes
abbrev pub at_target : Code → Who → List ℕ → Refusal
at_target code who after = record { code = code; blame = target_blame who.place after }

-- a name that is not bound, and then one that no row has
abbrev pub refuse_key : World → Who → Option Key → Option Refusal
refuse_key w who None = Some (at_target code.UnknownLid who (codes "/lid"))
refuse_key w who (Some key) = when (not (has_row w key)) (at_target code.NotFound who [])

-- the resource that an operation changes
abbrev pub refuse_target : World → Lids → Who → Option Refusal
refuse_target w lids who = refuse_key w who (key_of lids who.named)

-- ---- linkages ("Resource Linkage")

-- the pointer of a relationship's linkage in a resource
abbrev pub linkage_pointer : List Relationship → ℕ → List ℕ
linkage_pointer rels rel = codes "/data/relationships/" ++ option_map_or (λ r. r.name) (slice_get rels rel) [] ++ codes "/data"

-- the pointer of a member, and of what names it
abbrev pub pointer_of_member : List ℕ → Member → List ℕ
pointer_of_member linkage m = linkage ++ option_map_or (λ n. codes "/" ++ decimal n) m.index []

abbrev pub name_pointer : Named → List ℕ
name_pointer (named.Id key) = codes "/id"
name_pointer (named.Lid kind lid) = codes "/lid"

-- a member that is not bound, and then one that is not there
abbrev pub refuse_named : (Key → Bool) → List ℕ → Option Key → Option Refusal
refuse_named there pointer None = Some (at_pointer code.UnknownLid pointer)
refuse_named there pointer (Some key) = when (not (there key)) (at_pointer code.RelatedNotFound pointer)

-- one member of a linkage
abbrev pub refuse_member : (Key → Bool) → Lids → List ℕ → Member → Option Refusal
refuse_member there lids linkage m = refuse_named there (pointer_of_member linkage m ++ name_pointer m.named) (key_of lids m.named)

-- more ids behind those that are there, in their order, each once
abbrev pub append_new : List (List ℕ) → List (List ℕ) → List (List ℕ)
append_new ids [] = ids
append_new ids (x ∷ more) = append_new (if list_any (same_id x) ids then ids else ids ++ x ∷ []) more

-- the ids that members stand for
abbrev pub member_ids : Lids → List Member → List (List ℕ)
member_ids lids members = filter_map (λ m. option_map (λ key. key.id) (key_of lids m.named)) members

-- the members in order, and then the length of what they are joined to
abbrev pub refuse_linkage : (Key → Bool) → Lids → List ℕ → List (List ℕ) → List Member → Option Refusal
refuse_linkage there lids linkage old members =
    first_of (map (refuse_member there lids linkage) members
    ++ when (nat_lt LINK_LIMIT (length (append_new old (member_ids lids members)))) (at_pointer code.TooManyMembers linkage) ∷ [])

-- the linkages of a resource, in order
abbrev pub refuse_links : (Key → Bool) → Lids → List Relationship → List (ℕ × List Member) → Option Refusal
refuse_links there lids rels links = first_of (map (λ l. refuse_linkage there lids (linkage_pointer rels l.0) [] l.1) links)

-- a to-one link to the first of these ids
abbrev pub one_of : List (List ℕ) → Link
one_of [] = One None
one_of (x ∷ more) = One (Some x)

-- a link to these ids, of the same kind as an old one
abbrev pub link_of : Link → List (List ℕ) → Link
link_of (One old) ids = one_of ids
link_of (Many old) ids = Many ids

-- ---- rows

-- new values at their attributes ("Updating a Resource's Attributes")
abbrev pub set_values : List AttrValue → List (ℕ × AttrValue) → List AttrValue
set_values old [] = old
set_values old (v ∷ values) = set_values (slice_set old v.0 v.1) values

-- new links at their relationships ("Updating a Resource's Relationships")
abbrev pub set_links : Lids → List Link → List (ℕ × List Member) → List Link
set_links lids old [] = old
set_links lids old (l ∷ links) = set_links lids (slice_set old l.0 (link_of (get_or old l.0 no_link) (append_new [] (member_ids lids l.1)))) links

-- no link at each relationship
abbrev pub empty_links : List Relationship → List Link
empty_links rels = map (λ r. if r.many then Many [] else One None) rels

-- the world with one row put, taken away, or with a next id
abbrev pub with_row : World → Row → World
with_row w row = record w { rows = put key_cmp row.key row w.rows }

abbrev pub without_row : World → Key → World
without_row w key = record w { rows = where_key key_cmp (λ k. not (same_key key k)) w.rows }

abbrev pub with_next : World → ℕ → ℕ → World
with_next w kind n = record w { counters = put nat_cmp kind n w.counters }

-- ---- what an operation is refused for

-- the id of a new resource: the client's, or else the next number of its type ("Client-Generated IDs")
abbrev pub created_id : World → ℕ → Option (List ℕ) → List ℕ
created_id w kind id = option_map_or (λ x. x) id (decimal (next_id w kind))

abbrev pub created_key : World → ℕ → Option (List ℕ) → Key
created_key w kind id = record { kind = kind; id = created_id w kind id }

-- a local id of a new resource, if it has one, stands for its id from then on
abbrev pub bind : Lids → ℕ → Option (List ℕ) → List ℕ → Lids
bind lids kind None id = lids
bind lids kind (Some lid) id = put lid_cmp (kind, lid) id lids

abbrev pub is_bound : Lids → ℕ → Option (List ℕ) → Bool
is_bound lids kind lid = option_map_or (λ l. is_some (find lid_cmp (kind, l) lids)) lid false

-- the row that a name stands for, if any
abbrev pub named_row : World → Lids → Who → Option Row
named_row w lids who = option_and_then (row_at w) (key_of lids who.named)

-- the ids of its link
abbrev pub named_ids : World → Lids → Who → ℕ → List (List ℕ)
named_ids w lids who rel = option_map_or (λ row. ids_of (link_at row rel)) (named_row w lids who) []

-- whether a link from another row leads to the key
abbrev pub is_referenced : Schema → World → Key → Bool
is_referenced schema w key = list_any (λ e. not (same_key key e.0) && list_any (λ rel. links_to schema e.1 rel key) (range_with_len 0 (length e.1.links))) w.rows

-- The first refusal of an operation, if any; its checks stand in their order. A pointer is relative to the operation.
abbrev pub refused : Schema → World → Lids → Operation → Option Refusal
refused schema w lids (Create kind id lid values links) =
    let key = created_key w kind id in
    first_of (
    when (is_bound lids kind lid) (at_pointer code.LidBound (codes "/data/lid"))
    ∷ when (is_some id && has_row w key) (at_pointer code.IdExists (codes "/data/id"))
    ∷ when (is_none id && next_id w kind == LAST_NEXT_ID) (refusal code.IdsEnded)
    ∷ refuse_links (λ k. same_key key k || has_row w k) (bind lids kind lid key.id) (relationships_of schema kind) links
    ∷ [])
refused schema w lids (Update who values links) = first_of (refuse_target w lids who ∷ refuse_links (has_row w) lids (relationships_of schema (kind_of who.named)) links ∷ [])
refused schema w lids (Remove who) = first_of (refuse_target w lids who ∷ when (option_map_or (is_referenced schema w) (key_of lids who.named) false) (at_target code.StillReferenced who []) ∷ [])
refused schema w lids (SetLinks who rel members) = first_of (refuse_target w lids who ∷ refuse_linkage (has_row w) lids (codes "/data") [] members ∷ [])
refused schema w lids (AddLinks who rel members) = first_of (refuse_target w lids who ∷ refuse_linkage (has_row w) lids (codes "/data") (named_ids w lids who rel) members ∷ [])
refused schema w lids (DropLinks who rel members) = first_of (refuse_target w lids who ∷ map (refuse_member (λ k. true) lids (codes "/data")) members)

-- ---- what an operation does

-- the next world, the next local ids, and the key of a created or updated row
pub record Changed : Type 0 where
  pub world : World
  pub lids : Lids
  pub key : Option Key

-- the row of a name, changed
abbrev pub on_row : World → Lids → Who → (Row → Row) → World
on_row w lids who change = option_map_or (λ row. with_row w (change row)) (named_row w lids who) w

-- the ids of one link, changed
abbrev pub on_link : ℕ → (List (List ℕ) → List (List ℕ)) → Row → Row
on_link rel change row = record row { links = slice_set row.links rel (link_of (link_at row rel) (change (ids_of (link_at row rel)))) }

-- What an operation does, where it is not refused ("Updating Relationships" for links).
abbrev pub done : Schema → World → Lids → Operation → Changed
done schema w lids (Create kind id lid values links) =
    let key = created_key w kind id in
    let bound = bind lids kind lid key.id in
    let row : Row = record { key = key; values = values; links = set_links bound (empty_links (relationships_of schema kind)) links } in
    record {
      world = with_row (if is_some id then w else with_next w kind (next_id w kind + 1)) row;
      lids = bound;
      key = Some key;
    }
done schema w lids (Update who values links) = record {
  world = on_row w lids who (λ row. record row { values = set_values row.values values; links = set_links lids row.links links });
  lids = lids;
  key = key_of lids who.named;
}
done schema w lids (Remove who) = record {
  world = option_map_or (without_row w) (key_of lids who.named) w;
  lids = lids;
  key = None;
}
done schema w lids (SetLinks who rel members) = record {
  world = on_row w lids who (on_link rel (λ _. append_new [] (member_ids lids members)));
  lids = lids;
  key = None;
}
done schema w lids (AddLinks who rel members) = record {
  world = on_row w lids who (on_link rel (λ old. append_new old (member_ids lids members)));
  lids = lids;
  key = None;
}
done schema w lids (DropLinks who rel members) = record {
  world = on_row w lids who (on_link rel (filter (λ x. not (list_any (same_id x) (member_ids lids members)))));
  lids = lids;
  key = None;
}

-- the refusal, or else what was done
abbrev pub outcome : Option Refusal → Changed → Result Changed Refusal
outcome (Some refusal) changed = Err refusal
outcome None changed = Ok changed

-- one operation
abbrev pub apply : Schema → World → Operation → Lids → Result Changed Refusal
apply schema w operation lids = outcome (refused schema w lids operation) (done schema w lids operation)
