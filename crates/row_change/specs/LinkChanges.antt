-- An operation on one link: what it is refused for, what it reads, and what it makes of a row.
use Rattle.std.specs.Prelude.{◌≡◌, ℕ, true, not, List, [], map, codes, Option}
use Rattle.std.specs.List.{filter, list_any}
use Rattle.ident_rules.specs.declared.key.Key.{Key}
use Rattle.resource_schema.specs.declared.schema.Schema.{Schema}
use Rattle.world_cells.specs.declared.rows.Row.{Row}
use Rattle.world_cells.specs.World.{World, has_row}
use Rattle.error_objects.specs.declared.refusals.Refusal.{Refusal}
use Rattle.task_forms.specs.declared.operations.Member.{Member}
use Rattle.task_forms.specs.declared.operations.Who.{Who}
use Rattle.task_forms.specs.declared.operations.Operation.{Operation}
use Rattle.task_forms.specs.declared.operations.Operation.TheVariants as operation
use Rattle.store_model.specs.Valid.{same_id}
use Rattle.store_model.specs.Change.{Lids, first_of, refused, refuse_member, refuse_linkage, member_ids, append_new, on_link}
use Rattle.store_model.specs.Reach.{member_keys}
use Rattle.row_change.specs.declared.places.MayLinkTo.{MayLinkTo}
use Rattle.row_change.specs.declared.places.MayLinkTo.TheVariants as to
use Rattle.row_change.specs.declared.members.LinkChange.{LinkChange}
use Rattle.row_change.specs.declared.members.LinkChange.TheVariants as change
use Rattle.row_change.specs.declared.members.LinkOperation.{LinkOperation}
use Rattle.row_change.specs.declared.updates.Rewrite.{Rewrite}
use Rattle.row_change.specs.Rewrites.{IsRewritten}

-- where the members may lead: those that are removed anywhere
abbrev pub linked_to : LinkChange → MayLinkTo
linked_to change.Set = to.AtRow
linked_to change.Add = to.AtRow
linked_to change.Remove = to.Anywhere

-- the operation
abbrev pub operation_by : LinkChange → Who → ℕ → List Member → Operation
operation_by change.Set = operation.SetLinks
operation_by change.Add = operation.AddLinks
operation_by change.Remove = operation.DropLinks

abbrev pub operation_of : LinkOperation → Operation
operation_of o = operation_by o.change o.who.now o.rel o.members.now

-- the keys of the members that are looked at
abbrev pub keys_by : LinkChange → Lids → List Member → List Key
keys_by change.Set lids members = member_keys lids members
keys_by change.Add lids members = member_keys lids members
keys_by change.Remove lids members = []

abbrev pub link_keys : LinkOperation → Lids → List Key
link_keys o lids = keys_by o.change lids o.members.now

-- what the members are refused for, behind old ids
abbrev pub refuse_by : LinkChange → Lids → List (List ℕ) → List Member → World → Option Refusal
refuse_by change.Set lids old members now = refuse_linkage (has_row now) lids (codes "/data") [] members
refuse_by change.Add lids old members now = refuse_linkage (has_row now) lids (codes "/data") old members
refuse_by change.Remove lids old members now = first_of (map (refuse_member (λ k. true) lids (codes "/data")) members)

abbrev pub refuse_change : LinkOperation → Lids → List (List ℕ) → World → Option Refusal
refuse_change o lids old now = refuse_by o.change lids old o.members.now now

-- the ids of the link afterwards, from the old ones and those that the members stand for
abbrev pub ids_by : LinkChange → List (List ℕ) → List (List ℕ) → List (List ℕ)
ids_by change.Set named old = append_new [] named
ids_by change.Add named old = append_new old named
ids_by change.Remove named old = filter (λ x. not (list_any (same_id x) named)) old

abbrev pub AreAfter : LinkOperation → Lids → List (List ℕ) → List (List ℕ) → Type 0
AreAfter o lids old ids = ids ≡ ids_by o.change (member_ids lids o.members.now) old

-- what the operation makes of a row
abbrev pub link_change : LinkOperation → Lids → Row → Row
link_change o lids = on_link o.rel (ids_by o.change (member_ids lids o.members.now))

-- what the operation is refused for, and the row that is named, and what it is when its link is changed
abbrev pub refuse_link : LinkOperation → Lids → Schema → World → Option Refusal
refuse_link o lids schema now = refused schema now lids (operation_of o)

abbrev pub IsRelinked : LinkOperation → Lids → World → Rewrite → Type 0
IsRelinked o lids now made = IsRewritten now lids o.who.now (link_change o lids) made
