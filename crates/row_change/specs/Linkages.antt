-- The linkages of a request: what they are refused for, and the ids and links that they stand for.
use Rattle.std.specs.Prelude.{◌≡◌, ℕ, List, map, Option}
use Rattle.resource_schema.specs.declared.schema.Schema.{Schema}
use Rattle.resource_schema.specs.Kinds.{relationships_of}
use Rattle.world_cells.specs.declared.rows.Link.{Link}
use Rattle.world_cells.specs.World.{World}
use Rattle.error_objects.specs.declared.refusals.Refusal.{Refusal}
use Rattle.task_forms.specs.declared.operations.Member.{Member}
use Rattle.store_model.specs.Change.{Lids, first_of, refuse_member, refuse_linkage, refuse_links, member_ids, append_new, set_links}
use Rattle.row_change.specs.declared.linkages.Linkage.{Linkage}
use Rattle.row_change.specs.declared.links.GivenLinks.{GivenLinks}
use Rattle.row_change.specs.Places.{may_link}

-- the refusal of one of its members, if any
abbrev pub refuse_one : Linkage → Lids → Member → World → Option Refusal
refuse_one linkage lids member now = refuse_member (may_link linkage.to now) lids linkage.pointer.now member

-- the refusal of its first member that is refused
abbrev pub refuse_all : Linkage → Lids → World → Option Refusal
refuse_all linkage lids now = first_of (map (refuse_member (may_link linkage.to now) lids linkage.pointer.now) linkage.members.now)

-- the ids are those that its members stand for
abbrev pub AreNamed : Linkage → Lids → List (List ℕ) → Type 0
AreNamed linkage lids ids = ids ≡ member_ids lids linkage.members.now

-- the refusal of a linkage that is joined to old ids
abbrev pub refuse_joined : Linkage → Lids → List (List ℕ) → World → Option Refusal
refuse_joined linkage lids old now = refuse_linkage (may_link linkage.to now) lids linkage.pointer.now old linkage.members.now

-- the ids are the old ones, and behind them those that its members stand for
abbrev pub AreJoined : Linkage → Lids → List (List ℕ) → List (List ℕ) → Type 0
AreJoined linkage lids old ids = ids ≡ append_new old (member_ids lids linkage.members.now)

-- the refusal of the first linkage that is refused
abbrev pub refuse_given : Schema → GivenLinks → Lids → World → Option Refusal
refuse_given schema given lids now = refuse_links (may_link given.to now) lids (relationships_of schema given.kind) given.links.now

-- the links are the old ones, with those that are given in their places
abbrev pub AreSet : GivenLinks → Lids → List Link → List Link → Type 0
AreSet given lids old new = new ≡ set_links lids old given.links.now
