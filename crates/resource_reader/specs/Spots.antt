-- Where a linkage stands.
use Rattle.std.specs.Prelude.{ℕ, List, codes, Option, Some, None}
use Rattle.document_parts.specs.Pointers.{member_pointer, item_pointer}
use Rattle.resource_reader.specs.Fields.{relationships_pointer}
use Rattle.resource_reader.specs.declared.spots.Spot.{Spot}
use Rattle.resource_reader.specs.declared.spots.Spot.TheVariants as spot

-- the pointer of the data of a relationship of a resource object
abbrev pub link_pointer : List ℕ → List ℕ → List ℕ
link_pointer at name = member_pointer (member_pointer (relationships_pointer at) name) (codes "data")

-- the pointer of a spot
abbrev pub spot_pointer : Spot → List ℕ
spot_pointer (spot.At at) = at.now
spot_pointer (spot.Link at name) = link_pointer at.now name.now

-- the pointer of the item of that index at a spot, or else of all that stands there
abbrev pub pointer_at : Spot → Option ℕ → List ℕ
pointer_at whole None = spot_pointer whole
pointer_at whole (Some place) = item_pointer (spot_pointer whole) place
