-- Where a link may lead.
use Rattle.std.specs.Prelude.{◌||◌, true, Bool}
use Rattle.ident_rules.specs.declared.key.Key.{Key}
use Rattle.ident_rules.specs.Key.{same_key}
use Rattle.world_cells.specs.World.{World, has_row}
use Rattle.row_change.specs.declared.places.MayLinkTo.{MayLinkTo}
use Rattle.row_change.specs.declared.places.MayLinkTo.TheVariants as to

-- the keys to which a link may lead
abbrev pub may_link : MayLinkTo → World → Key → Bool
may_link to.Anywhere w k = true
may_link to.AtRow w k = has_row w k
may_link (to.AtRowOr key) w k = same_key key k || has_row w k
