use Rattle.std.proofs.Common.{◌≡◌, take}
use Rattle.world_cells.proofs.rows.copy_links.Given as goal

-- what was copied so far
abbrev pub invariant-loop-link : goal.invariant-loop-link
invariant-loop-link l = l.copies.items ≡ take l.link-index l.links
