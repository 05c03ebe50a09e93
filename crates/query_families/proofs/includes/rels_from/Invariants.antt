use Rattle.std.proofs.Common.{◌≡◌}
use Rattle.request_model.specs.Queries.{rels_from}
use Rattle.query_families.specs.PartsLeft.{parts_left}
use Rattle.query_families.proofs.Listings.{behind}
use Rattle.query_families.proofs.includes.rels_from.Given as goal

abbrev pub invariant-loop-name : goal.invariant-loop-name
invariant-loop-name l = rels_from l.schema l.kind (parts_left l.fn.names) ≡ behind l.rels.items (rels_from l.schema l.at (parts_left l.name-iterator))
