use Rattle.std.proofs.Common.{◌≡◌}
use Rattle.query_families.specs.PartsLeft.{parts_left}
use Rattle.query_families.proofs.Listings.{behind, fields_among}
use Rattle.query_families.proofs.fieldsets.names_from.Given as goal

abbrev pub invariant-loop-text : goal.invariant-loop-text
invariant-loop-text l = fields_among l.schema l.kind (parts_left l.fn.texts) ≡ behind l.names.items (fields_among l.schema l.kind (parts_left l.text-iterator))
