use Rattle.std.proofs.Common.{◌≡◌, map}
use Rattle.request_model.specs.Words.{all_some}
use Rattle.request_model.specs.Queries.{sort_key_of}
use Rattle.query_families.specs.PartsLeft.{parts_left}
use Rattle.query_families.proofs.Listings.{behind}
use Rattle.query_families.proofs.sorts.keys_from.Given as goal

abbrev pub invariant-loop-text : goal.invariant-loop-text
invariant-loop-text l = all_some (map (sort_key_of l.schema l.kind) (parts_left l.fn.texts)) ≡ behind l.keys.items (all_some (map (sort_key_of l.schema l.kind) (parts_left l.text-iterator)))
