use Rattle.std.proofs.Common.{◌≡◌, map}
use Rattle.request_model.specs.Words.{all_some}
use Rattle.request_model.specs.Queries.{include_path}
use Rattle.query_families.specs.PartsLeft.{parts_left}
use Rattle.query_families.proofs.Listings.{behind}
use Rattle.query_families.proofs.includes.paths_from.Given as goal

abbrev pub invariant-loop-text : goal.invariant-loop-text
invariant-loop-text l = all_some (map (include_path l.schema l.kind) (parts_left l.fn.texts)) ≡ behind l.paths.items (all_some (map (include_path l.schema l.kind) (parts_left l.text-iterator)))
