use Rattle.std.proofs.Common.{◌≡◌, ◌++◌, drop}
use Rattle.request_model.specs.Queries.{sort_forms}
use Rattle.query_families.proofs.sorts.sort_forms.Given as goal

abbrev pub invariant-loop-key : goal.invariant-loop-key
invariant-loop-key l = sort_forms l.schema l.kind l.keys ≡ l.forms.items ++ sort_forms l.schema l.kind (drop l.key-index l.keys)
