use Rattle.std.proofs.Common.{◌≡◌, ◌≤◌, ℕ, ◌++◌, map, drop}
use Rattle.std.specs.Prelude.{option_map}
use Rattle.std.specs.List.{enumerate_from}
use Rattle.std.specs.Ordering.{nat_cmp}
use Rattle.std.specs.FinMap.Entries.{find}
use Rattle.request_model.specs.Words.{all_some}
use Rattle.request_model.specs.Documents.{value_or_default}
use Rattle.resource_reader.proofs.values.values_of.Given as goal

abbrev pub invariant-loop-place : goal.invariant-loop-place
invariant-loop-place l = record {
  values : all_some (map (value_or_default l.fn.given) (enumerate_from 0 l.attributes))
      ≡ option_map (λ vs. l.values.items ++ vs) (all_some (map (value_or_default l.fn.given) (enumerate_from l.place (drop l.place l.attributes))));
  left : (n : ℕ) → l.place ≤ n → find nat_cmp n l.given ≡ find nat_cmp n l.fn.given;
}
