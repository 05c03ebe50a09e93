use Rattle.std.proofs.Common.{◌≡◌, map, drop}
use Rattle.std.specs.Prelude.{nat_eq}
use Rattle.std.specs.List.{list_any}
use Rattle.query_families.proofs.sorts.is_key_among.Given as goal

abbrev pub invariant-loop-key : goal.invariant-loop-key
invariant-loop-key l = list_any (nat_eq l.attribute) (map (λ k. k.attribute) l.keys) ≡ list_any (nat_eq l.attribute) (map (λ k. k.attribute) (drop l.key-index l.keys))
