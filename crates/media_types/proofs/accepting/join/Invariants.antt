use Rattle.std.proofs.Common.{◌≡◌, ◌∷◌, ◌++◌}
use Rattle.std.specs.List.{flat_map, join_with_byte}
use Rattle.request_model.specs.Words.{comma}
use Rattle.media_types.specs.ValuesLeft.{values_left}
use Rattle.media_types.proofs.accepting.join.Given as goal

abbrev pub invariant-loop-text : goal.invariant-loop-text
invariant-loop-text l = join_with_byte comma (l.fn.first ∷ values_left l.fn.others) ≡ l.joined.items ++ flat_map (λ y. comma ∷ y) (values_left l.text-iterator)
