use Rattle.std.proofs.Common.{◌≡◌, ◌++◌, ◌+◌, ◌≤◌}
use Rattle.std.specs.Prelude.{vec_len, vec_capacity}
use Rattle.view_reads.proofs.writes.unboxed.Given as goal

abbrev pub invariant-loop-item : goal.invariant-loop-item
invariant-loop-item l = record {
  is : l.all.items ++ l.item-iterator.rest.items ≡ l.fn.items.items;
  room : vec_len l.all + l.item-iterator.rest.len ≤ vec_capacity l.all;
}
