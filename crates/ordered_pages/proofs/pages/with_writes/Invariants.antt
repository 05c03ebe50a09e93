use Rattle.std.proofs.Common.{◌≡◌, ◌+◌, ◌-◌, ◌^◌, take}
use Rattle.std.specs.Prelude.{min}
use Rattle.ordered_pages.specs.Tree.{leaves_of}
use Rattle.ordered_pages.specs.Prepared.{IsPrepared}
use Rattle.ordered_pages.proofs.pages.with_writes.Given as goal

abbrev pub invariant-loop-write : goal.invariant-loop-write
invariant-loop-write l = record {
  prepared : IsPrepared (leaves_of l.fn.root) (take l.write-index l.writes) l.new l.keys.items;
  steps : l.work.done ≡ min (l.initial.work.done + l.write-index) (2 ^ 64 - 1);
}
