use Rattle.std.proofs.Common.{◌≤◌, ◌+◌, ◌-◌, length, map, drop}
use Rattle.commit_log.specs.Keeping.{noted, IsScanned, count_after}
use Rattle.commit_log.proofs.log.scan.Given as goal

abbrev pub invariant-loop-place : goal.invariant-loop-place
invariant-loop-place l = record {
  within : l.place ≤ length l.kept.items;
  scanned : IsScanned l.reads l.since (drop l.place (map noted l.kept.items)) l.found;
  after : length l.kept.items - l.place ≤ count_after l.since (drop l.place (map noted l.kept.items));
  steps : l.work.done ≤ l.initial.work.done + (length l.kept.items - l.place);
}

abbrev pub decreases-loop-place : goal.decreases-loop-place
decreases-loop-place l = l.place
