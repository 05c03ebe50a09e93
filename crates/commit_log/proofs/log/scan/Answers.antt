use Rattle.std.proofs.Common.{arith, map}
use Rattle.view_reads.specs.Counts.{counted_once}
use Rattle.commit_log.specs.Keeping.{noted}
use Rattle.commit_log.proofs.Scans.{stops, meeting, passing, counting, counted_drop}
use Rattle.commit_log.proofs.log.scan.Goals as goal

pub returns-then-entry-since-clause-scanned : goal.returns-then-entry-since-clause-scanned
returns-then-entry-since-clause-scanned c =
    stops c.args.reads.now c.args.since c.args.kept.now.items c.loop-place.place c.entry-entry.result.now c.loop-place.found c.loop-place-test.true c.loop-place.invariant.within c.entry-entry.ensures.entry
    c.loop-place.invariant.scanned c.requires.rising c.if-entry-since.true

pub returns-then-entry-since-clause-work : goal.returns-then-entry-since-clause-work
returns-then-entry-since-clause-work c =
    let once = counted_once c.loop-place.work.done in
    let told = c.entry-entry.ensures.work in
    let steps = c.loop-place.invariant.steps in
    let after = c.loop-place.invariant.after in
    let fewer = counted_drop c.args.reads.now c.args.since (map noted c.args.kept.now.items) c.loop-place.place in
    omega arith

pub loop-place-preserved-then-meets : goal.loop-place-preserved-then-meets
loop-place-preserved-then-meets c =
    let i = c.loop-place.invariant in
    let once = counted_once c.loop-place.work.done in
    let told = c.entry-entry.ensures.work in
    let some = c.loop-place-test.true in record {
      within = let w = i.within in omega arith;
      scanned = meeting c.args.reads.now c.args.since c.args.kept.now.items c.loop-place.place c.entry-entry.result.now c.loop-place.found some i.within c.entry-entry.ensures.entry i.scanned
          c.if-entry-since.false (c.meets.ensures.0 c.if-meets.true);
      after = counting c.args.reads.now c.args.since c.args.kept.now.items c.loop-place.place c.entry-entry.result.now c.loop-place.found some i.within c.entry-entry.ensures.entry i.scanned
          c.if-entry-since.false i.after;
      steps = let w = i.within in let s = i.steps in omega arith;
    }

pub loop-place-preserved : goal.loop-place-preserved
loop-place-preserved c =
    let i = c.loop-place.invariant in
    let once = counted_once c.loop-place.work.done in
    let told = c.entry-entry.ensures.work in
    let some = c.loop-place-test.true in record {
      within = let w = i.within in omega arith;
      scanned = passing c.args.reads.now c.args.since c.args.kept.now.items c.loop-place.place c.entry-entry.result.now c.loop-place.found some i.within c.entry-entry.ensures.entry i.scanned
          (λ m. cc (c.meets.ensures.1 m, c.if-meets.false));
      after = counting c.args.reads.now c.args.since c.args.kept.now.items c.loop-place.place c.entry-entry.result.now c.loop-place.found some i.within c.entry-entry.ensures.entry i.scanned
          c.if-entry-since.false i.after;
      steps = let w = i.within in let s = i.steps in omega arith;
    }
