use Rattle.std.proofs.Common.{rules}
use Rattle.std.specs.Ordering.{is_lt}
use Rattle.std.proofs.lemmas.List.Sorted.{IsPartitionPoint-from_clause}
use Rattle.store_model.specs.Pages.{place_cmp, place_of}
use Rattle.page_select.proofs.InOrder.{parted_ahead}
use Rattle.page_select.proofs.slices.all_ahead.Goals as goal

pub returns-in-Some-clause-cut : goal.returns-in-Some-clause-cut
returns-in-Some-clause-cut c = λ ordered.
    let point = IsPartitionPoint-from_clause (λ r. is_lt (place_cmp c.args.sort.now (place_of c.args.sort.now r) c.in-Some.cursor)) c.args.rows.now c.partition_point.result c.partition_point.ensures.partitioned
    (parted_ahead c.args.sort.now c.in-Some.cursor c.args.rows.now ordered) (λ a r q k. search rules) in
    rw c.in-Some.is (λ k d le lt. point.0 k d le lt, λ k d le lt. point.1 k d le lt)
