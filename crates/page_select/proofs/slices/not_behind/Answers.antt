use Rattle.std.proofs.Common.{rules}
use Rattle.std.specs.Prelude.{not}
use Rattle.std.specs.Ordering.{is_lt}
use Rattle.std.proofs.lemmas.List.Sorted.{IsPartitionPoint-from_clause}
use Rattle.store_model.specs.Pages.{place_cmp, place_of}
use Rattle.page_select.proofs.InOrder.{parted_behind, not_is_true, not_is_false}
use Rattle.page_select.proofs.slices.not_behind.Goals as goal

pub returns-in-Some-clause-cut : goal.returns-in-Some-clause-cut
returns-in-Some-clause-cut c = λ ordered.
    let point = IsPartitionPoint-from_clause (λ r. not (is_lt (place_cmp c.args.sort.now c.in-Some.cursor (place_of c.args.sort.now r)))) c.args.rows.now c.partition_point.result c.partition_point.ensures.partitioned
    (parted_behind c.args.sort.now c.in-Some.cursor c.args.rows.now ordered) (λ a r q k. search rules) in
    rw c.in-Some.is (λ k d le lt. not_is_true _ (point.0 k d le lt), λ k d le lt. not_is_false _ (point.1 k d le lt))
