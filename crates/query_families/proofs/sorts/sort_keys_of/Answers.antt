use Rattle.std.proofs.Common.{◌∙◌, map, length, true, sym, ap}
use Rattle.std.specs.Prelude.{nat_le}
use Rattle.task_forms.specs.declared.queries.TheConstants.{SORT_LIMIT}
use Rattle.request_model.specs.Words.{all_some}
use Rattle.request_model.specs.Queries.{are_distinct, sort_key_of}
use Rattle.query_families.proofs.SortKeys.{too_many, so_many}
use Rattle.query_families.proofs.sorts.sort_keys_of.Goals as goal

pub returns-then-not-are_at_most : goal.returns-then-not-are_at_most
returns-then-not-are_at_most c =
    too_many c.args.schema.now c.args.kind c.args.value.now (ap (λ ps. nat_le (length ps) SORT_LIMIT) (sym c.new-texts.ensures) ∙ sym c.are_at_most.ensures ∙ c.if-not-are_at_most.true)

pub returns-in-Some : goal.returns-in-Some
returns-in-Some c =
    so_many c.args.schema.now c.args.kind c.args.value.now c.in-Some.keys true
    (ap (λ ps. nat_le (length ps) SORT_LIMIT) (sym c.new-texts.ensures) ∙ sym c.are_at_most.ensures ∙ c.if-not-are_at_most.false)
    (ap (λ ps. all_some (map (sort_key_of c.args.schema.now c.args.kind) ps)) (sym c.new-texts.ensures) ∙ sym c.in_ok-keys.ensures ∙ c.in-Some.is)
    (ap (λ ks. are_distinct (map (λ k. k.attribute) ks)) (sym c.as_slice.ensures) ∙ sym c.are_distinct.ensures ∙ c.if-are_distinct.true)
