use Rattle.std.proofs.Common.{◌≡◌, ◌∙◌, Some, Ok, false, sym, ap}
use Rattle.request_model.specs.Queries.{has_name, known_parameter, with_pair, with_parameter}
use Rattle.query_families.proofs.KeptPairs.{pair-refused, pair-read}
use Rattle.query_families.proofs.Stops.{passed, stop_on}
use Rattle.query_families.proofs.pairs.with_pair.Goals as goal

pub returns-in_err-more : goal.returns-in_err-more
returns-in_err-more c =
    let known : known_parameter c.args.schema.now c.args.target.now c.args.name ≡ Some c.in-Some.known =
    ap (known_parameter c.args.schema.now c.args.target.now) (sym c.as_str.ensures) ∙ sym c.in-Some.ensures in
    let once : has_name c.args.name c.args.asked.query.pairs ≡ false =
    ap (λ n. has_name n c.args.asked.query.pairs) (sym c.as_str-2.ensures) ∙ ap (has_name c.as_str-2.result.now) (sym c.as_slice.ensures) ∙ sym c.has_name.ensures ∙ c.if-has_name.false in
    passed c.in_err-more.field-0.0 c.from_residual.result (with_pair c.args.schema.now c.args.target.now c.args.asked (c.args.name, c.args.value)) c.from_residual.ensures.0 c.from_residual.ensures.1
    (stop_on c.in_err-more.field-0.0 (with_parameter c.args.schema.now c.primary_kind-kind.result c.args.asked c.as_str-3.result.now c.as_str-4.result.now c.in-Some.known) _
    (λ r e. pair-refused c.args.schema.now c.args.target.now c.args.asked c.args.name c.args.value c.in-Some.known known once r
    (ap (λ k. with_parameter c.args.schema.now k c.args.asked c.args.name c.args.value c.in-Some.known) (sym c.primary_kind-kind.ensures)
    ∙ ap (λ n. with_parameter c.args.schema.now c.primary_kind-kind.result c.args.asked n c.args.value c.in-Some.known) (sym c.as_str-3.ensures)
    ∙ ap (λ v. with_parameter c.args.schema.now c.primary_kind-kind.result c.args.asked c.as_str-3.result.now v c.in-Some.known) (sym c.as_str-4.ensures) ∙ e))
    c.in_err-more.ensures)

pub returns : goal.returns
returns c =
    let known : known_parameter c.args.schema.now c.args.target.now c.args.name ≡ Some c.in-Some.known =
    ap (known_parameter c.args.schema.now c.args.target.now) (sym c.as_str.ensures) ∙ sym c.in-Some.ensures in
    let once : has_name c.args.name c.args.asked.query.pairs ≡ false =
    ap (λ n. has_name n c.args.asked.query.pairs) (sym c.as_str-2.ensures) ∙ ap (has_name c.as_str-2.result.now) (sym c.as_slice.ensures) ∙ sym c.has_name.ensures ∙ c.if-has_name.false in
    pair-read c.args.schema.now c.args.target.now c.args.asked c.args.name c.args.value c.in-Some.known known once c.in_ok-more.more
    (ap (λ k. with_parameter c.args.schema.now k c.args.asked c.args.name c.args.value c.in-Some.known) (sym c.primary_kind-kind.ensures)
    ∙ ap (λ n. with_parameter c.args.schema.now c.primary_kind-kind.result c.args.asked n c.args.value c.in-Some.known) (sym c.as_str-3.ensures)
    ∙ ap (λ v. with_parameter c.args.schema.now c.primary_kind-kind.result c.args.asked c.as_str-3.result.now v c.in-Some.known) (sym c.as_str-4.ensures) ∙ c.in_ok-more.ensures)
    ∙ ap Ok (sym c.in_ok-keep_pair.ensures)
