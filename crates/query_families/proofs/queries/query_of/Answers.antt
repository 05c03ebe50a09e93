use Rattle.std.proofs.Common.{◌≡◌, ◌∙◌, sym, ap}
use Rattle.std.specs.Prelude.{codes}
use Rattle.request_model.specs.Queries.{place_at, primary_kind, query_of, sort_forms}
use Rattle.query_families.proofs.Cursors.{after-refused, before-refused, places-read}
use Rattle.query_families.proofs.Stops.{passed, stop_on}
use Rattle.query_families.proofs.queries.query_of.Goals as goal

pub returns-in_err-after : goal.returns-in_err-after
returns-in_err-after c =
    let fs : sort_forms c.args.schema.now (primary_kind c.args.schema.now c.args.target.now) c.in_ok-asked.asked.query.sort ≡ c.as_slice-2.result.now =
    ap (λ k. sort_forms c.args.schema.now k c.in_ok-asked.asked.query.sort) (sym c.primary_kind-kind.ensures) ∙ ap (sort_forms c.args.schema.now c.primary_kind-kind.result) (sym c.as_slice.ensures) ∙ sym c.in_ok-forms.ensures ∙ sym c.as_slice-2.ensures in
    passed c.in_err-after.field-0.0 c.from_residual-in_err-after.result (query_of c.args.schema.now c.args.target.now c.args.text.now) c.from_residual-in_err-after.ensures.0 c.from_residual-in_err-after.ensures.1
    (stop_on c.in_err-after.field-0.0 (place_at c.as_slice-2.result.now (codes "page[after]") c.in_ok-asked.asked.after) _
    (λ r e. after-refused c.args.schema.now c.args.target.now c.args.text.now c.in_ok-asked.asked c.in_ok-asked.ensures r (ap (λ f. place_at f (codes "page[after]") c.in_ok-asked.asked.after) fs ∙ e))
    c.in_err-after.ensures)

pub returns-in_err-before : goal.returns-in_err-before
returns-in_err-before c =
    let fs : sort_forms c.args.schema.now (primary_kind c.args.schema.now c.args.target.now) c.in_ok-asked.asked.query.sort ≡ c.in_ok-forms.forms =
    ap (λ k. sort_forms c.args.schema.now k c.in_ok-asked.asked.query.sort) (sym c.primary_kind-kind.ensures) ∙ ap (sort_forms c.args.schema.now c.primary_kind-kind.result) (sym c.as_slice.ensures) ∙ sym c.in_ok-forms.ensures in
    passed c.in_err-before.field-0.0 c.from_residual-in_err-before.result (query_of c.args.schema.now c.args.target.now c.args.text.now) c.from_residual-in_err-before.ensures.0 c.from_residual-in_err-before.ensures.1
    (stop_on c.in_err-before.field-0.0 (place_at c.as_slice-3.result.now (codes "page[before]") c.in_ok-asked.asked.before) _
    (λ r e. before-refused c.args.schema.now c.args.target.now c.args.text.now c.in_ok-asked.asked c.in_ok-asked.ensures c.in_ok-after.after
    (ap (λ f. place_at f (codes "page[after]") c.in_ok-asked.asked.after) (fs ∙ sym c.as_slice-2.ensures) ∙ c.in_ok-after.ensures) r (ap (λ f. place_at f (codes "page[before]") c.in_ok-asked.asked.before) (fs ∙ sym c.as_slice-3.ensures) ∙ e))
    c.in_err-before.ensures)

pub returns : goal.returns
returns c =
    let fs : sort_forms c.args.schema.now (primary_kind c.args.schema.now c.args.target.now) c.in_ok-asked.asked.query.sort ≡ c.in_ok-forms.forms =
    ap (λ k. sort_forms c.args.schema.now k c.in_ok-asked.asked.query.sort) (sym c.primary_kind-kind.ensures) ∙ ap (sort_forms c.args.schema.now c.primary_kind-kind.result) (sym c.as_slice.ensures) ∙ sym c.in_ok-forms.ensures in
    places-read c.args.schema.now c.args.target.now c.args.text.now c.in_ok-asked.asked c.in_ok-asked.ensures c.in_ok-after.after
    (ap (λ f. place_at f (codes "page[after]") c.in_ok-asked.asked.after) (fs ∙ sym c.as_slice-2.ensures) ∙ c.in_ok-after.ensures) c.in_ok-before.before
    (ap (λ f. place_at f (codes "page[before]") c.in_ok-asked.asked.before) (fs ∙ sym c.as_slice-3.ensures) ∙ c.in_ok-before.ensures)
