use Rattle.request_model.specs.Queries.{sort_forms}
use Rattle.query_families.proofs.SortKeys.{forms_more}
use Rattle.query_families.proofs.sorts.sort_forms.Goals as goal

pub loop-key-preserved : goal.loop-key-preserved
loop-key-preserved c =
    forms_more c.args.schema.now c.args.kind c.args.keys.now c.loop-key.key-index _ c.attributes_of-attributes.result.now c.form_at.result (sort_forms c.args.schema.now c.args.kind c.args.keys.now) c.loop-key.forms.items c.push_form.new.forms.items
    c.loop-key-test.true c.loop-key.invariant c.attributes_of-attributes.ensures.attributes c.form_at.ensures c.in_ok-push_form.ensures
