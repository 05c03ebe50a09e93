use Rattle.std.proofs.Common.{◌≡◌, ◌∙◌, ◌∷◌, sym, ap, rules}
use Rattle.query_families.specs.PartsLeft.{parts_left}
use Rattle.query_families.proofs.Listings.{behind, fields_among, names-more}
use Rattle.query_families.proofs.fieldsets.names_from.Goals as goal

pub loop-text-preserved : goal.loop-text-preserved
loop-text-preserved c =
    let here : parts_left c.loop-text.text-iterator ≡ c.in-Some.text.now ∷ parts_left c.next.new.self = search rules in
    names-more c.args.schema.now c.args.kind (parts_left c.args.texts) (parts_left c.loop-text.text-iterator) c.loop-text.names.items c.loop-text.invariant c.in-Some.text.now (parts_left c.next.new.self) c.in-Some-field_named.name here (sym c.in-Some-field_named.ensures)
    ∙ ap (λ ns. behind ns (fields_among c.args.schema.now c.args.kind (parts_left c.next.new.self))) (sym c.in_ok-push-in-Some-field_named.ensures.items)
