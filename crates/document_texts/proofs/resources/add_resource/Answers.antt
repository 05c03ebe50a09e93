use Rattle.std.proofs.Common.{◌++◌, sym}
use Rattle.std.specs.Prelude.{codes}
use Rattle.resource_schema.specs.Kinds.{kind_name}
use Rattle.store_model.specs.Resource.{attribute_members, relationship_members}
use Rattle.json_texts.specs.DraftLaws.{adds_then, adds_as}
use Rattle.document_texts.proofs.ObjectTexts.{resource-text}
use Rattle.document_texts.proofs.resources.add_resource.Goals as goal

pub returns : goal.returns
returns c =
    let row = c.args.row.now in
    adds_as
    (resource-text (attribute_members c.args.schema.now row c.args.fields.now) (relationship_members c.args.schema.now row c.args.fields.now) row.key.id (kind_name c.args.schema.now row.key.kind))
    (adds_then c.add.ensures
    (adds_then c.add_attributes.ensures
    (adds_then c.add-2.ensures
    (adds_then (adds_as (sym c.id_text-id.ensures) c.add-3.ensures)
    (adds_then c.add-4.ensures
    (adds_then (adds_as (sym (λ i. c.kind_text-kind.ensures i ++ (codes "/" ++ c.id_text-id.ensures i))) c.add_path.ensures)
    (adds_then c.add-5.ensures
    (adds_then c.add_relationships.ensures
    (adds_then c.add-6.ensures
    (adds_then (adds_as (sym c.kind_text-kind.ensures) c.add-7.ensures)
    c.add-8.ensures))))))))))
