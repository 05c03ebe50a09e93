use Rattle.std.proofs.Common.{◌++◌, sym}
use Rattle.std.specs.Prelude.{codes}
use Rattle.resource_schema.specs.Kinds.{kind_name}
use Rattle.store_model.specs.Resource.{linkage}
use Rattle.json_texts.specs.DraftLaws.{adds_then, adds_as}
use Rattle.document_texts.proofs.ObjectTexts.{relationship-parts}
use Rattle.document_texts.proofs.relationships.add_member.Goals as goal

pub returns : goal.returns
returns c =
    let name = c.args.relationship.now.name in
    let shown = linkage c.args.schema.now c.args.relationship.now.target c.args.link.now in
    adds_as (relationship-parts (codes "relationships") c.args.begun shown (kind_name c.args.schema.now c.args.key.now.kind) c.args.key.now.id name)
    (adds_then c.add_opening.ensures
    (adds_then (adds_as (sym c.name_text-name.ensures) c.add.ensures)
    (adds_then c.add-2.ensures
    (adds_then c.add_linkage.ensures
    (adds_then c.add-3.ensures
    (adds_then (adds_as (sym (λ i. c.requires i ++ (codes "/" ++ c.id_text-id.ensures i))) c.add_path.ensures)
    (adds_then c.add-4.ensures
    (adds_then (adds_as (sym c.name_text-name.ensures) c.add-5.ensures)
    (adds_then c.add-6.ensures
    (adds_then (adds_as (sym (λ i. c.requires i ++ (codes "/" ++ c.id_text-id.ensures i))) c.add_path-2.ensures)
    (adds_then c.add-7.ensures
    (adds_then (adds_as (sym c.name_text-name.ensures) c.add-8.ensures)
    c.add-9.ensures))))))))))))
