use Rattle.ident_rules.specs.IdLaws.{length-is_id-le, id_fields}
use Rattle.ident_rules.proofs.id.id_of.Goals as goal

pub padded-requires : goal.padded-requires
padded-requires c = length-is_id-le _ c.requires

pub invariant_of-result : goal.invariant_of-result
invariant_of-result c = id_fields _ _ c.requires c.padded.ensures
