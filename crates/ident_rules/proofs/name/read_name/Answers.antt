use Rattle.std.proofs.Common.{◌<◌, ◌≤◌, length, IsTrue, sym, ◌∙◌, arith}
use Rattle.ident_rules.specs.Name.{is_name}
use Rattle.ident_rules.specs.NameLaws.{is_name-holds, is_id-is_name}
use Rattle.ident_rules.proofs.name.read_name.Goals as goal

pub id_of-requires : goal.id_of-requires
id_of-requires c =
    let text = c.as_bytes-text.result.now in
    let some : 0 < length text = grind (arith, c.is_empty.ensures, c.if-is_empty.false) in
    let fits : length text ≤ 64 = omega arith in
    is_id-is_name text (is_name-holds text some fits (sym c.bad_name_place.ensures ∙ c.in_default.is))

pub invariant_of-result : goal.invariant_of-result
invariant_of-result c =
    let text = c.as_bytes-text.result.now in
    let some : 0 < length text = grind (arith, c.is_empty.ensures, c.if-is_empty.false) in
    let fits : length text ≤ 64 = omega arith in
    let name : IsTrue (is_name text) = is_name-holds text some fits (sym c.bad_name_place.ensures ∙ c.in_default.is) in
    rw c.id_of.ensures name
