use Rattle.std.proofs.Common.{sym, ap, ◌∙◌, map, take, length}
use Rattle.std.specs.Char.{to_ascii_lowercase}
use Rattle.uri_texts.proofs.TargetLemmas.{boundary_behind}
use Rattle.uri_texts.proofs.targets.behind_scheme.Goals as goal

pub range_from-requires : goal.range_from-requires
range_from-requires c some =
    let same = c.eq_ignore_ascii_case.ensures.test.0 c.if-eq_ignore_ascii_case.true in
    let scheme = ap (map to_ascii_lowercase) c.as_bytes.ensures.value in
    let text = ap (map to_ascii_lowercase) (c.front.ensures ∙ ap (take (length c.args.scheme.now)) c.as_bytes-2.ensures.value) in
    boundary_behind c.args.scheme.now c.args.text.now c.utf8.text c.requires (sym scheme ∙ same ∙ text)
