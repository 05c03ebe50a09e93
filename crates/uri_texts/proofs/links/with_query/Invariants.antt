use Rattle.std.proofs.Common.{◌≡◌, [], take}
use Rattle.form_urlencoded.specs.Form.{extend_pairs}
use Rattle.uri_texts.proofs.links.with_query.Given as goal

abbrev pub invariant-loop-name : goal.invariant-loop-name
invariant-loop-name l = (l.form.prefix ≡ []) × (l.form.form ≡ extend_pairs [] (take l.name-index l.pairs))
