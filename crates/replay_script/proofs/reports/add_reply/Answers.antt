use Rattle.std.proofs.Common.{ap, sym, ◌∙◌}
use Rattle.json.specs.Print.{quoted}
use Rattle.json_texts.specs.DraftLaws.{adds_then, adds_as}
use Rattle.replay_script.proofs.reports.add_reply.Goals as goal

pub returns : goal.returns
returns c = adds_then c.add_comma.ensures (adds_as (ap quoted (sym (c.as_str.ensures.value ∙ c.in-Ok.ensures.text))) c.add_string.ensures)
