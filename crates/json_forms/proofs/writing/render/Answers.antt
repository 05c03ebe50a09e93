use Rattle.std.proofs.Common.{◌≡◌, ◌≤◌, Some, arith, sym, ap, ◌∙◌}
use Rattle.serde_json.specs.Data.{depth}
use Rattle.serde_json.specs.Read.{max_depth}
use Rattle.serde_json.specs.View.{view}
use Rattle.json_forms.specs.Json.{json_of}
use Rattle.json_forms.proofs.JsonLemmas.{json_of-text}
use Rattle.json_forms.proofs.InOrder.{json_of-ordered}
use Rattle.json_forms.proofs.writing.render.Goals as goal

written : (c : goal.After-from_vec) → depth (view c.args.value.now) ≤ max_depth → json_of c.from_vec.result ≡ Some (view c.args.value.now)
written c nests = ap json_of c.from_vec.ensures ∙ sym (json_of-text _ _ c.in_ok-to_vec.ensures.utf8 (c.in_ok-to_vec.ensures.reads_back nests))

pub returns-clause-reads_back : goal.returns-clause-reads_back
returns-clause-reads_back c shallow = written c (omega arith)

pub returns-clause-order : goal.returns-clause-order
returns-clause-order c shallow = json_of-ordered _ _ (written c (omega arith))
