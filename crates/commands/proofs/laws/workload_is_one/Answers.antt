use Rattle.std.proofs.Common.{subst, sym, ◌∙◌}
use Rattle.std.specs.List.{concat}
use Rattle.std.specs.Prelude.{false}
use Rattle.http_model.specs.Served.{by_closing}
use Rattle.resource_schema.specs.declared.schema.Schema.{Schema}
use Rattle.request_model.specs.Plans.{planned as planned_in}
use Rattle.request_model.specs.SchemaFile.{schema_of_text}
use Rattle.store_model.specs.StoreMeaning.{meaning_of}
use Rattle.session_engine.specs.Plans.{plans_of}
use Rattle.world_cells.specs.World.{empty_world}
use Rattle.workload_maker.specs.Requests.{requests}
use Rattle.workload_command.specs.Blog.{blog_text}
use Rattle.workload_command.specs.Workloads.{IsCounted}
use Rattle.commands.specs.Outputs.{Run}
use Rattle.commands.proofs.OneOutput.{same-told}
use Rattle.commands.proofs.OneCount.{one-schema, same-counts}
use Rattle.commands.proofs.laws.workload_is_one.Goals as goal

pub returns : goal.returns
returns c = λ asked a b x y.
    let schema = x.0 in
    let bytes = concat (requests asked.requests asked.seed) in
    let planned = planned_in schema in
    let plans = plans_of planned in
    let p = x.2 in
    let q = subst (λ (s : Schema). IsCounted s bytes b) (one-schema (schema_of_text blog_text) y.0 schema y.1 x.1) y.2 in
    let messages = (c.requests_are_one.ensures 0 bytes _ _ _ _
    (c.exchanges_are_requests.ensures.served plans 0 bytes p.taken false p.answered p.entries p.out by_closing p.served)
    (c.exchanges_are_requests.ensures.served plans 0 bytes q.taken false q.answered q.entries q.out by_closing q.served)).0 in
    let same = same-told (meaning_of schema) empty_world planned bytes p.taken q.taken false false p.answered q.answered p.entries q.entries p.out q.out by_closing by_closing p.legal.answers q.legal.answers p.served q.served messages in
    let one : Run schema bytes p.out p.answered by_closing = record { entries = p.entries; legal = p.legal; taken = p.taken; worn = false; served = p.served } in
    let other : Run schema bytes q.out q.answered by_closing = record { entries = q.entries; legal = q.legal; taken = q.taken; worn = false; served = q.served } in
    let sent = c.output_is_one.ensures schema bytes p.out q.out p.answered q.answered by_closing by_closing one other in
    p.counted ∙ same-counts p.answered q.answered p.entries q.entries p.out q.out sent.2 same sent.0 ∙ sym q.counted
