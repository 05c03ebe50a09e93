use Rattle.std.proofs.Common.{ℕ, List, refl, sym, subst}
use Rattle.command_lines.specs.declared.schemas.SchemaRead.{SchemaRead}
use Rattle.command_lines.specs.Lines.{schema_line, Refuses}
use Rattle.serve_command.specs.Serves.{ServesRead}
use Rattle.serve_command.proofs.serves.serve_read.Goals as goal

pub returns-in-Fault : goal.returns-in-Fault
returns-in-Fault g c =
    let stations = c.args.stations.now in
    let sink = g.K.Sink.told c.args.sink.now in
    let sink_now = g.K.Sink.told c.refuse_schema.new.sink in
    let refused = subst (λ (p : List ℕ). Refuses (schema_line p c.in-Fault.why) sink sink_now c.refuse_schema.result) c.as_str.ensures c.refuse_schema.ensures in
    subst (λ (read : SchemaRead). ServesRead g.L.Listener.told stations stations sink sink_now c.refuse_schema.result c.args.path.now read c.args.quota) (sym c.in-Fault.is) (refl, refused)
