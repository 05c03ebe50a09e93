use Rattle.std.proofs.Common.{◌≡◌, ◌+◌, ◌≤◌, ◌++◌, refl, Bool, false, List, ℕ, arith, [], length, sym, ap, ◌∙◌, subst}
use Rattle.outer_ends.specs.Memory.{SinkState, SourceState}
use Rattle.http_messages.specs.declared.ends.SessionEnd.{SessionEnd}
use Rattle.http_model.specs.Served.{Served}
use Rattle.resource_schema.specs.declared.schema.Schema.{Schema}
use Rattle.world_cells.specs.World.{empty_world}
use Rattle.task_forms.specs.Desks.{last_number}
use Rattle.task_forms.specs.Meaning.{IsLegal}
use Rattle.session_engine.specs.Plans.{plans_of}
use Rattle.request_model.specs.Plans.{planned}
use Rattle.store_model.specs.StoreMeaning.{meaning_of}
use Rattle.workload_command.proofs.Sessions.{exact-tally, unworn}
use Rattle.workload_command.proofs.runs.serve_input.Goals as goal

pub returns-in-Closed : goal.returns-in-Closed
returns-in-Closed c =
    let none : List ℕ = [] in
    let schema = c.args.schema.now in
    let driven = c.drive_counted-driven.result in
    let begun = c.drive_counted-driven.ensures.serves 0 empty_world [] [] ((c.requires.begins, refl), c.requires.tally) in
    let stood = begun.stood.0.0 in
    let own : begun.entries ≡ begun.others = stood.1 in
    let same : c.drive_counted-driven.new.desk.desk.subject ≡ schema = c.drive_counted-driven.ensures.fixed ∙ c.requires.subject in
    let few = c.drive_counted-driven.ensures.few.1 in
    let count : length begun.entries ≡ 0 + driven.entries = begun.stood.1 in
    let unworn_is = unworn begun.worn (length begun.others) (let n : length begun.entries ≡ length begun.others = ap length own in omega (arith, few, count, n))
    (λ worn_is. let at : 0 + length begun.others ≡ last_number = begun.wearing worn_is in omega (arith, at)) in
    let few_entries : length begun.entries ≤ 1000000 = omega (arith, few, count) in
    let left : c.new-source.result.left ≡ c.args.input.items = ap (λ (s : SourceState). s.left) c.new-source.ensures in
    let nothing : c.new-sink.result.written ≡ none = ap (λ (s : SinkState). s.written) c.new-sink.ensures in
    let written : c.drive_counted-driven.new.sink.written ≡ c.new-sink.result.written ++ begun.out = begun.written_more in
    let bytes : length c.written.result.now ≡ length begun.out = ap length (c.written.ensures ∙ (written ∙ ap (λ l. l ++ begun.out) nothing)) in
    let number : driven.entries ≡ length begun.entries = omega (arith, count) in
    let tally = begun.stood.0.1 ∙ exact-tally begun.entries few_entries in
    let plans = plans_of (planned schema) in
    let over = subst (λ (all : List ℕ). Served plans 0 all begun.bytes begun.worn driven.answered begun.entries begun.out driven.end) left begun.served in
    let calm = subst (λ (worn : Bool). Served plans 0 c.args.input.items begun.bytes worn driven.answered begun.entries begun.out driven.end) unworn_is over in
    record {
      entries = begun.entries;
      legal = subst (λ (s : Schema). IsLegal (meaning_of s) empty_world begun.entries) same
          (subst (IsLegal (meaning_of c.drive_counted-driven.new.desk.desk.subject) empty_world) (sym own) stood.0.legal);
      answered = driven.answered;
      taken = begun.bytes;
      out = begun.out;
      served = subst (λ (end : SessionEnd). Served plans 0 c.args.input.items begun.bytes false driven.answered begun.entries begun.out end) c.in-Closed.is calm;
      counted = λ i. record { requests = driven.answered; tally = tally i; entries = number i; bytes = bytes i };
    }
