use Rattle.std.proofs.Common.{◌≡◌, ◌+◌, refl, Bool, arith, [], length, sym, ap, ◌∙◌, subst}
use Rattle.std.specs.Prelude.{IfSome}
use Rattle.resource_schema.specs.declared.schema.Schema.{Schema}
use Rattle.http_model.specs.Served.{Served}
use Rattle.world_cells.specs.World.{empty_world}
use Rattle.task_forms.specs.Desks.{last_number}
use Rattle.task_forms.specs.Meaning.{IsLegal}
use Rattle.session_engine.specs.Plans.{plans_of}
use Rattle.request_model.specs.Plans.{planned}
use Rattle.store_model.specs.StoreMeaning.{meaning_of}
use Rattle.commands.proofs.Unworn.{unworn, ends_unworn}
use Rattle.commands.proofs.pipes.pipe_over.Goals as goal

pub returns : goal.returns
returns g c =
    let schema = c.args.schema.now in
    let driven = c.serve_counted-driven.result in
    let begun = c.serve_counted-driven.ensures.serves 0 empty_world [] [] (c.requires.begins, refl) in
    let stood = begun.stood.0 in
    let own : begun.entries ≡ begun.others = stood.1 in
    let same : c.serve_counted-driven.new.desk.subject ≡ schema = c.serve_counted-driven.ensures.fixed ∙ c.requires.subject in
    let few = c.serve_counted-driven.ensures.few in
    let count : length begun.entries ≡ 0 + driven.entries = begun.stood.1 in
    let unworn_is = unworn begun.worn (length begun.others) (let n : length begun.entries ≡ length begun.others = ap length own in omega (arith, few, count, n))
    (λ worn_is. let at : 0 + length begun.others ≡ last_number = begun.wearing worn_is in omega (arith, at)) in
    record {
      entries = begun.entries;
      legal = subst (λ (s : Schema). IsLegal (meaning_of s) empty_world begun.entries) same (subst (IsLegal (meaning_of c.serve_counted-driven.new.desk.subject) empty_world) (sym own) stood.0.legal);
      answered = driven.answered;
      end = driven.end;
      not_worn = ends_unworn begun.worn driven.end unworn_is begun.ends_worn;
      bytes = begun.bytes;
      taken_more = begun.taken_more;
      left_less = begun.left_less;
      out = begun.out;
      written_more = begun.written_more;
      served = subst (λ (worn : Bool). IfSome (g.S.Source.told c.args.source.now).left (λ all. Served (plans_of (planned schema)) 0 all begun.bytes worn driven.answered begun.entries begun.out driven.end)) unworn_is begun.served;
      status_is = c.status_of.ensures;
      cause = c.serve_counted-driven.ensures.cause;
    }
