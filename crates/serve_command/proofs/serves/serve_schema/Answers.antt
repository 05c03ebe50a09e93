use Rattle.std.proofs.Common.{◌≡◌, subst, ◌∙◌, inl}
use Rattle.request_model.specs.Plans.{planned}
use Rattle.resource_schema.specs.declared.schema.Schema.{Schema}
use Rattle.session_engine.specs.Plans.{plans_of}
use Rattle.store_model.specs.StoreMeaning.{meaning_of}
use Rattle.serving.specs.Serving.{ServesStore}
use Rattle.serve_command.proofs.serves.serve_schema.Goals as goal

pub returns-in-Ok-serve_store : goal.returns-in-Ok-serve_store
returns-in-Ok-serve_store g c =
    let schema = c.args.schema.now in
    let served = c.in-Ok-serve_store.served in
    let serves = subst (λ (s : Schema). ServesStore (meaning_of s) (plans_of (planned schema)) g.L.Listener.told c.args.quota c.args.stations.now c.serve_store.new.stations served)
    (c.new.ensures ∙ c.in-Ok.ensures) c.in-Ok-serve_store.ensures.serves in
    inl (served, serves, c.tell.ensures)
