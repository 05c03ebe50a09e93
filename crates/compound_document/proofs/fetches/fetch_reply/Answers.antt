use Rattle.std.proofs.Common.{◌≡◌, sym, subst}
use Rattle.std.specs.Prelude.{IfOk}
use Rattle.resource_schema.specs.declared.targets.Target.{Target}
use Rattle.trial_steps.specs.Runners.{TellsRead}
use Rattle.compound_document.specs.Fetches.{reach_of, reply_of}
use Rattle.compound_document.proofs.fetches.fetch_reply.Goals as goal

pub returns-in-Collection : goal.returns-in-Collection
returns-in-Collection g c =
    let schema = c.args.schema.now in
    let query = c.args.fetch.now.query in
    subst (λ (at : Target). IfOk c.collection_reply.result (λ r. TellsRead schema g.V.View.cells (reach_of schema query at) (λ now. r ≡ reply_of schema query at now) c.args.recorder.now c.collection_reply.new.recorder)) (sym c.in-Collection.is)
    c.collection_reply.ensures

pub returns-in-Resource : goal.returns-in-Resource
returns-in-Resource g c =
    let schema = c.args.schema.now in
    let query = c.args.fetch.now.query in
    subst (λ (at : Target). IfOk c.resource_reply.result (λ r. TellsRead schema g.V.View.cells (reach_of schema query at) (λ now. r ≡ reply_of schema query at now) c.args.recorder.now c.resource_reply.new.recorder)) (sym c.in-Resource.is)
    c.resource_reply.ensures

pub returns-in-Related : goal.returns-in-Related
returns-in-Related g c =
    let schema = c.args.schema.now in
    let query = c.args.fetch.now.query in
    subst (λ (at : Target). IfOk c.related_reply.result (λ r. TellsRead schema g.V.View.cells (reach_of schema query at) (λ now. r ≡ reply_of schema query at now) c.args.recorder.now c.related_reply.new.recorder)) (sym c.in-Related.is)
    c.related_reply.ensures

pub returns-in-Linkage : goal.returns-in-Linkage
returns-in-Linkage g c =
    let schema = c.args.schema.now in
    let query = c.args.fetch.now.query in
    subst (λ (at : Target). IfOk c.linkage_reply.result (λ r. TellsRead schema g.V.View.cells (reach_of schema query at) (λ now. r ≡ reply_of schema query at now) c.args.recorder.now c.linkage_reply.new.recorder)) (sym c.in-Linkage.is)
    c.linkage_reply.ensures
