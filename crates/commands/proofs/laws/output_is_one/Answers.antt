use Rattle.std.proofs.Common.{subst, List, map}
use Rattle.task_forms.specs.declared.tasks.Entry.{Entry}
use Rattle.http_model.specs.Served.{Served, end_of}
use Rattle.request_model.specs.Plans.{planned as planned_in}
use Rattle.store_model.specs.StoreMeaning.{meaning_of}
use Rattle.session_engine.specs.Plans.{plans_of}
use Rattle.world_cells.specs.World.{empty_world}
use Rattle.commands.proofs.OneOutput.{told, served-told, same-told}
use Rattle.commands.proofs.laws.output_is_one.Goals as goal

pub returns : goal.returns
returns c = λ schema bytes a b j k one other p q.
    let planned = planned_in schema in
    let plans = plans_of planned in
    let messages = (c.requests_are_one.ensures 0 bytes _ _ _ _
    (c.exchanges_are_requests.ensures.served plans 0 bytes p.taken p.worn j p.entries a one p.served)
    (c.exchanges_are_requests.ensures.served plans 0 bytes q.taken q.worn k q.entries b other q.served)).0 in
    let same = same-told (meaning_of schema) empty_world planned bytes p.taken q.taken p.worn q.worn j k p.entries q.entries a b one other p.legal.answers q.legal.answers p.served q.served messages in
    c.served_is_one.ensures plans 0 bytes p.taken q.taken p.worn q.worn j k (map told q.entries) a b one other
    (subst (λ (l : List Entry). Served plans 0 bytes p.taken p.worn j l a (end_of one)) same (served-told planned 0 bytes p.taken p.worn j p.entries a one p.served))
    (served-told planned 0 bytes q.taken q.worn k q.entries b other q.served)
