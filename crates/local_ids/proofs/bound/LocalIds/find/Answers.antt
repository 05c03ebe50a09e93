use Rattle.std.proofs.Common.{sym, ◌∙◌, ap, option_and_then}
use Rattle.local_ids.specs.Pairs.{id_of}
use Rattle.local_ids.proofs.Finds.{find-lids_of}
use Rattle.local_ids.proofs.bound.LocalIds.find.Goals as goal

pub returns-in-None : goal.returns-in-None
returns-in-None c =
    rw (← c.self.view_is) (sym (find-lids_of c.args.kind c.args.lid.now c.self.inside.ids.entries ∙ ap (option_and_then (λ v. id_of v.items c.args.kind)) (sym c.in-None.ensures.value)))

pub returns-in-Some : goal.returns-in-Some
returns-in-Some c =
    rw (← c.self.view_is) (c.id_of.ensures ∙ ap (λ ps. id_of ps c.args.kind) c.deref.ensures.value
    ∙ sym (find-lids_of c.args.kind c.args.lid.now c.self.inside.ids.entries ∙ ap (option_and_then (λ v. id_of v.items c.args.kind)) (sym c.in-Some.ensures.value)))
