use Rattle.std.proofs.Common.{◌∷◌, false, map, drop}
use Rattle.store_model.specs.Resource.{resource}
use Rattle.json_texts.specs.Drafts.{Leaves}
use Rattle.document_texts.specs.Texts.{items_left}
use Rattle.document_texts.proofs.resources.add_resources.Given as goal

abbrev pub invariant-loop-row : goal.invariant-loop-row
invariant-loop-row l =
    Leaves l.fn.draft l.draft (items_left l.later (map (λ row. resource l.schema row l.fields) (drop l.row-index l.rows))) (91 ∷ items_left false (map (λ row. resource l.schema row l.fields) l.rows))
