use Rattle.std.proofs.Common.{◌∷◌, false, map, drop}
use Rattle.json_texts.specs.Drafts.{Leaves}
use Rattle.document_texts.specs.Texts.{items_left, identifier_of}
use Rattle.document_texts.proofs.identifiers.add_identifiers.Given as goal

abbrev pub invariant-loop-id : goal.invariant-loop-id
invariant-loop-id l =
    Leaves l.fn.draft l.draft (items_left l.later (map (identifier_of l.schema l.target) (drop l.id-index l.ids))) (91 ∷ items_left false (map (identifier_of l.schema l.target) l.ids))
