-- Worlds that are not valid, each for one rule.
use Rattle.std.specs.Prelude.{◌<◌, ◌≤◌, ℕ, List, [], ◌∷◌, Some, None, codes}
use Rattle.std.proofs.Common.{refl, arith, ap}
use Rattle.resource_schema.specs.declared.values.AttrValue.TheVariants as value
use Rattle.ident_rules.specs.Key.{same_key}
use Rattle.resource_schema.specs.Kinds.{notes}
use Rattle.world_cells.specs.declared.rows.Row.{Row}
use Rattle.world_cells.specs.declared.rows.Link.{Link}
use Rattle.world_cells.specs.declared.rows.Link.TheVariants.{One, Many}
use Rattle.world_cells.specs.World.{World}
use Rattle.store_model.specs.Valid.{IsValid}
use Rattle.store_model.proofs.Examples.{blog}
use Rattle.store_model.proofs.Rows.{key_at}

-- the least next id that is stored is 2, and the greatest 2^63 - 1
no_first : ¬ IsValid notes (record { rows = []; counters = (0, 1) ∷ [] })
no_first v = let above : 1 < 1 = (v.counters 0 1 refl).1 in omega arith

no_greater : ¬ IsValid notes (record { rows = []; counters = (0, 9223372036854775808) ∷ [] })
no_greater v = let below : 9223372036854775808 ≤ 9223372036854775807 = (v.counters 0 9223372036854775808 refl).2 in omega arith

-- a next id of a type that is not known
no_type : ¬ IsValid notes (record { rows = []; counters = (1, 2) ∷ [] })
no_type v = let known : 1 < 1 = (v.counters 1 2 refl).0 in omega arith

-- a comment 1 with these links, and a next id
abbrev comment_row : List Link → Row
comment_row links = record { key = key_at 1 (codes "1"); values = value.Text (codes "c") ∷ []; links = links }

abbrev comment_world : List Link → ℕ → World
comment_world links next = record { rows = (key_at 1 (codes "1"), comment_row links) ∷ []; counters = (1, next) ∷ [] }

-- its author is not there
no_author : ¬ IsValid blog (comment_world (One (Some (codes "ann")) ∷ []) 2)
no_author v = cc ((v.rows (key_at 1 (codes "1")) (comment_row (One (Some (codes "ann")) ∷ [])) refl).leads_to_rows 0 (key_at 2 (codes "ann")) refl)

-- a list where one link or none belongs
no_list : ¬ IsValid blog (comment_world (Many [] ∷ []) 2)
no_list v = cc ((v.rows (key_at 1 (codes "1")) (comment_row (Many [] ∷ [])) refl).links.0.0)

-- under the key of another row
no_other_key : ¬ IsValid blog (record { rows = (key_at 1 (codes "2"), comment_row (One None ∷ [])) ∷ []; counters = (1, 3) ∷ [] })
no_other_key v = cc (ap (λ k. same_key k (key_at 1 (codes "1"))) ((v.rows (key_at 1 (codes "2")) (comment_row (One None ∷ [])) refl).own_key))

-- an id of digits that the server has not given yet
not_given : ¬ IsValid blog (record { rows = (key_at 1 (codes "1"), comment_row (One None ∷ [])) ∷ []; counters = [] })
not_given v =
    let given = (v.rows (key_at 1 (codes "1")) (comment_row (One None ∷ [])) refl).counted (omega arith, tt) in
    let least : 1 ≤ given.0 = given.2 in
    let below : given.0 < 1 = given.3 in
    omega arith
