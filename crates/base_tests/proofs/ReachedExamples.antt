-- Worked: what paths reach, link by link.
use Rattle.std.specs.Prelude.{◌≡◌, ℕ, ◌≤◌, List, [], ◌∷◌, true, Some, None, Option, codes, map, pos, refl}
use Rattle.std.proofs.Common.{inl, inr, arith, ap}
use Rattle.ident_rules.specs.declared.key.Key.{Key}
use Rattle.resource_schema.specs.declared.values.AttrValue.TheVariants as value
use Rattle.world_cells.specs.declared.rows.Link.TheVariants.{One, Many}
use Rattle.world_cells.specs.World.{World}
use Rattle.resource_schema.specs.declared.schema.Schema.{Schema}
use Rattle.resource_schema.specs.declared.targets.Target.{Target}
use Rattle.resource_schema.specs.declared.targets.Target.TheVariants as target
use Rattle.resource_schema.specs.Kinds.{to_one}
use Rattle.task_forms.specs.Queries.{no_query}
use Rattle.task_forms.specs.declared.queries.Path.{Path}
use Rattle.store_model.specs.Document.{included_rows}
use Rattle.store_model.specs.Included.{HasLink, IsReached, IsReachedAlong, IsReachedFrom}
use Rattle.base_tests.proofs.QueryExamples.{blog}

abbrev key : ℕ → List ℕ → Key
key kind id = record { kind = kind; id = id }

-- article 1 has comment 1, which is by ann
abbrev linked_world : World
linked_world = record {
  rows =
      (key 0 (codes "1"), record { key = key 0 (codes "1"); values = value.Null ∷ value.Text (codes "T") ∷ value.Int (pos 0) ∷ []; links = One None ∷ Many (codes "1" ∷ []) ∷ [] })
      ∷ (key 1 (codes "1"), record { key = key 1 (codes "1"); values = value.Text (codes "c") ∷ []; links = One (Some (codes "ann")) ∷ [] })
      ∷ (key 2 (codes "ann"), record { key = key 2 (codes "ann"); values = value.Text (codes "Ann") ∷ []; links = [] })
      ∷ [];
  counters = (0, 2) ∷ (1, 2) ∷ [];
}

abbrev article : Key
article = key 0 (codes "1")

abbrev comment : Key
comment = key 1 (codes "1")

abbrev ann : Key
ann = key 2 (codes "ann")

its_links : HasLink blog linked_world article 1 comment × HasLink blog linked_world comment 0 ann × (¬ HasLink blog linked_world article 0 ann) × (¬ HasLink blog linked_world ann 0 comment)
its_links = (refl, refl, (λ l. cc l), (λ l. cc l))

by_no_step : IsReached blog linked_world article [] article × (¬ IsReached blog linked_world article [] comment)
by_no_step = (refl, λ is. cc (ap (λ (k : Key). k.kind) is))

by_two_steps : IsReached blog linked_world article (1 ∷ 0 ∷ []) ann
by_two_steps = (comment, refl, (ann, refl, refl))

not_by_one : ¬ IsReached blog linked_world article (1 ∷ []) ann
not_by_one (mid, link, is) = cc (is, link)

-- by the whole path and by its beginning, but by at least one step
along_whole : IsReachedAlong blog linked_world (1 ∷ 0 ∷ []) (ann ∷ article ∷ []) ann
along_whole = record { from = article; among = inr (inl refl); steps = 2; some_step = omega arith; within = omega arith; reached = by_two_steps }

along_beginning : IsReachedAlong blog linked_world (1 ∷ 0 ∷ []) (article ∷ []) comment
along_beginning = record { from = article; among = inl refl; steps = 1; some_step = omega arith; within = omega arith; reached = (comment, refl, refl) }

along_no_path : ¬ IsReachedAlong blog linked_world [] (article ∷ []) article
along_no_path r = let some : 1 ≤ r.steps = r.some_step in let within : r.steps ≤ 0 = r.within in omega arith

from_second_path : IsReachedFrom blog linked_world (article ∷ []) (record { rels = 0 ∷ [] } ∷ record { rels = 1 ∷ 0 ∷ [] } ∷ []) ann
from_second_path = record { path = record { rels = 1 ∷ 0 ∷ [] }; asked = inr (inl refl); along = record { from = article; among = inl refl; steps = 2; some_step = omega arith; within = omega arith; reached = by_two_steps } }

from_no_path : ¬ IsReachedFrom blog linked_world (article ∷ []) [] comment
from_no_path r = r.asked

-- ---- what is included beside the primary data of each target

abbrev included_keys : Schema → World → Target → Option (List Path) → List Key
included_keys schema w t include = map (λ row. row.key) (included_rows schema w (record { target = t; query = record no_query { include = include } }))

abbrev by_author : Option (List Path)
by_author = Some (record { rels = 0 ∷ [] } ∷ [])

-- the primary data are the comments of an article, and all comments
included_of_pages : (included_keys blog linked_world (target.Related article 1) by_author ≡ ann ∷ []) × (included_keys blog linked_world (target.Collection 1) by_author ≡ ann ∷ [])
included_of_pages = (refl, refl)

-- one resource, be it there or not
included_of_resource : (included_keys blog linked_world (target.Resource comment) by_author ≡ ann ∷ []) × (included_keys blog linked_world (target.Resource (key 1 (codes "9"))) by_author ≡ [])
included_of_resource = (refl, refl)

-- nothing asked for, a linkage alone, and the list of operations
nothing_included : (included_keys blog linked_world (target.Resource comment) None ≡ []) × (included_keys blog linked_world (target.Linkage comment 0) by_author ≡ []) × (included_keys blog linked_world target.Operations by_author ≡ [])
nothing_included = (refl, refl, refl)

-- nodes a, b and c, each with a next one
abbrev nodes : Schema
nodes = record { name = codes "nodes"; client_ids = true; attributes = []; relationships = to_one (codes "next") 0 ∷ [] } ∷ []

abbrev chain : World
chain = record {
  rows =
      (key 0 (codes "a"), record { key = key 0 (codes "a"); values = []; links = One (Some (codes "b")) ∷ [] })
      ∷ (key 0 (codes "b"), record { key = key 0 (codes "b"); values = []; links = One (Some (codes "c")) ∷ [] })
      ∷ (key 0 (codes "c"), record { key = key 0 (codes "c"); values = []; links = One None ∷ [] })
      ∷ [];
  counters = [];
}

-- the primary data are the next one, and it is included nowhere; a path that comes back to it includes it no more
included_of_one : (included_keys nodes chain (target.Related (key 0 (codes "a")) 0) by_author ≡ key 0 (codes "c") ∷ []) × (included_keys nodes chain (target.Related (key 0 (codes "c")) 0) by_author ≡ [])
included_of_one = (refl, refl)
