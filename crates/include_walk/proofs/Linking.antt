-- The keys that the row in a cell leads to.
use Rattle.std.proofs.Common.{◌≡◌, ℕ, List, [], ◌∷◌, get_or, Option, Some, None, Result, Ok, Err, refl, sym, ap, subst, ◌∙◌}
use Rattle.std.specs.Prelude.{OnOk, slice_get}
use Rattle.std.specs.Option.{option_map_or}
use Rattle.std.proofs.lemmas.Option.{unwrap_or-slice_get}
use Rattle.ident_rules.specs.declared.key.Key.{Key}
use Rattle.resource_schema.specs.declared.schema.Schema.{Schema}
use Rattle.resource_schema.specs.Kinds.{target_of}
use Rattle.world_cells.specs.declared.rows.Row.{Row}
use Rattle.world_cells.specs.declared.rows.Link.{Link}
use Rattle.world_cells.specs.World.{ids_of, linked, link_at, no_link}
use Rattle.std.specs.Prelude.{unwrap_or}
use Rattle.include_walk.specs.Sets.{Adds, of_kind}
use Rattle.include_walk.proofs.Adding.{adds_nothing}

-- where the row has the link
pub adds_linked : {E : Type 0} (schema : Schema) (row : Row) (rel kind : ℕ) (link : Link) (old new : List Key) (r : Result Unit E) → Some link ≡ slice_get row.links rel → kind ≡ target_of schema row.key.kind rel
    → OnOk r (Adds old (of_kind kind (ids_of link)) new) → OnOk r (Adds old (linked schema row rel) new)
adds_linked schema row rel kind link old new r is to h =
    subst (λ (keys : List Key). OnOk r (Adds old keys new))
    (ap (λ k. of_kind k (ids_of link)) to ∙ ap (λ (l : Link). of_kind (target_of schema row.key.kind rel) (ids_of l)) (ap (λ o. unwrap_or o no_link) is ∙ unwrap_or-slice_get row.links rel no_link)) h

-- where it does not
pub adds_no_link : (schema : Schema) (row : Row) (rel : ℕ) (old : List Key) → None ≡ slice_get row.links rel → Adds old (linked schema row rel) old
adds_no_link schema row rel old is =
    subst (λ (l : Link). Adds old (of_kind (target_of schema row.key.kind rel) (ids_of l)) old) (ap (λ o. unwrap_or o no_link) is ∙ unwrap_or-slice_get row.links rel no_link) (adds_nothing old)

-- by the row that is seen
pub adds_seen : {E : Type 0} (f : Row → List Key) (old new : List Key) (found there : Option Row) (r : Result Unit E) → found ≡ there → OnOk r (Adds old (option_map_or f found []) new) → OnOk r (Adds old (option_map_or f there []) new)
adds_seen f old new found there r is h = subst (λ (o : Option Row). OnOk r (Adds old (option_map_or f o []) new)) is h
