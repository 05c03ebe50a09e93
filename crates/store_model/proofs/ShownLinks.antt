-- What a row links to, its resource object shows.
use Rattle.std.proofs.lemmas.Bool.{or_cases}
use Rattle.std.proofs.Common.{◌≡◌, ℕ, List, [], ◌∷◌, true, false, refl, sym, ap, subst, ◌∙◌, Some, None, Option, inl, inr, zero, suc}
use Rattle.std.specs.Prelude.{IsTrue, map, slice_get, get_or}
use Rattle.std.specs.Option.{option_map_or}
use Rattle.std.specs.List.{AllZip, list_any, zip}
use Rattle.ident_rules.specs.declared.key.Key.{Key}
use Rattle.ident_rules.specs.Key.{same_key, key_is}
use Rattle.resource_schema.specs.declared.schema.Schema.{Schema}
use Rattle.resource_schema.specs.declared.kinds.Relationship.{Relationship}
use Rattle.resource_schema.specs.Kinds.{relationships_of, target_of}
use Rattle.world_cells.specs.declared.rows.Row.{Row}
use Rattle.world_cells.specs.declared.rows.Link.{Link}
use Rattle.world_cells.specs.declared.rows.Link.TheVariants.{One, Many}
use Rattle.world_cells.specs.Lists.{IsIn}
use Rattle.world_cells.specs.World.{World, ids_of, no_link, link_at, links_to}
use Rattle.store_model.specs.Valid.{IsLinkOf, IsValidRow}
use Rattle.store_model.specs.Resource.{Fields, identifier, linkage, is_shown, relationship_object}
use Rattle.store_model.specs.Laws.{NamesResource, ShowsLink}
use Rattle.store_model.proofs.Basics.{same_Some, one_passes, in_map, from_map, in_filter, all_zip_past}

zip_in : {A B : Type 0} (P : A → B → Type 0) (xs : List A) (ys : List B) (i : ℕ) (d : B) (x : A) → AllZip P xs ys → slice_get xs i ≡ Some x → IsIn (zip xs ys) (x, get_or ys i d)
zip_in P [] [] i d x h e = cc
zip_in P [] (b ∷ ys) i d x h e = absurd h
zip_in P (a ∷ xs) [] i d x h e = absurd h
zip_in P (a ∷ xs) (b ∷ ys) zero d x h e = inl (ap (λ z. (z, b)) (same_Some a x e))
zip_in P (a ∷ xs) (b ∷ ys) (suc i) d x h e = inr (zip_in P xs ys i d x h.1 e)

-- the linkage of a link names what it leads to
names_of : (schema : Schema) (kind : ℕ) (link : Link) (to : Key) → list_any (same_key to) (map (λ x. record { kind = kind; id = x }) (ids_of link)) ≡ true → NamesResource schema to (linkage schema kind link)
names_of schema kind (One None) to e = cc
names_of schema kind (One (Some x)) to e = elim (or_cases _ _ e) [
  | inl same ↦ inl (ap (identifier schema) (sym (key_is to (record { kind = kind; id = x }) same)))
  | inr never ↦ cc never
]
names_of schema kind (Many xs) to e =
    let one = one_passes (same_key to) (map (λ x. record { kind = kind; id = x }) xs) e in
    let found = from_map (λ x. record { kind = kind; id = x }) xs one.0 one.1 in
    let is : record { kind = kind; id = found.0 } ≡ to = found.2 ∙ sym (key_is to one.0 one.2) in
    inr (map (λ x. identifier schema (record { kind = kind; id = x })) xs, refl, subst (λ (k : Key). IsIn (map (λ x. identifier schema (record { kind = kind; id = x })) xs) (identifier schema k)) is (in_map (λ x. identifier schema (record { kind = kind; id = x })) xs found.0 found.1))

-- a link of a valid row is shown
pub shows_link : (schema : Schema) (w : World) (fields : Fields) (k : Key) (row : Row) (rel : ℕ) (to : Key) → IsValidRow schema w k row → IsTrue (links_to schema row rel to) → ShowsLink schema fields row to
shows_link schema w fields k row rel to valid leads =
    let rels = relationships_of schema row.key.kind in
    elim (slice_get (relationships_of schema row.key.kind) rel) as (λ o. slice_get (relationships_of schema row.key.kind) rel ≡ o → ShowsLink schema fields row to) [
      | None ↦ λ e.
          let none = all_zip_past IsLinkOf (relationships_of schema row.key.kind) row.links rel no_link links e in
          let no_lead : false ≡ true = subst (λ (l : Link). list_any (same_key to) (map (λ x. record { kind = target_of schema row.key.kind rel; id = x }) (ids_of l)) ≡ true) none leads in
          cc no_lead
      | Some r ↦ λ e.
          let among = zip_in IsLinkOf (relationships_of schema row.key.kind) row.links rel no_link r links e in
          let target : target_of schema row.key.kind rel ≡ r.target = ap (λ (o : Option Relationship). option_map_or (λ r. r.target) o 0) e in
          record {
            relationship = r;
            link = link_at row rel;
            stands = among;
            names = subst (λ t. NamesResource schema to (linkage schema t (link_at row rel))) target (names_of schema (target_of schema row.key.kind rel) (link_at row rel) to leads);
            shown = λ is. in_map (λ (e : Relationship × Link). (e.0.name, relationship_object schema row.key e.0 e.1)) _ (r, link_at row rel)
                (in_filter (λ (e : Relationship × Link). is_shown fields row.key.kind e.0.name) (zip (relationships_of schema row.key.kind) row.links) (r, link_at row rel) among is);
          }
    ] refl
  where
    links : AllZip IsLinkOf (relationships_of schema row.key.kind) row.links
    links = subst (λ (key : Key). AllZip IsLinkOf (relationships_of schema key.kind) row.links) (sym valid.own_key) valid.links
