-- SetLinks, AddLinks and DropLinks keep a valid world valid.
use Rattle.std.proofs.Common.{◌≡◌, ℕ, ◌≤◌, List, [], ◌∷◌, refl, sym, ap, subst, ◌∙◌, Some, None}
use Rattle.std.specs.Prelude.{not, length, slice_get, IfSome, codes}
use Rattle.std.specs.Option.{option_map_or, option_and_then}
use Rattle.std.specs.List.{AllByRecursion, AllZip, IsDistinct, list_any, filter}
use Rattle.ident_rules.specs.declared.key.Key.{Key}
use Rattle.resource_schema.specs.declared.schema.Schema.{Schema}
use Rattle.resource_schema.specs.declared.kinds.Relationship.{Relationship}
use Rattle.world_cells.specs.declared.rows.Row.{Row}
use Rattle.task_forms.specs.declared.operations.Who.{Who}
use Rattle.task_forms.specs.declared.operations.Member.{Member}
use Rattle.task_forms.specs.declared.operations.Operation.TheVariants.{SetLinks, AddLinks, DropLinks}
use Rattle.world_cells.specs.World.{World, row_at, has_row, ids_of, no_link, link_at}
use Rattle.resource_schema.specs.Forms.{HasForm}
use Rattle.resource_schema.specs.Kinds.{attributes_of, relationships_of}
use Rattle.store_model.specs.Valid.{IsValid}
use Rattle.store_model.specs.Change.{Lids, key_of, refused, done, refuse_target, refuse_linkage, named_row, on_row, on_link, append_new, member_ids, link_of}
use Rattle.store_model.specs.Valid.{same_id}
use Rattle.task_forms.specs.Fit.{kind_of, FitsLinkage, FitsCount, FitsOperation}
use Rattle.store_model.proofs.Links.{AreThere, IsGood, good_link, distinct_none, distinct_link, filtered_ids, linkage_ids, first_none}
use Rattle.store_model.proofs.Keeps.{row_good, replaced, on_row_keeps, row_kind}
use Rattle.store_model.proofs.Basics.{all_zip_set, all_zip_get}

module _ (schema : Schema) (w : World) (lids : Lids) (who : Who) (rel : ℕ) where
  -- ids that a link of the named row's relationship may have
  abbrev pub MayBe : Relationship → List (List ℕ) → Type 0
  MayBe r ids = IsDistinct same_id ids × (length ids ≤ 1000) × AreThere (has_row w) r.target ids

  -- the links of the named row
  good_here : IsValid schema w → (key : Key) (row : Row) → key_of lids who.named ≡ Some key → row_at w key ≡ Some row → AllZip (IsGood (has_row w)) (relationships_of schema (kind_of who.named)) row.links
  good_here valid key row named is = subst (λ n. AllZip (IsGood (has_row w)) (relationships_of schema n) row.links) (row_kind schema w lids who key row valid named is) (row_good schema w key row (valid.rows key row is))

  pub link_keeps : (change : List (List ℕ) → List (List ℕ)) → IsValid schema w
      → ((row : Row) (r : Relationship) → named_row w lids who ≡ Some row → slice_get (relationships_of schema (kind_of who.named)) rel ≡ Some r → IsGood (has_row w) r (link_at row rel) → MayBe r (change (ids_of (link_at row rel))))
      → IsValid schema (on_row w lids who (on_link rel change))
  link_keeps change valid each = on_row_keeps schema w lids who (on_link rel change) valid (λ key row named is.
      let own = valid.rows key row is in
      let kind = row_kind schema w lids who key row valid named is in
      let good = good_here valid key row named is in
      let rels = relationships_of schema (kind_of who.named) in
      replaced schema w key row (on_link rel change row) valid is refl (subst (λ k. AllZip HasForm (attributes_of schema k.kind) row.values) (sym own.own_key) own.values)
      (subst (λ n. AllZip (IsGood (has_row w)) (relationships_of schema n) ((on_link rel change row).links)) (sym kind)
      (all_zip_set (IsGood (has_row w)) rels row.links rel (link_of (link_at row rel) (change (ids_of (link_at row rel)))) good (λ r e.
      let old = all_zip_get (IsGood (has_row w)) rels row.links rel no_link r good e in
      let ids = each row r (ap (option_and_then (row_at w)) named ∙ is) e old in
      good_link (has_row w) r (link_at row rel) (change (ids_of (link_at row rel))) old.0 ids.0 ids.1 ids.2))))

  -- members of a fit linkage are of the target type
  kinds_of : (members : List Member) (r : Relationship) → FitsLinkage schema (kind_of who.named) rel members → slice_get (relationships_of schema (kind_of who.named)) rel ≡ Some r → AllByRecursion (λ m. kind_of m.named ≡ r.target) members
  kinds_of members r fits e = (subst (λ o. IfSome o (λ r. AllByRecursion (λ m. kind_of m.named ≡ r.target) members × FitsCount r.many members)) e fits.of_target).0

  pub set_keeps : (members : List Member) → IsValid schema w → FitsOperation schema (SetLinks who rel members) → refused schema w lids (SetLinks who rel members) ≡ None → IsValid schema ((done schema w lids (SetLinks who rel members)).world)
  set_keeps members valid fits none =
      let parts = first_none (refuse_target w lids who) (refuse_linkage (has_row w) lids (codes "/data") [] members ∷ []) none in
      let more = first_none (refuse_linkage (has_row w) lids (codes "/data") [] members) [] parts.1 in
      link_keeps (λ _. append_new [] (member_ids lids members)) valid (λ row r named e old. linkage_ids (has_row w) lids (codes "/data") r.target [] members more.0 (kinds_of members r fits.1 e) distinct_none tt)

  pub add_keeps : (members : List Member) → IsValid schema w → FitsOperation schema (AddLinks who rel members) → refused schema w lids (AddLinks who rel members) ≡ None → IsValid schema ((done schema w lids (AddLinks who rel members)).world)
  add_keeps members valid fits none =
      let linkage = refuse_linkage (has_row w) lids (codes "/data") (option_map_or (λ row. ids_of (link_at row rel)) (named_row w lids who) []) members in
      let parts = first_none (refuse_target w lids who) (linkage ∷ []) none in
      let more = first_none linkage [] parts.1 in
      link_keeps (λ old. append_new old (member_ids lids members)) valid (λ row r named e old.
      linkage_ids (has_row w) lids (codes "/data") r.target (ids_of (link_at row rel)) members
      (subst (λ o. refuse_linkage (has_row w) lids (codes "/data") (option_map_or (λ row. ids_of (link_at row rel)) o []) members ≡ None) named more.0)
      (kinds_of members r fits.1 e) ((distinct_link r (link_at row rel) old.0).0) old.1)

  pub drop_keeps : (members : List Member) → IsValid schema w → IsValid schema ((done schema w lids (DropLinks who rel members)).world)
  drop_keeps members valid = link_keeps (filter (λ x. not (list_any (same_id x) (member_ids lids members)))) valid (λ row r named e old.
      filtered_ids (has_row w) r.target (λ x. not (list_any (same_id x) (member_ids lids members))) (ids_of (link_at row rel)) ((distinct_link r (link_at row rel) old.0).0) ((distinct_link r (link_at row rel) old.0).1) old.1)
