-- The keys that a row of a valid world leads to by a relationship are distinct, and of one type.
use Rattle.std.proofs.Common.{◌≡◌, ℕ, zero, suc, List, [], ◌∷◌, false, get_or, Some, None, refl, sym, ap, ◌∙◌, inl, inr}
use Rattle.std.specs.List.{AllByRecursion, AllZip, IsDistinct}
use Rattle.std.specs.Cmp.{tied_itself, nat_cmp_total}
use Rattle.std.specs.declared.cmp.Ordering.{Ordering}
use Rattle.std.specs.declared.cmp.Ordering.TheVariants.{Less, Equal, Greater}
use Rattle.std.specs.Ordering.{is_eq, ordering_then, nat_cmp}
use Rattle.ident_rules.specs.declared.key.Key.{Key}
use Rattle.ident_rules.specs.IdOrder.{id_cmp}
use Rattle.ident_rules.specs.Key.{same_key}
use Rattle.resource_schema.specs.declared.kinds.Relationship.{Relationship}
use Rattle.resource_schema.specs.declared.schema.Schema.{Schema}
use Rattle.resource_schema.specs.Kinds.{relationships_of, target_of}
use Rattle.world_cells.specs.declared.rows.Link.{Link}
use Rattle.world_cells.specs.declared.rows.Link.TheVariants.{One, Many}
use Rattle.world_cells.specs.declared.rows.Row.{Row}
use Rattle.world_cells.specs.Lists.{IsIn}
use Rattle.world_cells.specs.World.{World, ids_of, link_at, linked, no_link, row_at}
use Rattle.store_model.specs.Valid.{IsLinkOf, IsValid, same_id}
use Rattle.page_select.specs.Chosen.{AreListed}
use Rattle.compound_document.specs.Linked.{of_kind}

then_eq : (o p : Ordering) → o ≡ Equal → is_eq (ordering_then o p) ≡ is_eq p
then_eq Less p e = cc e
then_eq Equal p e = refl
then_eq Greater p e = cc e

one_apart : (kind : ℕ) (x y : List ℕ) → same_id x y ≡ false → same_key (record { kind = kind; id = x }) (record { kind = kind; id = y }) ≡ false
one_apart kind x y apart = then_eq (nat_cmp kind kind) (id_cmp x y) (tied_itself nat_cmp_total kind) ∙ apart

all_apart : (kind : ℕ) (x : List ℕ) (ids : List (List ℕ)) → AllByRecursion (λ y. same_id x y ≡ false) ids → AllByRecursion (λ k. same_key (record { kind = kind; id = x }) k ≡ false) (of_kind kind ids)
all_apart kind x [] apart = tt
all_apart kind x (y ∷ ids) apart = (one_apart kind x y apart.0, all_apart kind x ids apart.1)

keys_apart : (kind : ℕ) (ids : List (List ℕ)) → IsDistinct same_id ids → IsDistinct same_key (of_kind kind ids)
unfolding IsDistinct
keys_apart kind [] apart = tt
keys_apart kind (x ∷ ids) apart = (all_apart kind x ids apart.0, keys_apart kind ids apart.1)

kind_in : (kind : ℕ) (ids : List (List ℕ)) (k : Key) → IsIn (of_kind kind ids) k → k.kind ≡ kind
kind_in kind [] k h = absurd h
kind_in kind (x ∷ ids) k (inl is) = ap (λ (j : Key). j.kind) (sym is)
kind_in kind (x ∷ ids) k (inr h) = kind_in kind ids k h

none_apart : IsDistinct same_id []
unfolding IsDistinct
none_apart = tt

single_apart : (x : List ℕ) → IsDistinct same_id (x ∷ [])
unfolding IsDistinct
single_apart x = (tt, tt)

-- the ids of one link
link_apart : (r : Relationship) (link : Link) → IsLinkOf r link → IsDistinct same_id (ids_of link)
link_apart r (One None) fits = none_apart
link_apart r (One (Some x)) fits = single_apart x
link_apart r (Many xs) fits = fits.1

links_apart : (rels : List Relationship) (links : List Link) (rel : ℕ) → AllZip IsLinkOf rels links → IsDistinct same_id (ids_of (get_or links rel no_link))
links_apart [] [] rel fits = none_apart
links_apart [] (l ∷ links) rel fits = absurd fits
links_apart (r ∷ rels) [] rel fits = absurd fits
links_apart (r ∷ rels) (l ∷ links) zero fits = link_apart r l fits.0
links_apart (r ∷ rels) (l ∷ links) (suc rel) fits = links_apart rels links rel fits.1

pub linked_listed : (schema : Schema) (w : World) (valid : IsValid schema w) (key : Key) (row : Row) (rel : ℕ) → row_at w key ≡ Some row → AreListed (linked schema row rel)
linked_listed schema w valid key row rel there =
    let kind = target_of schema row.key.kind rel in
    let ids = ids_of (link_at row rel) in
    record {
      distinct = keys_apart kind ids (links_apart (relationships_of schema key.kind) row.links rel (valid.rows key row there).links);
      one_kind = λ a b in_a in_b. kind_in kind ids a in_a ∙ sym (kind_in kind ids b in_b);
    }
