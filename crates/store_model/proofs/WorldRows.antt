-- Rows of a type and rows at keys are those of the world, and ids tell them apart.
use Rattle.std.proofs.Common.{◌≡◌, ℕ, List, [], ◌∷◌, true, refl, sym, ap, subst, ◌∙◌, Some, None, Option, inl, inr, arith}
use Rattle.std.specs.Prelude.{◌==◌}
use Rattle.std.specs.List.{filter_map, cons_option}
use Rattle.std.specs.FinMap.Entries.{where_key}
use Rattle.std.proofs.lemmas.Bool.Decides.{nat_tests}
use Rattle.ident_rules.specs.declared.key.Key.{Key}
use Rattle.ident_rules.specs.Key.{key_cmp}
use Rattle.resource_schema.specs.declared.schema.Schema.{Schema}
use Rattle.resource_schema.specs.Kinds.{target_of}
use Rattle.world_cells.specs.declared.rows.Row.{Row}
use Rattle.world_cells.specs.Lists.{IsIn}
use Rattle.world_cells.specs.World.{World, row_at, linked, link_at, ids_of}
use Rattle.store_model.specs.Valid.{IsValid}
use Rattle.store_model.specs.Pages.{rows_of, rows_at}
use Rattle.store_model.specs.Laws.{AreRowsOf, AreRowsAt, AreApart}
use Rattle.store_model.proofs.Basics.{same_Some, in_map, from_map, in_filter, from_filter}
use Rattle.store_model.proofs.Reaching.{entry_is, among_entries}

number_is : (a b : ℕ) → (a == b) ≡ true → a ≡ b
number_is a b e = grind (arith, nat_tests, e)

is_number : (a b : ℕ) → a ≡ b → (a == b) ≡ true
is_number a b e = grind (arith, nat_tests, e)

-- an item that gives something
from_filter_map : {A B : Type 0} (f : A → Option B) (xs : List A) (y : B) → IsIn (filter_map f xs) y → (x : A) × IsIn xs x × (f x ≡ Some y)
from_filter_map f [] y among = elim among [ ]
from_filter_map f (x ∷ xs) y among =
    elim (f x) as (λ o. f x ≡ o → IsIn (cons_option o (filter_map f xs)) y → (z : _) × IsIn (x ∷ xs) z × (f z ≡ Some y)) [
      | None ↦ λ e among. let one = from_filter_map f xs y among in (one.0, inr one.1, one.2)
      | Some z ↦ λ e among. elim among [
        | inl is ↦ (x, inl refl, e ∙ ap Some is)
        | inr later ↦ let one = from_filter_map f xs y later in (one.0, inr one.1, one.2)
      ]
    ] refl among

in_filter_map : {A B : Type 0} (f : A → Option B) (xs : List A) (x : A) (y : B) → IsIn xs x → f x ≡ Some y → IsIn (filter_map f xs) y
in_filter_map f [] x y among e = elim among [ ]
in_filter_map f (z ∷ xs) x y (inl is) e = subst (λ o. IsIn (cons_option o (filter_map f xs)) y) (sym (ap f is ∙ e)) (inl refl)
in_filter_map f (z ∷ xs) x y (inr among) e =
    elim (f z) as (λ o. IsIn (cons_option o (filter_map f xs)) y) [ None ↦ in_filter_map f xs x y among e | Some v ↦ inr (in_filter_map f xs x y among e) ]

module _ (schema : Schema) (w : World) (valid : IsValid schema w) where
  rows_of_from : (kind : ℕ) (row : Row) → IsIn (rows_of w kind) row → (row_at w row.key ≡ Some row) × (row.key.kind ≡ kind)
  rows_of_from kind row among =
      let one = from_map (λ (e : Key × Row). e.1) (where_key key_cmp (λ k. k.kind == kind) w.rows) row among in
      let found = from_filter (λ (e : Key × Row). e.0.kind == kind) w.rows one.0 one.1 in
      let entry = entry_is schema w valid one.0 found.0 in
      let at : one.0.0 ≡ row.key = sym entry.1 ∙ ap (λ (r : Row). r.key) one.2 in
      (subst (λ (k : Key). row_at w k ≡ Some row) at (entry.0 ∙ ap Some one.2), ap (λ (k : Key). k.kind) (sym at) ∙ number_is one.0.0.kind kind found.1)

  pub rows_of_exactly : (kind : ℕ) → AreRowsOf w kind (rows_of w kind)
  rows_of_exactly kind row = (
    rows_of_from kind row,
    λ h. in_map (λ (e : Key × Row). e.1) (where_key key_cmp (λ k. k.kind == kind) w.rows) (row.key, row) (
        in_filter (λ (e : Key × Row). e.0.kind == kind) w.rows (row.key, row) (among_entries schema w row h.0) (is_number row.key.kind kind h.1)),
  )

  rows_at_from : (keys : List Key) (row : Row) → IsIn (rows_at w keys) row → (row_at w row.key ≡ Some row) × IsIn keys row.key
  rows_at_from keys row among =
      let one = from_filter_map (row_at w) keys row among in
      let at : one.0 ≡ row.key = sym ((valid.rows one.0 row one.2).own_key) in
      (subst (λ (k : Key). row_at w k ≡ Some row) at one.2, subst (λ (k : Key). IsIn keys k) at one.1)

  pub rows_at_exactly : (keys : List Key) → AreRowsAt w keys (rows_at w keys)
  rows_at_exactly keys row = (rows_at_from keys row, λ h. in_filter_map (row_at w) keys row.key row h.1 h.0)

  -- rows of the world at one key are one
  pub one_row : (a b : Row) → row_at w a.key ≡ Some a → row_at w b.key ≡ Some b → a.key ≡ b.key → a ≡ b
  one_row a b here there e = same_Some a b (sym here ∙ ap (row_at w) e ∙ there)

  one_key : (x y : Key) → x.kind ≡ y.kind → x.id ≡ y.id → x ≡ y
  one_key x y kind id = λ i. record { kind = kind i; id = id i }

  pub rows_of_apart : (kind : ℕ) → AreApart (rows_of w kind)
  rows_of_apart kind a b p q e =
      let here = rows_of_from kind a p in
      let there = rows_of_from kind b q in
      one_row a b here.0 there.0 (one_key a.key b.key (here.1 ∙ sym there.1) e)

  linked_kind : (row : Row) (rel : ℕ) (k : Key) → IsIn (linked schema row rel) k → k.kind ≡ target_of schema row.key.kind rel
  linked_kind row rel k among =
      let one = from_map (λ x. record { kind = target_of schema row.key.kind rel; id = x }) (ids_of (link_at row rel)) k among in
      ap (λ (k : Key). k.kind) (sym one.2)

  pub linked_apart : (row : Row) (rel : ℕ) → AreApart (rows_at w (linked schema row rel))
  linked_apart row rel a b p q e =
      let here = rows_at_from (linked schema row rel) a p in
      let there = rows_at_from (linked schema row rel) b q in
      one_row a b here.0 there.0 (one_key a.key b.key (linked_kind row rel a.key here.1 ∙ sym (linked_kind row rel b.key there.1)) e)
