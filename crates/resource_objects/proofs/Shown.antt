-- The members of the fields that are shown: their names ascend, and a walk over the fields puts them one by one.
use Rattle.std.proofs.Common.{◌≡◌, ◌⊎◌, inl, inr, ℕ, ◌==◌, Bool, true, false, cond, List, [], ◌∷◌, map, Option, Some, None, option_map, refl, sym, ap, ◌∙◌}
use Rattle.std.specs.Prelude as plain
use Rattle.std.specs.Option.{option_map_or}
use Rattle.std.specs.declared.cmp.Ordering.{Ordering}
use Rattle.std.specs.declared.cmp.Ordering.TheVariants.{Less, Equal, Greater}
use Rattle.std.specs.Ordering.{is_lt}
use Rattle.std.specs.Cmp.Lexicographic.{nat_list_cmp_total}
use Rattle.std.specs.List.{filter, zip, list_any}
use Rattle.std.specs.Map.{lookup}
use Rattle.std.specs.Str.{bytes_eq}
use Rattle.std.proofs.lemmas.Bool.{and_parts}
use Rattle.serde_json.specs.Data.{Data, Members, no_members, member}
use Rattle.json_forms.specs.Order.{IsBefore, AreBehind, AreAscending}
use Rattle.resource_schema.specs.SchemaRules.{are_rising}
use Rattle.store_model.specs.Resource.{Fields, is_shown, members_of}
use Rattle.resource_objects.proofs.Listed.{put_members, put_members-ascending}

-- ---- field sets

lookup-find : {X : Type 0} (test : ℕ → Bool) (es : List (ℕ × X)) → lookup test es ≡ option_map (λ e. e.1) (plain.find (λ e. test e.0) es)
lookup-find test [] = refl
lookup-find test (e ∷ es) = elim (test e.0) as (λ b. cond b (Some e.1) (lookup test es) ≡ option_map (λ e. e.1) (cond b (Some e) (plain.find (λ e. test e.0) es))) [ true ↦ refl | false ↦ lookup-find test es ]

-- what is shown, by the field set that was found
pub is_shown-found : (fields : Fields) (kind : ℕ) (name : List ℕ) (o : Option (ℕ × List (List ℕ))) → o ≡ plain.find (λ set. set.0 == kind) fields
    → option_map_or (λ set. list_any (bytes_eq name) set.1) o true ≡ is_shown fields kind name
is_shown-found fields kind name o found = through o ∙ ap (λ o. option_map_or (list_any (bytes_eq name)) o true) (ap (option_map (λ e. e.1)) found ∙ sym (lookup-find (λ k. k == kind) fields))
  where
    through : (o : Option (ℕ × List (List ℕ))) → option_map_or (λ set. list_any (bytes_eq name) set.1) o true ≡ option_map_or (list_any (bytes_eq name)) (option_map (λ e. e.1) o) true
    through None = refl
    through (Some set) = refl

-- ---- names that rise

less : (o : Ordering) → is_lt o ≡ true → o ≡ Less
less Less e = refl
less Equal e = cc e
less Greater e = cc e

behind_more : (k l : List ℕ) (ms : Members) → IsBefore k l → AreBehind l ms → AreBehind k ms
behind_more k l no_members before h = tt
behind_more k l (member m d ms) before h = (nat_list_cmp_total.trans k l m before h.0, behind_more k l ms before h.1)

module _ {A B : Type 0} (name : A → List ℕ) (f : A × B → Data) (p : A × B → Bool) where
  -- the members of what stands side by side, some of them
  abbrev pub shown : List A → List B → List (List ℕ × Data)
  shown xs ys = map (λ e. (name e.0, f e)) (filter p (zip xs ys))

  shown-behind : (x : A) (xs : List A) (ys : List B) → are_rising (name x ∷ map name xs) ≡ true → AreBehind (name x) (members_of (shown xs ys))
  shown-behind x [] ys rising = tt
  shown-behind x (a ∷ xs) [] rising = tt
  shown-behind x (a ∷ xs) (b ∷ ys) rising =
      let parts = and_parts _ _ rising in
      let first : IsBefore (name x) (name a) = less _ parts.0 in
      let rest = behind_more (name x) (name a) _ first (shown-behind a xs ys parts.1) in
      elim (p (a, b)) as (λ t. AreBehind (name x) (members_of (map (λ e. (name e.0, f e)) (cond t ((a, b) ∷ filter p (zip xs ys)) (filter p (zip xs ys)))))) [ true ↦ (first, rest) | false ↦ rest ]

  rising_rest : (a : A) (xs : List A) → are_rising (name a ∷ map name xs) ≡ true → are_rising (map name xs) ≡ true
  rising_rest a [] rising = refl
  rising_rest a (x ∷ xs) rising = (and_parts _ _ rising).1

  shown-ascend : (xs : List A) (ys : List B) → are_rising (map name xs) ≡ true → AreAscending (members_of (shown xs ys))
  shown-ascend [] ys rising = tt
  shown-ascend (a ∷ xs) [] rising = tt
  shown-ascend (a ∷ xs) (b ∷ ys) rising =
      let rest = shown-ascend xs ys (rising_rest a xs rising) in
      elim (p (a, b)) as (λ t. AreAscending (members_of (map (λ e. (name e.0, f e)) (cond t ((a, b) ∷ filter p (zip xs ys)) (filter p (zip xs ys)))))) [ true ↦ (shown-behind a xs ys rising, rest) | false ↦ rest ]

  -- ---- a walk, with xs and ys left and the members ms put

  pub shown-begin : (xs xs' : List A) (ys ys' : List B) (ms : Members) → are_rising (map name xs) ≡ true → xs' ≡ xs → ys' ≡ ys → ms ≡ no_members
      → put_members (members_of (shown xs' ys')) ms ≡ members_of (shown xs ys)
  shown-begin xs xs' ys ys' ms rising first second none =
      (λ i. put_members (members_of (shown (first i) (second i))) (none i)) ∙ put_members-ascending _ (shown-ascend xs ys rising)

  pub shown-end : (all ms : Members) (xs : List A) (ys : List B) → put_members (members_of (shown xs ys)) ms ≡ all → (xs ≡ []) ⊎ (ys ≡ []) → ms ≡ all
  shown-end all ms xs ys so_far none = sym (ap (λ s. put_members (members_of s) ms) (empty none)) ∙ so_far
    where
      no_second : (zs : List A) → shown zs [] ≡ []
      no_second [] = refl
      no_second (z ∷ zs) = refl

      empty : (xs ≡ []) ⊎ (ys ≡ []) → shown xs ys ≡ []
      empty (inl e) = ap (λ zs. shown zs ys) e
      empty (inr e) = ap (shown xs) e ∙ no_second xs
