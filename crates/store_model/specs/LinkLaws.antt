-- Laws of lists, of entries in the order of their keys, and of the links of a row.
use Rattle.std.proofs.Common.{◌≡◌, ℕ, zero, suc, ◌+◌, ◌<◌, List, [], ◌∷◌, Bool, true, false, refl, sym, ap, subst, ◌∙◌, Some, length, get_or, inl, inr, arith}
use Rattle.std.specs.Prelude.{T, ◌&&◌, ◌⊎◌, cond, map}
use Rattle.std.specs.Option.{option_map_or}
use Rattle.std.specs.declared.cmp.Ordering.{Ordering}
use Rattle.std.specs.declared.cmp.Ordering.TheVariants.{Less, Equal, Greater}
use Rattle.std.specs.Ordering.{is_eq, is_lt, ordering_reverse, eq_by_cmp}
use Rattle.std.specs.Cmp.{IsTotalOrder, tied_itself}
use Rattle.std.specs.FinMap.Entries.{find, is_sorted, below_all}
use Rattle.std.specs.List.{list_any, range_with_len}
use Rattle.std.proofs.lemmas.Bool.{or_left, or_right}
use Rattle.ident_rules.specs.declared.key.Key.{Key}
use Rattle.ident_rules.specs.Key.{key_cmp, same_key, key_is}
use Rattle.resource_schema.specs.declared.schema.Schema.{Schema}
use Rattle.resource_schema.specs.Kinds.{target_of}
use Rattle.world_cells.specs.declared.rows.Link.{Link}
use Rattle.world_cells.specs.declared.rows.Row.{Row}
use Rattle.world_cells.specs.Lists.{IsIn}
use Rattle.world_cells.specs.World.{links_to, ids_of, no_link}

-- ---- lists

pub passes : {A : Type 0} (p : A → Bool) (xs : List A) (x : A) → IsIn xs x → p x ≡ true → list_any p xs ≡ true
passes p [] x among e = elim among [ ]
passes p (y ∷ xs) x (inl is) e = or_left (p y) (list_any p xs) (ap p is ∙ e)
passes p (y ∷ xs) x (inr among) e = or_right (p y) (list_any p xs) (passes p xs x among e)

-- ---- entries

-- what a look-up finds is an entry
pub find_in : (k : Key) (es : List (Key × Row)) (row : Row) → find key_cmp k es ≡ Some row → (at : Key) × IsIn es (at, row) × (k ≡ at)
find_in k [] row e = cc
find_in k (x ∷ es) row e =
    elim (same_key k x.0) as (λ b. same_key k x.0 ≡ b → cond b (Some x.1) (find key_cmp k es) ≡ Some row → (at : Key) × IsIn (x ∷ es) (at, row) × (k ≡ at)) [
      | true ↦ λ same e. (x.0, inl (λ i. (x.0, option_map_or (λ r. r) (e i) row)), key_is k x.0 same)
      | false ↦ λ apart e. let later = find_in k es row e in (later.0, inr later.1, later.2)
    ] refl e

-- ---- entries in the order of their keys

pub true_of : (b : Bool) → T b → b ≡ true
true_of true h = refl
true_of false h = absurd h

pub T_and : (a b : Bool) → T (a && b) → T a × T b
T_and true b h = (tt, h)
T_and false b h = absurd h

pub less_is_not_tied : (o : Ordering) → is_lt o ≡ true → is_eq (ordering_reverse o) ≡ false
less_is_not_tied Less e = refl
less_is_not_tied Equal e = cc
less_is_not_tied Greater e = cc

module _ {K X : Type 0} (R : K → K → Ordering) where
  pub below_in : (x : K) (es : List (K × X)) (e : K × X) → T (below_all R x es) → IsIn es e → is_lt (R x e.0) ≡ true
  below_in x [] e h among = elim among [ ]
  below_in x (d ∷ es) e h (inl is) = ap (λ (c : K × X). is_lt (R x c.0)) (sym is) ∙ true_of _ (T_and _ _ h).0
  below_in x (d ∷ es) e h (inr among) = below_in x es e (T_and _ _ h).1 among

  -- what an entry in order says is what a look-up finds
  pub find_of_in : IsTotalOrder R → (es : List (K × X)) (e : K × X) → T (is_sorted R es) → IsIn es e → find R e.0 es ≡ Some e.1
  find_of_in o [] e h among = elim among [ ]
  find_of_in o (d ∷ es) e h (inl is) =
      subst (λ (c : K × X). find R c.0 (d ∷ es) ≡ Some c.1) is (ap (λ r. cond (is_eq r) (Some d.1) (find R d.0 es)) (tied_itself o d.0))
  find_of_in o (d ∷ es) e h (inr among) =
      let parts = T_and _ _ h in
      let apart : eq_by_cmp R e.0 d.0 ≡ false = ap is_eq (o.antisymm e.0 d.0) ∙ less_is_not_tied (R d.0 e.0) (below_in d.0 es e parts.0 among) in
      ap (λ b. cond b (Some d.1) (find R e.0 es)) apart ∙ find_of_in o es e parts.1 among

-- ---- where a link stands

pub in_range : (n a i : ℕ) → i < n → IsIn (range_with_len a n) (a + i)
in_range zero a i h = let no : ⊥ = omega arith in absurd no
in_range (suc n) a zero h = inl (omega arith)
in_range (suc n) a (suc i) h =
    let same : (a + 1) + i ≡ a + suc i = omega arith in
    let lower : i < n = omega arith in
    inr (subst (λ j. IsIn (range_with_len (a + 1) n) j) same (in_range n (a + 1) i lower))

pub within : (links : List Link) (rel : ℕ) → (rel < length links) ⊎ (get_or links rel no_link ≡ no_link)
within [] rel = inr refl
within (l ∷ links) zero = inl (omega arith)
within (l ∷ links) (suc rel) = up (within links rel)
  where
    up : (rel < length links) ⊎ (get_or links rel no_link ≡ no_link) → (suc rel < length (l ∷ links)) ⊎ (get_or links rel no_link ≡ no_link)
    up (inl h) = inl (omega arith)
    up (inr e) = inr e

-- a link stands at one of a row's relationships
pub link_somewhere : (schema : Schema) (row : Row) (rel : ℕ) (to : Key) → links_to schema row rel to ≡ true → list_any (λ rel. links_to schema row rel to) (range_with_len 0 (length row.links)) ≡ true
link_somewhere schema row rel to leads = elim (within row.links rel) [
  | inl h ↦ passes (λ rel. links_to schema row rel to) (range_with_len 0 (length row.links)) rel (let same : 0 + rel ≡ rel = omega arith in subst (λ i. IsIn (range_with_len 0 (length row.links)) i) same (in_range (length row.links) 0 rel h)) leads
  | inr e ↦ let none : false ≡ true = subst (λ l. list_any (same_key to) (map (λ x. record { kind = target_of schema row.key.kind rel; id = x }) (ids_of l)) ≡ true) e leads in cc
]
