-- A sorted list, a page and what is included are each told by their properties.
use Rattle.std.proofs.Common.{◌≡◌, ℕ, ◌+◌, ◌≤◌, List, [], ◌∷◌, ◌++◌, Bool, true, false, refl, sym, ap, subst, ◌∙◌, inl, inr, length, length-append, arith}
use Rattle.std.specs.Prelude.{◌⊎◌, ◌↔◌, IsTrue}
use Rattle.std.specs.List.{AllByRecursion}
use Rattle.ident_rules.specs.declared.key.Key.{Key}
use Rattle.ident_rules.specs.Key.{key_cmp, key_cmp_total}
use Rattle.resource_schema.specs.declared.schema.Schema.{Schema}
use Rattle.world_cells.specs.declared.rows.Row.{Row}
use Rattle.world_cells.specs.World.{World}
use Rattle.world_cells.specs.Lists.{IsIn}
use Rattle.task_forms.specs.declared.queries.Page.{Page}
use Rattle.task_forms.specs.declared.queries.Path.{Path}
use Rattle.task_forms.specs.declared.queries.SortKey.{SortKey}
use Rattle.store_model.specs.declared.pages.Selected.{Selected}
use Rattle.store_model.specs.Pages.{place_cmp, place_cmp_total, place_of, ends_at_cursor}
use Rattle.store_model.specs.Laws.{Pairwise, StandsBefore, HasLesserKey, StandsOutside, HasNoRoom, IsCutShort, IsPage, HasEarlier, HasLater, AreSorted, AreIncluded}
use Rattle.store_model.proofs.Basics.{in_all}
use Rattle.store_model.proofs.Strict.{never_itself, one_way, no_longer, same_items}

pub sorted_is_one : (sort : List SortKey) (rows a b : List Row) → AreSorted sort rows a → AreSorted sort rows b → a ≡ b
sorted_is_one sort rows a b p q =
    same_items (StandsBefore sort) (λ x. never_itself (place_cmp sort) (place_cmp_total sort) (place_of sort x)) (λ x y. one_way (place_cmp sort) (place_cmp_total sort) (place_of sort x) (place_of sort y))
    a b p.in_order q.in_order (λ x among. (q.same_rows x).1 ((p.same_rows x).0 among)) (λ x among. (p.same_rows x).1 ((q.same_rows x).0 among))

pub included_is_one : (schema : Schema) (w : World) (primaries : List Key) (paths : List Path) (a b : List Row) → AreIncluded schema w primaries paths a → AreIncluded schema w primaries paths b → a ≡ b
included_is_one schema w primaries paths a b p q =
    same_items HasLesserKey (λ x. never_itself key_cmp key_cmp_total x.key) (λ x y. one_way key_cmp key_cmp_total x.key y.key)
    a b p.rising q.rising (λ x among. (q.exactly x).1 ((p.exactly x).0 among)) (λ x among. (p.exactly x).1 ((q.exactly x).0 among))

-- ---- pages

all_end : {A : Type 0} (P : A → Type 0) (xs : List A) (x : A) → AllByRecursion P xs → P x → AllByRecursion P (xs ++ x ∷ [])
all_end P [] x h e = (e, tt)
all_end P (y ∷ xs) x h e = (h.0, all_end P xs x h.1 e)

in_end : {A : Type 0} (xs : List A) (x z : A) → IsIn (xs ++ x ∷ []) z → IsIn xs z ⊎ (x ≡ z)
in_end [] x z (inl is) = inr is
in_end [] x z (inr none) = absurd none
in_end (y ∷ xs) x z (inl is) = inl (inl is)
in_end (y ∷ xs) x z (inr among) = up (in_end xs x z among)
  where
    up : IsIn xs z ⊎ (x ≡ z) → IsIn (y ∷ xs) z ⊎ (x ≡ z)
    up (inl h) = inl (inr h)
    up (inr h) = inr h

pairwise_end : {A : Type 0} (R : A → A → Type 0) (xs : List A) (x : A) → Pairwise R xs → AllByRecursion (λ y. R y x) xs → Pairwise R (xs ++ x ∷ [])
pairwise_end R [] x p h = (tt, tt)
pairwise_end R (y ∷ xs) x p h = (all_end (R y) xs x p.0 h.0, pairwise_end R xs x p.1 h.1)

bool_is : (p q : Bool) (X : Type 0) → (IsTrue p ↔ X) → (IsTrue q ↔ X) → p ≡ q
bool_is true true X f g = refl
bool_is false false X f g = refl
bool_is true false X f g = let no : false ≡ true = g.1 (f.0 refl) in cc no
bool_is false true X f g = let no : false ≡ true = f.1 (g.0 refl) in cc no

module _ (sort : List SortKey) (size : ℕ) where
  abbrev Before : Row → Row → Type 0
  Before = StandsBefore sort

  never : (x : Row) → Before x x → ⊥
  never x = never_itself (place_cmp sort) (place_cmp_total sort) (place_of sort x)

  once : (x y : Row) → Before x y → Before y x → ⊥
  once x y = one_way (place_cmp sort) (place_cmp_total sort) (place_of sort x) (place_of sort y)

  abbrev Outside : Bool → List Row → Row → Type 0
  Outside ends shown row = (length shown ≡ size) × StandsOutside sort ends shown row

  -- a row that one page shows has no place outside another
  not_outside : (ends : Bool) (a b : List Row) (x : Row) → Pairwise Before a → Pairwise Before b → length a ≤ size → IsIn a x → Outside ends b x
      → ((y : Row) → IsIn b y → IsIn a y ⊎ Outside ends a y) → ⊥
  not_outside false a b x p q short among out each =
      let longer : length (b ++ x ∷ []) ≤ length a = no_longer Before never once a (b ++ x ∷ []) p (pairwise_end Before b x q out.1) (λ z there. place z (in_end b x z there)) in
      let more : length (b ++ x ∷ []) ≡ length b + 1 = length-append b (x ∷ []) in
      let full : length b ≡ size = out.0 in
      let no : ⊥ = omega arith in no
    where
      inside : (y : Row) → IsIn b y → IsIn a y ⊎ Outside false a y → IsIn a y
      inside y there (inl h) = h
      inside y there (inr o) = absurd (once x y (in_all (λ other. Before other y) a x o.1 among) (in_all (λ other. Before other x) b y out.1 there))

      place : (z : Row) → IsIn b z ⊎ (x ≡ z) → IsIn a z
      place z (inl there) = inside z there (each z there)
      place z (inr is) = subst (IsIn a) is among
  not_outside true a b x p q short among out each =
      let longer : length (x ∷ b) ≤ length a = no_longer Before never once a (x ∷ b) p (out.1, q) place in
      let full : length b ≡ size = out.0 in
      let no : ⊥ = omega arith in no
    where
      inside : (y : Row) → IsIn b y → IsIn a y ⊎ Outside true a y → IsIn a y
      inside y there (inl h) = h
      inside y there (inr o) = absurd (once x y (in_all (Before x) b y out.1 there) (in_all (Before y) a x o.1 among))

      place : (z : Row) → IsIn (x ∷ b) z → IsIn a z
      place z (inl is) = subst (IsIn a) is among
      place z (inr there) = inside z there (each z there)

pub page_is_one : (sort : List SortKey) (page : Page) (rows : List Row) (a b : Selected) → IsPage sort page rows a → IsPage sort page rows b → a ≡ b
page_is_one sort page rows a b p q =
    λ i. record { rows = same i; before = earlier i; after = later i; truncated = cut i }
  where
    shown_too : (a b : Selected) → IsPage sort page rows a → IsPage sort page rows b → (x : Row) → IsIn a.rows x → IsIn b.rows x
    shown_too a b p q x among = cases (q.whole x (p.asked x among).0 (p.asked x among).1)
      where
        cases : IsIn b.rows x ⊎ HasNoRoom sort page b.rows x → IsIn b.rows x
        cases (inl there) = there
        cases (inr out) = absurd (not_outside sort page.size (ends_at_cursor page) a.rows b.rows x p.in_order q.in_order p.short among out (λ y there. p.whole y (q.asked y there).0 (q.asked y there).1))

    same : a.rows ≡ b.rows
    same = same_items (StandsBefore sort) (never sort page.size) (once sort page.size) a.rows b.rows p.in_order q.in_order (shown_too a b p q) (shown_too b a q p)

    earlier : a.before ≡ b.before
    earlier = bool_is a.before b.before (HasEarlier sort rows b.rows) (subst (λ l. IsTrue a.before ↔ HasEarlier sort rows l) same p.has_earlier) q.has_earlier

    later : a.after ≡ b.after
    later = bool_is a.after b.after (HasLater sort rows b.rows) (subst (λ l. IsTrue a.after ↔ HasLater sort rows l) same p.has_later) q.has_later

    cut : a.truncated ≡ b.truncated
    cut = bool_is a.truncated b.truncated (IsCutShort sort page rows b.rows) (subst (λ l. IsTrue a.truncated ↔ IsCutShort sort page rows l) same p.is_cut_short) q.is_cut_short
