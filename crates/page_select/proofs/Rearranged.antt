-- A page is one of the rows in any order.
use Rattle.std.proofs.Common.{◌≡◌, ℕ, zero, suc, ◌<◌, List, [], ◌∷◌, true, false, length, get_or, sym, ap, subst, ◌∙◌, arith, inl, inr}
use Rattle.std.specs.List.{IsDistinct, AllByRecursion, Contains}
use Rattle.std.specs.List.Sorted.{IsPermutation}
use Rattle.std.proofs.lemmas.List.Sorted.{Contains-permutation, IsPermutation-sym}
use Rattle.std.specs.Ordering.{is_eq}
use Rattle.ident_rules.specs.IdOrder.{id_cmp, id_itself}
use Rattle.world_cells.specs.declared.rows.Row.{Row}
use Rattle.world_cells.specs.Lists.{IsIn}
use Rattle.task_forms.specs.declared.queries.Page.{Page}
use Rattle.task_forms.specs.declared.queries.SortKey.{SortKey}
use Rattle.store_model.specs.declared.pages.Selected.{Selected}
use Rattle.store_model.specs.Pages.{page_of}
use Rattle.store_model.specs.Laws.{AreApart, IsPage, PageIsExact}
use Rattle.page_select.specs.Orders.{same_row}

-- ---- rows whose ids differ are told apart by them

each_in : (P : Row → Type 0) (xs : List Row) (x : Row) → AllByRecursion P xs → IsIn xs x → P x
each_in P [] x all h = absurd h
each_in P (y ∷ xs) x all (inl e) = subst P e all.0
each_in P (y ∷ xs) x all (inr h) = each_in P xs x all.1 h

pub apart : (xs : List Row) → IsDistinct same_row xs → AreApart xs
unfolding IsDistinct
apart [] distinct = λ a b ha hb same. absurd ha
apart (x ∷ xs) distinct = λ a b ha hb same. by_place (apart xs distinct.1) distinct.0 a b same ha hb
  where
    one_id : (a b : Row) → a.key.id ≡ b.key.id → same_row a b ≡ true
    one_id a b same = ap (λ id. is_eq (id_cmp a.key.id id)) (sym same) ∙ id_itself a.key.id

    by_place : AreApart xs → AllByRecursion (λ y. same_row x y ≡ false) xs → (a b : Row) → a.key.id ≡ b.key.id → IsIn (x ∷ xs) a → IsIn (x ∷ xs) b → a ≡ b
    by_place rest first a b same (inl e) (inl f) = sym e ∙ f
    by_place rest first a b same (inl e) (inr g) = cc (one_id x b (ap (λ (r : Row). r.key.id) e ∙ same), each_in (λ y. same_row x y ≡ false) xs b first g)
    by_place rest first a b same (inr h) (inl f) = cc (one_id x a (ap (λ (r : Row). r.key.id) f ∙ sym same), each_in (λ y. same_row x y ≡ false) xs a first h)
    by_place rest first a b same (inr h) (inr g) = rest a b h g same

-- ---- the same rows

contains_in : (xs : List Row) (x : Row) → Contains xs x → IsIn xs x
contains_in xs x c = at xs x c.0 c.1 c.2
  where
    at : (xs : List Row) (x : Row) (k : ℕ) → k < length xs → get_or xs k x ≡ x → IsIn xs x
    at [] x k lt is = absurd (omega arith)
    at (y ∷ xs) x zero lt is = inl is
    at (y ∷ xs) x (suc k) lt is = inr (at xs x k (omega arith) is)

in_contains : (xs : List Row) (x : Row) → IsIn xs x → Contains xs x
in_contains [] x h = absurd h
in_contains (y ∷ xs) x (inl e) = (zero, omega arith, e)
in_contains (y ∷ xs) x (inr h) = let c = in_contains xs x h in (suc c.0, omega (arith, c.1), c.2)

pub moved : (xs ys : List Row) (x : Row) → IsPermutation xs ys → IsIn xs x → IsIn ys x
moved xs ys x p h = contains_in ys x (Contains-permutation xs ys x p (in_contains xs x h))

-- what is a page of the ones is a page of the others
same_page : (sort : List SortKey) (page : Page) (xs ys : List Row) (s : Selected) → ((x : Row) → IsIn xs x → IsIn ys x) → ((x : Row) → IsIn ys x → IsIn xs x) → IsPage sort page xs s → IsPage sort page ys s
same_page sort page xs ys s to from p = record {
  in_order = p.in_order;
  short = p.short;
  asked = λ row h. (to row (p.asked row h).0, (p.asked row h).1);
  whole = λ row h asked. p.whole row (from row h) asked;
  has_earlier = (
    λ e. let h = p.has_earlier.0 e in record { first = h.first; is_first = h.is_first; row = h.row; among = to h.row h.among; earlier = h.earlier },
    λ h. p.has_earlier.1 (record { first = h.first; is_first = h.is_first; row = h.row; among = from h.row h.among; earlier = h.earlier }),
  );
  has_later = (
    λ e. let h = p.has_later.0 e in record { last = h.last; is_last = h.is_last; row = h.row; among = to h.row h.among; later = h.later },
    λ h. p.has_later.1 (record { last = h.last; is_last = h.is_last; row = h.row; among = from h.row h.among; later = h.later }),
  );
  is_cut_short = (
    λ e. let h = p.is_cut_short.0 e in record { range = h.range; row = h.row; among = to h.row h.among; between = h.between; no_room = h.no_room },
    λ h. p.is_cut_short.1 (record { range = h.range; row = h.row; among = from h.row h.among; between = h.between; no_room = h.no_room }),
  );
}

-- by the laws of pages
pub rearranged : ((sort : List SortKey) (page : Page) (rows : List Row) → AreApart rows → PageIsExact sort page rows)
    → ((sort : List SortKey) (page : Page) (rows : List Row) (a b : Selected) → IsPage sort page rows a → IsPage sort page rows b → a ≡ b)
    → (sort : List SortKey) (page : Page) (xs ys : List Row) → IsPermutation xs ys → IsDistinct same_row xs → page_of sort page ys ≡ page_of sort page xs
rearranged exact one sort page xs ys p distinct =
    let here : AreApart xs = apart xs distinct in
    let there : AreApart ys = λ a b ha hb. here a b (moved ys xs a (IsPermutation-sym xs ys p) ha) (moved ys xs b (IsPermutation-sym xs ys p) hb) in
    one sort page xs (page_of sort page ys) (page_of sort page xs)
    (same_page sort page ys xs (page_of sort page ys) (λ x. moved ys xs x (IsPermutation-sym xs ys p)) (λ x. moved xs ys x p) (exact sort page ys there)) (exact sort page xs here)
