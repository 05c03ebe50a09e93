-- What is found in the local ids that the entries of the map stand for.
use Rattle.std.proofs.Common.{◌≡◌, ℕ, ◌==◌, ◌&&◌, true, false, cond, not, T, List, [], ◌∷◌, Some, None, option_map, option_and_then, Global, String, Vec, string_bytes, refl, sym, ap, ◌∙◌}
use Rattle.std.specs.Prelude as plain
use Rattle.std.specs.Bool.{Decides, one_answer}
use Rattle.std.specs.Str.{bytes_eq}
use Rattle.std.specs.Map.{lookup}
use Rattle.std.specs.declared.cmp.Ordering.{Ordering}
use Rattle.std.specs.declared.cmp.Ordering.TheVariants.{Less, Equal, Greater}
use Rattle.std.specs.Ordering.{nat_cmp, is_eq, ordering_then, eq_by_cmp}
use Rattle.std.specs.Cmp.{Equal-is, nat_cmp_total, tied_itself, unsigned_Decides}
use Rattle.std.specs.Cmp.Lexicographic.{slice_cmp}
use Rattle.std.specs.FinMap.{IsAntisymmetric, nat_cmp-IsAntisymmetric, slice_cmp-IsAntisymmetric}
use Rattle.std.specs.FinMap.Entries.{find, find-put, find-where_key, is_sorted, is_sorted-put, is_sorted-where_key}
use Rattle.std.proofs.lemmas.Map.Text.{is_eq-slice_cmp}
use Rattle.ident_rules.specs.IdOrder.{first_equal, second_equal}
use Rattle.store_model.specs.Change.{Lids, lid_cmp, lid_cmp_total}
use Rattle.local_ids.specs.Pairs.{id_of, with_pairs, without_text, lids_of}

-- ---- the order of local ids

pub lid_cmp-IsAntisymmetric : IsAntisymmetric lid_cmp
lid_cmp-IsAntisymmetric x y e =
    let kinds : x.0 ≡ y.0 = nat_cmp-IsAntisymmetric x.0 y.0 (first_equal _ _ e) in
    let lids : x.1 ≡ y.1 = slice_cmp-IsAntisymmetric nat_cmp-IsAntisymmetric x.1 y.1 (second_equal _ _ e) in
    λ i. (kinds i, lids i)

is_eq-nat_cmp : (a b : ℕ) → is_eq (nat_cmp a b) ≡ (b == a)
is_eq-nat_cmp a b = one_answer {P = a ≡ b} _ _ compared equal
  where
    compared : Decides (is_eq (nat_cmp a b)) (a ≡ b)
    compared = (λ e. nat_cmp-IsAntisymmetric a b ((Equal-is (nat_cmp a b)).0 e), λ e. ap (λ x. is_eq (nat_cmp a x)) (sym e) ∙ ap is_eq (tied_itself nat_cmp_total a))

    equal : Decides (b == a) (a ≡ b)
    equal = (λ e. sym ((unsigned_Decides b a).0 e), λ e. (unsigned_Decides b a).1 (sym e))

is_eq-then : (r s : Ordering) → is_eq (ordering_then r s) ≡ (is_eq s && is_eq r)
is_eq-then Less Less = refl
is_eq-then Less Equal = refl
is_eq-then Less Greater = refl
is_eq-then Equal Less = refl
is_eq-then Equal Equal = refl
is_eq-then Equal Greater = refl
is_eq-then Greater Less = refl
is_eq-then Greater Equal = refl
is_eq-then Greater Greater = refl

-- two local ids are one where text and type are
pub same_lid : (k : ℕ) (l : List ℕ) (kind : ℕ) (lid : List ℕ) → eq_by_cmp lid_cmp (k, l) (kind, lid) ≡ (bytes_eq l lid && (kind == k))
same_lid k l kind lid = is_eq-then (nat_cmp k kind) (slice_cmp nat_cmp l lid) ∙ ap (λ b. b && is_eq (nat_cmp k kind)) (is_eq-slice_cmp l lid) ∙ ap (λ b. bytes_eq l lid && b) (is_eq-nat_cmp k kind)

-- ---- what is found

module _ (k : ℕ) (l lid : List ℕ) where
  -- the ids of another text are passed
  with_pairs-away : (ps : List (ℕ × List ℕ)) (lids : Lids) → bytes_eq l lid ≡ false → find lid_cmp (k, l) (with_pairs lid ps lids) ≡ find lid_cmp (k, l) lids
  with_pairs-away [] lids away = refl
  with_pairs-away (p ∷ ps) lids away =
      find-put lid_cmp lid_cmp_total (k, l) (p.0, lid) p.1 (with_pairs lid ps lids)
      ∙ ap (λ b. cond b (Some p.1) (find lid_cmp (k, l) (with_pairs lid ps lids))) (same_lid k l p.0 lid ∙ ap (λ b. b && (p.0 == k)) away)
      ∙ with_pairs-away ps lids away

  -- those of this text are found by type
  with_pairs-here : (ps : List (ℕ × List ℕ)) (lids : Lids) → bytes_eq l lid ≡ true → find lid_cmp (k, l) lids ≡ None → find lid_cmp (k, l) (with_pairs lid ps lids) ≡ id_of ps k
  with_pairs-here [] lids here none = none
  with_pairs-here (p ∷ ps) lids here none =
      find-put lid_cmp lid_cmp_total (k, l) (p.0, lid) p.1 (with_pairs lid ps lids)
      ∙ ap (λ b. cond b (Some p.1) (find lid_cmp (k, l) (with_pairs lid ps lids))) (same_lid k l p.0 lid ∙ ap (λ b. b && (p.0 == k)) here)
      ∙ ap (cond (p.0 == k) (Some p.1)) (with_pairs-here ps lids here none)
      ∙ elim (p.0 == k) as (λ b. cond b (Some p.1) (id_of ps k) ≡ option_map (λ p. p.1) (cond b (Some p) (plain.find (λ p. p.0 == k) ps))) [ true ↦ refl | false ↦ refl ]

  without_text-find : (lids : Lids) → find lid_cmp (k, l) (without_text lid lids) ≡ cond (not (bytes_eq l lid)) (find lid_cmp (k, l) lids) None
  without_text-find lids =
      find-where_key lid_cmp (λ x. not (bytes_eq x.1 lid)) (k, l) (λ x tied. ap (λ t. not (bytes_eq t lid)) (sym (slice_cmp-IsAntisymmetric nat_cmp-IsAntisymmetric l x.1 (second_equal _ _ tied)))) lids

-- an id is found by its text first, and then by its type
pub find-lids_of : (kind : ℕ) (lid : List ℕ) (es : List (String Global × Vec (ℕ × List ℕ) Global))
    → find lid_cmp (kind, lid) (lids_of es) ≡ option_and_then (λ v. id_of v.items kind) (lookup (λ k. bytes_eq lid (string_bytes k)) es)
find-lids_of kind lid [] = refl
find-lids_of kind lid (e ∷ es) =
    let text = string_bytes e.0 in
    elim (bytes_eq lid text) as (λ b. bytes_eq lid text ≡ b → find lid_cmp (kind, lid) (lids_of (e ∷ es)) ≡ option_and_then (λ v. id_of v.items kind) (cond b (Some e.1) (lookup (λ k. bytes_eq lid (string_bytes k)) es))) [
      | true ↦ λ here. with_pairs-here kind lid text e.1.items (without_text text (lids_of es)) here
          (without_text-find kind lid text (lids_of es) ∙ ap (λ b. cond (not b) (find lid_cmp (kind, lid) (lids_of es)) None) here)
      | false ↦ λ away. with_pairs-away kind lid text e.1.items (without_text text (lids_of es)) away
          ∙ without_text-find kind lid text (lids_of es)
          ∙ ap (λ b. cond (not b) (find lid_cmp (kind, lid) (lids_of es)) None) away
          ∙ find-lids_of kind lid es
    ] refl

-- ---- in order

with_pairs-sorted : (lid : List ℕ) (ps : List (ℕ × List ℕ)) (lids : Lids) → T (is_sorted lid_cmp lids) → T (is_sorted lid_cmp (with_pairs lid ps lids))
with_pairs-sorted lid [] lids sorted = sorted
with_pairs-sorted lid (p ∷ ps) lids sorted = is_sorted-put lid_cmp lid_cmp_total (p.0, lid) p.1 _ (with_pairs-sorted lid ps lids sorted)

pub lids_of-sorted : (es : List (String Global × Vec (ℕ × List ℕ) Global)) → T (is_sorted lid_cmp (lids_of es))
lids_of-sorted [] = tt
lids_of-sorted (e ∷ es) = with_pairs-sorted (string_bytes e.0) e.1.items _ (is_sorted-where_key lid_cmp _ (lids_of es) (lids_of-sorted es))
