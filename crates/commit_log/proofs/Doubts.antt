-- Where no last writer of the reads came after a number, no kept entry after it wrote what was read.
use Rattle.std.proofs.Common.{◌≡◌, ℕ, ◌+◌, get_or, ◌<◌, ◌≤◌, List, [], ◌∷◌, Bool, true, false, refl, sym, ap, subst, ◌∙◌, arith, inl, inr, Some, None, Option}
use Rattle.std.specs.Prelude.{◌&&◌, ◌||◌, ◌==◌}
use Rattle.std.specs.List.{list_any}
use Rattle.std.proofs.lemmas.Bool.Decides.{eqb_tells}
use Rattle.ident_rules.specs.declared.key.Key.{Key}
use Rattle.ident_rules.specs.Key.{same_key, key_cmp-IsAntisymmetric}
use Rattle.ident_rules.specs.IdOrder.{is_equal}
use Rattle.world_cells.specs.declared.keys.CellKey.{CellKey}
use Rattle.world_cells.specs.declared.keys.CellKey.TheVariants as cell_key
use Rattle.world_cells.specs.declared.spans.Span.{Span}
use Rattle.world_cells.specs.declared.spans.Span.TheVariants as span
use Rattle.world_cells.specs.declared.sets.Part.{Part}
use Rattle.world_cells.specs.declared.sets.ReadSet.{ReadSet}
use Rattle.world_cells.specs.CellOrder.{same_cell_key}
use Rattle.world_cells.specs.CellLaws.{cell_key_is}
use Rattle.world_cells.specs.Lists.{IsIn}
use Rattle.world_cells.specs.Reads.{in_span, in_part, covers}
use Rattle.world_cells.specs.Slots.{group_of, group_of_span, first_group}
use Rattle.history_model.specs.Histories.{Noted, IsAbove}
use Rattle.history_model.specs.Standing.{Meets, NoneMeets}
use Rattle.commit_log.specs.Writers.{Writers, last_number, last_number_in, KeysAreOld, PartsAreOld, AreOld}
use Rattle.commit_log.specs.Logs.{IsTold, AreTold, EachTold}

by_bool : {P : Type 0} (b : Bool) → (b ≡ true → P) → (b ≡ false → P) → P
by_bool true f g = f refl
by_bool false f g = g refl

both : (a b : Bool) → (a && b) ≡ true → (a ≡ true) × (b ≡ true)
both true b h = (refl, h)
both false b h = cc h

one_of : {P : Type 0} (a b : Bool) → (a || b) ≡ true → (a ≡ true → P) → (b ≡ true → P) → P
one_of true b h f g = f refl
one_of false b h f g = g h

-- ---- the keys of a span have its group

of_kind : (m n : ℕ) → (m == n) ≡ true → first_group m ≡ first_group n
of_kind m n h = elim (eqb_tells m n) [ inl e ↦ ap first_group e.1 | inr e ↦ cc (h, e.0) ]

pub group_in : (s : Span) (k : CellKey) → in_span s k ≡ true → group_of k ≡ group_of_span s
group_in (span.Rows kind low high) (cell_key.Row k) h = of_kind k.kind kind (both (k.kind == kind) _ (both _ _ h).0).0
group_in (span.Rows kind low high) (cell_key.Back to from rel) h = cc h
group_in (span.Rows kind low high) (cell_key.Counter n) h = cc h
group_in (span.Backs to after) (cell_key.Row k) h = cc h
group_in (span.Backs to after) (cell_key.Back t from rel) h =
    let same : to ≡ t = key_cmp-IsAntisymmetric to t (is_equal _ (both (same_key to t) _ h).0) in
    ap (λ (j : Key). first_group j.kind + 1) (sym same)
group_in (span.Backs to after) (cell_key.Counter n) h = cc h

-- ---- a key that is covered has an old writer

keys_old : (w : Writers) (k : CellKey) (keys : List CellKey) (since : ℕ) → KeysAreOld w keys since → list_any (same_cell_key k) keys ≡ true → last_number w k ≤ since
keys_old w k [] since h is = cc is
keys_old w k (j ∷ keys) since h is = one_of (same_cell_key k j) (list_any (same_cell_key k) keys) is
    (λ same. subst (λ (i : CellKey). last_number w i ≤ since) (sym (cell_key_is k j same)) h.0)
    (λ more. keys_old w k keys since h.1 more)

parts_old : (w : Writers) (k : CellKey) (parts : List Part) (since n : ℕ) → PartsAreOld w parts since → list_any (λ part. in_part part k) parts ≡ true → IsTold w n k → n ≤ since
parts_old w k [] since n h is told = cc is
parts_old w k (p ∷ parts) since n h is told = one_of (in_part p k) (list_any (λ part. in_part part k) parts) is
    (λ here.
    let same : group_of k ≡ group_of_span p.span = group_in p.span k (both (in_span p.span k) _ here).0 in
    let le : last_number_in w p.span ≤ since = h.0 in
    let up : n ≤ last_number_in w p.span = subst (λ (g : ℕ). n ≤ get_or w.groups g 0) same told.1 in
    omega arith)
    (λ more. parts_old w k parts since n h.1 more told)

told_at : (w : Writers) (n : ℕ) (keys : List CellKey) (k : CellKey) → AreTold w n keys → IsIn keys k → IsTold w n k
told_at w n [] k h m = absurd m
told_at w n (j ∷ keys) k h (inl e) = subst (λ (i : CellKey). IsTold w n i) e h.0
told_at w n (j ∷ keys) k h (inr m) = told_at w n keys k h.1 m

old_apart : (w : Writers) (reads : ReadSet) (since : ℕ) (x : Noted) → AreOld w reads since → AreTold w x.number x.keys → since < x.number → ¬ Meets reads x.keys
old_apart w reads since x old told after meets =
    let k = meets.0 in
    let here = told_at w x.number x.keys k told meets.2 in
    let le : x.number ≤ since =
    one_of (list_any (same_cell_key k) reads.keys) (list_any (λ part. in_part part k) reads.parts) meets.1
    (λ key. let last = keys_old w k reads.keys since old.0 key in let up = here.0 in omega arith)
    (λ part. parts_old w k reads.parts since x.number old.1 part here) in
    omega arith

pub old_meets_none : (w : Writers) (reads : ReadSet) (since : ℕ) (xs : List Noted) → AreOld w reads since → EachTold w xs → NoneMeets reads since xs
old_meets_none w reads since [] old h = tt
old_meets_none w reads since (x ∷ xs) old h = (λ after. old_apart w reads since x old h.0 after, old_meets_none w reads since xs old h.1)

-- ---- reads that are met

pub any_meets : (reads : ReadSet) (keys : List CellKey) → list_any (covers reads) keys ≡ true → Meets reads keys
any_meets reads [] e = cc e
any_meets reads (k ∷ keys) e = one_of (covers reads k) (list_any (covers reads) keys) e
    (λ here. (k, here, inl refl))
    (λ more. let met = any_meets reads keys more in (met.0, met.1, inr met.2))

pub meets_any : (reads : ReadSet) (keys : List CellKey) (k : CellKey) → covers reads k ≡ true → IsIn keys k → list_any (covers reads) keys ≡ true
meets_any reads [] k here m = absurd m
meets_any reads (j ∷ keys) k here (inl e) = ap (λ b. b || list_any (covers reads) keys) (ap (covers reads) e ∙ here)
meets_any reads (j ∷ keys) k here (inr m) = ap (λ b. covers reads j || b) (meets_any reads keys k here m) ∙ or_true (covers reads j)
  where
    or_true : (b : Bool) → (b || true) ≡ true
    or_true true = refl
    or_true false = refl

-- ---- a number that was not dropped

pub none_above : (since d : ℕ) (o : Option ℕ) → o ≡ Some d → d ≤ since → ¬ IsAbove since o
none_above since d None is low above = absurd above
none_above since d (Some n) is low above = let same : n ≡ d = cc is in omega arith

pub nothing_above : (since : ℕ) (o : Option ℕ) → o ≡ None → ¬ IsAbove since o
nothing_above since None is above = absurd above
nothing_above since (Some n) is above = cc is
