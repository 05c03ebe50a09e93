-- Which rows a range has, and in which order.
use Rattle.std.proofs.Common.{◌≡◌, List, [], ◌∷◌, ◌++◌, Bool, true, false, cond, refl, sym, ap, subst, ◌∙◌, map, Some, None, Option, T, ◌⊎◌, inl, inr}
use Rattle.std.specs.List.{last_or}
use Rattle.std.specs.declared.cmp.Ordering.{Ordering}
use Rattle.std.specs.declared.cmp.Ordering.TheVariants.{Less, Equal, Greater}
use Rattle.std.specs.Ordering.{is_lt, ordering_reverse}
use Rattle.std.specs.Cmp.{tied_itself}
use Rattle.std.specs.FinMap.Entries.{find, where_key, below_all, is_sorted, is_sorted-where_key}
use Rattle.ident_rules.specs.declared.key.Key.{Key}
use Rattle.ident_rules.specs.Key.{key_cmp, key_cmp_total, same_key}
use Rattle.resource_schema.specs.declared.schema.Schema.{Schema}
use Rattle.world_cells.specs.declared.keys.CellKey.TheVariants as cell_key
use Rattle.world_cells.specs.declared.rows.Row.{Row}
use Rattle.world_cells.specs.declared.spans.Span.{Span}
use Rattle.world_cells.specs.Lists.{IsIn}
use Rattle.world_cells.specs.Reads.{in_span}
use Rattle.world_cells.specs.World.{World, row_at}
use Rattle.store_model.specs.Valid.{IsValid}
use Rattle.store_model.specs.Pages.{first_item, last_item}
use Rattle.page_select.proofs.Tests.{by_bool, both_T, true_T}
use Rattle.page_select.specs.Ranges.{range}
use Rattle.page_select.proofs.Firsts.{same_is, same_itself, met, step, none_below}
use Rattle.page_select.proofs.Own.{OwnKeys, own_where, own_of}

-- ---- members

pub first_in : (xs : List Row) (x : Row) → first_item xs ≡ Some x → IsIn xs x
first_in [] x e = cc e
first_in (y ∷ xs) x e = inl (cc e)

last_among : (o : Option Row) (xs : List Row) (x : Row) → last_or o xs ≡ Some x → (o ≡ Some x) ⊎ IsIn xs x
last_among o [] x e = inl e
last_among o (y ∷ xs) x e = elim (last_among (Some y) xs x e) [ inl is ↦ inr (inl (cc is)) | inr h ↦ inr (inr h) ]

pub last_in : (xs : List Row) (x : Row) → last_item xs ≡ Some x → IsIn xs x
last_in xs x e = elim (last_among None xs x e) [ inl is ↦ cc is | inr h ↦ h ]

pub some_last : (xs : List Row) (x : Row) → IsIn xs x → (l : Row) × (last_item xs ≡ Some l)
some_last [] x h = absurd h
some_last (y ∷ xs) x h = going y xs
  where
    going : (y : Row) (xs : List Row) → (l : Row) × (last_or (Some y) xs ≡ Some l)
    going y [] = (y, refl)
    going y (z ∷ xs) = going z xs

pub in_end : (xs : List Row) (x : Row) → IsIn (xs ++ x ∷ []) x
in_end [] x = inl refl
in_end (y ∷ xs) x = inr (in_end xs x)

pub in_left : (xs ys : List Row) (x : Row) → IsIn xs x → IsIn (xs ++ ys) x
in_left [] ys x h = absurd h
in_left (z ∷ xs) ys x (inl e) = inl e
in_left (z ∷ xs) ys x (inr h) = inr (in_left xs ys x h)

pub in_right : (xs ys : List Row) (x : Row) → IsIn ys x → IsIn (xs ++ ys) x
in_right [] ys x h = h
in_right (z ∷ xs) ys x h = inr (in_right xs ys x h)

-- ---- entries in order

lt_back : (o : Ordering) → is_lt o ≡ true → is_lt (ordering_reverse o) ≡ false
lt_back Less e = refl
lt_back Equal e = cc e
lt_back Greater e = cc e

not_back : (j k : Key) → is_lt (key_cmp j k) ≡ true → is_lt (key_cmp k j) ≡ false
not_back j k h = ap is_lt (key_cmp_total.antisymm k j) ∙ lt_back (key_cmp j k) h

not_itself : (k : Key) → is_lt (key_cmp k k) ≡ false
not_itself k = ap is_lt (tied_itself key_cmp_total k)

above : (k : Key) (es : List (Key × Row)) (y : Row) → T (below_all key_cmp k es) → OwnKeys es → IsIn (map (λ (e : Key × Row). e.1) es) y → is_lt (key_cmp k y.key) ≡ true
above k [] y below own h = absurd h
above k (e ∷ es) y below own (inl is) = ap (λ (r : Row). is_lt (key_cmp k r.key)) (sym is) ∙ ap (λ (j : Key). is_lt (key_cmp k j)) own.0 ∙ true_T _ (both_T _ _ below).0
above k (e ∷ es) y below own (inr h) = above k es y (both_T _ _ below).1 own.1 h

-- no row stands before the first
least : (es : List (Key × Row)) (first y : Row) → T (is_sorted key_cmp es) → OwnKeys es → first_item (map (λ (e : Key × Row). e.1) es) ≡ Some first → IsIn (map (λ (e : Key × Row). e.1) es) y → is_lt (key_cmp y.key first.key) ≡ false
least [] first y sorted own at h = absurd h
least (e ∷ es) first y sorted own at (inl is) =
    let same : e.1 ≡ first = cc at in
    ap (λ (r : Row). is_lt (key_cmp r.key first.key)) (sym is) ∙ ap (λ (r : Row). is_lt (key_cmp r.key first.key)) same ∙ not_itself first.key
least (e ∷ es) first y sorted own at (inr h) =
    let same : e.1 ≡ first = cc at in
    let up : is_lt (key_cmp e.0 y.key) ≡ true = above e.0 es y (both_T _ _ sorted).0 own.1 h in
    not_back first.key y.key (ap (λ (r : Row). is_lt (key_cmp r.key y.key)) (sym same) ∙ ap (λ (k : Key). is_lt (key_cmp k y.key)) own.0 ∙ up)

-- no row stands behind the last
greatest : (es : List (Key × Row)) (last y : Row) → T (is_sorted key_cmp es) → OwnKeys es → last_item (map (λ (e : Key × Row). e.1) es) ≡ Some last → IsIn (map (λ (e : Key × Row). e.1) es) y → is_lt (key_cmp last.key y.key) ≡ false
greatest [] last y sorted own at h = absurd h
greatest (e ∷ []) last y sorted own at (inl is) =
    let same : e.1 ≡ last = cc at in
    ap (λ (r : Row). is_lt (key_cmp last.key r.key)) (sym is) ∙ ap (λ (r : Row). is_lt (key_cmp last.key r.key)) same ∙ not_itself last.key
greatest (e ∷ []) last y sorted own at (inr h) = absurd h
greatest (e ∷ f ∷ es) last y sorted own at (inl is) =
    let up : is_lt (key_cmp e.0 last.key) ≡ true = above e.0 (f ∷ es) last (both_T _ _ sorted).0 own.1 (last_in (map (λ (e : Key × Row). e.1) (f ∷ es)) last at) in
    not_back y.key last.key (ap (λ (r : Row). is_lt (key_cmp r.key last.key)) (sym is) ∙ ap (λ (k : Key). is_lt (key_cmp k last.key)) own.0 ∙ up)
greatest (e ∷ f ∷ es) last y sorted own at (inr h) = greatest (f ∷ es) last y (both_T _ _ sorted).1 own.1 at h

member_tells : (p : Key → Bool) (es : List (Key × Row)) (x : Row) → T (is_sorted key_cmp es) → OwnKeys es → IsIn (map (λ (e : Key × Row). e.1) (where_key key_cmp p es)) x → (p x.key ≡ true) × (find key_cmp x.key es ≡ Some x)
member_tells p [] x sorted own h = absurd h
member_tells p (e ∷ es) x sorted own h = by_bool (p e.0)
    (λ here. start (λ i. member_tells p es x (both_T _ _ sorted).1 own.1 i) here (subst (λ (b : Bool). IsIn (map (λ (d : Key × Row). d.1) (cond b (e ∷ where_key key_cmp p es) (where_key key_cmp p es))) x) here h))
    (λ out. later (λ i. member_tells p es x (both_T _ _ sorted).1 own.1 i) (subst (λ (b : Bool). IsIn (map (λ (d : Key × Row). d.1) (cond b (e ∷ where_key key_cmp p es) (where_key key_cmp p es))) x) out h))
  where
    later : (IsIn (map (λ (d : Key × Row). d.1) (where_key key_cmp p es)) x → (p x.key ≡ true) × (find key_cmp x.key es ≡ Some x))
        → IsIn (map (λ (d : Key × Row). d.1) (where_key key_cmp p es)) x → (p x.key ≡ true) × (find key_cmp x.key (e ∷ es) ≡ Some x)
    later tell i =
        let rest = tell i in
        (rest.0, step x.key e es (by_bool (same_key x.key e.0) (λ same. cc (rest.1, ap (λ (j : Key). find key_cmp j es) (same_is x.key e.0 same), none_below e.0 es (both_T _ _ sorted).0)) (λ other. other)) ∙ rest.1)

    start : (IsIn (map (λ (d : Key × Row). d.1) (where_key key_cmp p es)) x → (p x.key ≡ true) × (find key_cmp x.key es ≡ Some x))
        → p e.0 ≡ true → IsIn (e.1 ∷ map (λ (d : Key × Row). d.1) (where_key key_cmp p es)) x → (p x.key ≡ true) × (find key_cmp x.key (e ∷ es) ≡ Some x)
    start tell here (inl is) =
        let key : x.key ≡ e.0 = ap (λ (r : Row). r.key) (sym is) ∙ own.0 in
        (ap p key ∙ here, met x.key e es (ap (λ j. same_key j e.0) key ∙ same_itself e.0) ∙ ap (λ (r : Row). Some r) is)
    start tell here (inr i) = later tell i

is_member : (p : Key → Bool) (es : List (Key × Row)) (k : Key) (x : Row) → p k ≡ true → find key_cmp k es ≡ Some x → IsIn (map (λ (e : Key × Row). e.1) (where_key key_cmp p es)) x
is_member p [] k x here found = cc found
is_member p (e ∷ es) k x here found = by_bool (same_key k e.0)
    (λ same.
    let value : Some e.1 ≡ Some x = sym (met k e es same) ∙ found in
    subst (λ (b : Bool). IsIn (map (λ (d : Key × Row). d.1) (cond b (e ∷ where_key key_cmp p es) (where_key key_cmp p es))) x) (sym (ap p (sym (same_is k e.0 same)) ∙ here)) (inl (cc value)))
    (λ other.
    let rest = is_member p es k x here (sym (step k e es other) ∙ found) in
    by_bool (p e.0)
    (λ in_it. subst (λ (b : Bool). IsIn (map (λ (d : Key × Row). d.1) (cond b (e ∷ where_key key_cmp p es) (where_key key_cmp p es))) x) (sym in_it) (inr rest))
    (λ out. subst (λ (b : Bool). IsIn (map (λ (d : Key × Row). d.1) (cond b (e ∷ where_key key_cmp p es) (where_key key_cmp p es))) x) (sym out) rest))

-- ---- in a world

module _ (schema : Schema) (w : World) (valid : IsValid schema w) where
  own : OwnKeys w.rows
  own = own_of schema w valid

  pub in_range : (s : Span) (x : Row) → IsIn (range w s) x → (in_span s (cell_key.Row x.key) ≡ true) × (row_at w x.key ≡ Some x)
  in_range s x h = member_tells (λ k. in_span s (cell_key.Row k)) w.rows x valid.rows_sorted own h

  pub to_range : (s : Span) (k : Key) (x : Row) → in_span s (cell_key.Row k) ≡ true → row_at w k ≡ Some x → IsIn (range w s) x
  to_range s k x here found = is_member (λ k. in_span s (cell_key.Row k)) w.rows k x here found

  pub first_least : (s : Span) (first y : Row) → first_item (range w s) ≡ Some first → IsIn (range w s) y → is_lt (key_cmp y.key first.key) ≡ false
  first_least s first y at h =
      let p : Key → Bool = λ k. in_span s (cell_key.Row k) in
      least (where_key key_cmp p w.rows) first y (is_sorted-where_key key_cmp p w.rows valid.rows_sorted) (own_where p w.rows own) at h

  pub last_greatest : (s : Span) (last y : Row) → last_item (range w s) ≡ Some last → IsIn (range w s) y → is_lt (key_cmp last.key y.key) ≡ false
  last_greatest s last y at h =
      let p : Key → Bool = λ k. in_span s (cell_key.Row k) in
      greatest (where_key key_cmp p w.rows) last y (is_sorted-where_key key_cmp p w.rows valid.rows_sorted) (own_where p w.rows own) at h
