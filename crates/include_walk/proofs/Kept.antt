-- Which rows of a world a filter of keys keeps.
use Rattle.std.proofs.Common.{◌≡◌, List, [], ◌∷◌, Bool, true, false, cond, refl, sym, ap, subst, ◌∙◌, map, Some, None, Option, T, ◌⊎◌, inl, inr}
use Rattle.std.specs.Prelude.{⊤, ◌&&◌}
use Rattle.std.specs.Ordering.{is_lt, is_eq}
use Rattle.std.specs.declared.cmp.Ordering.{Ordering}
use Rattle.std.specs.declared.cmp.Ordering.TheVariants.{Less, Equal, Greater}
use Rattle.std.specs.FinMap.Entries.{find, where_key, below_all, is_sorted}
use Rattle.ident_rules.specs.declared.key.Key.{Key}
use Rattle.ident_rules.specs.Key.{key_cmp, key_is, key_itself, same_key}
use Rattle.resource_schema.specs.declared.schema.Schema.{Schema}
use Rattle.world_cells.specs.declared.rows.Row.{Row}
use Rattle.world_cells.specs.Lists.{IsIn}
use Rattle.world_cells.specs.World.{World, row_at}
use Rattle.store_model.specs.Valid.{IsValid}
use Rattle.include_walk.proofs.Stepping.{by_bool}

both_T : (a b : Bool) → T (a && b) → T a × T b
both_T true b h = (tt, h)
both_T false b h = absurd h

true_T : (b : Bool) → T b → b ≡ true
true_T true h = refl
true_T false h = absurd h

lt_not_eq : (o : Ordering) → is_lt o ≡ true → is_eq o ≡ false
lt_not_eq Less e = refl
lt_not_eq Equal e = cc e
lt_not_eq Greater e = cc e

step_past : (j : Key) (e : Key × Row) (es : List (Key × Row)) → same_key j e.0 ≡ false → find key_cmp j (e ∷ es) ≡ find key_cmp j es
step_past j e es h = ap (λ b. cond b (Some e.1) (find key_cmp j es)) h

met : (j : Key) (e : Key × Row) (es : List (Key × Row)) → same_key j e.0 ≡ true → find key_cmp j (e ∷ es) ≡ Some e.1
met j e es h = ap (λ b. cond b (Some e.1) (find key_cmp j es)) h

none_below : (k : Key) (es : List (Key × Row)) → T (below_all key_cmp k es) → find key_cmp k es ≡ None
none_below k [] h = refl
none_below k (e ∷ es) h = let parts = both_T _ _ h in step_past k e es (lt_not_eq _ (true_T _ parts.0)) ∙ none_below k es parts.1

abbrev OwnKeys : List (Key × Row) → Type 0
OwnKeys [] = ⊤
OwnKeys (e ∷ es) = (e.1.key ≡ e.0) × OwnKeys es

own_keys : (es : List (Key × Row)) → T (is_sorted key_cmp es) → ((k : Key) (x : Row) → find key_cmp k es ≡ Some x → x.key ≡ k) → OwnKeys es
own_keys [] sorted own = tt
own_keys (e ∷ es) sorted own = (own e.0 e.1 (met e.0 e es (key_itself e.0)), own_keys es (both_T _ _ sorted).1 rest)
  where
    rest : (k : Key) (x : Row) → find key_cmp k es ≡ Some x → x.key ≡ k
    rest k x found = by_bool (same_key k e.0)
        (λ same. cc (found, none_below e.0 es (both_T _ _ sorted).0, ap (λ (j : Key). find key_cmp j es) (key_is k e.0 same)))
        (λ other. own k x (step_past k e es other ∙ found))

member_tells : (p : Key → Bool) (es : List (Key × Row)) (x : Row) → T (is_sorted key_cmp es) → OwnKeys es → IsIn (map (λ (e : Key × Row). e.1) (where_key key_cmp p es)) x → (p x.key ≡ true) × (find key_cmp x.key es ≡ Some x)
member_tells p [] x sorted own h = absurd h
member_tells p (e ∷ es) x sorted own h = by_bool (p e.0)
    (λ here. start (λ i. member_tells p es x (both_T _ _ sorted).1 own.1 i) here (subst (λ (b : Bool). IsIn (map (λ (d : Key × Row). d.1) (cond b (e ∷ where_key key_cmp p es) (where_key key_cmp p es))) x) here h))
    (λ out. later (λ i. member_tells p es x (both_T _ _ sorted).1 own.1 i) (subst (λ (b : Bool). IsIn (map (λ (d : Key × Row). d.1) (cond b (e ∷ where_key key_cmp p es) (where_key key_cmp p es))) x) out h))
  where
    later : (IsIn (map (λ (d : Key × Row). d.1) (where_key key_cmp p es)) x → (p x.key ≡ true) × (find key_cmp x.key es ≡ Some x))
        → IsIn (map (λ (d : Key × Row). d.1) (where_key key_cmp p es)) x → (p x.key ≡ true) × (find key_cmp x.key (e ∷ es) ≡ Some x)
    later tell i =
        let rest = tell i in
        (rest.0, step_past x.key e es (by_bool (same_key x.key e.0) (λ same. cc (rest.1, ap (λ (j : Key). find key_cmp j es) (key_is x.key e.0 same), none_below e.0 es (both_T _ _ sorted).0)) (λ other. other)) ∙ rest.1)

    start : (IsIn (map (λ (d : Key × Row). d.1) (where_key key_cmp p es)) x → (p x.key ≡ true) × (find key_cmp x.key es ≡ Some x))
        → p e.0 ≡ true → IsIn (e.1 ∷ map (λ (d : Key × Row). d.1) (where_key key_cmp p es)) x → (p x.key ≡ true) × (find key_cmp x.key (e ∷ es) ≡ Some x)
    start tell here (inl is) =
        let key : x.key ≡ e.0 = ap (λ (r : Row). r.key) (sym is) ∙ own.0 in
        (ap p key ∙ here, met x.key e es (ap (λ j. same_key j e.0) key ∙ key_itself e.0) ∙ ap (λ (r : Row). Some r) is)
    start tell here (inr i) = later tell i

is_member : (p : Key → Bool) (es : List (Key × Row)) (k : Key) (x : Row) → p k ≡ true → find key_cmp k es ≡ Some x → IsIn (map (λ (e : Key × Row). e.1) (where_key key_cmp p es)) x
is_member p [] k x here found = cc found
is_member p (e ∷ es) k x here found = by_bool (same_key k e.0)
    (λ same.
    let value : Some e.1 ≡ Some x = sym (met k e es same) ∙ found in
    subst (λ (b : Bool). IsIn (map (λ (d : Key × Row). d.1) (cond b (e ∷ where_key key_cmp p es) (where_key key_cmp p es))) x) (sym (ap p (sym (key_is k e.0 same)) ∙ here)) (inl (cc value)))
    (λ other.
    let rest = is_member p es k x here (sym (step_past k e es other) ∙ found) in
    by_bool (p e.0)
    (λ in_it. subst (λ (b : Bool). IsIn (map (λ (d : Key × Row). d.1) (cond b (e ∷ where_key key_cmp p es) (where_key key_cmp p es))) x) (sym in_it) (inr rest))
    (λ out. subst (λ (b : Bool). IsIn (map (λ (d : Key × Row). d.1) (cond b (e ∷ where_key key_cmp p es) (where_key key_cmp p es))) x) (sym out) rest))

-- ---- in a valid world

module _ (schema : Schema) (w : World) (valid : IsValid schema w) (p : Key → Bool) where
  pub kept_tells : (x : Row) → IsIn (map (λ (e : Key × Row). e.1) (where_key key_cmp p w.rows)) x → (p x.key ≡ true) × (row_at w x.key ≡ Some x)
  kept_tells x h = member_tells p w.rows x valid.rows_sorted (own_keys w.rows valid.rows_sorted (λ k y found. (valid.rows k y found).own_key)) h

  pub is_kept : (k : Key) (x : Row) → p k ≡ true → row_at w k ≡ Some x → IsIn (map (λ (e : Key × Row). e.1) (where_key key_cmp p w.rows)) x
  is_kept k x here found = is_member p w.rows k x here found
