-- Entries whose rows have the keys at which they stand.
use Rattle.std.proofs.Common.{◌≡◌, List, [], ◌∷◌, Bool, cond, sym, ap, subst, ◌∙◌, Some, T}
use Rattle.std.specs.Prelude.{⊤}
use Rattle.std.specs.FinMap.Entries.{find, where_key, is_sorted}
use Rattle.ident_rules.specs.declared.key.Key.{Key}
use Rattle.ident_rules.specs.Key.{key_cmp, same_key}
use Rattle.resource_schema.specs.declared.schema.Schema.{Schema}
use Rattle.world_cells.specs.declared.rows.Row.{Row}
use Rattle.world_cells.specs.World.{World}
use Rattle.store_model.specs.Valid.{IsValid}
use Rattle.page_select.proofs.Tests.{by_bool, both_T}
use Rattle.page_select.proofs.Firsts.{same_is, same_itself, met, step, none_below}

abbrev pub OwnKeys : List (Key × Row) → Type 0
OwnKeys [] = ⊤
OwnKeys (e ∷ es) = (e.1.key ≡ e.0) × OwnKeys es

pub own_keys : (es : List (Key × Row)) → T (is_sorted key_cmp es) → ((k : Key) (x : Row) → find key_cmp k es ≡ Some x → x.key ≡ k) → OwnKeys es
own_keys [] sorted own = tt
own_keys (e ∷ es) sorted own = (own e.0 e.1 (met e.0 e es (same_itself e.0)), own_keys es (both_T _ _ sorted).1 rest)
  where
    rest : (k : Key) (x : Row) → find key_cmp k es ≡ Some x → x.key ≡ k
    rest k x found = by_bool (same_key k e.0)
        (λ same. cc (found, none_below e.0 es (both_T _ _ sorted).0, ap (λ (j : Key). find key_cmp j es) (same_is k e.0 same)))
        (λ other. own k x (step k e es other ∙ found))

pub own_where : (p : Key → Bool) (es : List (Key × Row)) → OwnKeys es → OwnKeys (where_key key_cmp p es)
own_where p [] own = tt
own_where p (e ∷ es) own = by_bool (p e.0)
    (λ here. subst (λ (b : Bool). OwnKeys (cond b (e ∷ where_key key_cmp p es) (where_key key_cmp p es))) (sym here) (own.0, own_where p es own.1))
    (λ out. subst (λ (b : Bool). OwnKeys (cond b (e ∷ where_key key_cmp p es) (where_key key_cmp p es))) (sym out) (own_where p es own.1))

-- the rows of a valid world
pub own_of : (schema : Schema) (w : World) → IsValid schema w → OwnKeys w.rows
own_of schema w valid = own_keys w.rows valid.rows_sorted (λ k x found. (valid.rows k x found).own_key)
