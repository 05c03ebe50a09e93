-- The id of a new row: what it is refused for, and that no row has it.
use Rattle.std.proofs.Common.{◌≡◌, ℕ, ◌<◌, ◌≤◌, ◌^◌, ◌==◌, List, [], ◌∷◌, Bool, true, false, refl, sym, ap, subst, ◌∙◌, Option, Some, None, arith, lit≤}
use Rattle.std.specs.Prelude.{is_some, unwrap_or, decimal, codes}
use Rattle.std.proofs.lemmas.Fmt.{decimal_injective, decimal_is_IsNumeral}
use Rattle.std.proofs.lemmas.Bool.Decides.{nat_tests}
use Rattle.std.specs.Ordering.{nat_cmp}
use Rattle.std.specs.FinMap.Entries.{find}
use Rattle.ident_rules.specs.declared.key.Key.{Key}
use Rattle.resource_schema.specs.declared.schema.Schema.{Schema}
use Rattle.world_cells.specs.declared.rows.Row.{Row}
use Rattle.world_cells.specs.World.{World, row_at, has_row, next_id}
use Rattle.error_objects.specs.declared.codes.Code.TheVariants as code
use Rattle.error_objects.specs.Refusals.{refusal, at_pointer}
use Rattle.store_model.specs.Valid.{IsValid}
use Rattle.world_cells.specs.declared.cells.TheConstants.{LAST_NEXT_ID}
use Rattle.store_model.specs.Change.{first_of, when, created_key}
use Rattle.row_change.specs.Creating.{refuse_id}

-- ---- the client's

client_judged : (now : World) (kind : ℕ) (x : List ℕ) (b : Bool) → has_row now (record { kind = kind; id = x }) ≡ b
    → refuse_id now kind (Some x) ≡ first_of (when b (at_pointer code.IdExists (codes "/data/id")) ∷ None ∷ [])
client_judged now kind x b is = ap (λ h. first_of (when h (at_pointer code.IdExists (codes "/data/id")) ∷ None ∷ [])) is

pub client_taken : (now : World) (kind : ℕ) (x : List ℕ) (b : Bool) → b ≡ has_row now (record { kind = kind; id = x }) → b ≡ true → refuse_id now kind (Some x) ≡ Some (at_pointer code.IdExists (codes "/data/id"))
client_taken now kind x b is told = client_judged now kind x true (sym is ∙ told)

pub client_free : (now : World) (kind : ℕ) (x : List ℕ) (b : Bool) → b ≡ has_row now (record { kind = kind; id = x }) → b ≡ false → refuse_id now kind (Some x) ≡ None
client_free now kind x b is told = client_judged now kind x false (sym is ∙ told)

-- ---- the server's

-- a next id is from 1 on to the greatest
pub next_bounds : (schema : Schema) (now : World) (kind : ℕ) → IsValid schema now → (1 ≤ next_id now kind) × (next_id now kind ≤ LAST_NEXT_ID)
next_bounds schema now kind valid = by (find nat_cmp kind now.counters) refl
  where
    by : (o : Option ℕ) → find nat_cmp kind now.counters ≡ o → (1 ≤ unwrap_or o 1) × (unwrap_or o 1 ≤ LAST_NEXT_ID)
    by None e = (omega arith, lit≤ tt)
    by (Some n) e = let h = valid.counters kind n e in (omega arith, h.2)

server_judged : (now : World) (kind : ℕ) (b : Bool) → (next_id now kind == LAST_NEXT_ID) ≡ b → refuse_id now kind None ≡ first_of (None ∷ when b (refusal code.IdsEnded) ∷ [])
server_judged now kind b is = ap (λ h. first_of (None ∷ when h (refusal code.IdsEnded) ∷ [])) is

pub server_ended : (schema : Schema) (now : World) (kind number : ℕ) → IsValid schema now → number ≡ next_id now kind → LAST_NEXT_ID ≤ number → refuse_id now kind None ≡ Some (refusal code.IdsEnded)
server_ended schema now kind number valid is last = server_judged now kind true (meets (next_id now kind) LAST_NEXT_ID (next_bounds schema now kind valid).1 (subst (λ (n : ℕ). LAST_NEXT_ID ≤ n) is last))
  where
    meets : (a b : ℕ) → a ≤ b → b ≤ a → (a == b) ≡ true
    meets a b h g = grind (arith, nat_tests)

pub server_good : (now : World) (kind number : ℕ) → number ≡ next_id now kind → number < LAST_NEXT_ID → refuse_id now kind None ≡ None
server_good now kind number is low = server_judged now kind false (apart (next_id now kind) LAST_NEXT_ID (subst (λ (n : ℕ). n < LAST_NEXT_ID) is low))
  where
    apart : (a b : ℕ) → a < b → (a == b) ≡ false
    apart a b h = grind (arith, nat_tests)

-- ---- no row has it

-- no row has the next id
pub fresh : (schema : Schema) (now : World) (kind : ℕ) → IsValid schema now → row_at now (record { kind = kind; id = decimal (next_id now kind) }) ≡ None
fresh schema now kind valid = by (row_at now key) refl
  where
    below_u64 : (n : ℕ) → n ≤ LAST_NEXT_ID → n < 2 ^ 64
    below_u64 n h = omega arith

    trans_lt : (a b c : ℕ) → a < b → b < c → a < c
    trans_lt a b c h g = omega arith

    differs : (n m : ℕ) → n ≡ m → m < n → ⊥
    differs n m e h = omega arith

    key : Key
    key = record { kind = kind; id = decimal (next_id now kind) }

    by : (o : Option Row) → row_at now key ≡ o → o ≡ None
    by None e = refl
    by (Some row) e =
        let bounds = next_bounds schema now kind valid in
        let small : next_id now kind < 2 ^ 64 = below_u64 _ bounds.1 in
        let counted = (valid.rows key row e).counted (decimal_is_IsNumeral (next_id now kind) small).0.1 in
        let counted_small : counted.0 < 2 ^ 64 = trans_lt _ _ _ counted.3 small in
        absurd (differs _ _ (decimal_injective (next_id now kind) counted.0 small counted_small counted.1) counted.3)

-- no row has the id of a new row that is not refused
pub new_free : (schema : Schema) (now : World) (kind : ℕ) (id : Option (List ℕ)) → IsValid schema now → refuse_id now kind id ≡ None → row_at now (created_key now kind id) ≡ None
new_free schema now kind None valid none = fresh schema now kind valid
new_free schema now kind (Some x) valid none = free (row_at now (record { kind = kind; id = x })) none
  where
    free : (o : Option Row) → first_of (when (is_some o) (at_pointer code.IdExists (codes "/data/id")) ∷ None ∷ []) ≡ None → o ≡ None
    free None e = refl
    free (Some row) e = cc e
