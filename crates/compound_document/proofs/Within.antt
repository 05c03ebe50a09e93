-- What is looked at beside primary rows is within the reach of their fetch.
use Rattle.std.proofs.Common.{◌≡◌, ℕ, ◌==◌, List, [], ◌∷◌, Bool, true, false, map, Option, Some, None, refl, sym, ap, subst, ◌∙◌, inl, inr, arith}
use Rattle.std.specs.Prelude.{◌||◌}
use Rattle.std.specs.Option.{option_map_or, option_and_then}
use Rattle.std.proofs.lemmas.Bool.{or_left, or_right}
use Rattle.std.proofs.lemmas.Bool.Decides.{nat_tests}
use Rattle.ident_rules.specs.declared.key.Key.{Key}
use Rattle.resource_schema.specs.declared.schema.Schema.{Schema}
use Rattle.world_cells.specs.declared.keys.CellKey.{CellKey}
use Rattle.world_cells.specs.declared.keys.CellKey.TheVariants as cell_key
use Rattle.world_cells.specs.declared.rows.Row.{Row}
use Rattle.world_cells.specs.Lists.{IsIn}
use Rattle.world_cells.specs.World.{World, row_at}
use Rattle.task_forms.specs.declared.queries.Page.{Page}
use Rattle.task_forms.specs.declared.queries.Path.{Path}
use Rattle.task_forms.specs.declared.queries.SortKey.{SortKey}
use Rattle.store_model.specs.Valid.{IsValid}
use Rattle.store_model.specs.Included.{has_key, included}
use Rattle.store_model.specs.Laws.{AreRowsOf, AreRowsAt, PageIsExact}
use Rattle.store_model.specs.Pages.{first_item, page_of, rows_at, rows_of}
use Rattle.store_model.specs.Reach.{is_row_in, reach_collection, reach_sorted}
use Rattle.trial_steps.specs.StepLaws.{row_in_left}
use Rattle.compound_document.specs.Gathering.{keys_in, key_list, reach_beside}
use Rattle.compound_document.proofs.Lists.{both, row_of_key, has_in}
use Rattle.compound_document.proofs.Near.{in_range}

by_either : {P : Type 0} (a b : Bool) → (a || b) ≡ true → (a ≡ true → P) → (b ≡ true → P) → P
by_either true b e f g = f refl
by_either false b e f g = g e

same_number : (m n : ℕ) → m ≡ n → (m == n) ≡ true
same_number m n e = grind (arith, nat_tests)

-- the rows of a page of a type
pub page_within : (w : World) (kind : ℕ) (sort : List SortKey) (page : Page) → PageIsExact sort page (rows_of w kind) → AreRowsOf w kind (rows_of w kind) → (k : CellKey)
    → is_row_in (keys_in ((page_of sort page (rows_of w kind)).rows)) k ≡ true → reach_collection w kind sort page k ≡ true
page_within w kind [] page exact of_type (cell_key.Row q) e =
    row_of_key q ((page_of [] page (rows_of w kind)).rows) e (λ row h is.
    let own : row.key.kind ≡ kind = ((of_type row).0 (exact.asked row h).0).1 in
    subst (λ (j : Key). reach_sorted w kind page [] j ≡ true) is (both _ _ (same_number row.key.kind kind own) (in_range (rows_of w kind) page ((page_of [] page (rows_of w kind)).rows) row exact.in_order h)))
page_within w kind (s ∷ sort) page exact of_type (cell_key.Row q) e =
    row_of_key q ((page_of (s ∷ sort) page (rows_of w kind)).rows) e (λ row h is.
    let own : row.key.kind ≡ kind = ((of_type row).0 (exact.asked row h).0).1 in
    subst (λ (j : Key). reach_sorted w kind page (s ∷ sort) j ≡ true) is (same_number row.key.kind kind own))
page_within w kind sort page exact of_type (cell_key.Back to from rel) e = cc e
page_within w kind sort page exact of_type (cell_key.Counter n) e = cc e

-- the rows of a page of rows at some keys
pub listed_within : (w : World) (keys : List Key) (sort : List SortKey) (page : Page) → PageIsExact sort page (rows_at w keys) → AreRowsAt w keys (rows_at w keys) → (k : CellKey)
    → is_row_in (keys_in ((page_of sort page (rows_at w keys)).rows)) k ≡ true → is_row_in keys k ≡ true
listed_within w keys sort page exact at (cell_key.Row q) e =
    row_of_key q ((page_of sort page (rows_at w keys)).rows) e (λ row h is.
    subst (λ (j : Key). has_key keys j ≡ true) is (has_in keys row.key ((at row).0 (exact.asked row h).0).1))
listed_within w keys sort page exact at (cell_key.Back to from rel) e = cc e
listed_within w keys sort page exact at (cell_key.Counter n) e = cc e

-- the first of some keys
pub first_key_in : (keys : List Key) (key : Key) → Some key ≡ first_item keys → (k : CellKey) → is_row_in (key ∷ []) k ≡ true → is_row_in keys k ≡ true
first_key_in [] key is k e = cc is
first_key_in (x ∷ keys) key is k e =
    let same : key ≡ x = cc is in
    row_in_left (x ∷ []) keys k (subst (λ (j : Key). is_row_in (j ∷ []) k ≡ true) same e)

-- the row at the first of some keys
pub first_within : (schema : Schema) (w : World) → IsValid schema w → (keys : List Key) (k : CellKey) → is_row_in (key_list (option_and_then (row_at w) (first_item keys))) k ≡ true → is_row_in keys k ≡ true
first_within schema w valid [] (cell_key.Row q) e = cc e
first_within schema w valid (key ∷ keys) (cell_key.Row q) e = by_found (row_at w key) refl e
  where
    by_found : (o : Option Row) → row_at w key ≡ o → is_row_in (key_list o) (cell_key.Row q) ≡ true → is_row_in (key ∷ keys) (cell_key.Row q) ≡ true
    by_found None there e = cc e
    by_found (Some row) there e =
        row_of_key q (row ∷ []) e (λ r h is. by_one h is)
      where
        by_one : {r : Row} → IsIn (row ∷ []) r → r.key ≡ q → is_row_in (key ∷ keys) (cell_key.Row q) ≡ true
        by_one (inl one) is =
            let own : row.key ≡ key = (valid.rows key row there).own_key in
            has_in (key ∷ keys) q (inl (sym own ∙ ap (λ (r : Row). r.key) one ∙ is))
        by_one (inr h) is = absurd h
first_within schema w valid keys (cell_key.Back to from rel) e = cc e
first_within schema w valid keys (cell_key.Counter n) e = cc e

-- beside rows with some keys
pub beside_within : (schema : Schema) (w : World) (keys : List Key) (include : Option (List Path)) (target : CellKey → Bool) (k : CellKey)
    → (is_row_in keys k ≡ true → target k ≡ true) → reach_beside schema keys include w k ≡ true
    → (target k || is_row_in (map (λ (row : Row). row.key) (option_map_or (included schema w keys) include [])) k) ≡ true
beside_within schema w keys None target k primary e = cc e
beside_within schema w keys (Some paths) target k primary e = by_either (is_row_in keys k) _ e
    (λ here. or_left _ _ (primary here))
    (λ beside. or_right (target k) _ beside)
