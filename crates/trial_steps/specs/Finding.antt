-- What a look at one cell says of the rows and the next ids of each world that may stand behind the view.
use Rattle.std.proofs.Common.{◌≡◌, ℕ, Bool, refl, ap, subst, ◌∙◌, Option, Some, None, Result, Ok, Err}
use Rattle.std.proofs.Common.{eq-eqb}
use Rattle.std.specs.Prelude.{IsTrue, IfOk, is_some, unwrap_or, option_map}
use Rattle.store_model.specs.Reach.{is_counter_of}
use Rattle.std.specs.Option.{option_copied}
use Rattle.std.specs.Borrow.{Bor}
use Rattle.std.specs.Ordering.{nat_cmp}
use Rattle.std.specs.FinMap.Entries.{find}
use Rattle.ident_rules.specs.declared.key.Key.{Key}
use Rattle.ident_rules.specs.declared.memory.NoMemory.{NoMemory}
use Rattle.resource_schema.specs.declared.schema.Schema.{Schema}
use Rattle.world_cells.specs.declared.keys.CellKey.{CellKey}
use Rattle.world_cells.specs.declared.keys.CellKey.TheVariants as cell_key
use Rattle.world_cells.specs.declared.cells.Cell.{Cell}
use Rattle.world_cells.specs.declared.cells.Cell.TheVariants as cell
use Rattle.world_cells.specs.declared.rows.Row.{Row}
use Rattle.world_cells.specs.Reads.{Cells}
use Rattle.world_cells.specs.World.{World, cell_at, row_at, has_row, next_id}
use Rattle.view_reads.specs.Recording.{Recording, Looked}
use Rattle.view_reads.specs.RecordingLaws.{looked_alike}
use Rattle.trial_steps.specs.Steps.{LooksAt, Sees}
use Rattle.trial_steps.specs.Found.{row_of, number_of}
use Rattle.trial_steps.specs.StepLaws.{looks_key, looks_still}

-- a look at a key looks at nothing else, whatever it answers
pub looked_looks : {V : Type 0} (cells : V → Cells) (test : CellKey → Bool) (old : Recording V) (key : CellKey) (result : Result (Option (Bor Cell)) NoMemory) (new : Recording V)
    → IsTrue (test key) → Looked cells old key result new → LooksAt test old new
looked_looks cells test old key (Ok found) new passes looked = looks_key test key old new passes looked.1
looked_looks cells test old key (Err e) new passes looked = looks_still test old new looked

-- what it finds is the cell there
pub looked_sees : {V : Type 0} (cells : V → Cells) (schema : Schema) (old : Recording V) (key : CellKey) (result : Result (Option (Bor Cell)) NoMemory) (found : Option (Bor Cell)) (new : Recording V)
    → result ≡ Ok found → Looked cells old key result new → Sees schema cells old new (λ now. option_copied found ≡ cell_at schema now key)
looked_sees cells schema old key result found new is looked = λ w now behind leads.
    looked_alike cells (cell_at schema w) (cell_at schema now) old key found new (subst (λ (r : Result (Option (Bor Cell)) NoMemory). Looked cells old key r new) is looked) behind.agrees leads

row_back : (o : Option Row) → row_of (option_map cell.Row o) ≡ o
row_back None = refl
row_back (Some row) = refl

pub row_found : (schema : Schema) (now : World) (key : Key) (found : Option (Bor Cell)) → option_copied found ≡ cell_at schema now (cell_key.Row key) → row_of (option_copied found) ≡ row_at now key
row_found schema now key found is = ap row_of is ∙ row_back (row_at now key)

some_copied : (found : Option (Bor Cell)) → is_some found ≡ is_some (option_copied found)
some_copied None = refl
some_copied (Some c) = refl

some_row : (o : Option Row) → is_some (option_map cell.Row o) ≡ is_some o
some_row None = refl
some_row (Some row) = refl

pub row_there : (schema : Schema) (now : World) (key : Key) (found : Option (Bor Cell)) → option_copied found ≡ cell_at schema now (cell_key.Row key) → is_some found ≡ has_row now key
row_there schema now key found is = some_copied found ∙ ap (λ o. is_some o) is ∙ some_row (row_at now key)

number_back : (o : Option ℕ) → number_of (option_map cell.Counter o) ≡ unwrap_or o 1
number_back None = refl
number_back (Some n) = refl

pub number_found : (schema : Schema) (now : World) (kind : ℕ) (found : Option (Bor Cell)) → option_copied found ≡ cell_at schema now (cell_key.Counter kind) → number_of (option_copied found) ≡ next_id now kind
number_found schema now kind found is = ap number_of is ∙ number_back (find nat_cmp kind now.counters)

pub counter_in : (kind : ℕ) → IsTrue (is_counter_of kind (cell_key.Counter kind))
counter_in kind = eq-eqb kind kind refl

-- a copy of what was found is the row there
pub copy_found : (result : Result (Option Row) NoMemory) (found there : Option Row) → IfOk result (λ row. row ≡ found) → found ≡ there → IfOk result (λ row. row ≡ there)
copy_found (Ok row) found there is e = is ∙ e
copy_found (Err x) found there is e = is
