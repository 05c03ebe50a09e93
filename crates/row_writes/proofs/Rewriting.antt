-- The world that the writes of a row lead to.
use Rattle.std.proofs.Common.{◌≡◌, ℕ, ◌≤◌, List, [], Bool, true, false, length, nat_lt, refl, sym, ap, ◌∙◌, Option, Some, None, arith}
use Rattle.std.specs.Prelude.{cond, not, ◌&&◌, map, option_map}
use Rattle.std.specs.List.{list_any}
use Rattle.std.proofs.lemmas.Bool.{ltb-false}
use Rattle.std.proofs.lemmas.List.{get_or_past}
use Rattle.std.proofs.lemmas.Slice.Zip.{AllZip-long}
use Rattle.ident_rules.specs.declared.key.Key.{Key}
use Rattle.ident_rules.specs.Key.{same_key, key_is, turned_key}
use Rattle.resource_schema.specs.declared.schema.Schema.{Schema}
use Rattle.resource_schema.specs.Kinds.{relationships_of, target_of}
use Rattle.world_cells.specs.declared.rows.Link.{Link}
use Rattle.world_cells.specs.declared.rows.Row.{Row}
use Rattle.world_cells.specs.declared.keys.CellKey.{CellKey}
use Rattle.world_cells.specs.declared.keys.CellKey.TheVariants as cell_key
use Rattle.world_cells.specs.declared.cells.Cell.{Cell}
use Rattle.world_cells.specs.declared.cells.Cell.TheVariants as cell
use Rattle.world_cells.specs.declared.sets.Written.{Written}
use Rattle.world_cells.specs.CellOrder.{same_cell_key}
use Rattle.world_cells.specs.CellLaws.{overlay-put, map_cond, same_row_cell}
use Rattle.world_cells.specs.Reads.{Leads}
use Rattle.world_cells.specs.World.{World, row_at, cell_at, ids_of, no_link}
use Rattle.store_model.specs.Valid.{IsValid, IsLinkOf}
use Rattle.store_model.specs.Change.{with_row, without_row}
use Rattle.store_model.specs.CellLaws.{row-with_row, back-with_row, row-without_row, back-without_row, leads_by}
use Rattle.view_reads.specs.Places.{Wrote}
use Rattle.row_writes.specs.WritesBacks.{turned, leads_to, rewritten, RewritesLinks, links_of}

-- ---- the ways back to one row

turned_row : (was is : Bool) → turned was is (cond was (Some cell.Back) None) ≡ cond is (Some cell.Back) None
turned_row true true = refl
turned_row true false = refl
turned_row false true = refl
turned_row false false = refl

turned_at : (s l was is : Bool) (c : Option Cell) → (s ≡ true → c ≡ cond was (Some cell.Back) None) → (l ≡ false → was ≡ false) → (l ≡ false → is ≡ false)
    → cond (s && l) (turned was is c) c ≡ cond s (cond is (Some cell.Back) None) c
turned_at false l was is c h gone none = refl
turned_at true true was is c h gone none = ap (turned was is) (h refl) ∙ turned_row was is
turned_at true false was is c h gone none = h refl ∙ ap (λ b. cond b (Some cell.Back) None) (gone refl ∙ sym (none refl))

-- a link behind the last leads nowhere
past : (schema : Schema) (kind : ℕ) (links : List Link) (rel : ℕ) (to : Key) → length links ≤ rel → leads_to schema kind links rel to ≡ false
past schema kind links rel to behind = ap (λ l. list_any (same_key to) (map (λ x. record { kind = target_of schema kind rel; id = x }) (ids_of l))) (get_or_past links rel no_link behind)

by_links : (schema : Schema) (old : Option Row) (kind : ℕ) → ((row : Row) → old ≡ Some row → row.key.kind ≡ kind) → (rel : ℕ) (to : Key)
    → leads_by schema old rel to ≡ cond (leads_to schema kind (links_of old) rel to) (Some cell.Back) None
by_links schema None kind own rel to = refl
by_links schema (Some row) kind own rel to = ap (λ n. cond (leads_to schema n row.links rel to) (Some cell.Back) None) (own row refl)

few_links : (schema : Schema) (now : World) (key : Key) (old : Option Row) → IsValid schema now → row_at now key ≡ old → length (links_of old) ≤ length (relationships_of schema key.kind)
few_links schema now key None valid at = omega arith
few_links schema now key (Some row) valid at =
    let same = AllZip-long IsLinkOf (relationships_of schema key.kind) row.links (valid.rows key row at).links in
    omega (arith, same)

-- what stands at the ways back after the links of the row that was there, if any, were changed
back_cell : (schema : Schema) (now : World) (key : Key) (old : Option Row) (new : List Link) → IsValid schema now → row_at now key ≡ old
    → length new ≤ length (relationships_of schema key.kind) → (to from : Key) (r : ℕ)
    → rewritten schema key (links_of old) new (length (relationships_of schema key.kind)) (cell_key.Back to from r) (cell_at schema now (cell_key.Back to from r))
    ≡ cond (same_key from key) (cond (leads_to schema key.kind new r to) (Some cell.Back) None) (cell_at schema now (cell_key.Back to from r))
back_cell schema now key old new valid at few to from r =
    let short = few_links schema now key old valid at in
    turned_at (same_key from key) (nat_lt r (length (relationships_of schema key.kind))) (leads_to schema key.kind (links_of old) r to) (leads_to schema key.kind new r to) (cell_at schema now (cell_key.Back to from r))
    (λ e. ap (λ q. leads_by schema (row_at now q) r to) (key_is from key e) ∙ ap (λ o. leads_by schema o r to) at
    ∙ by_links schema old key.kind (λ row there. ap (λ q. q.kind) (valid.rows key row (at ∙ there)).own_key) r to)
    (λ e. let behind = ltb-false r (length (relationships_of schema key.kind)) e in past schema key.kind (links_of old) r to (omega (arith, behind, short)))
    (λ e. let behind = ltb-false r (length (relationships_of schema key.kind)) e in past schema key.kind new r to (omega (arith, behind, few)))

-- ---- a row that is put

put_cell : (schema : Schema) (now : World) (old : Option Row) (new : Row) → IsValid schema now → row_at now new.key ≡ old
    → length new.links ≤ length (relationships_of schema new.key.kind) → (k : CellKey)
    → cond (same_cell_key k (cell_key.Row new.key)) (Some (cell.Row new)) (rewritten schema new.key (links_of old) new.links (length (relationships_of schema new.key.kind)) k (cell_at schema now k))
    ≡ cell_at schema (with_row now new) k
put_cell schema now old new valid at few (cell_key.Row q) =
    ap (λ b. cond b (Some (cell.Row new)) (option_map cell.Row (row_at now q))) (same_row_cell q new.key)
    ∙ sym (map_cond (option_map cell.Row) (same_key q new.key) (Some new) (row_at now q))
    ∙ sym (ap (option_map cell.Row) (row-with_row now new q))
put_cell schema now old new valid at few (cell_key.Back to from r) = back_cell schema now new.key old new.links valid at few to from r ∙ sym (back-with_row schema now new to from r)
put_cell schema now old new valid at few (cell_key.Counter m) = refl

-- the changed links and the row lead to the world with the row
pub put_leads : (schema : Schema) (w now : World) (old : Option Row) (new : Row) (before mid after : List Written) → IsValid schema now → row_at now new.key ≡ old
    → length new.links ≤ length (relationships_of schema new.key.kind)
    → RewritesLinks schema new.key (links_of old) new.links (length (relationships_of schema new.key.kind)) before mid → Wrote mid (cell_key.Row new.key) (Some (cell.Row new)) after
    → Leads (cell_at schema w) before (cell_at schema now) → Leads (cell_at schema w) after (cell_at schema (with_row now new))
put_leads schema w now old new before mid after valid at few links wrote leads k =
    overlay-put (cell_at schema w) mid after (cell_key.Row new.key) (Some (cell.Row new)) wrote k
    ∙ ap (cond (same_cell_key k (cell_key.Row new.key)) (Some (cell.Row new))) (links (cell_at schema w) k
    ∙ ap (rewritten schema new.key (links_of old) new.links (length (relationships_of schema new.key.kind)) k) (leads k))
    ∙ put_cell schema now old new valid at few k

-- ---- a row that is removed

gone_row : (s : Bool) (row : Option Row) → cond s None (option_map cell.Row row) ≡ option_map cell.Row (cond (not s) row None)
gone_row true row = refl
gone_row false row = refl

gone_back : (s is : Bool) (c : Option Cell) → is ≡ false → cond s (cond is (Some cell.Back) None) c ≡ cond (not s) c None
gone_back true is c none = ap (λ b. cond b (Some cell.Back) None) none
gone_back false is c none = refl

removed_cell : (schema : Schema) (now : World) (old : Row) → IsValid schema now → row_at now old.key ≡ Some old → (k : CellKey)
    → cond (same_cell_key k (cell_key.Row old.key)) None (rewritten schema old.key old.links [] (length (relationships_of schema old.key.kind)) k (cell_at schema now k))
    ≡ cell_at schema (without_row now old.key) k
removed_cell schema now old valid at (cell_key.Row q) =
    ap (λ b. cond b None (option_map cell.Row (row_at now q))) (same_row_cell q old.key ∙ turned_key q old.key)
    ∙ gone_row (same_key old.key q) (row_at now q)
    ∙ sym (ap (option_map cell.Row) (row-without_row now old.key q))
removed_cell schema now old valid at (cell_key.Back to from r) =
    back_cell schema now old.key (Some old) [] valid at (omega arith) to from r
    ∙ gone_back (same_key from old.key) (leads_to schema old.key.kind [] r to) (cell_at schema now (cell_key.Back to from r)) refl
    ∙ ap (λ b. cond (not b) (cell_at schema now (cell_key.Back to from r)) None) (turned_key from old.key)
    ∙ sym (back-without_row schema now old.key to from r)
removed_cell schema now old valid at (cell_key.Counter m) = refl

-- the links that are gone and the row that is removed lead to the world without the row
pub remove_leads : (schema : Schema) (w now : World) (old : Row) (before mid after : List Written) → IsValid schema now → row_at now old.key ≡ Some old
    → RewritesLinks schema old.key old.links [] (length (relationships_of schema old.key.kind)) before mid → Wrote mid (cell_key.Row old.key) None after
    → Leads (cell_at schema w) before (cell_at schema now) → Leads (cell_at schema w) after (cell_at schema (without_row now old.key))
remove_leads schema w now old before mid after valid at links wrote leads k =
    overlay-put (cell_at schema w) mid after (cell_key.Row old.key) None wrote k
    ∙ ap (cond (same_cell_key k (cell_key.Row old.key)) None) (links (cell_at schema w) k
    ∙ ap (rewritten schema old.key old.links [] (length (relationships_of schema old.key.kind)) k) (leads k))
    ∙ removed_cell schema now old valid at k
