-- What looks for rows read.
use Rattle.std.proofs.Common.{◌≡◌, List, [], ◌∷◌, Bool, true, false, refl, sym, ap, subst, ◌∙◌, Some, None, Option, Result, Ok, Err}
use Rattle.std.specs.Prelude.{ℕ, ◌&&◌, ◌||◌, not, IsTrue, is_some, option_map}
use Rattle.std.specs.Option.{option_map_or}
use Rattle.std.specs.Borrow.{Bor}
use Rattle.std.specs.Ordering.{is_lt}
use Rattle.ident_rules.specs.declared.key.Key.{Key}
use Rattle.ident_rules.specs.declared.memory.NoMemory.{NoMemory}
use Rattle.resource_schema.specs.declared.schema.Schema.{Schema}
use Rattle.world_cells.specs.declared.keys.CellKey.{CellKey}
use Rattle.world_cells.specs.declared.keys.CellKey.TheVariants as cell_key
use Rattle.world_cells.specs.declared.cells.Cell.{Cell}
use Rattle.world_cells.specs.declared.rows.Row.{Row}
use Rattle.world_cells.specs.declared.sets.Written.{Written}
use Rattle.world_cells.specs.declared.spans.Edge.{Edge}
use Rattle.world_cells.specs.declared.spans.Span.TheVariants as span
use Rattle.world_cells.specs.CellOrder.{cell_key_cmp}
use Rattle.world_cells.specs.Reads.{Cells, covers, in_span, Leads, IsFirstIn, IsLastIn}
use Rattle.world_cells.specs.World.{World, cell_at, row_at}
use Rattle.store_model.specs.Valid.{IsValid}
use Rattle.store_model.specs.Pages.{first_item, last_item}
use Rattle.view_reads.specs.Recording.{Recording, LookedFirst, LookedLast, pair_now, found_key}
use Rattle.view_reads.specs.RecordingLaws.{first_looked_alike, last_looked_alike, only_part}
use Rattle.trial_steps.specs.Steps.{LooksAt, ReadsWithin, Sees}
use Rattle.ident_rules.specs.Key.{key_cmp}
use Rattle.std.proofs.lemmas.Bool.{or_left, or_right}
use Rattle.trial_steps.specs.StepLaws.{looks_on, sees_before, sees_after}
use Rattle.page_select.specs.Ranges.{range, anywhere}
use Rattle.page_select.specs.Looks.{up_to, down_to, first_part, last_part}
use Rattle.page_select.proofs.Tests.{by_bool, by_either}
use Rattle.page_select.proofs.Firsts.{begins, first_at, row_back, nothing, by_keys, same_is, lt_row}
use Rattle.page_select.proofs.RangeRows.{some_last, last_in, in_range, to_range, last_greatest}

-- the part up to the first cell is the part up to the first row
part_is : (schema : Schema) (w : World) (kind : ℕ) (low high : Edge) (found : Option (CellKey × Cell)) (k : CellKey) → IsValid schema w → IsFirstIn (cell_at schema w) (span.Rows kind low high) found
    → option_map_or (λ (e : CellKey × Cell). not (is_lt (cell_key_cmp e.0 k))) found true ≡ up_to (first_item (range w (span.Rows kind low high))) k
part_is schema w kind low high None k valid first = ap (λ xs. up_to (first_item xs) k) (sym (begins schema w kind low high None valid first))
part_is schema w kind low high (Some (cell_key.Row j, c)) k valid first =
    let r = row_back (row_at w j) c first.1 in
    ap (λ (x : Key). not (is_lt (cell_key_cmp (cell_key.Row x) k))) (sym (valid.rows j r.0 r.1).own_key)
    ∙ ap (λ xs. up_to (first_item xs) k) (sym (first_at schema w kind low high j r.0 valid first.0 r.1 first.2))
part_is schema w kind low high (Some (cell_key.Back to from rel, c)) k valid first = cc first.0
part_is schema w kind low high (Some (cell_key.Counter n, c)) k valid first = cc first.0

pair_part : (found : Option (Bor CellKey × Bor Cell)) (k : CellKey)
    → option_map_or (λ f. not (is_lt (cell_key_cmp f k))) (option_map (λ (p : Bor CellKey × Bor Cell). p.0.now) found) true ≡ option_map_or (λ (e : CellKey × Cell). not (is_lt (cell_key_cmp e.0 k))) (option_map pair_now found) true
pair_part None k = refl
pair_part (Some p) k = refl

pub first_stays : {V : Type 0} (cells : V → Cells) (schema : Schema) (old : Recording V) (kind : ℕ) (low high : Edge) (result : Result (Option (Bor CellKey × Bor Cell)) NoMemory) (new : Recording V)
    → LookedFirst cells old (span.Rows kind low high) result new → ReadsWithin schema cells (first_part kind low high) old new
first_stays cells schema old kind low high (Err e) new looked = λ w now valid same now_valid leads k new_read old_read. cc (new_read, old_read, ap (λ (r : Recording _). covers r.reads k) looked)
first_stays cells schema old kind low high (Ok found) new looked = λ w now valid same now_valid leads k new_read old_read.
    let first : IsFirstIn (cell_at schema now) (span.Rows kind low high) (option_map pair_now found) =
    first_looked_alike cells (cell_at schema w) (cell_at schema now) old (span.Rows kind low high) found new looked (λ j e. same j) leads in
    sym (ap (λ b. in_span (span.Rows kind low high) k && b) (pair_part found k ∙ part_is schema now kind low high (option_map pair_now found) k now_valid first))
    ∙ only_part old.reads new.reads (span.Rows kind low high) (found_key found) false looked.1.reads k new_read old_read

-- ---- from the top

last_is : (schema : Schema) (w : World) (kind : ℕ) (low high : Edge) (j : Key) (row : Row) → IsValid schema w → in_span (span.Rows kind low high) (cell_key.Row j) ≡ true → row_at w j ≡ Some row
    → ((i : CellKey) → IsTrue (in_span (span.Rows kind low high) i) → IsTrue (is_lt (cell_key_cmp (cell_key.Row j) i)) → cell_at schema w i ≡ None) → last_item (range w (span.Rows kind low high)) ≡ Some row
last_is schema w kind low high j row valid inside found none =
    let own : row.key ≡ j = (valid.rows j row found).own_key in
    let among = to_range schema w valid (span.Rows kind low high) j row inside found in
    let l = some_last (range w (span.Rows kind low high)) row among in
    let there = in_range schema w valid (span.Rows kind low high) l.0 (last_in (range w (span.Rows kind low high)) l.0 l.1) in
    by_keys row.key l.0.key
    (λ less.
    let gone = none (cell_key.Row l.0.key) there.0 (lt_row (key_cmp j l.0.key) ∙ ap (λ (k : Key). is_lt (key_cmp k l.0.key)) (sym own) ∙ less) in
    cc (gone, there.1))
    (λ same.
    let keys : l.0.key ≡ j = sym (same_is row.key l.0.key same) ∙ own in
    let rows : Some l.0 ≡ Some row = sym there.1 ∙ ap (row_at w) keys ∙ found in
    l.1 ∙ rows)
    (λ more. cc (more, last_greatest schema w valid (span.Rows kind low high) l.0 row l.1 among))

last_part_is : (schema : Schema) (w : World) (kind : ℕ) (low high : Edge) (found : Option (CellKey × Cell)) (k : CellKey) → IsValid schema w → IsLastIn (cell_at schema w) (span.Rows kind low high) found
    → option_map_or (λ (e : CellKey × Cell). not (is_lt (cell_key_cmp k e.0))) found true ≡ down_to (last_item (range w (span.Rows kind low high))) k
last_part_is schema w kind low high None k valid last = ap (λ o. down_to o k) (sym (none_last (range w (span.Rows kind low high)) (sym (nothing schema w kind low high last))))
  where
    none_last : (xs : List Row) → is_some (first_item xs) ≡ false → last_item xs ≡ None
    none_last [] e = refl
    none_last (x ∷ xs) e = cc e
last_part_is schema w kind low high (Some (cell_key.Row j, c)) k valid last =
    let r = row_back (row_at w j) c last.1 in
    ap (λ (x : Key). not (is_lt (cell_key_cmp k (cell_key.Row x)))) (sym (valid.rows j r.0 r.1).own_key)
    ∙ ap (λ o. down_to o k) (sym (last_is schema w kind low high j r.0 valid last.0 r.1 last.2))
last_part_is schema w kind low high (Some (cell_key.Back to from rel, c)) k valid last = cc last.0
last_part_is schema w kind low high (Some (cell_key.Counter n, c)) k valid last = cc last.0

last_pair_part : (found : Option (Bor CellKey × Bor Cell)) (k : CellKey)
    → option_map_or (λ f. not (is_lt (cell_key_cmp k f))) (option_map (λ (p : Bor CellKey × Bor Cell). p.0.now) found) true ≡ option_map_or (λ (e : CellKey × Cell). not (is_lt (cell_key_cmp k e.0))) (option_map pair_now found) true
last_pair_part None k = refl
last_pair_part (Some p) k = refl

pub last_stays : {V : Type 0} (cells : V → Cells) (schema : Schema) (old : Recording V) (kind : ℕ) (low high : Edge) (result : Result (Option (Bor CellKey × Bor Cell)) NoMemory) (new : Recording V)
    → LookedLast cells old (span.Rows kind low high) result new → ReadsWithin schema cells (last_part kind low high) old new
last_stays cells schema old kind low high (Err e) new looked = λ w now valid same now_valid leads k new_read old_read. cc (new_read, old_read, ap (λ (r : Recording _). covers r.reads k) looked)
last_stays cells schema old kind low high (Ok found) new looked = λ w now valid same now_valid leads k new_read old_read.
    let last : IsLastIn (cell_at schema now) (span.Rows kind low high) (option_map pair_now found) =
    last_looked_alike cells (cell_at schema w) (cell_at schema now) old (span.Rows kind low high) found new looked (λ j e. same j) leads in
    sym (ap (λ b. in_span (span.Rows kind low high) k && b) (last_pair_part found k ∙ last_part_is schema now kind low high (option_map pair_now found) k now_valid last))
    ∙ only_part old.reads new.reads (span.Rows kind low high) (found_key found) true looked.1.reads k new_read old_read

-- ---- one step, and then another

module _ {V : Type 0} (cells : V → Cells) (schema : Schema) where
  -- each key that passes the one test passes the other
  pub within_more : (p q : World → CellKey → Bool) (a b : Recording V) → ((now : World) (k : CellKey) → IsValid schema now → IsTrue (p now k) → IsTrue (q now k))
      → ReadsWithin schema cells p a b → ReadsWithin schema cells q a b
  within_more p q a b more f = λ w now valid same now_valid leads k new old. more now k now_valid (f w now valid same now_valid leads k new old)

  -- where nothing is read
  pub within_nothing : (p : World → CellKey → Bool) (a : Recording V) → ReadsWithin schema cells p a a
  within_nothing p a = λ w now valid same now_valid leads k new old. cc (new, old)

  -- where something is seen of the world now
  pub within_seen : (p q r : World → CellKey → Bool) (G : World → Type 0) (t : CellKey → Bool) (a b c : Recording V) → LooksAt t a b → Sees schema cells a c G
      → ((now : World) (k : CellKey) → IsValid schema now → G now → IsTrue (p now k) → IsTrue (r now k)) → ((now : World) (k : CellKey) → IsValid schema now → G now → IsTrue (q now k) → IsTrue (r now k))
      → ReadsWithin schema cells p a b → ReadsWithin schema cells q b c → ReadsWithin schema cells r a c
  within_seen p q r G t a b c looks sees first second f g = λ w now valid same now_valid leads k new old.
      let seen : G now = sees w now (record { valid = valid; agrees = λ j e. same j; now_valid = now_valid }) leads in
      by_bool (covers b.reads k)
      (λ here. first now k now_valid seen (f w now valid same now_valid leads k here old))
      (λ out. second now k now_valid seen
      (g w now valid (λ j. same j ∙ ap (λ (s : V). cells s j) (sym looks.follows.store)) now_valid
      (subst (λ (ws : List Written). Leads (cell_at schema w) ws (cell_at schema now)) (sym looks.writes) leads) k new out))

  pub within_both : (p q r : World → CellKey → Bool) (t : CellKey → Bool) (a b c : Recording V) → LooksAt t a b
      → ((now : World) (k : CellKey) → IsValid schema now → IsTrue (p now k) → IsTrue (r now k)) → ((now : World) (k : CellKey) → IsValid schema now → IsTrue (q now k) → IsTrue (r now k))
      → ReadsWithin schema cells p a b → ReadsWithin schema cells q b c → ReadsWithin schema cells r a c
  within_both p q r t a b c looks first second f g =
      within_seen p q r (IsValid schema) t a b c looks (λ w now behind leads. behind.now_valid) (λ now k valid seen e. first now k valid e) (λ now k valid seen e. second now k valid e) f g

  -- three steps
  pub seen_three : (P Q R : World → Type 0) (a b c d : Recording V) → LooksAt anywhere a b → LooksAt anywhere b c → LooksAt anywhere c d
      → Sees schema cells a b P → Sees schema cells b c Q → Sees schema cells c d R → Sees schema cells a d (λ now. P now × Q now × R now)
  seen_three P Q R a b c d ab bc cd first second third = λ w now behind leads. (
    sees_before schema cells anywhere a b d P (looks_on anywhere anywhere anywhere b c d (λ k e. e) (λ k e. e) bc cd) first w now behind leads,
    sees_after schema cells anywhere a b d Q ab (sees_before schema cells anywhere b c d Q cd second) w now behind leads,
    sees_after schema cells anywhere a c d R (looks_on anywhere anywhere anywhere a b c (λ k e. e) (λ k e. e) ab bc) third w now behind leads,
  )

  pub within_three : (p q r t : World → CellKey → Bool) (G : World → Type 0) (a b c d : Recording V) → LooksAt anywhere a b → LooksAt anywhere b c → Sees schema cells a d G
      → ((now : World) (k : CellKey) → IsValid schema now → G now → IsTrue (p now k) → IsTrue (t now k))
      → ((now : World) (k : CellKey) → IsValid schema now → G now → IsTrue (q now k) → IsTrue (t now k))
      → ((now : World) (k : CellKey) → IsValid schema now → G now → IsTrue (r now k) → IsTrue (t now k))
      → ReadsWithin schema cells p a b → ReadsWithin schema cells q b c → ReadsWithin schema cells r c d → ReadsWithin schema cells t a d
  within_three p q r t G a b c d ab bc seen first second third f g h =
      within_seen p (λ now k. q now k || r now k) t G anywhere a b d ab seen first
      (λ now k valid seen e. by_either (q now k) (r now k) e (second now k valid seen) (third now k valid seen))
      f (within_both q r (λ now k. q now k || r now k) anywhere b c d bc (λ now k valid e. or_left _ _ e) (λ now k valid e. or_right (q now k) _ e) g h)
