-- One step after another: what both look at, and what is seen of either.
use Rattle.std.proofs.Common.{◌≡◌, List, [], ◌∷◌, ◌++◌, Bool, true, false, refl, sym, ap, subst, ◌∙◌}
use Rattle.std.specs.Prelude.{◌||◌, IsTrue, IsFalse}
use Rattle.std.specs.List.{list_any}
use Rattle.std.specs.Cmp.{tied_itself}
use Rattle.std.specs.Ordering.{is_eq}
use Rattle.std.specs.declared.cmp.Ordering.{Ordering}
use Rattle.std.specs.declared.cmp.Ordering.TheVariants.{Less, Equal, Greater}
use Rattle.std.proofs.lemmas.List.Folds.{list_any-append}
use Rattle.ident_rules.specs.declared.key.Key.{Key}
use Rattle.ident_rules.specs.Key.{key_cmp_total, same_key}
use Rattle.resource_schema.specs.declared.schema.Schema.{Schema}
use Rattle.world_cells.specs.declared.keys.CellKey.{CellKey}
use Rattle.world_cells.specs.declared.keys.CellKey.TheVariants as cell_key
use Rattle.world_cells.specs.declared.sets.ReadSet.{ReadSet}
use Rattle.world_cells.specs.declared.sets.Written.{Written}
use Rattle.world_cells.specs.CellOrder.{cell_key_cmp-IsAntisymmetric, same_cell_key}
use Rattle.world_cells.specs.Reads.{Cells, covers, Leads}
use Rattle.world_cells.specs.World.{World, cell_at}
use Rattle.store_model.specs.Reach.{is_row_in}
use Rattle.view_reads.specs.Recording.{Recording, Follows, read_key}
use Rattle.view_reads.specs.RecordingLaws.{still_read, follows_itself, follows_on}
use Rattle.trial_steps.specs.Steps.{StandsBehind}
use Rattle.trial_steps.specs.Steps.{LooksAt, Sees}

-- ---- what steps look at

pub looks_nothing : {V : Type 0} (test : CellKey → Bool) (a : Recording V) → LooksAt test a a
looks_nothing test a = record { follows = follows_itself a; writes = refl; within = λ k new old. cc (new, old) }

-- a step that leaves the recorder as it was
pub looks_still : {V : Type 0} (test : CellKey → Bool) (a b : Recording V) → b ≡ a → LooksAt test a b
looks_still test a b is = subst (λ (r : Recording _). LooksAt test a r) (sym is) (looks_nothing test a)

-- one step of these, and then one of those
pub looks_on : {V : Type 0} (p q test : CellKey → Bool) (a b c : Recording V) → ((k : CellKey) → IsTrue (p k) → IsTrue (test k)) → ((k : CellKey) → IsTrue (q k) → IsTrue (test k))
    → LooksAt p a b → LooksAt q b c → LooksAt test a c
looks_on p q test a b c first second f g = record {
  follows = follows_on a b c f.follows g.follows;
  writes = g.writes ∙ f.writes;
  within = λ k new old. by_middle k new old (covers b.reads k) refl;
}
  where
    by_middle : (k : CellKey) → IsTrue (covers c.reads k) → IsFalse (covers a.reads k) → (m : Bool) → covers b.reads k ≡ m → IsTrue (test k)
    by_middle k new old true is = first k (f.within k is old)
    by_middle k new old false is = second k (g.within k new is)

-- a second step that reads nothing
pub looks_before : {V : Type 0} (test p : CellKey → Bool) (a b c : Recording V) → c.reads ≡ b.reads → LooksAt test a b → LooksAt p b c → LooksAt test a c
looks_before test p a b c same f g = record {
  follows = follows_on a b c f.follows g.follows;
  writes = g.writes ∙ f.writes;
  within = λ k new old. f.within k (subst (λ (r : ReadSet). IsTrue (covers r k)) same new) old;
}

-- of more keys than are looked at
pub looks_more : {V : Type 0} (p test : CellKey → Bool) (a b : Recording V) → ((k : CellKey) → IsTrue (p k) → IsTrue (test k)) → LooksAt p a b → LooksAt test a b
looks_more p test a b more f = record { follows = f.follows; writes = f.writes; within = λ k new old. more k (f.within k new old) }

covered_by : (keys : List CellKey) (key k : CellKey) → list_any (same_cell_key k) (keys ++ key ∷ []) ≡ true → list_any (same_cell_key k) keys ≡ false → same_cell_key k key ≡ true
covered_by keys key k new old = by_end _ _ (sym (list_any-append (same_cell_key k) keys (key ∷ [])) ∙ new) old
  where
    by_end : (a b : Bool) → (a || (b || false)) ≡ true → a ≡ false → b ≡ true
    by_end true b e f = cc f
    by_end false true e f = refl
    by_end false false e f = cc e

tied_equal : (o : Ordering) → is_eq o ≡ true → o ≡ Equal
tied_equal Less e = cc e
tied_equal Equal e = refl
tied_equal Greater e = cc e

-- what is newly covered when a key was read is that key
only_key : (reads : ReadSet) (key k : CellKey) → IsTrue (covers (read_key reads key) k) → IsFalse (covers reads k) → k ≡ key
only_key reads key k new old =
    cell_key_cmp-IsAntisymmetric k key (tied_equal _ (covered_by reads.keys key k (left_new _ _ _ new old) (left_old _ _ old)))
  where
    left_new : (a b c : Bool) → (a || c) ≡ true → (b || c) ≡ false → a ≡ true
    left_new true b c e f = refl
    left_new false true true e f = cc f
    left_new false true false e f = cc e
    left_new false false true e f = cc f
    left_new false false false e f = cc e

    left_old : (a b : Bool) → (a || b) ≡ false → a ≡ false
    left_old true b e = cc e
    left_old false b e = refl

-- a step that looks at one key
pub looks_key : {V : Type 0} (test : CellKey → Bool) (key : CellKey) (a b : Recording V) → IsTrue (test key) → b ≡ record a { reads = read_key a.reads key } → LooksAt test a b
looks_key test key a b passes is = subst (λ (r : Recording _). LooksAt test a r) (sym is) (record {
  follows = record { store = refl; reads = λ k e. still_read a.reads key k e };
  writes = refl;
  within = λ k new old. subst (λ (x : CellKey). IsTrue (test x)) (sym (only_key a.reads key k new old)) passes;
})

-- ---- lists of keys

pub row_in_one : (key : Key) → IsTrue (is_row_in (key ∷ []) (cell_key.Row key))
row_in_one key = ap (λ b. b || false) (ap is_eq (tied_itself key_cmp_total key))

pub row_in_left : (xs ys : List Key) (k : CellKey) → IsTrue (is_row_in xs k) → IsTrue (is_row_in (xs ++ ys) k)
row_in_left xs ys (cell_key.Row k) e = list_any-append (same_key k) xs ys ∙ ap (λ b. b || list_any (same_key k) ys) e
row_in_left xs ys (cell_key.Back to from rel) e = e
row_in_left xs ys (cell_key.Counter n) e = e

pub row_in_right : (xs ys : List Key) (k : CellKey) → IsTrue (is_row_in ys k) → IsTrue (is_row_in (xs ++ ys) k)
row_in_right xs ys (cell_key.Row k) e = list_any-append (same_key k) xs ys ∙ ap (λ b. list_any (same_key k) xs || b) e ∙ or_true (list_any (same_key k) xs)
  where
    or_true : (a : Bool) → (a || true) ≡ true
    or_true true = refl
    or_true false = refl
row_in_right xs ys (cell_key.Back to from rel) e = e
row_in_right xs ys (cell_key.Counter n) e = e

-- the rows of these keys, and then those of those
pub looks_rows_on : {V : Type 0} (xs ys : List Key) (a b c : Recording V) → LooksAt (is_row_in xs) a b → LooksAt (is_row_in ys) b c → LooksAt (is_row_in (xs ++ ys)) a c
looks_rows_on xs ys a b c f g = looks_on (is_row_in xs) (is_row_in ys) (is_row_in (xs ++ ys)) a b c (row_in_left xs ys) (row_in_right xs ys) f g

-- ---- what is seen

-- a world that stands behind the view on more reads stands behind it on fewer
pub stands_before : {V : Type 0} (schema : Schema) (cells : V → Cells) (a b c : Recording V) (w now : World) → Follows b c → StandsBehind schema (cells a.store) c.reads w now → StandsBehind schema (cells a.store) b.reads w now
stands_before schema cells a b c w now f behind = record { valid = behind.valid; agrees = λ k e. behind.agrees k (f.reads k e); now_valid = behind.now_valid }

-- what a first step sees is so after a second one
pub sees_before : {V : Type 0} (schema : Schema) (cells : V → Cells) (test : CellKey → Bool) (a b c : Recording V) (P : World → Type 0)
    → LooksAt test b c → Sees schema cells a b P → Sees schema cells a c P
sees_before schema cells test a b c P g seen = λ w now behind leads. seen w now (stands_before schema cells a b c w now g.follows behind) leads

-- what a second step sees is so from before the first one on
pub sees_after : {V : Type 0} (schema : Schema) (cells : V → Cells) (test : CellKey → Bool) (a b c : Recording V) (P : World → Type 0)
    → LooksAt test a b → Sees schema cells b c P → Sees schema cells a c P
sees_after {V} schema cells test a b c P f seen = λ w now behind leads.
    seen w now
    (subst (λ (s : V). StandsBehind schema (cells s) c.reads w now) (sym f.follows.store) behind)
    (subst (λ (ws : List Written). Leads (cell_at schema w) ws (cell_at schema now)) (sym f.writes) leads)

-- the same, where the first step left the recorder as it was or a fact follows from both
pub sees_both : {V : Type 0} (schema : Schema) (cells : V → Cells) (p q : CellKey → Bool) (a b c : Recording V) (P Q R : World → Type 0)
    → ((now : World) → P now → Q now → R now) → LooksAt p a b → LooksAt q b c → Sees schema cells a b P → Sees schema cells b c Q → Sees schema cells a c R
sees_both schema cells p q a b c P Q R both f g first second = λ w now behind leads.
    both now (sees_before schema cells q a b c P g first w now behind leads) (sees_after schema cells p a b c Q f second w now behind leads)

-- what follows from what is seen
pub sees_so : {V : Type 0} (schema : Schema) (cells : V → Cells) (a b : Recording V) (P R : World → Type 0) → ((now : World) → P now → R now) → Sees schema cells a b P → Sees schema cells a b R
sees_so schema cells a b P R so seen = λ w now behind leads. so now (seen w now behind leads)
