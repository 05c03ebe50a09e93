-- What a recorder answers is so in each world that agrees with the view on what was read.
use Rattle.std.proofs.Common.{◌≡◌, List, [], ◌∷◌, ◌++◌, Bool, true, false, refl, sym, ap, subst, ◌∙◌, Option, Some, None, Ok}
use Rattle.std.specs.Prelude.{◌||◌, IsTrue, IsFalse}
use Rattle.std.specs.Option.{option_copied, option_map}
use Rattle.std.specs.List.{list_any}
use Rattle.std.specs.Borrow.{Bor}
use Rattle.std.specs.Ordering.{is_eq}
use Rattle.std.specs.Cmp.{tied_itself}
use Rattle.std.proofs.lemmas.List.Folds.{list_any-append}
use Rattle.std.proofs.lemmas.Bool.{or_left, or_right}
use Rattle.world_cells.specs.declared.keys.CellKey.{CellKey}
use Rattle.world_cells.specs.declared.cells.Cell.{Cell}
use Rattle.world_cells.specs.declared.spans.Span.{Span}
use Rattle.world_cells.specs.declared.sets.ReadSet.{ReadSet}
use Rattle.world_cells.specs.CellOrder.{cell_key_cmp_total, same_cell_key}
use Rattle.world_cells.specs.Reads.{Cells, covers, in_part, AgreeOn, Leads, IsFirstIn, IsLastIn}
use Rattle.world_cells.specs.CellLaws.{looks_alike, first_alike, last_alike}
use Rattle.view_reads.specs.Recording.{Recording, read_key, ReadsPart, LooksInto, Looked, LookedFirst, LookedLast, pair_now, found_key, Follows}

-- ---- what reads cover

or_both : (a b c d : Bool) → (a ≡ true → c ≡ true) → (b ≡ true → d ≡ true) → (a || b) ≡ true → (c || d) ≡ true
or_both true b c d f g e = or_left c d (f refl)
or_both false b c d f g e = or_right c d (g e)

more : {A : Type 0} (p : A → Bool) (xs : List A) (x : A) → list_any p xs ≡ true → list_any p (xs ++ x ∷ []) ≡ true
more p xs x e = list_any-append p xs (x ∷ []) ∙ or_left _ _ e

at_end : {A : Type 0} (p : A → Bool) (xs : List A) (x : A) → p x ≡ true → list_any p (xs ++ x ∷ []) ≡ true
at_end p xs x e = list_any-append p xs (x ∷ []) ∙ or_right (list_any p xs) _ (or_left (p x) false e)

-- a key that was looked at is read
pub key_read : (reads : ReadSet) (key : CellKey) → IsTrue (covers (read_key reads key) key)
key_read reads key = or_left _ _ (at_end (same_cell_key key) reads.keys key (ap is_eq (tied_itself cell_key_cmp_total key)))

-- and what was read stays so
pub still_read : (reads : ReadSet) (key k : CellKey) → IsTrue (covers reads k) → IsTrue (covers (read_key reads key) k)
still_read reads key k e = or_both _ _ _ _ (λ known. more (same_cell_key k) reads.keys key known) (λ known. known) e

or_assoc : (a b c : Bool) → (a || (b || c)) ≡ ((a || b) || c)
or_assoc true b c = refl
or_assoc false b c = refl

-- covered is what was covered and the part, nothing else
pub part_covers : (before after : ReadSet) (span : Span) (found : Option CellKey) (from_top : Bool) → ReadsPart before span found from_top after → (k : CellKey)
    → covers after k ≡ (covers before k || in_part (record { span = span; found = found; from_top = from_top }) k)
part_covers before after span found from_top read k =
    ap (λ (keys : List CellKey). list_any (same_cell_key k) keys || list_any (λ part. in_part part k) after.parts) read.keys
    ∙ ap (λ b. list_any (same_cell_key k) before.keys || b) (read.parts.covers k)
    ∙ or_assoc (list_any (same_cell_key k) before.keys) (list_any (λ part. in_part part k) before.parts) (in_part (record { span = span; found = found; from_top = from_top }) k)

-- a part that was looked through is read
pub part_read : (before after : ReadSet) (span : Span) (found : Option CellKey) (from_top : Bool) → ReadsPart before span found from_top after → (k : CellKey)
    → IsTrue (in_part (record { span = span; found = found; from_top = from_top }) k) → IsTrue (covers after k)
part_read before after span found from_top read k e = part_covers before after span found from_top read k ∙ or_right (covers before k) _ e

-- and what was read stays so
pub part_still_read : (before after : ReadSet) (span : Span) (found : Option CellKey) (from_top : Bool) → ReadsPart before span found from_top after → (k : CellKey) → IsTrue (covers before k) → IsTrue (covers after k)
part_still_read before after span found from_top read k e = part_covers before after span found from_top read k ∙ or_left (covers before k) _ e

only_right : (a b : Bool) → (a || b) ≡ true → a ≡ false → b ≡ true
only_right true b e none = cc none
only_right false b e none = e

-- nothing else is
pub only_part : (before after : ReadSet) (span : Span) (found : Option CellKey) (from_top : Bool) → ReadsPart before span found from_top after → (k : CellKey)
    → IsTrue (covers after k) → IsFalse (covers before k) → IsTrue (in_part (record { span = span; found = found; from_top = from_top }) k)
only_part before after span found from_top read k e none = only_right (covers before k) _ (sym (part_covers before after span found from_top read k) ∙ e) none

-- ---- recordings that follow

pub follows_itself : {V : Type 0} (r : Recording V) → Follows r r
follows_itself r = record { store = refl; reads = λ k e. e }

pub follows_on : {V : Type 0} (a b c : Recording V) → Follows a b → Follows b c → Follows a c
follows_on a b c f g = record { store = g.store ∙ f.store; reads = λ k e. g.reads k (f.reads k e) }

module _ {V : Type 0} (cells : V → Cells) where
  pub looked_follows : (old : Recording V) (key : CellKey) (found : Option (Bor Cell)) (new : Recording V) → Looked cells old key (Ok found) new → Follows old new
  looked_follows old key found new looked =
      subst (λ (r : Recording V). Follows old r) (sym looked.1) (record { store = refl; reads = λ k e. still_read old.reads key k e })

  looks_follow : (old : Recording V) (span : Span) (found : Option CellKey) (from_top : Bool) (new : Recording V) → LooksInto old span found from_top new → Follows old new
  looks_follow old span found from_top new looks = record { store = looks.store; reads = part_still_read old.reads new.reads span found from_top looks.reads }

  pub first_follows : (old : Recording V) (span : Span) (found : Option (Bor CellKey × Bor Cell)) (new : Recording V) → LookedFirst cells old span (Ok found) new → Follows old new
  first_follows old span found new looked = looks_follow old span (found_key found) false new looked.1

  pub last_follows : (old : Recording V) (span : Span) (found : Option (Bor CellKey × Bor Cell)) (new : Recording V) → LookedLast cells old span (Ok found) new → Follows old new
  last_follows old span found new looked = looks_follow old span (found_key found) true new looked.1

  -- ---- worlds that agree

  -- f is a world that agrees with the view on what is read after the call, and h is that world under the writes: the answer is so in h
  pub looked_alike : (f h : Cells) (old : Recording V) (key : CellKey) (found : Option (Bor Cell)) (new : Recording V) → Looked cells old key (Ok found) new
      → AgreeOn new.reads f (cells old.store) → Leads f old.writes h → option_copied found ≡ h key
  looked_alike f h old key found new looked agree leads =
      looked.0 ∙ looks_alike f (cells old.store) h new.reads old.writes key (subst (λ (r : Recording V). IsTrue (covers r.reads key)) (sym looked.1) (key_read old.reads key)) agree leads

  key_found : (found : Option (Bor CellKey × Bor Cell)) → option_map (λ (p : CellKey × Cell). p.0) (option_map pair_now found) ≡ found_key found
  key_found None = refl
  key_found (Some p) = refl

  pub first_looked_alike : (f h : Cells) (old : Recording V) (span : Span) (found : Option (Bor CellKey × Bor Cell)) (new : Recording V) → LookedFirst cells old span (Ok found) new
      → AgreeOn new.reads f (cells old.store) → Leads f old.writes h → IsFirstIn h span (option_map pair_now found)
  first_looked_alike f h old span found new looked agree leads =
      first_alike f (cells old.store) h new.reads old.writes span (option_map pair_now found)
      (λ j inside. part_read old.reads new.reads span (found_key found) false looked.1.reads j (ap (λ o. in_part (record { span = span; found = o; from_top = false }) j) (sym (key_found found)) ∙ inside))
      agree leads looked.0

  pub last_looked_alike : (f h : Cells) (old : Recording V) (span : Span) (found : Option (Bor CellKey × Bor Cell)) (new : Recording V) → LookedLast cells old span (Ok found) new
      → AgreeOn new.reads f (cells old.store) → Leads f old.writes h → IsLastIn h span (option_map pair_now found)
  last_looked_alike f h old span found new looked agree leads =
      last_alike f (cells old.store) h new.reads old.writes span (option_map pair_now found)
      (λ j inside. part_read old.reads new.reads span (found_key found) true looked.1.reads j (ap (λ o. in_part (record { span = span; found = o; from_top = true }) j) (sym (key_found found)) ∙ inside))
      agree leads looked.0
