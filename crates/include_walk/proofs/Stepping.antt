-- One step from more keys, and from the same keys.
use Rattle.std.proofs.Common.{◌≡◌, ℕ, ◌+◌, ◌<◌, List, [], ◌∷◌, ◌++◌, Bool, true, false, length, get_or, take, drop, Option, Some, None, refl, sym, ap, subst, ◌∙◌, append-nil, ◌⊎◌, inl, inr}
use Rattle.std.specs.Prelude.{◌||◌, ◌&&◌, IsTrue}
use Rattle.std.specs.Option.{option_map_or}
use Rattle.std.specs.List.{list_any, flat_map}
use Rattle.std.proofs.lemmas.List.{take_more}
use Rattle.std.proofs.lemmas.List.Folds.{list_any-append}
use Rattle.std.proofs.lemmas.Bool.{or_left, or_right}
use Rattle.ident_rules.specs.declared.key.Key.{Key}
use Rattle.ident_rules.specs.Key.{same_key, key_is, key_itself}
use Rattle.resource_schema.specs.declared.schema.Schema.{Schema}
use Rattle.world_cells.specs.declared.rows.Row.{Row}
use Rattle.world_cells.specs.World.{World, row_at, has_row, linked}
use Rattle.store_model.specs.Valid.{IsValid}
use Rattle.store_model.specs.Included.{has_key, step, along}
use Rattle.include_walk.specs.Sets.{Adds, AreSame}
use Rattle.include_walk.proofs.Adding.{has_both, or_assoc}

pub by_bool : {P : Type 0} (b : Bool) → (b ≡ true → P) → (b ≡ false → P) → P
by_bool true f g = f refl
by_bool false f g = g refl

pub by_either : {P : Type 0} (a b : Bool) → (a || b) ≡ true → (a ≡ true → P) → (b ≡ true → P) → P
by_either true b e f g = f refl
by_either false b e f g = g e

-- ---- tests of keys

same_test : (a b : Bool) → (a ≡ true → b ≡ true) → (b ≡ true → a ≡ true) → a ≡ b
same_test true b f g = sym (f refl)
same_test false true f g = g refl
same_test false false f g = refl

-- a key that is among some and passes
pub record IsPassed (p : Key → Bool) (keys : List Key) : Type 0 where
  pub key : Key
  pub among : has_key keys key ≡ true
  pub passes : p key ≡ true

passed : (p : Key → Bool) (keys : List Key) → list_any p keys ≡ true → IsPassed p keys
passed p [] e = cc e
passed p (k ∷ keys) e = by_either (p k) (list_any p keys) e
    (λ here. record { key = k; among = or_left _ _ (key_itself k); passes = here })
    (λ later. let h = passed p keys later in record { key = h.key; among = or_right (same_key h.key k) _ h.among; passes = h.passes })

pub passes : (p : Key → Bool) (keys : List Key) (key : Key) → has_key keys key ≡ true → p key ≡ true → list_any p keys ≡ true
passes p [] key among e = cc among
passes p (k ∷ keys) key among e = by_either (same_key key k) (list_any (same_key key) keys) among
    (λ same. or_left _ _ (ap p (sym (key_is key k same)) ∙ e))
    (λ later. or_right (p k) _ (passes p keys key later e))

any_same : (p : Key → Bool) (xs ys : List Key) → AreSame xs ys → list_any p xs ≡ list_any p ys
any_same p xs ys same = same_test (list_any p xs) (list_any p ys)
    (λ e. let h = passed p xs e in passes p ys h.key (sym (same h.key) ∙ h.among) h.passes)
    (λ e. let h = passed p ys e in passes p xs h.key (same h.key ∙ h.among) h.passes)

-- ---- steps

abbrev pub linked_from : Schema → World → ℕ → Key → List Key
linked_from schema w rel k = option_map_or (λ row. linked schema row rel) (row_at w k) []

has_flat : (f : Key → List Key) (keys : List Key) (q : Key) → has_key (flat_map f keys) q ≡ list_any (λ k. has_key (f k) q) keys
has_flat f [] q = refl
has_flat f (k ∷ keys) q = has_both (f k) (flat_map f keys) q ∙ ap (λ b. has_key (f k) q || b) (has_flat f keys q)

pub step_same : (schema : Schema) (w : World) (rel : ℕ) (xs ys : List Key) → AreSame xs ys → AreSame (step schema w rel xs) (step schema w rel ys)
step_same schema w rel xs ys same = λ q.
    has_flat (linked_from schema w rel) xs q ∙ any_same (λ k. has_key (linked_from schema w rel k) q) xs ys same ∙ sym (has_flat (linked_from schema w rel) ys q)

pub along_same : (schema : Schema) (w : World) (path : List ℕ) (xs ys : List Key) → AreSame xs ys → AreSame (along schema w path xs) (along schema w path ys)
along_same schema w [] xs ys same = λ q. refl
along_same schema w (rel ∷ path) xs ys same = λ q.
    let next = step_same schema w rel xs ys same in
    has_both (step schema w rel xs) (along schema w path (step schema w rel xs)) q
    ∙ ap (λ b. b || has_key (along schema w path (step schema w rel xs)) q) (next q)
    ∙ ap (λ b. has_key (step schema w rel ys) q || b) (along_same schema w path (step schema w rel xs) (step schema w rel ys) next q)
    ∙ sym (has_both (step schema w rel ys) (along schema w path (step schema w rel ys)) q)

flat_append : (f : Key → List Key) (xs ys : List Key) (q : Key) → has_key (flat_map f (xs ++ ys)) q ≡ (has_key (flat_map f xs) q || has_key (flat_map f ys) q)
flat_append f xs ys q = has_flat f (xs ++ ys) q ∙ list_any-append (λ k. has_key (f k) q) xs ys
    ∙ ap (λ b. b || list_any (λ k. has_key (f k) q) ys) (sym (has_flat f xs q)) ∙ ap (λ b. has_key (flat_map f xs) q || b) (sym (has_flat f ys q))

one_from : (f : Key → List Key) (k q : Key) → has_key (flat_map f (k ∷ [])) q ≡ has_key (f k) q
one_from f k q = ap (λ ks. has_key ks q) (append-nil (f k))

-- one key more
pub step_more : (schema : Schema) (w : World) (rel : ℕ) (keys next more : List Key) (i : ℕ) (key : Key) → i < length keys → key ≡ get_or keys i key → AreSame next (step schema w rel (take i keys)) → Adds next (linked_from schema w rel key) more
    → AreSame more (step schema w rel (take (i + 1) keys))
step_more schema w rel keys next more i key lt is so_far adds = λ q.
    adds q ∙ ap (λ b. b || has_key (linked_from schema w rel key) q) (so_far q)
    ∙ ap (λ b. has_key (step schema w rel (take i keys)) q || b) (sym (one_from (linked_from schema w rel) key q))
    ∙ sym (ap (λ ks. has_key (step schema w rel ks) q) (take_more keys i key lt ∙ ap (λ (k : Key). take i keys ++ k ∷ []) (sym is)) ∙ flat_append (linked_from schema w rel) (take i keys) (key ∷ []) q)

-- ---- where a step leads, there are rows

links_there : (schema : Schema) (w : World) (rel : ℕ) (k q : Key) (o : Option Row) → IsValid schema w → row_at w k ≡ o → has_key (option_map_or (λ row. linked schema row rel) o []) q ≡ true → has_row w q ≡ true
links_there schema w rel k q None valid e h = cc h
links_there schema w rel k q (Some row) valid e h = (valid.rows k row e).leads_to_rows rel q h

pub step_there : (schema : Schema) (w : World) (rel : ℕ) (keys : List Key) (q : Key) → IsValid schema w → has_key (step schema w rel keys) q ≡ true → has_row w q ≡ true
step_there schema w rel keys q valid e =
    let h = passed (λ k. has_key (linked_from schema w rel k) q) keys (sym (has_flat (linked_from schema w rel) keys q) ∙ e) in
    links_there schema w rel h.key q (row_at w h.key) valid refl h.passes

pub along_there : (schema : Schema) (w : World) (path : List ℕ) (keys : List Key) (q : Key) → IsValid schema w → has_key (along schema w path keys) q ≡ true → has_row w q ≡ true
along_there schema w [] keys q valid e = cc e
along_there schema w (rel ∷ path) keys q valid e =
    by_either (has_key (step schema w rel keys) q) (has_key (along schema w path (step schema w rel keys)) q) (sym (has_both (step schema w rel keys) (along schema w path (step schema w rel keys)) q) ∙ e)
    (λ here. step_there schema w rel keys q valid here)
    (λ later. along_there schema w path (step schema w rel keys) q valid later)
