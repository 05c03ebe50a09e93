-- Sets of keys that grow and shrink, one key after another.
use Rattle.std.proofs.Common.{◌≡◌, ℕ, ◌+◌, ◌<◌, List, [], ◌∷◌, ◌++◌, Bool, true, false, cond, length, get_or, map, take, refl, sym, ap, subst, ◌∙◌}
use Rattle.std.specs.Prelude.{◌||◌, ◌&&◌, not}
use Rattle.std.specs.List.{list_any}
use Rattle.std.proofs.lemmas.List.{take_more, map-append}
use Rattle.std.proofs.lemmas.List.Folds.{list_any-append}
use Rattle.ident_rules.specs.declared.key.Key.{Key}
use Rattle.ident_rules.specs.Key.{same_key, turned_key}
use Rattle.store_model.specs.Included.{has_key}
use Rattle.include_walk.specs.Sets.{Adds, Takes, of_kind}

pub or_false : (b : Bool) → (b || false) ≡ b
or_false true = refl
or_false false = refl

pub or_assoc : (a b c : Bool) → ((a || b) || c) ≡ (a || (b || c))
or_assoc true b c = refl
or_assoc false b c = refl

pub has_both : (xs ys : List Key) (q : Key) → has_key (xs ++ ys) q ≡ (has_key xs q || has_key ys q)
has_both xs ys q = list_any-append (same_key q) xs ys

-- ---- one key

put_in : (a b s t : Bool) → s ≡ t → a ≡ cond s true b → a ≡ (b || (t || false))
put_in a true true t e is = is
put_in a true false t e is = is
put_in a false true t e is = is ∙ ap (λ x. x || false) e
put_in a false false t e is = is ∙ ap (λ x. x || false) e

pub inserted : (old new : List Key) (key : Key) → ((q : Key) → has_key new q ≡ cond (same_key key q) true (has_key old q)) → Adds old (key ∷ []) new
inserted old new key is = λ q. put_in (has_key new q) (has_key old q) (same_key key q) (same_key q key) (turned_key key q) (is q)

take_out : (a b s t : Bool) → s ≡ t → a ≡ cond s false b → a ≡ (b && not (t || false))
take_out a true true t e is = is ∙ ap (λ x. not (x || false)) e
take_out a true false t e is = is ∙ ap (λ x. not (x || false)) e
take_out a false true t e is = is
take_out a false false t e is = is

pub removed : (old new : List Key) (key : Key) → ((q : Key) → has_key new q ≡ cond (same_key key q) false (has_key old q)) → Takes old (key ∷ []) new
removed old new key is = λ q. take_out (has_key new q) (has_key old q) (same_key key q) (same_key q key) (turned_key key q) (is q)

-- ---- more keys

pub adds_nothing : (a : List Key) → Adds a [] a
adds_nothing a = λ q. sym (or_false (has_key a q))

pub adds_on : (a b c xs ys : List Key) → Adds a xs b → Adds b ys c → Adds a (xs ++ ys) c
adds_on a b c xs ys f g = λ q. g q ∙ ap (λ t. t || has_key ys q) (f q) ∙ or_assoc (has_key a q) (has_key xs q) (has_key ys q) ∙ ap (λ t. has_key a q || t) (sym (has_both xs ys q))

next_key : (keys : List Key) (i : ℕ) (key : Key) → i < length keys → key ≡ get_or keys i key → take i keys ++ key ∷ [] ≡ take (i + 1) keys
next_key keys i key lt is = ap (λ (k : Key). take i keys ++ k ∷ []) is ∙ sym (take_more keys i key lt)

pub adds_more : (a b c keys : List Key) (i : ℕ) (key : Key) → i < length keys → key ≡ get_or keys i key → Adds a (take i keys) b → Adds b (key ∷ []) c → Adds a (take (i + 1) keys) c
adds_more a b c keys i key lt is f g = subst (λ (ks : List Key). Adds a ks c) (next_key keys i key lt is) (adds_on a b c (take i keys) (key ∷ []) f g)

pub adds_id_more : (a b c : List Key) (kind : ℕ) (ids : List (List ℕ)) (i : ℕ) (id : List ℕ) → i < length ids → id ≡ get_or ids i id → Adds a (of_kind kind (take i ids)) b → Adds b (record { kind = kind; id = id } ∷ []) c → Adds a (of_kind kind (take (i + 1) ids)) c
adds_id_more a b c kind ids i id lt is f g =
    subst (λ (ks : List Key). Adds a ks c)
    (sym (ap (of_kind kind) (take_more ids i id lt ∙ ap (λ (x : List ℕ). take i ids ++ x ∷ []) (sym is)) ∙ map-append _ (take i ids) (id ∷ [])))
    (adds_on a b c (of_kind kind (take i ids)) (record { kind = kind; id = id } ∷ []) f g)

and_true : (b : Bool) → (b && true) ≡ b
and_true true = refl
and_true false = refl

both_out : (a x y : Bool) → ((a && not x) && not y) ≡ (a && not (x || y))
both_out true true y = refl
both_out true false y = refl
both_out false x y = refl

pub takes_nothing : (a : List Key) → Takes a [] a
takes_nothing a = λ q. sym (and_true (has_key a q))

pub takes_more : (a b c keys : List Key) (i : ℕ) (key : Key) → i < length keys → key ≡ get_or keys i key → Takes a (take i keys) b → Takes b (key ∷ []) c → Takes a (take (i + 1) keys) c
takes_more a b c keys i key lt is f g = subst (λ (ks : List Key). Takes a ks c) (next_key keys i key lt is)
    (λ q. g q ∙ ap (λ t. t && not (has_key (key ∷ []) q)) (f q) ∙ both_out (has_key a q) (has_key (take i keys) q) (has_key (key ∷ []) q)
    ∙ ap (λ t. has_key a q && not t) (sym (has_both (take i keys) (key ∷ []) q)))
