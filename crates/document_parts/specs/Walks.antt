-- The members of an object, as a walk over a map sees them.
use Rattle.std.proofs.Common.{◌≡◌, ℕ, List, [], ◌∷◌, ◌++◌, map, Result, Ok, Err, Option, Some, None, Bool, true, cond, filter, ap, sym, ◌∙◌}
use Rattle.std.specs.Prelude.{String, string_bytes}
use Rattle.std.specs.Borrow.{Bor}
use Rattle.std.specs.BTreeMap.{BTreeMap}
use Rattle.std.specs.declared.alloc.Global.{Global}
use Rattle.std.specs.Map.Iter.{TakesFirst, deref_pair}
use Rattle.std.proofs.lemmas.Map.Iter.{rest_more, rest_all}
use Rattle.serde_json.specs.Data.{Data}
use Rattle.serde_json.specs.View.{view, members_view}
use Rattle.serde_json.specs.declared.value.Value.{Value}
use Rattle.json_forms.specs.Json.{members_list}
use Rattle.request_model.specs.Words.{all_ok}
use Rattle.request_model.specs.ReadingLaws.{onto, rest-begin, rest-more, rest-stop, rest-end}

-- the names and values of entries
abbrev pub seen : List (String Global × Value) → List (List ℕ × Data)
seen es = members_list (members_view es)

-- the names and values of a map
abbrev pub members_in : BTreeMap (String Global) Value → List (List ℕ × Data)
members_in m = seen m.entries

-- ---- a walk that reads each member, up to the first error

-- it begins
pub step-begin : {A E : Type 0} (f : List ℕ × Data → Result A E) (es left : List (String Global × Value)) (xs : List A) → left ≡ es → xs ≡ [] → all_ok (map f (seen es)) ≡ onto xs (all_ok (map f (seen left)))
step-begin f es left xs same none = rest-begin f (seen es) ∙ ap (λ l. onto [] (all_ok (map f (seen l)))) (sym same) ∙ ap (λ l. onto l (all_ok (map f (seen left)))) (sym none)

module _ {A E : Type 0} (f : List ℕ × Data → Result A E) (all : List (List ℕ × Data)) (xs : List A) (left rest : List (String Global × Value))
    (so_far : all_ok (map f all) ≡ onto xs (all_ok (map f (seen left)))) where
  -- a member was read
  pub step-more : (next : Option (Bor (String Global) × Bor Value)) (m : Bor (String Global) × Bor Value) (x : A) (ys : List A) (text : List ℕ) → next ≡ Some m → TakesFirst deref_pair left next rest
      → text ≡ string_bytes m.0.now → f (text, view m.1.now) ≡ Ok x → ys ≡ xs ++ x ∷ [] → all_ok (map f all) ≡ onto ys (all_ok (map f (seen rest)))
  step-more next m x ys text is steps named good grown = rw grown (rest-more f all xs (seen left) so_far _ (seen rest) x (ap seen (rest_more deref_pair left rest next m is steps)) (rw (sym named) good))

  -- a member is refused
  pub step-stop : (next : Option (Bor (String Global) × Bor Value)) (m : Bor (String Global) × Bor Value) (e : E) (text : List ℕ) → next ≡ Some m → TakesFirst deref_pair left next rest
      → text ≡ string_bytes m.0.now → f (text, view m.1.now) ≡ Err e → all_ok (map f all) ≡ Err e
  step-stop next m e text is steps named bad = rest-stop f all xs (seen left) so_far _ (seen rest) e (ap seen (rest_more deref_pair left rest next m is steps)) (rw (sym named) bad)

  -- no member is left
  pub step-end : (next : Option (Bor (String Global) × Bor Value)) → next ≡ None → TakesFirst deref_pair left next rest → all_ok (map f all) ≡ Ok xs
  step-end next is steps = rest-end f all xs (seen left) so_far (ap seen (rest_all deref_pair left rest next is steps))

-- ---- a walk that reads each member that passes a test

kept : (t : List ℕ × Data → Bool) (m : List ℕ × Data) (ms : List (List ℕ × Data)) → t m ≡ true → filter t (m ∷ ms) ≡ m ∷ filter t ms
kept t m ms passes = ap (λ b. cond b (m ∷ filter t ms) (filter t ms)) passes

-- a member that passes was read
pub kept-more : {A E : Type 0} (t : List ℕ × Data → Bool) (f : List ℕ × Data → Result A E) (all : List (List ℕ × Data)) (xs : List A) (left rest : List (String Global × Value))
    → all_ok (map f all) ≡ onto xs (all_ok (map f (filter t (seen left))))
    → (next : Option (Bor (String Global) × Bor Value)) (m : Bor (String Global) × Bor Value) (x : A) (ys : List A) (text : List ℕ) → next ≡ Some m → TakesFirst deref_pair left next rest
    → text ≡ string_bytes m.0.now → t (text, view m.1.now) ≡ true → f (text, view m.1.now) ≡ Ok x → ys ≡ xs ++ x ∷ [] → all_ok (map f all) ≡ onto ys (all_ok (map f (filter t (seen rest))))
kept-more t f all xs left rest so_far next m x ys text is steps named passes good grown =
    rw grown (rest-more f all xs (filter t (seen left)) so_far _ (filter t (seen rest)) x (ap (λ es. filter t (seen es)) (rest_more deref_pair left rest next m is steps) ∙ kept t _ (seen rest) (rw (sym named) passes)) (rw (sym named) good))
