-- Laws of reading: lists up to the first error, items and members, ids and names, and what a reading that succeeded tells.
use Rattle.std.proofs.Common.{ap, sym, ◌∙◌, ◌≡◌, ℕ, ◌<◌, ◌≤◌, ◌==◌, Bool, true, false, List, length, refl, arith, Some, None, Err, Option}
use Rattle.std.proofs.Math.Seq.{drop-cons}
use Rattle.std.proofs.lemmas.Bool.Decides.{nat_tests}
use Rattle.std.proofs.lemmas.List.{take_all, map-append, take-append-drop, append_assoc, append-nil}
use Rattle.std.specs.Global.{Global}
use Rattle.std.specs.List.{AllZip}
use Rattle.std.specs.Option.{ok_or}
use Rattle.std.specs.Prelude.{suc, [], ◌∷◌, ◌++◌, map, take, drop, get_or, Result, Ok, String, string_bytes, nat_lt, if◌then◌else◌, not, option_map, option_and_then, ⊤}
use Rattle.std.specs.Result.{result_ok}
use Rattle.error_objects.specs.declared.refusals.Refusal.{Refusal}
use Rattle.http_messages.specs.declared.messages.Reply.{Reply}
use Rattle.ident_rules.specs.Id.{is_id, is_id_byte, bad_place, read_id}
use Rattle.ident_rules.specs.IdLaws.{is_id-holds, list_all-from_position, bad_place-is_id, length-is_id-le, length-is_id-pos}
use Rattle.ident_rules.specs.Name.{is_name, bad_name_place, read_name}
use Rattle.ident_rules.specs.NameLaws.{is_id-is_name, is_name-holds, bad_name_place-is_name}
use Rattle.json_forms.specs.Json.{items_list, members_list}
use Rattle.request_model.specs.Plans.{or_reply, plan_by}
use Rattle.request_model.specs.Results.{◌>>=◌, ◌>>◌, err_if}
use Rattle.request_model.specs.Words.{all_ok, result_map, some_if, all_some}
use Rattle.serde_json.specs.Data.{Data}
use Rattle.serde_json.specs.View.{items_of, members_of}
use Rattle.task_forms.specs.declared.tasks.Plan.TheVariants.{Run}
use Rattle.task_forms.specs.declared.tasks.Task.{Task}
use Rattle.ident_rules.specs.declared.id.IdFault.TheVariants as id
use Rattle.ident_rules.specs.declared.name.NameFault.TheVariants as name
use Rattle.ident_rules.specs.Id as ids
use Rattle.ident_rules.specs.Name as names
use Rattle.request_model.specs.Options as option

-- ---- lists that are read up to the first error

-- where each was read
pub all_ok-map : {A E : Type 0} (xs : List A) → all_ok {E = E} (map Ok xs) ≡ Ok xs
all_ok-map [] = refl
all_ok-map (x ∷ xs) = ap (result_map (λ ys. x ∷ ys)) (all_ok-map xs)

-- where those before an error were read
pub all_ok-err : {A E : Type 0} (xs : List A) (e : E) (rest : List (Result A E)) → all_ok (map Ok xs ++ Err e ∷ rest) ≡ Err e
all_ok-err [] e rest = refl
all_ok-err (x ∷ xs) e rest = ap (result_map (λ ys. x ∷ ys)) (all_ok-err xs e rest)

module _ {X A E : Type 0} (f : X → Result A E) (items : List X) where
  -- a loop has read all items
  pub all_ok-done : (n : ℕ) (xs : List A) → map Ok xs ≡ map f (take n items) → length items ≤ n → all_ok (map f items) ≡ Ok xs
  all_ok-done n xs so_far over =
      ap (λ l. all_ok (map f l)) (sym (take_all n items over)) ∙ ap all_ok (sym so_far) ∙ all_ok-map xs

  -- a loop has read n items, and the next one is refused
  pub all_ok-stop : (n : ℕ) (xs : List A) (x : X) (e : E) → map Ok xs ≡ map f (take n items) → n < length items → x ≡ get_or items n x → f x ≡ Err e → all_ok (map f items) ≡ Err e
  all_ok-stop n xs x e so_far more item bad =
      let rest : map f (drop n items) ≡ Err e ∷ map f (drop (suc n) items) =
      ap (map f) (drop-cons items n x more) ∙ ap (λ r. r ∷ map f (drop (suc n) items)) (ap f (sym item) ∙ bad) in
      let whole : map f items ≡ map Ok xs ++ Err e ∷ map f (drop (suc n) items) =
      ap (map f) (sym (take-append-drop n items)) ∙ map-append f (take n items) (drop n items)
      ∙ ap (λ l. l ++ map f (drop n items)) (sym so_far) ∙ ap (λ l. map Ok xs ++ l) rest in
      ap all_ok whole ∙ all_ok-err xs e (map f (drop (suc n) items))

-- what was read, before what is left to be read
abbrev pub onto : {A E : Type 0} → List A → Result (List A) E → Result (List A) E
onto xs r = result_map (λ ys. xs ++ ys) r

onto-nil : {A E : Type 0} (r : Result (List A) E) → r ≡ onto [] r
onto-nil (Ok xs) = refl
onto-nil (Err e) = refl

onto-first : {A E : Type 0} (xs : List A) (x : A) (r : Result (List A) E) → onto xs (result_map (λ ys. x ∷ ys) r) ≡ onto (xs ++ x ∷ []) r
onto-first xs x (Ok ys) = ap Ok (sym (append_assoc xs (x ∷ []) ys))
onto-first xs x (Err e) = refl

-- a loop that sees the items that are left
module _ {X A E : Type 0} (f : X → Result A E) (items : List X) where
  -- it begins
  pub rest-begin : all_ok (map f items) ≡ onto [] (all_ok (map f items))
  rest-begin = onto-nil (all_ok (map f items))

  module _ (xs : List A) (left : List X) (so_far : all_ok (map f items) ≡ onto xs (all_ok (map f left))) where
    -- it has read an item
    pub rest-more : (i : X) (more : List X) (x : A) → left ≡ i ∷ more → f i ≡ Ok x → all_ok (map f items) ≡ onto (xs ++ x ∷ []) (all_ok (map f more))
    rest-more i more x here good =
        so_far ∙ ap (λ l. onto xs (all_ok (map f l))) here
        ∙ ap (λ r. onto xs (all_ok (r ∷ map f more))) good
        ∙ onto-first xs x (all_ok (map f more))

    -- the next item is refused
    pub rest-stop : (i : X) (more : List X) (e : E) → left ≡ i ∷ more → f i ≡ Err e → all_ok (map f items) ≡ Err e
    rest-stop i more e here bad =
        so_far ∙ ap (λ l. onto xs (all_ok (map f l))) here
        ∙ ap (λ r. onto xs (all_ok (r ∷ map f more))) bad

    -- none is left
    pub rest-end : left ≡ [] → all_ok (map f items) ≡ Ok xs
    rest-end here = so_far ∙ ap (λ l. onto xs (all_ok (map f l))) here ∙ ap Ok (append-nil xs)

-- ---- items and members of a value

-- the items of an array that was made of a list
pub items_list-items_of : (ds : List Data) → items_list (items_of ds) ≡ ds
items_list-items_of [] = refl
items_list-items_of (d ∷ ds) = ap (λ es. d ∷ es) (items_list-items_of ds)

-- the members of an object that was made of a map's entries
pub members_list-members_of : (ms : List (String Global × Data)) → members_list (members_of ms) ≡ map (λ m. (string_bytes m.0, m.1)) ms
members_list-members_of [] = refl
members_list-members_of (m ∷ ms) = ap (λ es. (string_bytes m.0, m.1) ∷ es) (members_list-members_of ms)

-- ---- ids and names

none_if : (b : Bool) (text : List ℕ) → (b ≡ true → ⊥) → None ≡ some_if b text
none_if true text never = absurd (never refl)
none_if false text never = refl

-- an id, or none
pub id_or_none : (text : List ℕ) → result_ok (read_id text) ≡ some_if (is_id text) text
id_or_none text = by_none (length text == 0) refl
  where
    by_place : (p : Option ℕ) → bad_place text ≡ p → 0 < length text → length text ≤ 64 → result_ok (ids.or_bad_byte text p) ≡ some_if (is_id text) text
    by_place None e some fits = sym (ap (λ b. some_if b text) (is_id-holds text some fits (list_all-from_position is_id_byte text e)))
    by_place (Some place) e some fits = none_if (is_id text) text (λ i. let n = bad_place-is_id text i in cc)

    by_long : (b : Bool) → nat_lt 64 (length text) ≡ b → 0 < length text → result_ok (if b then Err id.TooLong else ids.or_bad_byte text (bad_place text)) ≡ some_if (is_id text) text
    by_long true e some = none_if (is_id text) text (λ i. let n = length-is_id-le text i in let m : 64 < length text = grind (arith, nat_tests) in absurd (omega (arith, n, m)))
    by_long false e some = let n : length text ≤ 64 = grind (arith, nat_tests) in by_place (bad_place text) refl some n

    by_none : (b : Bool) → (length text == 0) ≡ b → result_ok (if b then Err id.Empty else (if nat_lt 64 (length text) then Err id.TooLong else ids.or_bad_byte text (bad_place text))) ≡ some_if (is_id text) text
    by_none true e = none_if (is_id text) text (λ i. let n = length-is_id-pos text i in let m : length text ≡ 0 = grind (arith, nat_tests) in absurd (omega (arith, n, m)))
    by_none false e = let n : 0 < length text = grind (arith, nat_tests) in by_long (nat_lt 64 (length text)) refl n

-- a name, or none
pub name_or_none : (text : List ℕ) → result_ok (read_name text) ≡ some_if (is_name text) text
name_or_none text = by_none (length text == 0) refl
  where
    by_place : (p : Option ℕ) → bad_name_place text ≡ p → 0 < length text → length text ≤ 64 → result_ok (names.or_bad_name_byte text p) ≡ some_if (is_name text) text
    by_place None e some fits = sym (ap (λ b. some_if b text) (is_name-holds text some fits e))
    by_place (Some place) e some fits = none_if (is_name text) text (λ i. let n = bad_name_place-is_name text i in cc)

    by_long : (b : Bool) → nat_lt 64 (length text) ≡ b → 0 < length text → result_ok (if b then Err name.TooLong else names.or_bad_name_byte text (bad_name_place text)) ≡ some_if (is_name text) text
    by_long true e some = none_if (is_name text) text (λ i. let n = length-is_id-le text (is_id-is_name text i) in let m : 64 < length text = grind (arith, nat_tests) in absurd (omega (arith, n, m)))
    by_long false e some = let n : length text ≤ 64 = grind (arith, nat_tests) in by_place (bad_name_place text) refl some n

    by_none : (b : Bool) → (length text == 0) ≡ b → result_ok (if b then Err name.Empty else (if nat_lt 64 (length text) then Err name.TooLong else names.or_bad_name_byte text (bad_name_place text))) ≡ some_if (is_name text) text
    by_none true e = none_if (is_name text) text (λ i. let n = length-is_id-pos text (is_id-is_name text i) in let m : length text ≡ 0 = grind (arith, nat_tests) in absurd (omega (arith, n, m)))
    by_none false e = let n : 0 < length text = grind (arith, nat_tests) in by_long (nat_lt 64 (length text)) refl n

-- ---- what a reading that succeeded tells of its parts

pub bind-Ok : {A B E : Type 0} (r : Result A E) (f : A → Result B E) (y : B) → ◌>>=◌ r f ≡ Ok y → (x : A) × (r ≡ Ok x) × (f x ≡ Ok y)
bind-Ok (Ok x) f y e = (x, refl, e)
bind-Ok (Err r) f y e = cc e

pub then-Ok : {A B E : Type 0} (r : Result A E) (s : Result B E) (y : B) → ◌>>◌ r s ≡ Ok y → (x : A) × (r ≡ Ok x) × (s ≡ Ok y)
then-Ok (Ok x) s y e = (x, refl, e)
then-Ok (Err r) s y e = cc e

pub map-Ok : {A B E : Type 0} (f : A → B) (r : Result A E) (y : B) → result_map f r ≡ Ok y → (x : A) × (r ≡ Ok x) × (f x ≡ y)
map-Ok f (Ok x) y e = (x, refl, cc e)
map-Ok f (Err r) y e = cc e

pub err_if-Ok : {E : Type 0} (b : Bool) (r : E) (t : ⊤) → err_if b r ≡ Ok t → b ≡ false
err_if-Ok true r t e = cc e
err_if-Ok false r t e = refl

-- a test that is negated
pub negated : (b : Bool) → not b ≡ false → b ≡ true
negated true e = refl
negated false e = cc e

pub ok_or-Ok : {A E : Type 0} (o : Option A) (r : E) (x : A) → ok_or o r ≡ Ok x → o ≡ Some x
ok_or-Ok None r x e = cc e
ok_or-Ok (Some y) r x e = cc e

pub bind-Some : {A B : Type 0} (o : Option A) (f : A → Option B) (y : B) → option.◌>>=◌ o f ≡ Some y → (x : A) × (o ≡ Some x) × (f x ≡ Some y)
bind-Some None f y e = cc e
bind-Some (Some x) f y e = (x, refl, e)

pub and_then-Some : {A B : Type 0} (f : A → Option B) (o : Option A) (y : B) → option_and_then f o ≡ Some y → (x : A) × (o ≡ Some x) × (f x ≡ Some y)
and_then-Some f None y e = cc e
and_then-Some f (Some x) y e = (x, refl, e)

pub map-Some : {A B : Type 0} (f : A → B) (o : Option A) (y : B) → option_map f o ≡ Some y → (x : A) × (o ≡ Some x) × (f x ≡ y)
map-Some f None y e = cc e
map-Some f (Some x) y e = (x, refl, cc e)

pub some_if-Some : {A : Type 0} (b : Bool) (x y : A) → some_if b x ≡ Some y → (b ≡ true) × (x ≡ y)
some_if-Some true x y e = (refl, cc e)
some_if-Some false x y e = cc e

pub some_or_none : {A : Type 0} (b : Bool) (o : Option A) (y : A) → (if b then o else None) ≡ Some y → (b ≡ true) × (o ≡ Some y)
some_or_none true o y e = (refl, e)
some_or_none false o y e = cc e

-- each was read
pub all_ok-zip : {X A E : Type 0} (f : X → Result A E) (xs : List X) (ys : List A) → all_ok (map f xs) ≡ Ok ys → AllZip (λ x y. f x ≡ Ok y) xs ys
all_ok-zip f [] [] e = tt
all_ok-zip f [] (y ∷ ys) e = cc e
all_ok-zip {X} {A} {E} f (x ∷ xs) ys e = by_first (f x) refl e (all_ok-zip f xs) where
  by_first : (r : Result A E) → f x ≡ r → all_ok (r ∷ map f xs) ≡ Ok ys → ((zs : List A) → all_ok (map f xs) ≡ Ok zs → AllZip (λ x y. f x ≡ Ok y) xs zs) → AllZip (λ x y. f x ≡ Ok y) (x ∷ xs) ys
  by_first (Err r) is e others = cc e
  by_first (Ok y) is e others =
      let rest = map-Ok (λ zs. y ∷ zs) (all_ok (map f xs)) ys e in
      rw (sym rest.2) (is, others rest.0 rest.1)

-- each was there
pub all_some-zip : {X A : Type 0} (f : X → Option A) (xs : List X) (ys : List A) → all_some (map f xs) ≡ Some ys → AllZip (λ x y. f x ≡ Some y) xs ys
all_some-zip f [] [] e = tt
all_some-zip f [] (y ∷ ys) e = cc e
all_some-zip {X} {A} f (x ∷ xs) ys e = by_first (f x) refl e (all_some-zip f xs) where
  by_first : (o : Option A) → f x ≡ o → all_some (o ∷ map f xs) ≡ Some ys → ((zs : List A) → all_some (map f xs) ≡ Some zs → AllZip (λ x y. f x ≡ Some y) xs zs) → AllZip (λ x y. f x ≡ Some y) (x ∷ xs) ys
  by_first None is e others = cc e
  by_first (Some y) is e others =
      let rest = map-Some (λ zs. y ∷ zs) (all_some (map f xs)) ys e in
      rw (sym rest.2) (is, others rest.0 rest.1)

pub or_reply-Ok : {A : Type 0} (r : Result A Refusal) (x : A) → or_reply r ≡ Ok x → r ≡ Ok x
or_reply-Ok (Ok y) x e = cc e
or_reply-Ok (Err r) x e = cc e

pub run-Ok : (r : Result Task Reply) (t : Task) → plan_by r ≡ Run t → r ≡ Ok t
run-Ok (Ok x) t e = cc e
run-Ok (Err reply) t e = cc e
