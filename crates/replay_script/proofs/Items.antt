-- A walk over a list adds its items one by one, as an array.
use Rattle.std.proofs.Common.{◌≡◌, ℕ, suc, ◌+◌, ◌<◌, ◌≤◌, Bool, false, true, List, [], ◌∷◌, ◌++◌, map, length, drop, get_or, refl, sym, ap, ◌∙◌, add-one, drop-cons, append_assoc}
use Rattle.std.proofs.lemmas.List.{drop_all, get_or_default}
use Rattle.std.specs.declared.option.Option.{Option}
use Rattle.serde_json.specs.Data.{Data}
use Rattle.serde_json.specs.View.{items_of}
use Rattle.serde_json.specs.Written.{comma_if, compact_text, items_text}
use Rattle.json_texts.specs.Drafts.{Adds, Leaves}
use Rattle.json_texts.specs.DraftLaws.{leaves_all, leaves_less, leaves_none}
use Rattle.replay_script.specs.Reports.{array_data}

-- what is left of a list begins with its item at that place
pub drop_next : {A : Type 0} (xs : List A) (i : ℕ) (x : A) → i < length xs → x ≡ get_or xs i x → drop i xs ≡ x ∷ drop (i + 1) xs
drop_next xs i x h is = rw (add-one, drop-cons xs i x) (ap (λ y. y ∷ drop (suc i) xs) (sym is))

module _ {A : Type 0} (f : A → Data) (xs : List A) where
  -- what is left of the text, from the item at a place
  abbrev pub left_from : Bool → ℕ → List ℕ
  left_from later i = items_text later (items_of (map f (drop i xs)))

  abbrev pub Goes : Option (List ℕ) → Option (List ℕ) → Bool → ℕ → Type 0
  Goes start now later i = Leaves start now (left_from later i) (compact_text (array_data f xs))

  pub begun : {start now : Option (List ℕ)} → Adds start now (91 ∷ []) → Goes start now false 0
  begun wrote = leaves_less leaves_all wrote refl

  pub turn : {start old new : Option (List ℕ)} (i : ℕ) (x : A) (later : Bool) → i < length xs → x ≡ get_or xs i x
      → Goes start old later i → Adds old new (comma_if later ++ compact_text (f x)) → Goes start new true (i + 1)
  turn i x later h is so_far wrote =
      leaves_less so_far wrote (ap (λ l. items_text later (items_of (map f l))) (drop_next xs i x h is)
      ∙ sym (append_assoc (comma_if later) (compact_text (f x)) (items_text true (items_of (map f (drop (i + 1) xs))))))

  -- an item that is read at its place
  pub turn_at : {start old new : Option (List ℕ)} (i : ℕ) (d : A) (later : Bool) → i < length xs
      → Goes start old later i → Adds old new (comma_if later ++ compact_text (f (get_or xs i d))) → Goes start new true (i + 1)
  turn_at i d later h so_far wrote = turn i (get_or xs i d) later h (get_or_default xs i d (get_or xs i d) h) so_far wrote

  pub ended : {start old new : Option (List ℕ)} (i : ℕ) (later : Bool) → length xs ≤ i → Goes start old later i → Adds old new (93 ∷ []) → Adds start new (compact_text (array_data f xs))
  ended i later h so_far wrote = leaves_none (leaves_less so_far wrote (ap (λ l. items_text later (items_of (map f l))) (drop_all i xs h))) refl
