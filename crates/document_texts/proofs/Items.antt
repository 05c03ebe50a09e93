-- A walk over the items of an array adds them one by one.
use Rattle.std.proofs.Common.{◌≡◌, ℕ, suc, ◌+◌, ◌<◌, ◌≤◌, Bool, true, List, [], ◌∷◌, ◌++◌, map, length, drop, get_or, refl, sym, ap, ◌∙◌, add-one, drop-cons, append_assoc}
use Rattle.std.proofs.lemmas.List.{drop_all}
use Rattle.std.specs.declared.option.Option.{Option}
use Rattle.serde_json.specs.Data.{Data}
use Rattle.serde_json.specs.Written.{comma_if, compact_text}
use Rattle.json_texts.specs.Drafts.{Adds, Leaves}
use Rattle.json_texts.specs.DraftLaws.{leaves_less, leaves_none}
use Rattle.document_texts.specs.Texts.{items_left}

module _ {A : Type 0} (f : A → Data) where
  drop_next : (xs : List A) (i : ℕ) (x : A) → i < length xs → x ≡ get_or xs i x → drop i xs ≡ x ∷ drop (i + 1) xs
  drop_next xs i x h is = rw (add-one, drop-cons xs i x) (ap (λ y. y ∷ drop (suc i) xs) (sym is))

  pub items-turn : {start old new : Option (List ℕ)} {whole : List ℕ} (xs : List A) (i : ℕ) (x : A) (later : Bool) → i < length xs → x ≡ get_or xs i x
      → Leaves start old (items_left later (map f (drop i xs))) whole
      → Adds old new (comma_if later ++ compact_text (f x))
      → Leaves start new (items_left true (map f (drop (i + 1) xs))) whole
  items-turn xs i x later h is so_far wrote =
      leaves_less so_far wrote (ap (λ l. items_left later (map f l)) (drop_next xs i x h is) ∙ sym (append_assoc (comma_if later) (compact_text (f x)) (items_left true (map f (drop (i + 1) xs)))))

  pub items-end : {start old new : Option (List ℕ)} {whole : List ℕ} (xs : List A) (i : ℕ) (later : Bool) → length xs ≤ i
      → Leaves start old (items_left later (map f (drop i xs))) whole → Adds old new (93 ∷ []) → Adds start new whole
  items-end xs i later h so_far wrote = leaves_none (leaves_less so_far wrote (ap (λ l. items_left later (map f l)) (drop_all i xs h))) refl
