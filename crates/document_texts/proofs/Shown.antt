-- A walk over the fields adds the members that are shown, one by one.
use Rattle.std.proofs.Common.{◌≡◌, ◌⊎◌, inl, inr, ℕ, Bool, true, false, cond, ◌||◌, List, [], ◌∷◌, ◌++◌, map, refl, sym, ap, ◌∙◌, append_assoc, append-nil}
use Rattle.std.specs.List.{filter, zip}
use Rattle.std.specs.Prelude.{codes}
use Rattle.std.specs.declared.option.Option.{Option}
use Rattle.json.specs.Print.{quoted}
use Rattle.serde_json.specs.Data.{Data}
use Rattle.serde_json.specs.Written.{compact_text, members_text}
use Rattle.store_model.specs.Resource.{members_of}
use Rattle.json_texts.specs.Drafts.{Adds, Leaves}
use Rattle.json_texts.specs.DraftLaws.{leaves_less, leaves_none}
use Rattle.document_texts.specs.Texts.{opening, shown_text, shown_if, left_of, closing}

regroup : (o q c m e : List ℕ) → o ++ ((q ++ 58 ∷ (c ++ m)) ++ e) ≡ (o ++ (q ++ 58 ∷ c)) ++ (m ++ e)
regroup o q c m e =
    ap (λ l. o ++ l) (append_assoc q (58 ∷ (c ++ m)) e ∙ ap (λ l. q ++ 58 ∷ l) (append_assoc c m e) ∙ sym (append_assoc q (58 ∷ c) (m ++ e)))
    ∙ sym (append_assoc o (q ++ 58 ∷ c) (m ++ e))

-- the next member is added
left_of-shown : (name : List ℕ) (begun : Bool) (m : List ℕ × Data) (ms : List (List ℕ × Data)) → left_of name begun (m ∷ ms) ≡ shown_text name begun m.0 m.1 ++ left_of name true ms
left_of-shown name true m ms = regroup (44 ∷ []) (quoted m.0) (compact_text m.1) (members_text true (members_of ms)) (codes ",")
left_of-shown name false m ms = regroup (opening name false) (quoted m.0) (compact_text m.1) (members_text true (members_of ms)) (codes ",")

-- so it is, where it is shown
pub left_of-next : (name : List ℕ) (shown begun : Bool) (m : List ℕ × Data) (ms : List (List ℕ × Data))
    → left_of name begun (cond shown (m ∷ ms) ms) ≡ shown_if shown name begun m.0 m.1 ++ left_of name (begun || shown) ms
left_of-next name true true m ms = left_of-shown name true m ms
left_of-next name true false m ms = left_of-shown name false m ms
left_of-next name false true m ms = refl
left_of-next name false false m ms = refl

pub left_of-end : (name : List ℕ) (begun : Bool) → left_of name begun [] ≡ closing begun
left_of-end name true = refl
left_of-end name false = refl

-- ---- the walk, with xs and ys left

module _ {A B : Type 0} (name : List ℕ) (key : A → List ℕ) (f : A × B → Data) (p : A × B → Bool) where
  -- the members of what stands side by side, some of them
  abbrev pub shown : List A → List B → List (List ℕ × Data)
  shown xs ys = map (λ e. (key e.0, f e)) (filter p (zip xs ys))

  shown-first : (x : A) (xs : List A) (y : B) (ys : List B) → shown (x ∷ xs) (y ∷ ys) ≡ cond (p (x, y)) ((key x, f (x, y)) ∷ shown xs ys) (shown xs ys)
  shown-first x xs y ys = elim (p (x, y)) as (λ b. map (λ e. (key e.0, f e)) (cond b ((x, y) ∷ filter p (zip xs ys)) (filter p (zip xs ys))) ≡ cond b ((key x, f (x, y)) ∷ shown xs ys) (shown xs ys)) [ true ↦ refl | false ↦ refl ]

  pub shown-turn : {start old new : Option (List ℕ)} {whole : List ℕ} (x : A) (xs left : List A) (y : B) (ys others : List B) (begun now is : Bool)
      → left ≡ x ∷ xs → others ≡ y ∷ ys → is ≡ p (x, y) → now ≡ (begun || is)
      → Adds old new (shown_if is name begun (key x) (f (x, y)))
      → Leaves start old (left_of name begun (shown left others)) whole
      → Leaves start new (left_of name now (shown xs ys)) whole
  shown-turn x xs left y ys others begun now is first second test later wrote so_far =
      let split : left_of name begun (shown left others) ≡ shown_if is name begun (key x) (f (x, y)) ++ left_of name now (shown xs ys) =
      (λ i. left_of name begun (shown (first i) (second i))) ∙ ap (left_of name begun) (shown-first x xs y ys)
      ∙ left_of-next name (p (x, y)) begun (key x, f (x, y)) (shown xs ys)
      ∙ ap (λ b. shown_if b name begun (key x) (f (x, y)) ++ left_of name (begun || b) (shown xs ys)) (sym test)
      ∙ ap (λ b. shown_if is name begun (key x) (f (x, y)) ++ left_of name b (shown xs ys)) (sym later) in
      leaves_less so_far wrote split

  pub shown-end : {start old new : Option (List ℕ)} {whole : List ℕ} (xs : List A) (ys : List B) (begun : Bool)
      → (xs ≡ []) ⊎ (ys ≡ []) → Leaves start old (left_of name begun (shown xs ys)) whole → Adds old new (closing begun) → Adds start new whole
  shown-end xs ys begun none so_far wrote =
      leaves_none (leaves_less so_far wrote (ap (left_of name begun) (empty none) ∙ left_of-end name begun ∙ sym (append-nil (closing begun)))) refl
    where
      no_second : (zs : List A) → shown zs [] ≡ []
      no_second [] = refl
      no_second (z ∷ zs) = refl

      empty : (xs ≡ []) ⊎ (ys ≡ []) → shown xs ys ≡ []
      empty (inl h) = ap (λ zs. shown zs ys) h
      empty (inr h) = ap (shown xs) h ∙ no_second xs
