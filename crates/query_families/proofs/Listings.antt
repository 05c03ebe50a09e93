-- Parts of a text that are read to the end, where each can be.
use Rattle.std.proofs.Common.{◌≡◌, ℕ, ◌&&◌, Bool, true, false, List, [], ◌∷◌, ◌++◌, map, Option, Some, None, refl, ap, sym, ◌∙◌, append_assoc, append-nil}
use Rattle.std.specs.Prelude.{option_map}
use Rattle.std.specs.List.{list_all}
use Rattle.resource_schema.specs.declared.schema.Schema.{Schema}
use Rattle.resource_schema.specs.Kinds.{relationship_of, target_of, is_field}
use Rattle.request_model.specs.Options as option
use Rattle.request_model.specs.Words.{all_some, some_if}
use Rattle.request_model.specs.Queries.{rels_from}

-- what was read, before what is left to be read
abbrev pub behind : {A : Type 0} → List A → Option (List A) → Option (List A)
behind xs o = option_map (λ ys. xs ++ ys) o

pub behind-nil : {A : Type 0} (o : Option (List A)) → o ≡ behind [] o
behind-nil None = refl
behind-nil (Some ys) = refl

pub behind-one : {A : Type 0} (xs : List A) (x : A) (o : Option (List A)) → behind xs (option_map (λ ys. x ∷ ys) o) ≡ behind (xs ++ x ∷ []) o
behind-one xs x None = refl
behind-one xs x (Some ys) = ap Some (sym (append_assoc xs (x ∷ []) ys))

-- ---- each by itself

module _ {X A : Type 0} (f : X → Option A) (items left : List X) (xs : List A) (so_far : all_some (map f items) ≡ behind xs (all_some (map f left))) where
  pub some-more : (i : X) (more : List X) (x : A) → left ≡ i ∷ more → f i ≡ Some x → all_some (map f items) ≡ behind (xs ++ x ∷ []) (all_some (map f more))
  some-more i more x here good =
      so_far ∙ ap (λ l. behind xs (all_some (map f l))) here
      ∙ ap (λ r. behind xs (all_some (r ∷ map f more))) good
      ∙ behind-one xs x (all_some (map f more))

  pub some-stop : (i : X) (more : List X) → left ≡ i ∷ more → f i ≡ None → all_some (map f items) ≡ None
  some-stop i more here bad =
      so_far ∙ ap (λ l. behind xs (all_some (map f l))) here
      ∙ ap (λ r. behind xs (all_some (r ∷ map f more))) bad

  pub some-end : left ≡ [] → all_some (map f items) ≡ Some xs
  some-end here = so_far ∙ ap (λ l. behind xs (all_some (map f l))) here ∙ ap Some (append-nil xs)

-- ---- relationships, each of the type that the one before leads to

module _ (schema : Schema) (kind at : ℕ) (names left : List (List ℕ)) (rels : List ℕ) (so_far : rels_from schema kind names ≡ behind rels (rels_from schema at left)) where
  pub rels-more : (name : List ℕ) (more : List (List ℕ)) (rel : ℕ) → left ≡ name ∷ more → relationship_of schema at name ≡ Some rel
      → rels_from schema kind names ≡ behind (rels ++ rel ∷ []) (rels_from schema (target_of schema at rel) more)
  rels-more name more rel here found =
      so_far ∙ ap (λ l. behind rels (rels_from schema at l)) here
      ∙ ap (λ o. behind rels (option.◌>>=◌ o (λ r. option_map (λ rs. r ∷ rs) (rels_from schema (target_of schema at r) more)))) found
      ∙ behind-one rels rel (rels_from schema (target_of schema at rel) more)

  pub rels-stop : (name : List ℕ) (more : List (List ℕ)) → left ≡ name ∷ more → relationship_of schema at name ≡ None → rels_from schema kind names ≡ None
  rels-stop name more here none =
      so_far ∙ ap (λ l. behind rels (rels_from schema at l)) here
      ∙ ap (λ o. behind rels (option.◌>>=◌ o (λ r. option_map (λ rs. r ∷ rs) (rels_from schema (target_of schema at r) more)))) none

  pub rels-end : left ≡ [] → rels_from schema kind names ≡ Some rels
  rels-end here = so_far ∙ ap (λ l. behind rels (rels_from schema at l)) here ∙ ap Some (append-nil rels)

-- ---- names of fields

-- the texts, where each names a field
abbrev pub fields_among : Schema → ℕ → List (List ℕ) → Option (List (List ℕ))
fields_among schema kind texts = some_if (list_all (is_field schema kind) texts) texts

one_more : (b : Bool) (text : List ℕ) (more : List (List ℕ)) → some_if b (text ∷ more) ≡ option_map (λ ts. text ∷ ts) (some_if b more)
one_more true text more = refl
one_more false text more = refl

named : (b : Bool) (text name : List ℕ) → some_if b text ≡ Some name → (b ≡ true) × (text ≡ name)
named true text name e = (refl, cc e)
named false text name e = cc e

unnamed : (b : Bool) (text : List ℕ) → some_if b text ≡ None → b ≡ false
unnamed true text e = cc e
unnamed false text e = refl

module _ (schema : Schema) (kind : ℕ) (texts left names : List (List ℕ)) (so_far : fields_among schema kind texts ≡ behind names (fields_among schema kind left)) where
  pub names-more : (text : List ℕ) (more : List (List ℕ)) (name : List ℕ) → left ≡ text ∷ more → some_if (is_field schema kind text) text ≡ Some name
      → fields_among schema kind texts ≡ behind (names ++ name ∷ []) (fields_among schema kind more)
  names-more text more name here found =
      let both = named (is_field schema kind text) text name found in
      so_far ∙ ap (λ l. behind names (fields_among schema kind l)) here
      ∙ ap (λ b. behind names (some_if (b && list_all (is_field schema kind) more) (text ∷ more))) both.0
      ∙ ap (behind names) (one_more (list_all (is_field schema kind) more) text more)
      ∙ behind-one names text (fields_among schema kind more)
      ∙ ap (λ n. behind (names ++ n ∷ []) (fields_among schema kind more)) both.1

  pub names-stop : (text : List ℕ) (more : List (List ℕ)) → left ≡ text ∷ more → some_if (is_field schema kind text) text ≡ None → fields_among schema kind texts ≡ None
  names-stop text more here none =
      so_far ∙ ap (λ l. behind names (fields_among schema kind l)) here
      ∙ ap (λ b. behind names (some_if (b && list_all (is_field schema kind) more) (text ∷ more))) (unnamed (is_field schema kind text) text none)

  pub names-end : left ≡ [] → fields_among schema kind texts ≡ Some names
  names-end here = so_far ∙ ap (λ l. behind names (fields_among schema kind l)) here ∙ ap Some (append-nil names)
