-- What a walk over the segments of a path finds.
use Rattle.std.proofs.Common.{◌≡◌, ◌≢◌, ℕ, ◌+◌, ◌<◌, ◌≤◌, List, Option, Bool, true, false, Some, None, [], ◌∷◌, ◌==◌, not, length, refl, sym, ap, ◌∙◌, cond, arith, IsTrue}
use Rattle.std.specs.Prelude.{slice_get, nat_lt, slice_index_or}
use Rattle.std.specs.Option.{option_map_or}
use Rattle.std.specs.List.{slice_split, onto_first, position_or_len, before_first, after_first}
use Rattle.std.proofs.lemmas.Bool.Decides.{nat_tests}
use Rattle.std.proofs.lemmas.List.Splits.{length-slice_split, slice_split_first}
use Rattle.resource_schema.specs.declared.schema.Schema.{Schema}
use Rattle.resource_schema.specs.declared.kinds.Kind.{Kind}
use Rattle.resource_schema.specs.SchemaRules.{is_schema, is_kind}
use Rattle.std.proofs.lemmas.Option.{slice_get_read, slice_get_past}
use Rattle.resource_schema.specs.Kinds.{number_of_relationship, relationship_of}
use Rattle.resource_schema.specs.SchemaLaws.{passes_at, schema_parts, kind_parts}
use Rattle.request_model.specs.Words.{slash, parts_at}
use Rattle.request_model.specs.Targets.{target_of_pieces, target_of_path}

equal_bytes : (b c : ℕ) → (b == c) ≡ true → b ≡ c
equal_bytes b c e = grind (arith, nat_tests, e)

-- ---- paths without a slash in front

onto_no_target : (schema : Schema) (x : ℕ) (pieces : List (List ℕ)) → None ≡ target_of_pieces schema (onto_first x pieces)
onto_no_target schema x [] = refl
onto_no_target schema x (p ∷ ps) = refl

no_slash_by : (schema : Schema) (x : ℕ) (xs : List ℕ) (b : Bool) → (x == slash) ≡ b → ((rest : List ℕ) → ◌≢◌ {A = List ℕ} (x ∷ xs) (47 ∷ rest))
    → None ≡ target_of_pieces schema (cond b ([] ∷ slice_split (λ c. c == slash) xs) (onto_first x (slice_split (λ c. c == slash) xs)))
no_slash_by schema x xs true e none = absurd (none xs (ap (λ (b : ℕ). b ∷ xs) (equal_bytes x slash e)))
no_slash_by schema x xs false e none = onto_no_target schema x (slice_split (λ c. c == slash) xs)

pub no_target_without_slash : (schema : Schema) (path : List ℕ) → ((rest : List ℕ) → path ≢ 47 ∷ rest) → None ≡ target_of_path schema path
no_target_without_slash schema [] none = refl
no_target_without_slash schema (x ∷ xs) none = no_slash_by schema x xs (x == slash) refl none

-- ---- more than four segments

five_pieces : (schema : Schema) (kind id word rel : List ℕ) (more : List (List ℕ)) → 0 < length more → None ≡ target_of_pieces schema ([] ∷ kind ∷ id ∷ word ∷ rel ∷ more)
five_pieces schema kind id word rel [] some = absurd (omega arith)
five_pieces schema kind id word rel (p ∷ ps) some = refl

pub no_target_of_five : (schema : Schema) (kind id word rel rest : List ℕ) → None ≡ target_of_pieces schema ([] ∷ kind ∷ id ∷ word ∷ rel ∷ slice_split (λ c. c == slash) rest)
no_target_of_five schema kind id word rel rest =
    let count = length-slice_split (λ c. c == slash) rest in
    five_pieces schema kind id word rel (slice_split (λ c. c == slash) rest) (omega (arith, count))

-- ---- pieces

module _ (p : ℕ → Bool) where
  cut_onto : (x : ℕ) (xs : List ℕ) → slice_split p xs ≡ xs ∷ [] → onto_first x (slice_split p xs) ≡ (x ∷ xs) ∷ []
  cut_onto x xs e = ap (onto_first x) e

  uncut_by : (x : ℕ) (xs : List ℕ) (b : Bool) → (position_or_len p xs ≡ length xs → slice_split p xs ≡ xs ∷ [])
      → cond (not b) (1 + position_or_len p xs) 0 ≡ length (x ∷ xs) → cond b ([] ∷ slice_split p xs) (onto_first x (slice_split p xs)) ≡ (x ∷ xs) ∷ []
  uncut_by x xs true more e = absurd (omega (arith, e))
  uncut_by x xs false more e = cut_onto x xs (more (omega (arith, e)))

  -- a text without the separator is one piece
  uncut : (xs : List ℕ) → position_or_len p xs ≡ length xs → slice_split p xs ≡ xs ∷ []
  uncut [] e = refl
  uncut (x ∷ xs) e = uncut_by x xs (p x) (uncut xs) e

pub one_piece : (path : List ℕ) → position_or_len (λ b. b == slash) path ≡ length path → parts_at slash path ≡ path ∷ []
one_piece path e = uncut (λ b. b == slash) path e

pub first_and_rest : (path piece rest : List ℕ) → position_or_len (λ b. b == slash) path < length path
    → piece ≡ before_first (λ b. b == slash) path → rest ≡ after_first (λ b. b == slash) path → parts_at slash path ≡ piece ∷ parts_at slash rest
first_and_rest path piece rest there p r =
    slice_split_first (λ b. b == slash) path 0 there
    ∙ ap (λ q. q ∷ slice_split (λ b. b == slash) (after_first (λ b. b == slash) path)) (sym p)
    ∙ ap (λ q. piece ∷ slice_split (λ b. b == slash) q) (sym r)

-- ---- relationships by number and name

few_by : (schema : List Kind) (kind : ℕ) (k : Kind) → slice_get schema kind ≡ Some k → IsTrue (is_schema schema) → length k.relationships ≤ 32
few_by schema kind k e rules = (kind_parts (length schema) k (passes_at (is_kind (length schema)) schema kind k (schema_parts schema rules).kinds e)).few_relationships

got : (schema kinds : List Kind) (kind : ℕ) (k : Kind) → kinds ≡ schema → true ≡ nat_lt kind (length kinds) → k ≡ slice_index_or kinds kind k → slice_get schema kind ≡ Some k
got schema kinds kind k same within is =
    let below : kind < length kinds = grind (arith, nat_tests, within) in
    ap (λ (ks : List Kind). slice_get ks kind) (sym same) ∙ slice_get_read kinds (length kinds) kind k refl below is

-- a type of a schema has few relationships
pub few_relationships : (schema kinds : List Kind) (kind : ℕ) (k : Kind) → kinds ≡ schema → true ≡ nat_lt kind (length kinds) → k ≡ slice_index_or kinds kind k
    → IsTrue (is_schema schema) → length k.relationships ≤ 32
few_relationships schema kinds kind k same within is rules = few_by schema kind k (got schema kinds kind k same within is) rules

pub number_at_kind : (schema kinds : List Kind) (kind : ℕ) (k : Kind) (name : List ℕ) → kinds ≡ schema → true ≡ nat_lt kind (length kinds) → k ≡ slice_index_or kinds kind k
    → number_of_relationship k.relationships name ≡ relationship_of schema kind name
number_at_kind schema kinds kind k name same within is =
    ap (λ (o : Option Kind). number_of_relationship (option_map_or (λ k. k.relationships) o []) name) (sym (got schema kinds kind k same within is))

pub no_number : (schema kinds : List Kind) (kind : ℕ) (name : List ℕ) → kinds ≡ schema → false ≡ nat_lt kind (length kinds) → None ≡ relationship_of schema kind name
no_number schema kinds kind name same past =
    let beyond : length kinds ≤ kind = grind (arith, nat_tests, past) in
    ap (λ (o : Option Kind). number_of_relationship (option_map_or (λ k. k.relationships) o []) name)
    (sym (slice_get_past kinds kind beyond) ∙ ap (λ (ks : List Kind). slice_get ks kind) same)
