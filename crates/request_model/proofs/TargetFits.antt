-- A target that a path names is known.
use Rattle.std.specs.Prelude.{ℕ, ◌<◌, Bool, true, false, if◌then◌else◌, List, [], ◌∷◌, codes, length, Some, option_map}
use Rattle.std.specs.Str.{bytes_eq}
use Rattle.std.proofs.Common.{◌≡◌, subst}
use Rattle.ident_rules.specs.declared.key.Key.{Key}
use Rattle.ident_rules.specs.Id.{is_id}
use Rattle.resource_schema.specs.declared.schema.Schema.{Schema}
use Rattle.resource_schema.specs.declared.targets.Target.{Target}
use Rattle.resource_schema.specs.declared.targets.Target.TheVariants as target
use Rattle.resource_schema.specs.Kinds.{number_of_kind, relationship_of, relationships_of}
use Rattle.task_forms.specs.Fit.{IsKnownKey}
use Rattle.request_model.specs.Words.{parts_at, slash}
use Rattle.request_model.specs.Targets.{IsKnownTarget, decode_segment, kind_at, key_at, relationship_at, top_target, related_target, linkage_target, target_of_pieces, target_of_path}
use Rattle.request_model.specs.ReadingLaws.{bind-Some, map-Some, some_if-Some, some_or_none}
use Rattle.request_model.proofs.Zips.{position-found}
use Rattle.request_model.proofs.FieldFits.{relationship-known}

kind_at-known : (schema : Schema) (segment : List ℕ) (kind : ℕ) → kind_at schema segment ≡ Some kind → kind < length schema
kind_at-known schema segment kind e =
    let a = bind-Some (decode_segment segment) (number_of_kind schema) kind e in
    (position-found (λ k. bytes_eq k.name a.0) schema kind a.2).3

key_at-known : (schema : Schema) (kind_segment id_segment : List ℕ) (key : Key) → key_at schema kind_segment id_segment ≡ Some key → IsKnownKey schema key
key_at-known schema kind_segment id_segment key e =
    let a = bind-Some (kind_at schema kind_segment) _ key e in
    let b = bind-Some (decode_segment id_segment) _ key a.2 in
    let c = some_if-Some (is_id b.0) (record { kind = a.0; id = b.0 }) key b.2 in
    subst (IsKnownKey schema) c.1 (kind_at-known schema kind_segment a.0 a.1, c.0)

relationship_at-known : (schema : Schema) (key : Key) (segment : List ℕ) (rel : ℕ) → relationship_at schema key segment ≡ Some rel → rel < length (relationships_of schema key.kind)
relationship_at-known schema key segment rel e =
    let a = bind-Some (decode_segment segment) (relationship_of schema key.kind) rel e in
    relationship-known schema key.kind a.0 rel a.2

top-known : (schema : Schema) (segment : List ℕ) (t : Target) → top_target schema segment ≡ Some t → IsKnownTarget schema t
top-known schema segment t e = by_test (bytes_eq segment (codes "operations")) e where
  by_test : (b : Bool) → (if b then Some target.Operations else option_map target.Collection (kind_at schema segment)) ≡ Some t → IsKnownTarget schema t
  by_test true e = let same : target.Operations ≡ t = cc e in subst (IsKnownTarget schema) same tt
  by_test false e = let a = map-Some target.Collection (kind_at schema segment) t e in subst (IsKnownTarget schema) a.2 (kind_at-known schema segment a.0 a.1)

resource-known : (schema : Schema) (a b : List ℕ) (t : Target) → option_map target.Resource (key_at schema a b) ≡ Some t → IsKnownTarget schema t
resource-known schema a b t e = let key = map-Some target.Resource (key_at schema a b) t e in subst (IsKnownTarget schema) key.2 (key_at-known schema a b key.0 key.1)

related-known : (schema : Schema) (a b c : List ℕ) (t : Target) → related_target schema a b c ≡ Some t → IsKnownTarget schema t
related-known schema a b c t e =
    let key = bind-Some (key_at schema a b) _ t e in
    let rel = map-Some (target.Related key.0) (relationship_at schema key.0 c) t key.2 in
    subst (IsKnownTarget schema) rel.2 (key_at-known schema a b key.0 key.1, relationship_at-known schema key.0 c rel.0 rel.1)

linkage-known : (schema : Schema) (a b d : List ℕ) (t : Target) → linkage_target schema a b d ≡ Some t → IsKnownTarget schema t
linkage-known schema a b d t e =
    let key = bind-Some (key_at schema a b) _ t e in
    let rel = map-Some (target.Linkage key.0) (relationship_at schema key.0 d) t key.2 in
    subst (IsKnownTarget schema) rel.2 (key_at-known schema a b key.0 key.1, relationship_at-known schema key.0 d rel.0 rel.1)

pieces-known : (schema : Schema) (pieces : List (List ℕ)) (t : Target) → target_of_pieces schema pieces ≡ Some t → IsKnownTarget schema t
pieces-known schema [] t e = cc e
pieces-known schema (p ∷ []) t e = by_first p e where
  by_first : (p : List ℕ) → target_of_pieces schema (p ∷ []) ≡ Some t → IsKnownTarget schema t
  by_first [] e = cc e
  by_first (x ∷ xs) e = cc e
pieces-known schema ([] ∷ a ∷ []) t e = top-known schema a t e
pieces-known schema ([] ∷ a ∷ b ∷ []) t e = resource-known schema a b t e
pieces-known schema ([] ∷ a ∷ b ∷ c ∷ []) t e = related-known schema a b c t e
pieces-known schema ([] ∷ a ∷ b ∷ c ∷ d ∷ []) t e = let found = some_or_none (bytes_eq c (codes "relationships")) (linkage_target schema a b d) t e in linkage-known schema a b d t found.1
pieces-known schema ([] ∷ a ∷ b ∷ c ∷ d ∷ f ∷ more) t e = cc e
pieces-known schema ((x ∷ xs) ∷ a ∷ more) t e = cc e

-- the target of a path
pub target-known : (schema : Schema) (path : List ℕ) (t : Target) → target_of_path schema path ≡ Some t → IsKnownTarget schema t
target-known schema path t e = pieces-known schema (parts_at slash path) t e
