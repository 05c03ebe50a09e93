-- A linkage that was read fits its relationship.
use Rattle.std.specs.Prelude.{ℕ, ◌^◌, ◌+◌, ◌<◌, Bool, true, false, not, nat_le, if◌then◌else◌, List, [], ◌∷◌, codes, length, map, decimal, Option, Some, None, Ok, IfSome, slice_get, ⊤}
use Rattle.std.specs.Option.{ok_or, option_map_or}
use Rattle.std.specs.List.{AllZip, AllByRecursion, enumerate_from}
use Rattle.std.specs.Str.{bytes_eq}
use Rattle.std.proofs.Common.{◌≡◌, refl, sym, ◌∙◌, arith}
use Rattle.std.proofs.lemmas.Bool.Decides.{nat_tests}
use Rattle.std.proofs.lemmas.List.FromFn.{length-enumerate_from}
use Rattle.serde_json.specs.Data.{Data, null, boolean, number, string, array, object}
use Rattle.serde_json.specs.Find.{as_array}
use Rattle.json_forms.specs.Json.{items_list, text_at}
use Rattle.json_forms.specs.Pointer.{◌//◌}
use Rattle.resource_schema.specs.declared.schema.Schema.{Schema}
use Rattle.resource_schema.specs.declared.kinds.Relationship.{Relationship}
use Rattle.resource_schema.specs.Kinds.{kind_name, relationships_of, target_of, is_many}
use Rattle.resource_schema.specs.SchemaLaws.{target_of-lt}
use Rattle.resource_schema.specs.SchemaRules.{is_schema}
use Rattle.task_forms.specs.declared.operations.Named.{Named}
use Rattle.task_forms.specs.declared.operations.Named.TheVariants as named
use Rattle.task_forms.specs.declared.operations.Member.{Member}
use Rattle.task_forms.specs.Fit.{kind_of, IsNamed, AreIndexed, FitsCount, FitsLinkage}
use Rattle.error_objects.specs.Refusals.{at_pointer}
use Rattle.error_objects.specs.declared.codes.Code.TheVariants as code
use Rattle.request_model.specs.Words.{all_ok, result_map}
use Rattle.request_model.specs.Results.{err_if}
use Rattle.request_model.specs.Documents.{bad_document, named_by, named_in, keeps_rule, identifier_from, one_linkage, indexed, many_linkage, linkage_from}
use Rattle.request_model.specs.ReadingLaws.{bind-Ok, then-Ok, map-Ok, err_if-Ok, negated, ok_or-Ok, all_ok-zip}
use Rattle.request_model.proofs.Zips.{zip-length, zip-right, all-always, all-into}

-- ---- names

pub named_by-kind : (kind : ℕ) (id lid : Option (List ℕ)) (n : Named) → named_by kind id lid ≡ Some n → kind_of n ≡ kind
named_by-kind kind (Some id) None n e = let same : named.Id (record { kind = kind; id = id }) ≡ n = cc e in rw (sym same) refl
named_by-kind kind None (Some lid) n e = let same : named.Lid kind lid ≡ n = cc e in rw (sym same) refl
named_by-kind kind (Some id) (Some lid) n e = cc e
named_by-kind kind None None n e = cc e

-- a name that keeps the rule, of a known type
pub rule-IsNamed : (schema : Schema) (n : Named) → kind_of n < length schema → keeps_rule n ≡ true → IsNamed schema n
rule-IsNamed schema (named.Id key) known rule = (known, rule)
rule-IsNamed schema (named.Lid kind lid) known rule = (known, rule)

pub IsNamed-kind : (schema : Schema) (n : Named) → IsNamed schema n → kind_of n < length schema
IsNamed-kind schema (named.Id key) fits = fits.0
IsNamed-kind schema (named.Lid kind lid) fits = fits.0

-- a name of a resource of this type
abbrev pub IsOf : Schema → ℕ → Named → Type 0
IsOf schema kind n = IsNamed schema n × (kind_of n ≡ kind)

identifier-fits : (schema : Schema) (kind : ℕ) (at : List ℕ) (d : Data) (n : Named) → kind < length schema → identifier_from schema kind at d ≡ Ok n → IsOf schema kind n
identifier-fits schema kind at d n known e =
    let a = bind-Ok (ok_or (text_at (codes "type") d) (bad_document at)) _ n e in
    let b = bind-Ok (ok_or (named_in kind d) (bad_document at)) _ n a.2 in
    let c = then-Ok (err_if (not (bytes_eq a.0 (kind_name schema kind))) (at_pointer code.WrongTarget (at // codes "type"))) _ n b.2 in
    let f = then-Ok (err_if (not (keeps_rule b.0)) (at_pointer code.RelatedNotFound (at // codes "id"))) (Ok b.0) n c.2 in
    let same : b.0 ≡ n = cc f.2 in
    let kinds : kind_of b.0 ≡ kind = named_by-kind kind (text_at (codes "id") d) (text_at (codes "lid") d) b.0 (ok_or-Ok (named_in kind d) (bad_document at) b.0 b.1) in
    let rule : keeps_rule b.0 ≡ true = negated (keeps_rule b.0) (err_if-Ok (not (keeps_rule b.0)) (at_pointer code.RelatedNotFound (at // codes "id")) f.0 f.1) in
    let fits : IsNamed schema b.0 = rule-IsNamed schema b.0 (rw kinds known) rule in
    rw (sym same) (fits, kinds)

-- ---- members

one-fits : (schema : Schema) (kind : ℕ) (at : List ℕ) (d : Data) (members : List Member) → kind < length schema
    → result_map (λ n. record { named = n; index = None } ∷ []) (identifier_from schema kind at d) ≡ Ok members
    → AllByRecursion (λ m. IsOf schema kind m.named) members × FitsCount false members
one-fits schema kind at d members known e =
    let a = map-Ok (λ n. record { named = n; index = None } ∷ []) (identifier_from schema kind at d) members e in
    rw (sym a.2) ((identifier-fits schema kind at d a.0 known a.1, tt), (omega arith, (refl, tt)))

one_linkage-fits : (schema : Schema) (kind : ℕ) (at : List ℕ) (d : Data) (members : List Member) → kind < length schema → one_linkage schema kind at d ≡ Ok members
    → AllByRecursion (λ m. IsOf schema kind m.named) members × FitsCount false members
one_linkage-fits schema kind at null members known e = let same : members ≡ [] = cc e in rw same (tt, (omega arith, tt))
one_linkage-fits schema kind at (boolean b) members known e = one-fits schema kind at (boolean b) members known e
one_linkage-fits schema kind at (number n) members known e = one-fits schema kind at (number n) members known e
one_linkage-fits schema kind at (string s) members known e = one-fits schema kind at (string s) members known e
one_linkage-fits schema kind at (array ds) members known e = one-fits schema kind at (array ds) members known e
one_linkage-fits schema kind at (object ms) members known e = one-fits schema kind at (object ms) members known e

indexed-fits : (schema : Schema) (kind : ℕ) (at : List ℕ) (p : ℕ × Data) (m : Member) → kind < length schema → indexed schema kind at p ≡ Ok m
    → (m.index ≡ Some p.0) × IsOf schema kind m.named
indexed-fits schema kind at p m known e =
    let a = map-Ok (λ name. record { named = name; index = Some p.0 }) (identifier_from schema kind (at // decimal p.0) p.1) m e in
    rw (sym a.2) (refl, identifier-fits schema kind (at // decimal p.0) p.1 a.0 known a.1)

are_indexed : (R : ℕ × Data → Member → Type 0) (n : ℕ) (ds : List Data) (members : List Member) → ((p : ℕ × Data) (m : Member) → R p m → m.index ≡ Some p.0) → AllZip R (enumerate_from n ds) members → AreIndexed n members
are_indexed R n [] [] f z = tt
are_indexed R n [] (m ∷ members) f z = absurd z
are_indexed R n (d ∷ ds) [] f z = absurd z
are_indexed R n (d ∷ ds) (m ∷ members) f z = (f (n, d) m z.0, are_indexed R (n + 1) ds members f z.1)

below : (m n : ℕ) → nat_le m n ≡ false → n < m
below m n e = grind (arith, nat_tests, e)

many_linkage-fits : (schema : Schema) (kind : ℕ) (at : List ℕ) (d : Data) (members : List Member) → kind < length schema → many_linkage schema kind at d ≡ Ok members
    → AllByRecursion (λ m. IsOf schema kind m.named) members × FitsCount true members
many_linkage-fits schema kind at d members known e =
    let a = bind-Ok (ok_or (as_array d) (bad_document at)) _ members e in
    let b = then-Ok (err_if (nat_le (2 ^ 32) (length (items_list a.0))) (bad_document at)) _ members a.2 in
    many-fits (items_list a.0) members (err_if-Ok (nat_le (2 ^ 32) (length (items_list a.0))) (bad_document at) b.0 b.1) b.2 where
      many-fits : (ds : List Data) (members : List Member) → nat_le (2 ^ 32) (length ds) ≡ false → all_ok (map (indexed schema kind at) (enumerate_from 0 ds)) ≡ Ok members
          → AllByRecursion (λ m. IsOf schema kind m.named) members × FitsCount true members
      many-fits ds members few e =
          let z = all_ok-zip (indexed schema kind at) (enumerate_from 0 ds) members e in
          let long : length members ≡ length ds = zip-length _ (enumerate_from 0 ds) members z ∙ length-enumerate_from 0 ds in
          let count : length ds < 2 ^ 32 = below (2 ^ 32) (length ds) few in (
            zip-right (λ p. ⊤) _ (λ m. IsOf schema kind m.named) (enumerate_from 0 ds) members (λ p m t q. (indexed-fits schema kind at p m known q).1) (all-always (λ p. ⊤) (enumerate_from 0 ds) (λ p. tt)) z,
            (rw long count, are_indexed _ 0 ds members (λ p m q. (indexed-fits schema kind at p m known q).0) z),
          )

by_count : (schema : Schema) (kind : ℕ) (many : Bool) (at : List ℕ) (d : Data) (members : List Member) → kind < length schema
    → (if many then many_linkage schema kind at d else one_linkage schema kind at d) ≡ Ok members
    → AllByRecursion (λ m. IsOf schema kind m.named) members × FitsCount many members
by_count schema kind true at d members known e = many_linkage-fits schema kind at d members known e
by_count schema kind false at d members known e = one_linkage-fits schema kind at d members known e

of_relationship : (schema : Schema) (members : List Member) (o : Option Relationship)
    → AllByRecursion (λ m. IsOf schema (option_map_or (λ r. r.target) o 0) m.named) members × FitsCount (option_map_or (λ r. r.many) o false) members
    → IfSome o (λ r. AllByRecursion (λ m. kind_of m.named ≡ r.target) members × FitsCount r.many members)
of_relationship schema members None h = tt
of_relationship schema members (Some r) h = (all-into _ _ members (λ m f. f.1) h.0, h.1)

-- the linkage of a known relationship
pub linkage-fits : (schema : Schema) (kind rel : ℕ) (at : List ℕ) (d : Data) (members : List Member) → is_schema schema ≡ true → rel < length (relationships_of schema kind)
    → linkage_from schema kind rel at d ≡ Ok members → FitsLinkage schema kind rel members
linkage-fits schema kind rel at d members rules known e =
    let h = by_count schema (target_of schema kind rel) (is_many schema kind rel) at d members (target_of-lt schema kind rel rules) e in
    record { known = known; named = all-into _ _ members (λ m f. f.0) h.0; of_target = of_relationship schema members (slice_get (relationships_of schema kind) rel) h }
