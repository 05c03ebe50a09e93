-- Links that an operation writes are links of their relationships, to rows that are there.
use Rattle.std.proofs.lemmas.Bool.{or_cases, or_parts}
use Rattle.std.proofs.Common.{◌≡◌, ℕ, ◌≤◌, List, [], ◌∷◌, ◌++◌, Bool, true, false, refl, sym, ap, subst, ◌∙◌, Some, None, Option, arith, inl, inr}
use Rattle.std.specs.Prelude.{IsTrue, cond, not, if◌then◌else◌, nat_lt, length, map, slice_get, slice_set, get_or, option_map, IfSome}
use Rattle.std.specs.Option.{option_map_or}
use Rattle.std.specs.Ordering.{is_eq, ordering_reverse}
use Rattle.std.specs.declared.cmp.Ordering.{Ordering}
use Rattle.std.specs.declared.cmp.Ordering.TheVariants.{Less, Equal, Greater}
use Rattle.std.specs.List.{AllByRecursion, AllZip, IsDistinct, list_any, filter, cons_option}
use Rattle.std.specs.FinMap.Entries.{find}
use Rattle.std.proofs.lemmas.Bool.Decides.{nat_tests}
use Rattle.ident_rules.specs.declared.key.Key.{Key}
use Rattle.resource_schema.specs.declared.schema.Schema.{Schema}
use Rattle.resource_schema.specs.declared.kinds.Relationship.{Relationship}
use Rattle.world_cells.specs.declared.rows.Row.{Row}
use Rattle.world_cells.specs.declared.rows.Link.{Link}
use Rattle.world_cells.specs.declared.rows.Link.TheVariants.{One, Many}
use Rattle.task_forms.specs.declared.operations.Named.{Named}
use Rattle.task_forms.specs.declared.operations.Named.TheVariants as named
use Rattle.task_forms.specs.declared.operations.Member.{Member}
use Rattle.error_objects.specs.declared.refusals.Refusal.{Refusal}
use Rattle.error_objects.specs.declared.codes.Code.TheVariants as code
use Rattle.ident_rules.specs.IdOrder.{id_cmp, id_cmp_total}
use Rattle.ident_rules.specs.Key.{same_key, key_is}
use Rattle.store_model.specs.Valid.{IsLinkOf}
use Rattle.world_cells.specs.World.{ids_of, no_link, link_at, links_to}
use Rattle.resource_schema.specs.Kinds.{relationships_of, target_of}
use Rattle.error_objects.specs.Refusals.{at_pointer}
use Rattle.store_model.specs.Change.{Lids, lid_cmp, key_of, first_of, when, refuse_named, refuse_member, refuse_linkage, refuse_links, linkage_pointer, pointer_of_member, name_pointer, append_new, member_ids, link_of, set_links, empty_links}
use Rattle.store_model.specs.Valid.{same_id}
use Rattle.task_forms.specs.Fit.{kind_of, FitsLinkage, FitsCount}
use Rattle.store_model.proofs.Basics.{not_is_false, same_Some, all_zip_set, all_zip_get, all_zip_past, all_more}

-- ---- lists

-- ---- tests

eq_reverse : (o : Ordering) → is_eq (ordering_reverse o) ≡ is_eq o
eq_reverse Less = refl
eq_reverse Equal = refl
eq_reverse Greater = refl

same_id_back : (x y : List ℕ) → same_id x y ≡ false → same_id y x ≡ false
same_id_back x y e = ap is_eq (id_cmp_total.antisymm y x) ∙ eq_reverse (id_cmp x y) ∙ e

-- ---- distinct ids

pub distinct_none : IsDistinct same_id []
unfolding IsDistinct
distinct_none = tt

distinct_more : (xs : List (List ℕ)) (x : List ℕ) → IsDistinct same_id xs → list_any (same_id x) xs ≡ false → IsDistinct same_id (xs ++ x ∷ [])
unfolding IsDistinct
distinct_more [] x h e = (tt, tt)
distinct_more (y ∷ xs) x h e = (all_more (λ z. same_id y z ≡ false) xs x h.0 (same_id_back x y ((or_parts _ _ e).0)), distinct_more xs x h.1 ((or_parts _ _ e).1))

pub distinct_append : (xs ids : List (List ℕ)) → IsDistinct same_id xs → IsDistinct same_id (append_new xs ids)
distinct_append xs [] h = h
distinct_append xs (x ∷ ids) h = distinct_append (if list_any (same_id x) xs then xs else xs ++ x ∷ []) ids (
    elim (list_any (same_id x) xs) as (λ b. list_any (same_id x) xs ≡ b → IsDistinct same_id (if b then xs else xs ++ x ∷ [])) [ true ↦ λ e. h | false ↦ λ e. distinct_more xs x h e ] refl)

all_append : (P : List ℕ → Type 0) (xs ids : List (List ℕ)) → AllByRecursion P xs → AllByRecursion P ids → AllByRecursion P (append_new xs ids)
all_append P xs [] h more = h
all_append P xs (x ∷ ids) h more = all_append P (if list_any (same_id x) xs then xs else xs ++ x ∷ []) ids (
    elim (list_any (same_id x) xs) as (λ b. AllByRecursion P (if b then xs else xs ++ x ∷ [])) [ true ↦ h | false ↦ all_more P xs x h more.0 ]) more.1

-- ---- links to rows that are there

-- each of these ids of a type
abbrev pub AreThere : (Key → Bool) → ℕ → List (List ℕ) → Type 0
AreThere there kind ids = AllByRecursion (λ x. IsTrue (there (record { kind = kind; id = x }))) ids

-- a link of a relationship, to rows that are there
abbrev pub IsGood : (Key → Bool) → Relationship → Link → Type 0
IsGood there r link = IsLinkOf r link × AreThere there r.target (ids_of link)

pub good_link : (there : Key → Bool) (r : Relationship) (old : Link) (ids : List (List ℕ)) → IsLinkOf r old → IsDistinct same_id ids → length ids ≤ 1000 → AreThere there r.target ids → IsGood there r (link_of old ids)
good_link there r (One o) [] one distinct short here = (one, tt)
good_link there r (One o) (x ∷ ids) one distinct short here = (one, (here.0, tt))
good_link there r (Many xs) ids many distinct short here = ((many.0, distinct, short), here)

pub good_empty : (there : Key → Bool) (rels : List Relationship) → AllZip (IsGood there) rels (empty_links rels)
good_empty there [] = tt
good_empty there (r ∷ rels) = (
  elim (r.many) as (λ b. r.many ≡ b → IsGood there r (if b then Many [] else One None)) [ true ↦ λ e. ((e, distinct_none, omega arith), tt) | false ↦ λ e. (e, tt) ] refl,
  good_empty there rels,
)

pub leads_there : (there : Key → Bool) (kind : ℕ) (ids : List (List ℕ)) (to : Key) → AreThere there kind ids → list_any (same_key to) (map (λ x. record { kind = kind; id = x }) ids) ≡ true → there to ≡ true
leads_there there kind [] to here e = cc
leads_there there kind (x ∷ ids) to here e = elim (or_cases _ _ e) [
  | inl same ↦ ap there (key_is to (record { kind = kind; id = x }) same) ∙ here.0
  | inr later ↦ leads_there there kind ids to here.1 later
]

-- what a row of good links leads to is there
pub good_leads : (schema : Schema) (there : Key → Bool) (row : Row) → AllZip (IsGood there) (relationships_of schema row.key.kind) row.links → (rel : ℕ) (to : Key) → IsTrue (links_to schema row rel to) → IsTrue (there to)
good_leads schema there row good rel to leads = leads_there there (target_of schema row.key.kind rel) (ids_of (link_at row rel)) to here leads
  where
    here : AreThere there (target_of schema row.key.kind rel) (ids_of (link_at row rel))
    here = elim (slice_get (relationships_of schema row.key.kind) rel) as (λ o. slice_get (relationships_of schema row.key.kind) rel ≡ o → AreThere there (option_map_or (λ r. r.target) o 0) (ids_of (link_at row rel))) [
      | None ↦ λ e. subst (λ l. AreThere there 0 (ids_of l)) (sym (all_zip_past (IsGood there) (relationships_of schema row.key.kind) row.links rel no_link good e)) tt
      | Some r ↦ λ e. (all_zip_get (IsGood there) (relationships_of schema row.key.kind) row.links rel no_link r good e).1
    ] refl

-- ---- what was not refused

pub first_none : (a : Option Refusal) (rest : List (Option Refusal)) → first_of (a ∷ rest) ≡ None → (a ≡ None) × (first_of rest ≡ None)
first_none None rest e = (refl, e)
first_none (Some r) rest e = cc

pub first_append : (xs ys : List (Option Refusal)) → first_of (xs ++ ys) ≡ None → (first_of xs ≡ None) × (first_of ys ≡ None)
first_append [] ys e = (refl, e)
first_append (None ∷ xs) ys e = first_append xs ys e
first_append (Some r ∷ xs) ys e = cc

pub when_none : (b : Bool) (r : Refusal) → when b r ≡ None → b ≡ false
when_none true r e = cc
when_none false r e = refl

-- the key that a name stands for is of the name's type
pub key_kind : (lids : Lids) (n : Named) (key : Key) → key_of lids n ≡ Some key → key.kind ≡ kind_of n
key_kind lids (named.Id k) key e = ap (λ k. k.kind) (sym (same_Some k key e))
key_kind lids (named.Lid kind lid) key e =
    elim (find lid_cmp (kind, lid) lids) as (λ o. option_map (λ x. record { kind = kind; id = x }) o ≡ Some key → key.kind ≡ kind) [
      | None ↦ λ e. cc
      | Some x ↦ λ e. ap (λ k. k.kind) (sym (same_Some _ key e))
    ] e

members_there : (there : Key → Bool) (lids : Lids) (pointer : List ℕ) (target : ℕ) (members : List Member) → first_of (map (refuse_member there lids pointer) members) ≡ None
    → AllByRecursion (λ m. kind_of m.named ≡ target) members → AreThere there target (member_ids lids members)
members_there there lids pointer target [] e kinds = tt
members_there there lids pointer target (m ∷ members) e kinds =
    let parts = first_none (refuse_member there lids pointer m) (map (refuse_member there lids pointer) members) e in
    elim (key_of lids m.named) as (λ o. key_of lids m.named ≡ o → refuse_named there (pointer_of_member pointer m ++ name_pointer m.named) o ≡ None → AreThere there target (cons_option (option_map (λ key. key.id) o) (member_ids lids members))) [
      | None ↦ λ is e. cc
      | Some key ↦ λ is e.
          let kind : key.kind ≡ target = key_kind lids m.named key is ∙ kinds.0 in
          (subst (λ n. there (record { kind = n; id = key.id }) ≡ true) kind (not_is_false (there key) (when_none (not (there key)) (at_pointer code.RelatedNotFound (pointer_of_member pointer m ++ name_pointer m.named)) e)), members_there there lids pointer target members parts.1 kinds.1)
    ] refl parts.0

-- the ids of a linkage that was not refused, after those that were there
pub linkage_ids : (there : Key → Bool) (lids : Lids) (pointer : List ℕ) (target : ℕ) (old : List (List ℕ)) (members : List Member) → refuse_linkage there lids pointer old members ≡ None
    → AllByRecursion (λ m. kind_of m.named ≡ target) members → IsDistinct same_id old → AreThere there target old
    → IsDistinct same_id (append_new old (member_ids lids members)) × (length (append_new old (member_ids lids members)) ≤ 1000) × AreThere there target (append_new old (member_ids lids members))
linkage_ids there lids pointer target old members e kinds distinct here =
    let parts = first_append (map (refuse_member there lids pointer) members) _ e in
    let short : nat_lt 1000 (length (append_new old (member_ids lids members))) ≡ false = when_none _ _ ((first_none _ _ parts.1).0) in
    (distinct_append old (member_ids lids members) distinct, grind (arith, nat_tests), all_append _ old (member_ids lids members) here (members_there there lids pointer target members parts.0 kinds))

-- the links of a row after the linkages of a fit operation that was not refused
pub good_set_links : (schema : Schema) (kind : ℕ) (there : Key → Bool) (lids : Lids) (links : List (ℕ × List Member)) (old : List Link) → AllZip (IsGood there) (relationships_of schema kind) old
    → AllByRecursion (λ l. FitsLinkage schema kind l.0 l.1) links → refuse_links there lids (relationships_of schema kind) links ≡ None → AllZip (IsGood there) (relationships_of schema kind) (set_links lids old links)
good_set_links schema kind there lids [] old good fits e = good
good_set_links schema kind there lids (l ∷ links) old good fits e =
    let rels = relationships_of schema kind in
    let parts = first_none _ _ e in
    good_set_links schema kind there lids links (slice_set old l.0 (link_of (get_or old l.0 no_link) (append_new [] (member_ids lids l.1)))) (
    all_zip_set (IsGood there) rels old l.0 (link_of (get_or old l.0 no_link) (append_new [] (member_ids lids l.1))) good (λ r is.
    let kinds = subst (λ o. IfSome o (λ r. AllByRecursion (λ m. kind_of m.named ≡ r.target) l.1 × FitsCount r.many l.1)) is (fits.0.of_target) in
    let ids = linkage_ids there lids (linkage_pointer rels l.0) r.target [] l.1 parts.0 kinds.0 distinct_none tt in
    good_link there r (get_or old l.0 no_link) (append_new [] (member_ids lids l.1)) ((all_zip_get (IsGood there) rels old l.0 no_link r good is).0) ids.0 ids.1 ids.2)
    ) fits.1 parts.1

-- the ids of a link are distinct
pub distinct_link : (r : Relationship) (link : Link) → IsLinkOf r link → IsDistinct same_id (ids_of link) × (length (ids_of link) ≤ 1000)
unfolding IsDistinct
distinct_link r (One None) h = (tt, omega arith)
distinct_link r (One (Some x)) h = ((tt, tt), omega arith)
distinct_link r (Many xs) h = (h.1, h.2)

-- ---- some of the ids

all_filter : {A : Type 0} (P : A → Type 0) (p : A → Bool) (xs : List A) → AllByRecursion P xs → AllByRecursion P (filter p xs)
all_filter P p [] h = h
all_filter P p (x ∷ xs) h = let rest = all_filter P p xs h.1 in elim (p x) as (λ b. AllByRecursion P (cond b (x ∷ filter p xs) (filter p xs))) [ true ↦ (h.0, rest) | false ↦ rest ]

distinct_filter : (p : List ℕ → Bool) (xs : List (List ℕ)) → IsDistinct same_id xs → IsDistinct same_id (filter p xs)
unfolding IsDistinct
distinct_filter p [] h = h
distinct_filter p (x ∷ xs) h =
    let rest = distinct_filter p xs h.1 in
    let apart = all_filter (λ y. same_id x y ≡ false) p xs h.0 in
    elim (p x) as (λ b. IsDistinct same_id (cond b (x ∷ filter p xs) (filter p xs))) [ true ↦ (apart, rest) | false ↦ rest ]

shorter_filter : (p : List ℕ → Bool) (xs : List (List ℕ)) → length (filter p xs) ≤ length xs
shorter_filter p [] = omega arith
shorter_filter p (x ∷ xs) = by (p x) (shorter_filter p xs)
  where
    by : (b : Bool) → length (filter p xs) ≤ length xs → length (cond b (x ∷ filter p xs) (filter p xs)) ≤ length (x ∷ xs)
    by true h = omega arith
    by false h = omega arith

pub filtered_ids : (there : Key → Bool) (target : ℕ) (p : List ℕ → Bool) (old : List (List ℕ)) → IsDistinct same_id old → length old ≤ 1000 → AreThere there target old
    → IsDistinct same_id (filter p old) × (length (filter p old) ≤ 1000) × AreThere there target (filter p old)
filtered_ids there target p old distinct short here = (distinct_filter p old distinct, shorter (shorter_filter p old), all_filter (λ x. IsTrue (there (record { kind = target; id = x }))) p old here)
  where
    shorter : length (filter p old) ≤ length old → length (filter p old) ≤ 1000
    shorter h = omega arith
