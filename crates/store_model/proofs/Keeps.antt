-- A fit operation that is not refused keeps a valid world valid.
use Rattle.std.proofs.Common.{◌≡◌, ℕ, ◌+◌, ◌<◌, ◌≤◌, List, [], ◌∷◌, Bool, true, false, refl, sym, ap, subst, ◌∙◌, Some, None, Option, arith, inl, inr, zero, suc}
use Rattle.std.specs.Prelude.{◌||◌, ◌==◌, cond, length, map, slice_get, slice_set, get_or, unwrap_or, is_some, decimal, MatchOption, codes}
use Rattle.std.specs.Option.{option_map_or, option_and_then}
use Rattle.std.specs.Ordering.{nat_cmp, is_eq}
use Rattle.std.specs.Cmp.{tied_itself, nat_cmp_total}
use Rattle.std.specs.List.{AllByRecursion, AllZip, list_any}
use Rattle.std.specs.Str.Parse.{AllDigits}
use Rattle.std.specs.FinMap.Entries.{find}
use Rattle.std.proofs.lemmas.Bool.Decides.{nat_tests}
use Rattle.ident_rules.specs.declared.key.Key.{Key}
use Rattle.resource_schema.specs.declared.schema.Schema.{Schema}
use Rattle.resource_schema.specs.declared.values.AttrValue.{AttrValue}
use Rattle.resource_schema.specs.declared.kinds.Relationship.{Relationship}
use Rattle.world_cells.specs.declared.rows.Row.{Row}
use Rattle.world_cells.specs.declared.rows.Link.{Link}
use Rattle.task_forms.specs.declared.operations.Who.{Who}
use Rattle.task_forms.specs.declared.operations.Member.{Member}
use Rattle.error_objects.specs.declared.refusals.Refusal.{Refusal}
use Rattle.task_forms.specs.declared.operations.Operation.TheVariants.{Create, Update}
use Rattle.ident_rules.specs.Key.{key_cmp_total, same_key, key_is}
use Rattle.world_cells.specs.World.{World, row_at, has_row, next_id, ids_of, no_link, link_at}
use Rattle.world_cells.specs.declared.cells.TheConstants.{LAST_NEXT_ID}
use Rattle.store_model.specs.Valid.{IsLinkOf, IsValidRow, IsValid}
use Rattle.resource_schema.specs.Forms.{HasForm}
use Rattle.resource_schema.specs.Kinds.{attributes_of, relationships_of}
use Rattle.error_objects.specs.Refusals.{at_pointer}
use Rattle.store_model.specs.Change.{when, Lids, key_of, bind, is_bound, refused, done, first_of, refuse_target, refuse_links, created_key, on_row, set_values, set_links, empty_links, with_row, with_next}
use Rattle.task_forms.specs.Fit.{kind_of, FitsLinkage, FitsValue, FitsOperation}
use Rattle.world_cells.specs.Lists.{IsIn}
use Rattle.store_model.specs.CellLaws.{row-with_row}
use Rattle.store_model.proofs.Valid.{next_in_range, valid_with_next, grows_with_row, valid_with_row, counter-with_next}
use Rattle.store_model.proofs.Links.{AreThere, IsGood, good_empty, good_leads, good_set_links, first_none, when_none, key_kind}
use Rattle.error_objects.specs.declared.codes.Code.TheVariants as code
use Rattle.store_model.proofs.Basics.{all_zip_set, all_zip_weaker}
use Rattle.std.proofs.lemmas.Bool.{or_left, or_right}
use Rattle.error_objects.specs.Refusals.{refusal}

-- ---- the links of a valid row

links_in : (kind : ℕ) (ids : List (List ℕ)) (x : List ℕ) → IsIn ids x → list_any (same_key (record { kind = kind; id = x })) (map (λ y. record { kind = kind; id = y }) ids) ≡ true
links_in kind [] x among = elim among [ ]
links_in kind (y ∷ ids) x (inl is) = or_left _ _ (subst (λ z. same_key (record { kind = kind; id = x }) (record { kind = kind; id = z }) ≡ true) (sym is) (ap is_eq (tied_itself key_cmp_total (record { kind = kind; id = x }))))
links_in kind (y ∷ ids) x (inr among) = or_right _ _ (links_in kind ids x among)

all_there : (there : Key → Bool) (kind : ℕ) (ids : List (List ℕ)) → ((x : List ℕ) → IsIn ids x → there (record { kind = kind; id = x }) ≡ true) → AreThere there kind ids
all_there there kind [] each = tt
all_there there kind (x ∷ ids) each = (each x (inl refl), all_there there kind ids (λ y among. each y (inr among)))

good_from : (there : Key → Bool) (rels : List Relationship) (links : List Link) → AllZip IsLinkOf rels links → ((rel : ℕ) (r : Relationship) → slice_get rels rel ≡ Some r → AreThere there r.target (ids_of (get_or links rel no_link))) → AllZip (IsGood there) rels links
good_from there [] [] h here = tt
good_from there [] (l ∷ links) h here = absurd h
good_from there (r ∷ rels) [] h here = absurd h
good_from there (r ∷ rels) (l ∷ links) h here = ((h.0, here zero r refl), good_from there rels links h.1 (λ rel. here (suc rel)))

pub row_good : (schema : Schema) (w : World) (k : Key) (row : Row) → IsValidRow schema w k row → AllZip (IsGood (has_row w)) (relationships_of schema row.key.kind) row.links
row_good schema w k row valid =
    good_from (has_row w) (relationships_of schema row.key.kind) row.links (subst (λ key. AllZip IsLinkOf (relationships_of schema key.kind) row.links) (sym valid.own_key) valid.links) (λ rel r e.
    all_there (has_row w) r.target (ids_of (link_at row rel)) (λ x among.
    valid.leads_to_rows rel (record { kind = r.target; id = x }) (
    subst (λ t. list_any (same_key (record { kind = r.target; id = x })) (map (λ y. record { kind = t; id = y }) (ids_of (link_at row rel))) ≡ true) (sym (ap (λ o. option_map_or (λ r. r.target) o 0) e))
    (links_in r.target (ids_of (link_at row rel)) x among))))

-- ---- a row that is changed in its place

pub replaced : (schema : Schema) (w : World) (key : Key) (old new : Row) → IsValid schema w → row_at w key ≡ Some old → new.key ≡ old.key
    → AllZip HasForm (attributes_of schema new.key.kind) new.values → AllZip (IsGood (has_row w)) (relationships_of schema new.key.kind) new.links → IsValid schema (with_row w new)
replaced schema w key old new valid there same values links =
    let own = valid.rows key old there in
    let here : new.key ≡ key = same ∙ own.own_key in
    valid_with_row schema w new valid (record {
      own_key = refl;
      known = subst (λ k. k.kind < length schema) (sym here) own.known;
      values = values;
      links = all_zip_weaker (IsGood (has_row w)) IsLinkOf (λ x y p. p.0) (relationships_of schema new.key.kind) new.links links;
      leads_to_rows = λ rel to leads. (grows_with_row w new).rows to (good_leads schema (has_row w) new links rel to leads);
      counted = subst (λ k. AllDigits 10 k.id → (n : ℕ) × (k.id ≡ decimal n) × (1 ≤ n) × (n < next_id w k.kind)) (sym here) own.counted;
    })

pub on_row_keeps : (schema : Schema) (w : World) (lids : Lids) (who : Who) (change : Row → Row) → IsValid schema w
    → ((key : Key) (row : Row) → key_of lids who.named ≡ Some key → row_at w key ≡ Some row → IsValid schema (with_row w (change row))) → IsValid schema (on_row w lids who change)
on_row_keeps schema w lids who change valid changed =
    elim (key_of lids who.named) as (λ o. key_of lids who.named ≡ o → IsValid schema (option_map_or (λ row. with_row w (change row)) (option_and_then (row_at w) o) w)) [
      | None ↦ λ e. valid
      | Some key ↦ λ e. elim (row_at w key) as (λ o. row_at w key ≡ o → IsValid schema (option_map_or (λ row. with_row w (change row)) o w)) [
        | None ↦ λ is. valid
        | Some row ↦ λ is. changed key row e is
      ] refl
    ] refl

set_values_fit : (schema : Schema) (kind : ℕ) (values : List (ℕ × AttrValue)) (old : List AttrValue) → AllZip HasForm (attributes_of schema kind) old → AllByRecursion (FitsValue schema kind) values → AllZip HasForm (attributes_of schema kind) (set_values old values)
set_values_fit schema kind [] old h fits = h
set_values_fit schema kind (v ∷ values) old h fits =
    set_values_fit schema kind values (slice_set old v.0 v.1) (
    all_zip_set HasForm (attributes_of schema kind) old v.0 v.1 h (λ a is. subst (λ o. MatchOption o ⊥ (λ a. HasForm a v.1)) is fits.0)
    ) fits.1

-- the kind of a named row
pub row_kind : (schema : Schema) (w : World) (lids : Lids) (who : Who) (key : Key) (row : Row) → IsValid schema w → key_of lids who.named ≡ Some key → row_at w key ≡ Some row → row.key.kind ≡ kind_of who.named
row_kind schema w lids who key row valid named is = ap (λ k. k.kind) ((valid.rows key row is).own_key) ∙ key_kind lids who.named key named

pub update_keeps : (schema : Schema) (w : World) (lids : Lids) (who : Who) (values : List (ℕ × AttrValue)) (links : List (ℕ × List Member)) → IsValid schema w → FitsOperation schema (Update who values links)
    → refused schema w lids (Update who values links) ≡ None → IsValid schema ((done schema w lids (Update who values links)).world)
update_keeps schema w lids who values links valid fits none =
    on_row_keeps schema w lids who (λ row. record row { values = set_values row.values values; links = set_links lids row.links links }) valid (λ key row named is.
    let own = valid.rows key row is in
    let kind = row_kind schema w lids who key row valid named is in
    let forms : AllZip HasForm (attributes_of schema row.key.kind) row.values = subst (λ k. AllZip HasForm (attributes_of schema k.kind) row.values) (sym own.own_key) own.values in
    let parts = first_none (refuse_target w lids who) (refuse_links (has_row w) lids (relationships_of schema (kind_of who.named)) links ∷ []) none in
    let more = first_none (refuse_links (has_row w) lids (relationships_of schema (kind_of who.named)) links) [] parts.1 in
    replaced schema w key row (record row { values = set_values row.values values; links = set_links lids row.links links }) valid is refl
    (subst (λ n. AllZip HasForm (attributes_of schema n) (set_values row.values values)) (sym kind)
    (set_values_fit schema (kind_of who.named) values row.values (subst (λ n. AllZip HasForm (attributes_of schema n) row.values) kind forms) (fits.1.each)))
    (subst (λ n. AllZip (IsGood (has_row w)) (relationships_of schema n) (set_links lids row.links links)) (sym kind)
    (good_set_links schema (kind_of who.named) (has_row w) lids links row.links (subst (λ n. AllZip (IsGood (has_row w)) (relationships_of schema n) row.links) kind (row_good schema w key row own)) (fits.2.each) more.0)))

-- ---- a new row

-- a row that is there after a new one is added: the new one itself, or one from before
there_after : (w : World) (row : Row) (to : Key) → (same_key row.key to || has_row w to) ≡ true → has_row (with_row w row) to ≡ true
there_after w row to e = subst (λ o. is_some o ≡ true) (sym (row-with_row w row to)) (
    elim (same_key to row.key) as (λ b. same_key to row.key ≡ b → is_some (cond b (Some row) (row_at w to)) ≡ true) [
      | true ↦ λ is. refl
      | false ↦ λ apart. elim (same_key row.key to) as (λ b. same_key row.key to ≡ b → (b || has_row w to) ≡ true → is_some (row_at w to) ≡ true) [
        | true ↦ λ is h. let same = key_is row.key to is in
            let tied : same_key to row.key ≡ true = subst (λ k. same_key to k ≡ true) (sym same) (ap is_eq (tied_itself key_cmp_total to)) in cc
        | false ↦ λ is h. h
      ] refl e
    ] refl)

-- the worlds before and after agree on what makes the new row valid
pub added : (schema : Schema) (w : World) (row : Row) → IsValid schema w → row.key.kind < length schema
    → AllZip HasForm (attributes_of schema row.key.kind) row.values → AllZip (IsGood (λ k. same_key row.key k || has_row w k)) (relationships_of schema row.key.kind) row.links
    → (AllDigits 10 row.key.id → (n : ℕ) × (row.key.id ≡ decimal n) × (1 ≤ n) × (n < next_id w row.key.kind)) → IsValid schema (with_row w row)
added schema w row valid known values links counted = valid_with_row schema w row valid (record {
  own_key = refl;
  known = known;
  values = values;
  links = all_zip_weaker (IsGood (λ k. same_key row.key k || has_row w k)) IsLinkOf (λ x y p. p.0) (relationships_of schema row.key.kind) row.links links;
  leads_to_rows = λ rel to leads. there_after w row to (good_leads schema (λ k. same_key row.key k || has_row w k) row links rel to leads);
  counted = counted;
})

four_none : (a b c d : Option Refusal) → first_of (a ∷ b ∷ c ∷ d ∷ []) ≡ None → (a ≡ None) × (b ≡ None) × (c ≡ None) × (d ≡ None)
four_none None None None None e = (refl, refl, refl, refl)
four_none None None None (Some r) e = cc
four_none None None (Some r) d e = cc
four_none None (Some r) c d e = cc
four_none (Some r) b c d e = cc

not_last : (n last : ℕ) → n ≤ last → (n == last) ≡ false → n + 1 ≤ last
not_last n last low apart = grind (arith, nat_tests)

next_after : (w : World) (kind n : ℕ) → next_id (with_next w kind n) kind ≡ n
next_after w kind n = ap (λ o. unwrap_or o 1) (counter-with_next w kind n kind ∙ ap (λ o. cond (is_eq o) (Some n) (find nat_cmp kind w.counters)) (tied_itself nat_cmp_total kind))

module _ (schema : Schema) (w : World) (lids : Lids) (kind : ℕ) (lid : Option (List ℕ)) (values : List AttrValue) (links : List (ℕ × List Member)) where
  -- the row that is made
  abbrev made : Key → Row
  made key = record { key = key; values = values; links = set_links (bind lids kind lid key.id) (empty_links (relationships_of schema kind)) links }

  made_links : (key : Key) (fits : AllByRecursion (λ l. FitsLinkage schema kind l.0 l.1) links) → refuse_links (λ k. same_key key k || has_row w k) (bind lids kind lid key.id) (relationships_of schema kind) links ≡ None
      → AllZip (IsGood (λ k. same_key key k || has_row w k)) (relationships_of schema kind) ((made key).links)
  made_links key fits none = good_set_links schema kind (λ k. same_key key k || has_row w k) (bind lids kind lid key.id) links (empty_links (relationships_of schema kind)) (good_empty (λ k. same_key key k || has_row w k) (relationships_of schema kind)) fits none

  pub create_keeps : (id : Option (List ℕ)) → IsValid schema w → FitsOperation schema (Create kind id lid values links) → refused schema w lids (Create kind id lid values links) ≡ None
      → IsValid schema ((done schema w lids (Create kind id lid values links)).world)
  create_keeps None valid fits none =
      let n = next_id w kind in
      let key = created_key w kind None in
      let parts = four_none (when (is_bound lids kind lid) (at_pointer code.LidBound (codes "/data/lid"))) None (when (n == LAST_NEXT_ID) (refusal code.IdsEnded))
      (refuse_links (λ k. same_key key k || has_row w k) (bind lids kind lid key.id) (relationships_of schema kind) links) none in
      let range = next_in_range schema w kind valid in
      let high : n + 1 ≤ LAST_NEXT_ID = not_last n LAST_NEXT_ID range.1 (when_none (n == LAST_NEXT_ID) (refusal code.IdsEnded) parts.2) in
      let later = valid_with_next schema w kind (n + 1) valid fits.known (up n) (above n range.0) high in
      added schema (with_next w kind (n + 1)) (made key) later fits.known fits.all_values (made_links key fits.linkages.each parts.3)
      (λ digits. (n, refl, range.0, subst (λ i. n < i) (sym (next_after w kind (n + 1))) (less n)))
    where
      up : (n : ℕ) → n ≤ n + 1
      up n = omega arith

      above : (n : ℕ) → 1 ≤ n → 1 < n + 1
      above n h = omega arith

      less : (n : ℕ) → n < n + 1
      less n = omega arith
  create_keeps (Some id) valid fits none =
      let key = created_key w kind (Some id) in
      let parts = four_none (when (is_bound lids kind lid) (at_pointer code.LidBound (codes "/data/lid"))) (when (has_row w key) (at_pointer code.IdExists (codes "/data/id"))) None
      (refuse_links (λ k. same_key key k || has_row w k) (bind lids kind lid key.id) (relationships_of schema kind) links) none in
      added schema w (made key) valid fits.known fits.all_values (made_links key fits.linkages.each parts.3) (λ digits. absurd (fits.client_id.reserved digits))
