-- Lists of operations that were read fit.
use Rattle.std.specs.Prelude.{ℕ, ◌+◌, ◌<◌, ◌≤◌, ◌==◌, Bool, true, false, not, nat_lt, if◌then◌else◌, List, [], ◌∷◌, codes, length, map, decimal, Option, Some, None, Ok, Err, IfSome, slice_get, option_map, ⊤}
use Rattle.std.specs.Option.{ok_or, option_map_or}
use Rattle.std.specs.List.{AllByRecursion, enumerate_from}
use Rattle.std.specs.Str.{bytes_eq}
use Rattle.std.proofs.Common.{◌≡◌, refl, sym, ap, ◌∙◌, arith, subst}
use Rattle.std.proofs.lemmas.Bool.Decides.{nat_tests}
use Rattle.std.proofs.lemmas.List.FromFn.{length-enumerate_from}
use Rattle.serde_json.specs.Data.{Data}
use Rattle.serde_json.specs.Find.{get, as_array, as_str}
use Rattle.json_forms.specs.Json.{items_list, text_at}
use Rattle.json_forms.specs.Order.{IsInByteOrder}
use Rattle.json_forms.specs.Pointer.{◌//◌}
use Rattle.resource_schema.specs.declared.schema.Schema.{Schema}
use Rattle.resource_schema.specs.declared.kinds.Relationship.{Relationship}
use Rattle.resource_schema.specs.declared.targets.Target.{Target}
use Rattle.resource_schema.specs.declared.targets.Target.TheVariants as target
use Rattle.resource_schema.specs.Kinds.{number_of_kind, relationship_of, relationships_of, is_many}
use Rattle.resource_schema.specs.SchemaRules.{is_schema}
use Rattle.task_forms.specs.declared.operations.Where.TheVariants as stands
use Rattle.task_forms.specs.declared.operations.Who.{Who}
use Rattle.task_forms.specs.declared.operations.Member.{Member}
use Rattle.task_forms.specs.declared.operations.Operation.{Operation}
use Rattle.task_forms.specs.declared.operations.Operation.TheVariants.{Remove, SetLinks, AddLinks, DropLinks}
use Rattle.task_forms.specs.declared.tasks.ReplyForm.TheVariants as reply_form
use Rattle.task_forms.specs.Fit.{kind_of, IsNamed, IsMany, FitsLinkage, FitsOperation, FitsForm}
use Rattle.error_objects.specs.declared.codes.Code.TheVariants as code
use Rattle.error_objects.specs.Refusals.{at_pointer}
use Rattle.request_model.specs.declared.forms.Op.{Op}
use Rattle.request_model.specs.declared.forms.Op.TheVariants as op
use Rattle.request_model.specs.declared.forms.Aim.{Aim}
use Rattle.request_model.specs.declared.forms.Aim.TheVariants as aim
use Rattle.request_model.specs.declared.forms.Act.{Act}
use Rattle.request_model.specs.declared.forms.Act.TheVariants as act
use Rattle.request_model.specs.Words.{all_ok, result_map}
use Rattle.request_model.specs.Results.{err_if}
use Rattle.request_model.specs.Targets.{IsKnownTarget, target_of_path}
use Rattle.request_model.specs.Documents.{bad_document, object_at, named_in, keeps_rule, linkage_from}
use Rattle.request_model.specs.OperationLists.{op_at, optional_text, aim_of_ref, ref_aim, aim_of_target, href_aim, aim_by, if_many, act_of, with_data, operation_by, operation_of, absent, list_pointer, operations_of}
use Rattle.request_model.specs.ReadingLaws.{bind-Ok, then-Ok, map-Ok, err_if-Ok, negated, ok_or-Ok, all_ok-zip}
use Rattle.request_model.proofs.Zips.{zip-length, zip-right, position-found}
use Rattle.request_model.proofs.Ordered.{array-ordered, found-ordered, get-ordered}
use Rattle.request_model.proofs.LinkageFits.{named_by-kind, rule-IsNamed, linkage-fits}
use Rattle.request_model.proofs.FieldFits.{relationship-known}
use Rattle.request_model.proofs.TargetFits.{target-known}
use Rattle.request_model.proofs.DocumentFits.{create_of-fits, update_of-fits}

-- ---- aims

-- a resource that is named, and a known relationship of it
abbrev IsKnownLink : Schema → Who → ℕ → Type 0
IsKnownLink schema who rel = IsNamed schema who.named × (rel < length (relationships_of schema (kind_of who.named)))

abbrev IsAim : Schema → Aim → Type 0
IsAim schema aim.Nothing = ⊤
IsAim schema (aim.Collection kind) = kind < length schema
IsAim schema (aim.Resource who) = IsNamed schema who.named
IsAim schema (aim.Relationship who rel) = IsKnownLink schema who rel
IsAim schema aim.Elsewhere = ⊤

aim_of_ref-fits : (schema : Schema) (at : List ℕ) (who : Who) (o : Option (List ℕ)) (a : Aim) → IsNamed schema who.named → aim_of_ref schema at who o ≡ Ok a → IsAim schema a
aim_of_ref-fits schema at who None a known e = let same : aim.Resource who ≡ a = cc e in subst (IsAim schema) same known
aim_of_ref-fits schema at who (Some name) a known e =
    let r = map-Ok (aim.Relationship who) (ok_or (relationship_of schema (kind_of who.named) name) (at_pointer code.NotFound (at // codes "relationship"))) a e in
    subst (IsAim schema) r.2 (known, relationship-known schema (kind_of who.named) name r.0 (ok_or-Ok (relationship_of schema (kind_of who.named) name) (at_pointer code.NotFound (at // codes "relationship")) r.0 r.1))

ref_aim-fits : (schema : Schema) (at : List ℕ) (d : Data) (a : Aim) → ref_aim schema at d ≡ Ok a → IsAim schema a
ref_aim-fits schema at d a e =
    let p = bind-Ok (ok_or (text_at (codes "type") d) (bad_document at)) _ a e in
    let q = then-Ok (ok_or (named_in 0 d) (bad_document at)) _ a p.2 in
    let r = bind-Ok (optional_text at (get (codes "relationship") d)) _ a q.2 in
    let s = bind-Ok (ok_or (number_of_kind schema p.0) (at_pointer code.NotFound (at // codes "type"))) _ a r.2 in
    let t = bind-Ok (ok_or (named_in s.0 d) (bad_document at)) _ a s.2 in
    let u = then-Ok (err_if (not (keeps_rule t.0)) (at_pointer code.NotFound (at // codes "id"))) _ a t.2 in
    let known : s.0 < length schema = (position-found (λ k. bytes_eq k.name p.0) schema s.0 (ok_or-Ok (number_of_kind schema p.0) (at_pointer code.NotFound (at // codes "type")) s.0 s.1)).3 in
    let kinds : kind_of t.0 ≡ s.0 = named_by-kind s.0 (text_at (codes "id") d) (text_at (codes "lid") d) t.0 (ok_or-Ok (named_in s.0 d) (bad_document at) t.0 t.1) in
    let rule : keeps_rule t.0 ≡ true = negated (keeps_rule t.0) (err_if-Ok (not (keeps_rule t.0)) (at_pointer code.NotFound (at // codes "id")) u.0 u.1) in
    let within : kind_of t.0 < length schema = subst (λ k. k < length schema) (sym kinds) known in
    aim_of_ref-fits schema at (record { named = t.0; place = stands.Ref }) r.0 a (rule-IsNamed schema t.0 within rule) u.2

aim_of_target-fits : (schema : Schema) (t : Target) → IsKnownTarget schema t → IsAim schema (aim_of_target t)
aim_of_target-fits schema (target.Collection kind) known = known
aim_of_target-fits schema (target.Resource key) known = known
aim_of_target-fits schema (target.Related key rel) known = tt
aim_of_target-fits schema (target.Linkage key rel) known = known
aim_of_target-fits schema target.Operations known = tt

href_aim-fits : (schema : Schema) (at : List ℕ) (d : Data) (a : Aim) → href_aim schema at d ≡ Ok a → IsAim schema a
href_aim-fits schema at d a e =
    let p = bind-Ok (ok_or (as_str d) (bad_document at)) _ a e in
    let q = bind-Ok (ok_or (target_of_path schema p.0) (at_pointer code.NotFound at)) _ a p.2 in
    let same : aim_of_target q.0 ≡ a = cc q.2 in
    subst (IsAim schema) same (aim_of_target-fits schema q.0 (target-known schema p.0 q.0 (ok_or-Ok (target_of_path schema p.0) (at_pointer code.NotFound at) q.0 q.1)))

aim_by-fits : (schema : Schema) (word : Op) (at : List ℕ) (ref href : Option Data) (a : Aim) → aim_by schema word at ref href ≡ Ok a → IsAim schema a
aim_by-fits schema word at (Some ref) (Some href) a e = cc e
aim_by-fits schema word at (Some ref) None a e = ref_aim-fits schema (at // codes "ref") ref a e
aim_by-fits schema word at None (Some href) a e = href_aim-fits schema (at // codes "href") href a e
aim_by-fits schema op.Remove at None None a e = cc e
aim_by-fits schema op.Add at None None a e = let same : aim.Nothing ≡ a = cc e in subst (IsAim schema) same tt
aim_by-fits schema op.Update at None None a e = let same : aim.Nothing ≡ a = cc e in subst (IsAim schema) same tt

-- ---- acts

abbrev IsAct : Schema → Act → Type 0
IsAct schema (act.Creates endpoint) = IfSome endpoint (λ k. k < length schema)
IsAct schema (act.Updates endpoint) = IfSome endpoint (λ w. IsNamed schema w.named)
IsAct schema (act.Removes who) = IsNamed schema who.named
IsAct schema (act.Adds who rel) = IsKnownLink schema who rel × IsMany schema (kind_of who.named) rel
IsAct schema (act.Sets who rel) = IsKnownLink schema who rel
IsAct schema (act.Drops who rel) = IsKnownLink schema who rel × IsMany schema (kind_of who.named) rel

-- the test of to-many relationships
pub many-from_test : (schema : Schema) (kind rel : ℕ) → is_many schema kind rel ≡ true → IsMany schema kind rel
many-from_test schema kind rel e = by_look (slice_get (relationships_of schema kind) rel) e where
  by_look : (o : Option Relationship) → option_map_or (λ r. r.many) o false ≡ true → option_map (λ r. r.many) o ≡ Some true
  by_look None e = cc e
  by_look (Some r) e = ap Some e

if_many-fits : (schema : Schema) (at : List ℕ) (who : Who) (rel : ℕ) (does a : Act) → if_many schema at who rel does ≡ Ok a → IsMany schema (kind_of who.named) rel × (does ≡ a)
if_many-fits schema at who rel does a e = by_test (is_many schema (kind_of who.named) rel) refl e where
  by_test : (b : Bool) → is_many schema (kind_of who.named) rel ≡ b → (if b then Ok does else Err (bad_document (at // codes "op"))) ≡ Ok a → IsMany schema (kind_of who.named) rel × (does ≡ a)
  by_test true is e = (many-from_test schema (kind_of who.named) rel is, cc e)
  by_test false is e = cc e

act_of-fits : (schema : Schema) (at : List ℕ) (d : Data) (word : Op) (aimed : Aim) (a : Act) → IsAim schema aimed → act_of schema at d word aimed ≡ Ok a → IsAct schema a
act_of-fits schema at d op.Add aim.Nothing a fits e = let same : act.Creates None ≡ a = cc e in subst (IsAct schema) same tt
act_of-fits schema at d op.Add (aim.Collection kind) a fits e = let same : act.Creates (Some kind) ≡ a = cc e in subst (IsAct schema) same fits
act_of-fits schema at d op.Add (aim.Resource who) a fits e = cc e
act_of-fits schema at d op.Add (aim.Relationship who rel) a fits e = let m = if_many-fits schema at who rel (act.Adds who rel) a e in subst (IsAct schema) m.1 (fits, m.0)
act_of-fits schema at d op.Add aim.Elsewhere a fits e = cc e
act_of-fits schema at d op.Update aim.Nothing a fits e = let same : act.Updates None ≡ a = cc e in subst (IsAct schema) same tt
act_of-fits schema at d op.Update (aim.Collection kind) a fits e = cc e
act_of-fits schema at d op.Update (aim.Resource who) a fits e = let same : act.Updates (Some who) ≡ a = cc e in subst (IsAct schema) same fits
act_of-fits schema at d op.Update (aim.Relationship who rel) a fits e = let same : act.Sets who rel ≡ a = cc e in subst (IsAct schema) same fits
act_of-fits schema at d op.Update aim.Elsewhere a fits e = cc e
act_of-fits schema at d op.Remove aim.Nothing a fits e = cc e
act_of-fits schema at d op.Remove (aim.Collection kind) a fits e = cc e
act_of-fits schema at d op.Remove (aim.Resource who) a fits e = let same : act.Removes who ≡ a = cc e in subst (IsAct schema) same fits
act_of-fits schema at d op.Remove (aim.Relationship who rel) a fits e = let m = if_many-fits schema at who rel (act.Drops who rel) a e in subst (IsAct schema) m.1 (fits, m.0)
act_of-fits schema at d op.Remove aim.Elsewhere a fits e = cc e

-- ---- operations

linked-fits : (schema : Schema) (at : List ℕ) (who : Who) (rel : ℕ) (make : List Member → Operation) (d : Data) (operation : Operation) → is_schema schema ≡ true → IsKnownLink schema who rel
    → ((members : List Member) → FitsLinkage schema (kind_of who.named) rel members → FitsOperation schema (make members))
    → result_map make (linkage_from schema (kind_of who.named) rel at d) ≡ Ok operation → FitsOperation schema operation
linked-fits schema at who rel make d operation rules known fits e =
    let members = map-Ok make (linkage_from schema (kind_of who.named) rel at d) operation e in
    subst (FitsOperation schema) members.2 (fits members.0 (linkage-fits schema (kind_of who.named) rel at d members.0 rules known.1 members.1))

with_data-fits : (schema : Schema) (at : List ℕ) (does : Act) (d : Data) (operation : Operation) → is_schema schema ≡ true → IsInByteOrder d → IsAct schema does → with_data schema at does d ≡ Ok operation → FitsOperation schema operation
with_data-fits schema at (act.Creates endpoint) d operation rules order fits e = (create_of-fits schema endpoint at d operation rules order fits e).0
with_data-fits schema at (act.Updates endpoint) d operation rules order fits e = (update_of-fits schema endpoint at d operation rules order fits e).0
with_data-fits schema at (act.Removes who) d operation rules order fits e = let same : Remove who ≡ operation = cc e in subst (FitsOperation schema) same fits
with_data-fits schema at (act.Adds who rel) d operation rules order fits e = linked-fits schema at who rel (AddLinks who rel) d operation rules fits.0 (λ members l. (fits.0.0, l, fits.1)) e
with_data-fits schema at (act.Sets who rel) d operation rules order fits e = linked-fits schema at who rel (SetLinks who rel) d operation rules fits (λ members l. (fits.0, l)) e
with_data-fits schema at (act.Drops who rel) d operation rules order fits e = linked-fits schema at who rel (DropLinks who rel) d operation rules fits.0 (λ members l. (fits.0.0, l, fits.1)) e

operation_by-fits : (schema : Schema) (at : List ℕ) (does : Act) (o : Option Data) (operation : Operation) → is_schema schema ≡ true → IfSome o IsInByteOrder → IsAct schema does → operation_by schema at does o ≡ Ok operation → FitsOperation schema operation
operation_by-fits schema at (act.Removes who) o operation rules order fits e = let same : Remove who ≡ operation = cc e in subst (FitsOperation schema) same fits
operation_by-fits schema at (act.Creates endpoint) None operation rules order fits e = cc e
operation_by-fits schema at (act.Creates endpoint) (Some d) operation rules order fits e = with_data-fits schema (at // codes "data") (act.Creates endpoint) d operation rules order fits e
operation_by-fits schema at (act.Updates endpoint) None operation rules order fits e = cc e
operation_by-fits schema at (act.Updates endpoint) (Some d) operation rules order fits e = with_data-fits schema (at // codes "data") (act.Updates endpoint) d operation rules order fits e
operation_by-fits schema at (act.Adds who rel) None operation rules order fits e = cc e
operation_by-fits schema at (act.Adds who rel) (Some d) operation rules order fits e = with_data-fits schema (at // codes "data") (act.Adds who rel) d operation rules order fits e
operation_by-fits schema at (act.Sets who rel) None operation rules order fits e = cc e
operation_by-fits schema at (act.Sets who rel) (Some d) operation rules order fits e = with_data-fits schema (at // codes "data") (act.Sets who rel) d operation rules order fits e
operation_by-fits schema at (act.Drops who rel) None operation rules order fits e = cc e
operation_by-fits schema at (act.Drops who rel) (Some d) operation rules order fits e = with_data-fits schema (at // codes "data") (act.Drops who rel) d operation rules order fits e

operation_of-fits : (schema : Schema) (at : List ℕ) (d : Data) (operation : Operation) → is_schema schema ≡ true → IsInByteOrder d → operation_of schema at d ≡ Ok operation → FitsOperation schema operation
operation_of-fits schema at d operation rules order e =
    let p = then-Ok (object_at at d) _ operation e in
    let q = bind-Ok (op_at at d) _ operation p.2 in
    let r = bind-Ok (aim_by schema q.0 at (get (codes "ref") d) (get (codes "href") d)) _ operation q.2 in
    let s = bind-Ok (act_of schema at d q.0 r.0) _ operation r.2 in
    let aimed = aim_by-fits schema q.0 at (get (codes "ref") d) (get (codes "href") d) r.0 r.1 in
    let does = act_of-fits schema at d q.0 r.0 s.0 aimed s.1 in
    operation_by-fits schema at s.0 (get (codes "data") d) operation rules (get-ordered (codes "data") d order) does s.2

-- ---- the list

enumerated : (n : ℕ) (ds : List Data) → AllByRecursion IsInByteOrder ds → AllByRecursion (λ p. IsInByteOrder p.1) (enumerate_from n ds)
enumerated n [] a = tt
enumerated n (d ∷ ds) a = (a.0, enumerated (n + 1) ds a.1)

-- each operation fits, and there are 1 to 1,000
pub operations_of-fit : (schema : Schema) (d : Data) (operations : List Operation) → is_schema schema ≡ true → IsInByteOrder d → operations_of schema d ≡ Ok operations
    → AllByRecursion (FitsOperation schema) operations × FitsForm reply_form.Results operations
operations_of-fit schema d operations rules order e =
    let a = then-Ok (object_at [] d) _ operations e in
    let b = then-Ok (absent (codes "atomic:results") d) _ operations a.2 in
    let c = then-Ok (absent (codes "data") d) _ operations b.2 in
    let f = then-Ok (absent (codes "included") d) _ operations c.2 in
    let g = bind-Ok (ok_or (get (codes "atomic:operations") d) (bad_document [])) _ operations f.2 in
    let h = bind-Ok (ok_or (as_array g.0) (bad_document list_pointer)) _ operations g.2 in
    let i = then-Ok (err_if (length (items_list h.0) == 0) (bad_document list_pointer)) _ operations h.2 in
    let j = then-Ok (err_if (nat_lt 1000 (length (items_list h.0))) (at_pointer code.TooManyOperations list_pointer)) _ operations i.2 in
    let kept : IsInByteOrder g.0 = found-ordered (codes "atomic:operations") d g.0 order (ok_or-Ok (get (codes "atomic:operations") d) (bad_document []) g.0 g.1) in
    let items = array-ordered g.0 h.0 kept (ok_or-Ok (as_array g.0) (bad_document list_pointer) h.0 h.1) in
    list-fits (items_list h.0) items (err_if-Ok _ (bad_document list_pointer) i.0 i.1) (err_if-Ok _ (at_pointer code.TooManyOperations list_pointer) j.0 j.1) j.2 where
      list-fits : (ds : List Data) → AllByRecursion IsInByteOrder ds → (length ds == 0) ≡ false → nat_lt 1000 (length ds) ≡ false
          → all_ok (map (λ p. operation_of schema (list_pointer // decimal p.0) p.1) (enumerate_from 0 ds)) ≡ Ok operations
          → AllByRecursion (FitsOperation schema) operations × FitsForm reply_form.Results operations
      list-fits ds items some few e =
          let z = all_ok-zip (λ p. operation_of schema (list_pointer // decimal p.0) p.1) (enumerate_from 0 ds) operations e in
          let long : length operations ≡ length ds = zip-length _ (enumerate_from 0 ds) operations z ∙ length-enumerate_from 0 ds in
          let first : 1 ≤ length ds = grind (arith, nat_tests, some) in
          let last : length ds ≤ 1000 = grind (arith, nat_tests, few) in (
            zip-right (λ p. IsInByteOrder p.1) _ (FitsOperation schema) (enumerate_from 0 ds) operations (λ p o order q. operation_of-fits schema (list_pointer // decimal p.0) p.1 o rules order q) (enumerated 0 ds items) z,
            (subst (λ n. 1 ≤ n) (sym long) first, subst (λ n. n ≤ 1000) (sym long) last),
          )
