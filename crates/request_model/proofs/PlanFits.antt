-- A task that a plan gives is fit.
use Rattle.std.specs.Prelude.{ℕ, ◌||◌, Bool, true, false, not, if◌then◌else◌, List, [], ◌∷◌, codes, Some, Result, Ok, Err}
use Rattle.std.specs.Option.{ok_or}
use Rattle.std.specs.Str.{bytes_eq}
use Rattle.std.proofs.Common.{◌≡◌, refl, sym, subst}
use Rattle.std.proofs.lemmas.Slice.Eq.{bytes_eq-Decides}
use Rattle.serde_json.specs.Data.{Data}
use Rattle.serde_json.specs.Find.{get}
use Rattle.ident_rules.specs.declared.key.Key.{Key}
use Rattle.http_messages.specs.declared.messages.Message.{Message}
use Rattle.http_messages.specs.declared.messages.Reply.{Reply}
use Rattle.http_messages.specs.declared.messages.Allow.TheVariants as allow
use Rattle.json_forms.specs.Json.{json_of}
use Rattle.json_forms.specs.Order.{IsInByteOrder}
use Rattle.resource_schema.specs.declared.schema.Schema.{Schema}
use Rattle.resource_schema.specs.declared.targets.Target.{Target}
use Rattle.resource_schema.specs.declared.targets.Target.TheVariants as target
use Rattle.resource_schema.specs.Kinds.{is_many}
use Rattle.resource_schema.specs.SchemaRules.{is_schema, is_one_of}
use Rattle.task_forms.specs.declared.operations.Member.{Member}
use Rattle.task_forms.specs.declared.operations.Operation.{Operation}
use Rattle.task_forms.specs.declared.operations.Operation.TheVariants.{Remove, SetLinks, AddLinks, DropLinks}
use Rattle.task_forms.specs.declared.tasks.ReplyForm.{ReplyForm}
use Rattle.task_forms.specs.declared.tasks.ReplyForm.TheVariants as reply_form
use Rattle.task_forms.specs.declared.tasks.Task.{Task}
use Rattle.task_forms.specs.declared.tasks.Task.TheVariants as task
use Rattle.task_forms.specs.declared.tasks.Plan.TheVariants.{Run}
use Rattle.task_forms.specs.Fit.{IsKnownKey, IsMany, FitsLinkage, FitsOperation, FitsForm, IsFit}
use Rattle.error_objects.specs.declared.codes.Code.TheVariants as code
use Rattle.error_objects.specs.declared.refusals.Refusal.{Refusal}
use Rattle.error_objects.specs.Refusals.{refusal, at_header}
use Rattle.request_model.specs.Results.{err_if}
use Rattle.request_model.specs.Targets.{IsKnownTarget, split_target, target_of_path, allow_of, allows, need_of}
use Rattle.request_model.specs.Negotiation.{content, acceptable}
use Rattle.request_model.specs.Queries.{pairs_of, query_of, no_parameter}
use Rattle.request_model.specs.Documents.{bad_document, create_of, update_of, linkage_from}
use Rattle.request_model.specs.OperationLists.{operations_of}
use Rattle.request_model.specs.Plans.{body_value, primary_data, change, by_path, links_operation, data_pointer, update_task, change_of, judged, is_fetch, none_or_err, fetch_of, change_without_query, task_of, or_reply, not_allowed, task_or_reply, plan_by, planned}
use Rattle.request_model.specs.ReadingLaws.{bind-Ok, then-Ok, map-Ok, err_if-Ok, negated, ok_or-Ok}
use Rattle.request_model.proofs.Ordered.{found-ordered}
use Rattle.request_model.proofs.LinkageFits.{linkage-fits}
use Rattle.request_model.proofs.TargetFits.{target-known}
use Rattle.request_model.proofs.DocumentFits.{create_of-fits, update_of-fits}
use Rattle.request_model.proofs.ListFits.{many-from_test, operations_of-fit}
use Rattle.request_model.proofs.QueryFits.{query_of-fits, fetch-fits}

or_reply-Ok : {A : Type 0} (r : Result A Refusal) (x : A) → or_reply r ≡ Ok x → r ≡ Ok x
or_reply-Ok (Ok y) x e = cc e
or_reply-Ok (Err r) x e = cc e

-- ---- methods

-- the operations are not fetched
post_alone : (method : List ℕ) → is_one_of (codes "POST" ∷ []) method ≡ true → is_fetch method ≡ true → ⊥
post_alone method e f = by_test (bytes_eq method (codes "POST")) refl e where
  by_test : (b : Bool) → bytes_eq method (codes "POST") ≡ b → (b || false) ≡ true → ⊥
  by_test true is e =
      let same : method ≡ codes "POST" = (bytes_eq-Decides method (codes "POST")).0 is in
      let fetch : is_fetch (codes "POST") ≡ true = subst (λ m. is_fetch m ≡ true) same f in
      cc fetch
  by_test false is e = cc e

-- members are added and dropped where there are many
adds_to_many : (schema : Schema) (key : Key) (rel : ℕ) (method : List ℕ) → allows (allow_of schema (target.Linkage key rel)) method ≡ true → allows allow.One method ≡ false → is_many schema key.kind rel ≡ true
adds_to_many schema key rel method e one = by_test (is_many schema key.kind rel) e where
  by_test : (b : Bool) → allows (if b then allow.Many else allow.One) method ≡ true → b ≡ true
  by_test true e = refl
  by_test false e = cc (e, one)

not_one : (method word : List ℕ) → bytes_eq method word ≡ true → allows allow.One word ≡ false → allows allow.One method ≡ false
not_one method word is e = let same : method ≡ word = (bytes_eq-Decides method word).0 is in subst (λ m. allows allow.One m ≡ false) (sym same) e

links-fit : (schema : Schema) (key : Key) (rel : ℕ) (method : List ℕ) (members : List Member) → IsKnownKey schema key → allows (allow_of schema (target.Linkage key rel)) method ≡ true → FitsLinkage schema key.kind rel members
    → FitsOperation schema (links_operation method (by_path key) rel members)
links-fit schema key rel method members known allowed fits = by_post (bytes_eq method (codes "POST")) refl where
  many : (word : List ℕ) → bytes_eq method word ≡ true → allows allow.One word ≡ false → IsMany schema key.kind rel
  many word is e = many-from_test schema key.kind rel (adds_to_many schema key rel method allowed (not_one method word is e))

  by_delete : (b : Bool) → bytes_eq method (codes "DELETE") ≡ b → FitsOperation schema (if b then DropLinks (by_path key) rel members else SetLinks (by_path key) rel members)
  by_delete true is = (known, fits, many (codes "DELETE") is refl)
  by_delete false is = (known, fits)

  by_post : (b : Bool) → bytes_eq method (codes "POST") ≡ b
      → FitsOperation schema (if b then AddLinks (by_path key) rel members else (if bytes_eq method (codes "DELETE") then DropLinks (by_path key) rel members else SetLinks (by_path key) rel members))
  by_post true is = (known, fits, many (codes "POST") is refl)
  by_post false is = by_delete (bytes_eq method (codes "DELETE")) refl

-- ---- bodies

-- each value that is read stands in byte order
abbrev pub AreReadInOrder : Type 0
AreReadInOrder = (bytes : List ℕ) (d : Data) → json_of bytes ≡ Some d → IsInByteOrder d

body-ordered : AreReadInOrder → (bytes : List ℕ) (d : Data) → body_value bytes ≡ Ok d → IsInByteOrder d
body-ordered order bytes d e = order bytes d (ok_or-Ok (json_of bytes) (refusal code.BadJson) d e)

data-ordered : AreReadInOrder → (bytes : List ℕ) (d : Data) → primary_data bytes ≡ Ok d → IsInByteOrder d
data-ordered order bytes d e =
    let a = bind-Ok (body_value bytes) _ d e in
    found-ordered (codes "data") a.0 d (body-ordered order bytes a.0 a.1) (ok_or-Ok (get (codes "data") a.0) (bad_document []) d a.2)

-- ---- tasks

one-fits : (schema : Schema) (form : ReplyForm) (operation : Operation) → FitsOperation schema operation → FitsForm form (operation ∷ []) → IsFit schema (change form operation)
one-fits schema form operation fits formed = ((fits, tt), formed)

change_of-fits : AreReadInOrder → (schema : Schema) (method body : List ℕ) (t : Target) (asked : Task) → is_schema schema ≡ true → IsKnownTarget schema t → allows (allow_of schema t) method ≡ true → change_of schema method body t ≡ Ok asked → IsFit schema asked
change_of-fits order schema method body (target.Collection kind) asked rules known allowed e =
    let a = bind-Ok (primary_data body) _ asked e in
    let b = bind-Ok (create_of schema (Some kind) data_pointer a.0) _ asked a.2 in
    let same : change reply_form.Created b.0 ≡ asked = cc b.2 in
    let fits = create_of-fits schema (Some kind) data_pointer a.0 b.0 rules (data-ordered order body a.0 a.1) known b.1 in
    subst (IsFit schema) same (one-fits schema reply_form.Created b.0 fits.0 fits.1)
change_of-fits order schema method body (target.Resource key) asked rules known allowed e = by_delete (bytes_eq method (codes "DELETE")) e where
  by_delete : (b : Bool) → (if b then Ok (change reply_form.Empty (Remove (by_path key))) else update_task schema key body) ≡ Ok asked → IsFit schema asked
  by_delete true e = let same : change reply_form.Empty (Remove (by_path key)) ≡ asked = cc e in subst (IsFit schema) same (one-fits schema reply_form.Empty (Remove (by_path key)) known refl)
  by_delete false e =
      let a = bind-Ok (primary_data body) _ asked e in
      let b = bind-Ok (update_of schema (Some (by_path key)) data_pointer a.0) _ asked a.2 in
      let same : change reply_form.Updated b.0 ≡ asked = cc b.2 in
      let fits = update_of-fits schema (Some (by_path key)) data_pointer a.0 b.0 rules (data-ordered order body a.0 a.1) known b.1 in
      subst (IsFit schema) same (one-fits schema reply_form.Updated b.0 fits.0 fits.1)
change_of-fits order schema method body (target.Related key rel) asked rules known allowed e = cc e
change_of-fits order schema method body (target.Linkage key rel) asked rules known allowed e =
    let a = bind-Ok (primary_data body) _ asked e in
    let b = bind-Ok (linkage_from schema key.kind rel data_pointer a.0) _ asked a.2 in
    let same : change reply_form.Empty (links_operation method (by_path key) rel b.0) ≡ asked = cc b.2 in
    let fits = linkage-fits schema key.kind rel data_pointer a.0 b.0 rules known.1 b.1 in
    subst (IsFit schema) same (one-fits schema reply_form.Empty (links_operation method (by_path key) rel b.0) (links-fit schema key rel method b.0 known.0 allowed fits) refl)
change_of-fits order schema method body target.Operations asked rules known allowed e =
    let a = bind-Ok (body_value body) _ asked e in
    let b = bind-Ok (operations_of schema a.0) _ asked a.2 in
    let same : task.Change b.0 reply_form.Results ≡ asked = cc b.2 in
    subst (IsFit schema) same (operations_of-fit schema a.0 b.0 rules (body-ordered order body a.0 a.1) b.1)

fetch_of-fits : (schema : Schema) (t : Target) (query method : List ℕ) (asked : Task) → IsKnownTarget schema t → allows (allow_of schema t) method ≡ true → is_fetch method ≡ true → fetch_of schema t query ≡ Ok asked → IsFit schema asked
fetch_of-fits schema t query method asked known allowed fetch e =
    let a = map-Ok (λ q. task.Fetch (record { target = t; query = q })) (query_of schema t query) asked e in
    subst (IsFit schema) a.2 (fetch-fits schema t a.0 known (λ same. post_alone method (subst (λ t. allows (allow_of schema t) method ≡ true) same allowed) fetch) (query_of-fits schema t query a.0 a.1))

task_of-fits : AreReadInOrder → (schema : Schema) (m : Message) (t : Target) (query : List ℕ) (asked : Task) → is_schema schema ≡ true → IsKnownTarget schema t → allows (allow_of schema t) m.method ≡ true → task_of schema m t query ≡ Ok asked → IsFit schema asked
task_of-fits order schema m t query asked rules known allowed e =
    let a = then-Ok (judged (content m.fields (need_of (allow_of schema t) m.method))) _ asked e in
    let b = then-Ok (err_if (not (acceptable m.fields)) (at_header code.NotAcceptable (codes "Accept"))) _ asked a.2 in
    by_method (is_fetch m.method) refl b.2 where
      by_method : (b : Bool) → is_fetch m.method ≡ b → (if b then fetch_of schema t query else change_without_query schema m.method m.body t query) ≡ Ok asked → IsFit schema asked
      by_method true is e = fetch_of-fits schema t query m.method asked known allowed is e
      by_method false is e =
          let c = then-Ok (none_or_err (no_parameter (pairs_of query))) _ asked e in
          change_of-fits order schema m.method m.body t asked rules known allowed c.2

run-Ok : (r : Result Task Reply) (t : Task) → plan_by r ≡ Run t → r ≡ Ok t
run-Ok (Ok x) t e = cc e
run-Ok (Err reply) t e = cc e

-- a task that the plan of a message gives
pub planned-fits : AreReadInOrder → (schema : Schema) (m : Message) (t : Task) → is_schema schema ≡ true → planned schema m ≡ Run t → IsFit schema t
planned-fits order schema m t rules e =
    let whole = run-Ok (task_or_reply schema m) t e in
    let a = bind-Ok (or_reply (ok_or (split_target m.target) (refusal code.BadTarget))) _ t whole in
    let b = bind-Ok (or_reply (ok_or (target_of_path schema a.0.0) (refusal code.NotFound))) _ t a.2 in
    let c = then-Ok (err_if (not (allows (allow_of schema b.0) m.method)) (not_allowed (allow_of schema b.0))) _ t b.2 in
    let known = target-known schema a.0.0 b.0 (ok_or-Ok (target_of_path schema a.0.0) (refusal code.NotFound) b.0 (or_reply-Ok (ok_or (target_of_path schema a.0.0) (refusal code.NotFound)) b.0 b.1)) in
    let allowed : allows (allow_of schema b.0) m.method ≡ true = negated (allows (allow_of schema b.0) m.method) (err_if-Ok _ (not_allowed (allow_of schema b.0)) c.0 c.1) in
    task_of-fits order schema m b.0 a.0.1 t rules known allowed (or_reply-Ok (task_of schema m b.0 a.0.1) t c.2)
