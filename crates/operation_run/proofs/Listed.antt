-- A list of operations over a recorder: at first, one operation further, and where it ends.
use Rattle.std.proofs.Common.{◌≡◌, ℕ, ◌+◌, ◌<◌, Bool, true, false, List, [], ◌∷◌, ◌++◌, drop, drop-cons, add-one, get_or, length, suc, zero, Option, refl, sym, ap, subst, ◌∙◌, arith}
use Rattle.std.specs.Prelude.{⊤, IsTrue, IfOk, Result, Ok, Err}
use Rattle.std.specs.List.{AllByRecursion, list_any}
use Rattle.std.specs.Option.{option_and_then}
use Rattle.std.proofs.lemmas.List.{drop_all}
use Rattle.serde_json.specs.Data.{Data}
use Rattle.serde_json.specs.Written.{comma_if, compact_text}
use Rattle.ident_rules.specs.declared.key.Key.{Key}
use Rattle.ident_rules.specs.declared.memory.NoMemory.{NoMemory}
use Rattle.ident_rules.specs.declared.step_errors.StepError.{StepError}
use Rattle.ident_rules.specs.declared.step_errors.StepError.TheVariants as stops
use Rattle.http_messages.specs.declared.messages.Reply.{Reply}
use Rattle.resource_schema.specs.declared.schema.Schema.{Schema}
use Rattle.world_cells.specs.declared.sets.Written.{Written}
use Rattle.world_cells.specs.Reads.{Cells, AgreeOn, Leads, covers, overlay}
use Rattle.world_cells.specs.World.{World, cell_at, row_at}
use Rattle.error_objects.specs.declared.refusals.Refusal.{Refusal}
use Rattle.error_objects.specs.declared.refusals.Read.TheVariants as read
use Rattle.error_objects.specs.ErrorReply.{error_reply}
use Rattle.task_forms.specs.Fit.{FitsOperation}
use Rattle.task_forms.specs.declared.operations.Operation.{Operation}
use Rattle.task_forms.specs.declared.tasks.ReplyForm.TheVariants as reply_form
use Rattle.store_model.specs.Answer.{is_create, result_data, results_reply, run_reply, run_world}
use Rattle.store_model.specs.Change.{Lids, Changed, apply}
use Rattle.store_model.specs.Reach.{is_row_in, reach_operation, reach_operations}
use Rattle.store_model.specs.Run.{operation_pointer, refusal_under}
use Rattle.store_model.specs.Valid.{IsValid}
use Rattle.view_reads.specs.Recording.{Follows, Recording}
use Rattle.view_reads.specs.RecordingLaws.{follows_itself, follows_on}
use Rattle.trial_steps.specs.Steps.{LooksAt, ReadsWithin, Sees, StandsBehind}
use Rattle.trial_steps.specs.Runners.{TellsList}
use Rattle.row_change.specs.Trial.{TellsChange}
use Rattle.json_texts.specs.Drafts.{Adds}
use Rattle.operation_run.specs.Texts.{IsDraftOf, keys_of, list_data, result_key}
use Rattle.operation_run.specs.Running.{IsReached}
use Rattle.operation_run.specs.Listing.{EndsList, HasCome, IsDone, IsNext, IsRunTo, IsStopped, ReadsInList, TellsNext}
use Rattle.operation_run.specs.declared.lists.Listing.{Listing}
use Rattle.operation_run.proofs.Drafts.{draft_next}
use Rattle.operation_run.proofs.Reached.{reach_next, reached_first, reached_last, reached_next, reached_refused}
use Rattle.operation_run.proofs.KeyReach.{created_result}
use Rattle.operation_run.proofs.Steps.{outcome_refused, refusal_under-both, sees_changed}

-- ---- one operation

module _ {V : Type 0} (schema : Schema) (cells : V → Cells) (i : ℕ) (operation : Operation) (old new : Listing) (a b : Recording V) where
  -- that is done, and its result appended
  pub tells_done : (later : Lids) (key shown : Option Key) (c : Recording V) → shown ≡ result_key operation key → FitsOperation schema operation → Follows a b → TellsChange schema cells [] operation old.lids later a b (read.Good key)
      → LooksAt (is_row_in (keys_of shown)) b c
      → Sees schema cells b c (λ now. Adds old.results new.results (comma_if old.later ++ compact_text (result_data schema true (option_and_then (row_at now) shown))))
      → new.lids ≡ later → new.later ≡ true → TellsNext schema cells i operation old new a c (Ok tt)
  tells_done later key shown c shown_is fits follows tells looks sees lids_are later_is w now behind leads =
      let seen = sees_changed schema cells operation old.lids later key a b tells shown c looks
      (λ v. Adds old.results new.results (comma_if old.later ++ compact_text (result_data schema true (option_and_then (row_at v) shown)))) fits follows sees w now behind leads in
      let done = seen.0 in
      let text = ap (λ (o : Option Key). result_data schema true (option_and_then (row_at done.changed.world) o)) shown_is
      ∙ created_result schema done.changed.world operation key
      ∙ ap (λ (o : Option Key). result_data schema (is_create operation) (option_and_then (row_at done.changed.world) o)) done.key_is in
      subst (λ (o : Result Changed Refusal). IsNext schema i operation old new w c.writes (Ok tt) o) (sym done.is) (record {
        lids = lids_are ∙ done.lids_are;
        leads = seen.2;
        result = subst (λ (d : Data). Adds old.results new.results (comma_if old.later ++ compact_text d)) text seen.1;
        later = later_is;
      })

  -- that is refused
  pub tells_refused : (later : Lids) (r told : Refusal) → TellsChange schema cells [] operation old.lids later a b (read.Refused r) → told ≡ refusal_under (operation_pointer reply_form.Results i) r
      → TellsNext schema cells i operation old new a b (Err (stops.Because told))
  tells_refused later r told tells under w now behind leads =
      let is = outcome_refused schema old.lids later w b (apply schema now operation old.lids) r (tells w now behind leads) in
      subst (λ (o : Result Changed Refusal). IsNext schema i operation old new w b.writes (Err (stops.Because told)) o) (sym is.1)
      (under ∙ ap (refusal_under (operation_pointer reply_form.Results i)) is.2 ∙ refusal_under-both (operation_pointer reply_form.Results i) is.0)

  next_done : (w : World) (writes : List Written) (x : ⊤) (o : Result Changed Refusal) → IsNext schema i operation old new w writes (Ok x) o → (changed : Changed) × (o ≡ Ok changed) × IsDone schema operation changed old new w writes
  next_done w writes x (Ok changed) is = (changed, refl, is)
  next_done w writes x (Err e) is = absurd is

  next_refused : (w : World) (writes : List Written) (r : Refusal) (o : Result Changed Refusal) → IsNext schema i operation old new w writes (Err (stops.Because r)) o
      → (e : Refusal) × (o ≡ Err e) × (r ≡ refusal_under (operation_pointer reply_form.Results i) e)
  next_refused w writes r (Ok changed) is = absurd is
  next_refused w writes r (Err e) is = (e, refl, is)

-- ---- the list

pub drop_next : (operations : List Operation) (i : ℕ) (operation : Operation) → i < length operations → operation ≡ get_or operations i operation → drop i operations ≡ operation ∷ drop (i + 1) operations
drop_next operations i operation h is = rw (add-one, drop-cons operations i operation) (ap (λ y. y ∷ drop (suc i) operations) (sym is))

all_drop : {A : Type 0} (P : A → Type 0) (i : ℕ) (xs : List A) → AllByRecursion P xs → AllByRecursion P (drop i xs)
all_drop P zero xs h = h
all_drop P (suc i) [] h = tt
all_drop P (suc i) (x ∷ xs) h = all_drop P i xs h.1

pub fits_next : (schema : Schema) (operations : List Operation) (i : ℕ) (operation : Operation) → drop i operations ≡ operation ∷ drop (i + 1) operations → AllByRecursion (FitsOperation schema) operations → FitsOperation schema operation
fits_next schema operations i operation split fits = (subst (λ (l : List Operation). AllByRecursion (FitsOperation schema) l) split (all_drop (FitsOperation schema) i operations fits)).0

module _ {V : Type 0} (schema : Schema) (cells : V → Cells) (operations : List Operation) where
  -- at first
  pub run_begun : (a : Recording V) (list : Listing) → a.writes ≡ [] → list.lids ≡ [] → IsDraftOf list.results list.later [] → IsRunTo schema cells operations 0 a a list
  run_begun a list none unbound draft = record {
    follows = follows_itself a;
    tells = λ w valid agrees. record {
      now = w;
      done = [];
      reached = subst (λ (lids : Lids). IsReached schema operations 0 w w lids []) (sym unbound) (reached_first schema operations w valid);
      leads = λ k. ap (λ (ws : List Written). overlay (cell_at schema w) ws k) none;
      draft = draft;
    };
    reach = λ w valid same k new old. cc (new, old);
  }

  module _ (i : ℕ) (operation : Operation) (split : drop i operations ≡ operation ∷ drop (i + 1) operations) (a b c : Recording V) (old new : Listing) (to : IsRunTo schema cells operations i a b old) (follows : Follows b c) where
    stands : (w now : World) → IsValid schema w → AgreeOn c.reads (cell_at schema w) (cells a.store) → IsValid schema now → StandsBehind schema (cells b.store) c.reads w now
    stands w now valid agrees now_valid = record {
      valid = valid;
      agrees = λ k e. agrees k e ∙ ap (λ (s : V). cells s k) (sym to.follows.store);
      now_valid = now_valid;
    }

    come : (w : World) → IsValid schema w → AgreeOn c.reads (cell_at schema w) (cells a.store) → HasCome schema operations i w b.writes old
    come w valid agrees = to.tells w valid (λ k e. agrees k (follows.reads k e))

    reach_on : ReadsWithin schema cells (λ now. reach_operation now old.lids operation) b c → ReadsInList schema cells operations a c
    reach_on reads w valid same k fresh before = by (covers b.reads k) refl
      where
        by : (m : Bool) → covers b.reads k ≡ m → IsTrue (reach_operations schema w [] operations k)
        by true is = to.reach w valid same k is before
        by false is =
            let at = come w valid (λ j e. same j) in
            reach_next schema operations w i at.now old.lids at.done at.reached operation split k
            (reads w at.now valid (λ j. same j ∙ ap (λ (s : V). cells s j) (sym to.follows.store)) at.reached.valid at.leads k fresh is)

    -- one operation further
    pub run_next : (x : ⊤) → FitsOperation schema operation → TellsNext schema cells i operation old new b c (Ok x) → ReadsWithin schema cells (λ now. reach_operation now old.lids operation) b c
        → IsRunTo schema cells operations (i + 1) a c new
    run_next x fits tells reads = record {
      follows = follows_on a b c to.follows follows;
      tells = λ w valid agrees.
          let at = come w valid agrees in
          let next = next_done schema cells i operation old new b c w c.writes x (apply schema at.now operation old.lids) (tells w at.now (stands w at.now valid agrees at.reached.valid) at.leads) in
          let d = result_data schema (is_create operation) (option_and_then (row_at next.0.world) next.0.key) in
          record {
            now = next.0.world;
            done = at.done ++ d ∷ [];
            reached = subst (λ (lids : Lids). IsReached schema operations (i + 1) w next.0.world lids (at.done ++ d ∷ [])) (sym next.2.lids)
                (reached_next schema operations w i at.now old.lids at.done at.reached operation split next.0 fits next.1);
            leads = next.2.leads;
            draft = subst (λ (later : Bool). IsDraftOf new.results later (at.done ++ d ∷ [])) (sym next.2.later)
                (draft_next old.results new.results old.later at.done d at.draft next.2.result);
          };
      reach = reach_on reads;
    }

    -- the first that is refused
    run_stopped : (r : Refusal) → TellsNext schema cells i operation old new b c (Err (stops.Because r)) → ReadsWithin schema cells (λ now. reach_operation now old.lids operation) b c
        → IsStopped schema cells operations a c r
    run_stopped r tells reads = record {
      follows = follows_on a b c to.follows follows;
      tells = λ w valid agrees.
          let at = come w valid agrees in
          let next = next_refused schema cells i operation old new b c w c.writes r (apply schema at.now operation old.lids) (tells w at.now (stands w at.now valid agrees at.reached.valid) at.leads) in
          reached_refused schema operations w i at.now old.lids at.done at.reached operation split next.0 next.1 ∙ ap Err (sym next.2);
      reach = reach_on reads;
    }

    pub run_ended : (stop : StepError Refusal) → TellsNext schema cells i operation old new b c (Err stop) → ReadsWithin schema cells (λ now. reach_operation now old.lids operation) b c → EndsList schema cells operations a c (Err stop)
    run_ended (stops.Because r) tells reads = run_stopped r tells reads
    run_ended stops.NoMemory tells reads = tt

  -- ---- where it ends

  within_all : (a b : Recording V) → a.writes ≡ [] → ReadsInList schema cells operations a b → ReadsWithin schema cells (λ w k. reach_operations schema w [] operations k) a b
  within_all a b none reach w now valid same now_valid leads k fresh old =
      reach now now_valid (λ j. sym (leads j) ∙ ap (λ (ws : List Written). overlay (cell_at schema w) ws j) none ∙ same j) k fresh old

  -- each is done
  pub list_done : (a b : Recording V) (list : Listing) (created : Bool) (result : Result Reply NoMemory) → a.writes ≡ [] → created ≡ list_any is_create operations → EndsList schema cells operations a b (Ok list)
      → IfOk result (λ r. (done : List Data) → IsDraftOf list.results list.later done → r ≡ results_reply created (list_data done)) → IfOk result (λ r. r.status < 400)
      → IfOk result (λ r. TellsList schema cells operations reply_form.Results a b r)
  list_done a b list created (Err e) none is to told low = tt
  list_done a b list created (Ok r) none is to told low = record {
    follows = to.follows;
    told = λ w valid agrees.
        let at = to.tells w valid agrees in
        let end = reached_last schema operations w (length operations) at.now list.lids at.done at.reached (drop_all (length operations) operations (omega arith)) in (
          told at.done at.draft
              ∙ ap (λ (b : Bool). results_reply b (list_data at.done)) is
              ∙ ap (λ (ds : List Data). results_reply (list_any is_create operations) (list_data ds)) (sym end.3)
              ∙ ap (run_reply schema reply_form.Results operations) (sym end.1),
          subst (λ (v : World). Leads (cell_at schema w) b.writes (cell_at schema v)) (sym end.2 ∙ ap (run_world w) (sym end.1)) at.leads,
        );
    unwritten = λ high. absurd (let less = low in omega arith);
    within = within_all a b none to.reach;
  }

  -- one is refused, and the writes are forgotten
  pub list_stopped : (a b c : Recording V) (stop : StepError Refusal) (refusal : Refusal) (result : Result Reply NoMemory) → stop ≡ stops.Because refusal → a.writes ≡ [] → c ≡ record b { writes = [] } → EndsList schema cells operations a b (Err stop)
      → IfOk result (λ r. r ≡ error_reply refusal) → IfOk result (λ r. TellsList schema cells operations reply_form.Results a c r)
  list_stopped a b c stop refusal (Err e) because none forgot ends told = tt
  list_stopped a b c stop refusal (Ok r) because none forgot ends told =
      let stopped : IsStopped schema cells operations a b refusal = subst (λ (s : StepError Refusal). EndsList schema cells operations a b (Err s)) because ends in
      subst (λ (x : Recording V). TellsList schema cells operations reply_form.Results a x r) (sym forgot) (record {
        follows = record { store = stopped.follows.store; reads = stopped.follows.reads };
        told = λ w valid agrees.
            let is = stopped.tells w valid agrees in (
              told ∙ ap (run_reply schema reply_form.Results operations) (sym is),
              subst (λ (v : World). Leads (cell_at schema w) [] (cell_at schema v)) (ap (run_world w) (sym is)) (λ k. refl),
            );
        unwritten = λ high. refl;
        within = within_all a (record b { writes = [] }) none stopped.reach;
      })
