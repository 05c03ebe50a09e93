-- The one operation of a plain request.
use Rattle.std.proofs.Common.{◌≡◌, ℕ, ◌<◌, false, List, [], ◌∷◌, length, Option, refl, sym, ap, subst, ◌∙◌, arith}
use Rattle.std.specs.Prelude.{IfOk, IsTrue, Result, Ok, Err}
use Rattle.std.specs.Option.{option_and_then}
use Rattle.std.proofs.lemmas.Bool.{or_left}
use Rattle.ident_rules.specs.declared.key.Key.{Key}
use Rattle.ident_rules.specs.declared.memory.NoMemory.{NoMemory}
use Rattle.http_messages.specs.declared.messages.Reply.{Reply}
use Rattle.resource_schema.specs.declared.schema.Schema.{Schema}
use Rattle.world_cells.specs.declared.rows.Row.{Row}
use Rattle.world_cells.specs.declared.sets.Written.{Written}
use Rattle.world_cells.specs.Reads.{Cells, Leads, overlay}
use Rattle.world_cells.specs.World.{World, cell_at, row_at}
use Rattle.error_objects.specs.declared.refusals.Refusal.{Refusal}
use Rattle.error_objects.specs.declared.refusals.Read.TheVariants as read
use Rattle.error_objects.specs.ErrorReply.{error_reply}
use Rattle.task_forms.specs.Fit.{FitsForm, FitsOperation}
use Rattle.task_forms.specs.declared.operations.Operation.{Operation}
use Rattle.task_forms.specs.declared.operations.Operation.TheVariants.{Create, Update, Remove, SetLinks, AddLinks, DropLinks}
use Rattle.task_forms.specs.declared.tasks.ReplyForm.{ReplyForm}
use Rattle.task_forms.specs.declared.tasks.ReplyForm.TheVariants as reply_form
use Rattle.store_model.specs.Answer.{done_reply, run_reply, run_world}
use Rattle.store_model.specs.Change.{Lids, Changed, apply}
use Rattle.store_model.specs.Laws.{is_list_form}
use Rattle.store_model.specs.Reach.{is_row_in, reach_operation, reach_operations}
use Rattle.store_model.specs.Run.{and_then, operation_pointer, refusal_under, run, run_from}
use Rattle.view_reads.specs.Recording.{Follows, Recording}
use Rattle.view_reads.specs.RecordingLaws.{follows_on}
use Rattle.trial_steps.specs.Steps.{LooksAt, ReadsWithin, Sees}
use Rattle.trial_steps.specs.Runners.{TellsList}
use Rattle.row_change.specs.Trial.{ReadsInReach, TellsChange}
use Rattle.operation_run.specs.Texts.{keys_of}
use Rattle.operation_run.specs.Replies.{one_reply}
use Rattle.operation_run.proofs.Steps.{outcome_refused, reads_both, sees_changed}

-- a plain request has one operation
pub only_one : (schema : Schema) (form : ReplyForm) (operations : List Operation) → is_list_form form ≡ false → FitsForm form operations → length operations ≡ 1
only_one schema reply_form.Created [] plain fits = absurd fits
only_one schema reply_form.Created (Create kind id lid values links ∷ []) plain fits = refl
only_one schema reply_form.Created (Create kind id lid values links ∷ o ∷ more) plain fits = absurd fits
only_one schema reply_form.Created (Update who values links ∷ more) plain fits = absurd fits
only_one schema reply_form.Created (Remove who ∷ more) plain fits = absurd fits
only_one schema reply_form.Created (SetLinks who rel members ∷ more) plain fits = absurd fits
only_one schema reply_form.Created (AddLinks who rel members ∷ more) plain fits = absurd fits
only_one schema reply_form.Created (DropLinks who rel members ∷ more) plain fits = absurd fits
only_one schema reply_form.Updated [] plain fits = absurd fits
only_one schema reply_form.Updated (Create kind id lid values links ∷ more) plain fits = absurd fits
only_one schema reply_form.Updated (Update who values links ∷ []) plain fits = refl
only_one schema reply_form.Updated (Update who values links ∷ o ∷ more) plain fits = absurd fits
only_one schema reply_form.Updated (Remove who ∷ more) plain fits = absurd fits
only_one schema reply_form.Updated (SetLinks who rel members ∷ more) plain fits = absurd fits
only_one schema reply_form.Updated (AddLinks who rel members ∷ more) plain fits = absurd fits
only_one schema reply_form.Updated (DropLinks who rel members ∷ more) plain fits = absurd fits
only_one schema reply_form.Empty operations plain fits = fits
only_one schema reply_form.Results operations plain fits = cc plain

-- its reply has no status of an error
pub one_status : (schema : Schema) (form : ReplyForm) (row : Option Row) (r : Reply) → r ≡ one_reply schema form row → r.status < 400
one_status schema form row r is = subst (λ (x : Reply). x.status < 400) (sym is) (low form)
  where
    low : (form : ReplyForm) → (one_reply schema form row).status < 400
    low reply_form.Created = omega arith
    low reply_form.Updated = omega arith
    low reply_form.Empty = omega arith
    low reply_form.Results = omega arith

no_pointer : (form : ReplyForm) → is_list_form form ≡ false → operation_pointer form 0 ≡ []
no_pointer reply_form.Created plain = refl
no_pointer reply_form.Updated plain = refl
no_pointer reply_form.Empty plain = refl
no_pointer reply_form.Results plain = cc plain

one_done : (schema : Schema) (operation : Operation) (form : ReplyForm) (row : Option Row) → is_list_form form ≡ false → done_reply schema form (operation ∷ []) (row ∷ []) ≡ one_reply schema form row
one_done schema operation reply_form.Created row plain = refl
one_done schema operation reply_form.Updated row plain = refl
one_done schema operation reply_form.Empty row plain = refl
one_done schema operation reply_form.Results row plain = cc plain

module _ (schema : Schema) (operation : Operation) (form : ReplyForm) (plain : is_list_form form ≡ false) where
  module _ (w : World) where
    ran_as : (o : Result Changed Refusal) → apply schema w operation [] ≡ o → run schema form w (operation ∷ []) ≡ and_then (operation_pointer form 0) o (λ changed. run_from schema form 1 changed.world changed.lids [])
    ran_as o is = ap (λ (r : Result Changed Refusal). and_then (operation_pointer form 0) r (λ changed. run_from schema form 1 changed.world changed.lids [])) is

    ran_done : (changed : Changed) → apply schema w operation [] ≡ Ok changed → run schema form w (operation ∷ []) ≡ Ok (record { world = changed.world; rows = option_and_then (row_at changed.world) changed.key ∷ [] })
    ran_done changed is = ran_as (Ok changed) is

    ran_refused : (e : Refusal) → apply schema w operation [] ≡ Err e → run schema form w (operation ∷ []) ≡ Err (refusal_under [] e)
    ran_refused e is = ran_as (Err e) is ∙ ap (λ (at : List ℕ). Err (refusal_under at e)) (no_pointer form plain)

  module _ {V : Type 0} (cells : V → Cells) (lids later : Lids) (unbound : lids ≡ []) (a b : Recording V) (none : a.writes ≡ []) (follows : Follows a b) (reads : ReadsInReach schema cells operation lids a b) where
    same_world : (w : World) → Leads (cell_at schema w) a.writes (cell_at schema w)
    same_world w k = ap (λ (ws : List Written). overlay (cell_at schema w) ws k) none

    in_reach : (c : Recording V) → ReadsInReach schema cells operation lids a c → ReadsWithin schema cells (λ w k. reach_operations schema w [] (operation ∷ []) k) a c
    in_reach c within w now valid same now_valid leads k new old =
        or_left _ _ (subst (λ (l : Lids). IsTrue (reach_operation now l operation k)) unbound (within w now valid same now_valid leads k new old))

    pub plain_done : (key : Option Key) (c : Recording V) (result : Result Reply NoMemory) → FitsOperation schema operation → TellsChange schema cells [] operation lids later a b (read.Good key)
        → LooksAt (is_row_in (keys_of key)) b c → Sees schema cells b c (λ now. IfOk result (λ r. r ≡ one_reply schema form (option_and_then (row_at now) key))) → IfOk result (λ r. r.status < 400)
        → IfOk result (λ r. TellsList schema cells (operation ∷ []) form a c r)
    plain_done key c (Err e) fits tells looks sees low = tt
    plain_done key c (Ok r) fits tells looks sees low = record {
      follows = follows_on a b c follows looks.follows;
      told = λ w valid agrees.
          let seen = sees_changed schema cells operation lids later key a b tells key c looks (λ v. r ≡ one_reply schema form (option_and_then (row_at v) key)) fits follows sees
          w w (record { valid = valid; agrees = agrees; now_valid = valid }) (same_world w) in
          let changed = seen.0.changed in
          let ran = ran_done w changed (ap (apply schema w operation) (sym unbound) ∙ seen.0.is) in (
            seen.1
                ∙ ap (λ (o : Option Key). one_reply schema form (option_and_then (row_at changed.world) o)) seen.0.key_is
                ∙ sym (one_done schema operation form (option_and_then (row_at changed.world) changed.key) plain)
                ∙ ap (run_reply schema form (operation ∷ [])) (sym ran),
            subst (λ (v : World). Leads (cell_at schema w) c.writes (cell_at schema v)) (ap (run_world w) (sym ran)) seen.2,
          );
      unwritten = λ high. absurd (let less = low in omega arith);
      within = in_reach c (reads_both schema cells operation lids later key a b tells key c looks (λ k e. e) reads);
    }

    pub plain_refused : (refusal : Refusal) (c : Recording V) (result : Result Reply NoMemory) → c ≡ record b { writes = [] } → TellsChange schema cells [] operation lids later a b (read.Refused refusal)
        → IfOk result (λ r. r ≡ error_reply refusal) → IfOk result (λ r. TellsList schema cells (operation ∷ []) form a c r)
    plain_refused refusal c (Err e) forgot tells told = tt
    plain_refused refusal c (Ok r) forgot tells told =
        subst (λ (x : Recording V). TellsList schema cells (operation ∷ []) form a x r) (sym forgot) (record {
          follows = record { store = follows.store; reads = follows.reads };
          told = λ w valid agrees.
              let is = outcome_refused schema lids later w b (apply schema w operation lids) refusal (tells w w (record { valid = valid; agrees = agrees; now_valid = valid }) (same_world w)) in
              let ran = ran_refused w is.0 (ap (apply schema w operation) (sym unbound) ∙ is.1) in (
                told ∙ ap error_reply is.2 ∙ ap (run_reply schema form (operation ∷ [])) (sym ran),
                subst (λ (v : World). Leads (cell_at schema w) [] (cell_at schema v)) (ap (run_world w) (sym ran)) (λ k. refl),
              );
          unwritten = λ high. refl;
          within = in_reach (record b { writes = [] }) reads;
        })
