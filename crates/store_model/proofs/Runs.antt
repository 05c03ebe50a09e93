-- A list of operations is done, or it tells of its first refused operation.
use Rattle.std.proofs.Common.{◌≡◌, ℕ, ◌+◌, List, [], ◌∷◌, ◌++◌, Bool, true, false, length, refl, sym, ap, subst, ◌∙◌, Some, None, Option, arith, inl, suc}
use Rattle.std.specs.Prelude.{Result, Ok, Err}
use Rattle.std.specs.Option.{option_and_then}
use Rattle.std.specs.List.{AllByRecursion}
use Rattle.resource_schema.specs.declared.schema.Schema.{Schema}
use Rattle.world_cells.specs.declared.rows.Row.{Row}
use Rattle.world_cells.specs.Lists.{IsIn}
use Rattle.world_cells.specs.World.{World, row_at}
use Rattle.error_objects.specs.declared.refusals.Blame.{Blame}
use Rattle.error_objects.specs.declared.refusals.Blame.TheVariants as blame
use Rattle.error_objects.specs.declared.refusals.Refusal.{Refusal}
use Rattle.error_objects.specs.Codes.{Source, no_source, some_pointer, pointer_in_list, some_parameter, some_header, header, told}
use Rattle.error_objects.specs.Refusals.{IsSource, IsSourced}
use Rattle.task_forms.specs.declared.operations.Operation.{Operation}
use Rattle.task_forms.specs.declared.tasks.ReplyForm.{ReplyForm}
use Rattle.store_model.specs.Change.{Lids, refused, done, outcome}
use Rattle.store_model.specs.Run.{Ran, run, run_from, and_then, after_one, operation_pointer, refusal_under, blame_under}
use Rattle.store_model.specs.Answer.{run_world, run_reply}
use Rattle.store_model.specs.Laws.{AreDone, IsUnder, IsAllOrNothing, IsPlaced, is_list_form}
use Rattle.store_model.proofs.Basics.{in_right, in_all}
use Rattle.store_model.proofs.Sources.{refusal_sourced}

-- one operation is the first that is refused, of a list that begins with number i
record FirstFrom (schema : Schema) (form : ReplyForm) (i : ℕ) (w : World) (lids : Lids) (operations : List Operation) (r : Refusal) : Type 0 where
  earlier : List Operation
  operation : Operation
  later : List Operation
  split : operations ≡ earlier ++ operation ∷ later
  world : World
  bound : Lids
  are_done : AreDone schema w lids earlier world bound
  why : Refusal
  is_refused : refused schema world bound operation ≡ Some why
  told_so : r ≡ refusal_under (operation_pointer form (i + length earlier)) why

abbrev Tells : Schema → ReplyForm → ℕ → World → Lids → List Operation → Result Ran Refusal → Type 0
Tells schema form i w lids operations (Ok ran) = (bound : Lids) × AreDone schema w lids operations ran.world bound
Tells schema form i w lids operations (Err r) = FirstFrom schema form i w lids operations r

one_later : (i n : ℕ) → (i + 1) + n ≡ i + suc n
one_later i n = omega arith

none_later : (i : ℕ) → i ≡ i + 0
none_later i = omega arith

from_none : (n : ℕ) → 0 + n ≡ n
from_none n = omega arith

-- what the rest tells, after one operation that is done
after_tells : (schema : Schema) (form : ReplyForm) (i : ℕ) (w : World) (lids : Lids) (operation : Operation) (operations : List Operation) (row : Option Row) → refused schema w lids operation ≡ None
    → (r : Result Ran Refusal) → Tells schema form (i + 1) ((done schema w lids operation).world) ((done schema w lids operation).lids) operations r
    → Tells schema form i w lids (operation ∷ operations) (after_one row r)
after_tells schema form i w lids operation operations row none (Ok ran) tells = (tells.0, (none, tells.1))
after_tells schema form i w lids operation operations row none (Err r) tells = record {
  earlier = operation ∷ tells.earlier;
  operation = tells.operation;
  later = tells.later;
  split = ap (λ more. operation ∷ more) tells.split;
  world = tells.world;
  bound = tells.bound;
  are_done = (none, tells.are_done);
  why = tells.why;
  is_refused = tells.is_refused;
  told_so = tells.told_so ∙ ap (λ n. refusal_under (operation_pointer form n) tells.why) (one_later i (length tells.earlier));
}

run_tells : (schema : Schema) (form : ReplyForm) (i : ℕ) (w : World) (lids : Lids) (operations : List Operation) → Tells schema form i w lids operations (run_from schema form i w lids operations)
run_tells schema form i w lids [] = (lids, (refl, refl))
run_tells schema form i w lids (operation ∷ operations) =
    let changed = done schema w lids operation in
    elim (refused schema w lids operation) as (λ o. refused schema w lids operation ≡ o → Tells schema form i w lids (operation ∷ operations) (and_then (operation_pointer form i) (outcome o (done schema w lids operation)) (λ changed. run_from schema form (i + 1) changed.world changed.lids operations))) [
      | None ↦ λ none. after_tells schema form i w lids operation operations (option_and_then (row_at changed.world) changed.key) none (run_from schema form (i + 1) changed.world changed.lids operations)
          (run_tells schema form (i + 1) changed.world changed.lids operations)
      | Some r ↦ λ is. record {
        earlier = [];
        operation = operation;
        later = operations;
        split = refl;
        world = w;
        bound = lids;
        are_done = (refl, refl);
        why = r;
        is_refused = is;
        told_so = ap (λ n. refusal_under (operation_pointer form n) r) (none_later i);
      }
    ] refl

under_is : (at : List ℕ) (b : Blame) → IsUnder at (blame_under at b)
under_is at (blame.Pointer p) = (p, refl)
under_is at (blame.Parameter p) = tt
under_is at (blame.Header p) = tt
under_is at blame.Nothing = tt

-- what is not refused is done, and what is refused leaves the world
pub all_or_nothing : (schema : Schema) (w : World) (operations : List Operation) (form : ReplyForm) → IsAllOrNothing schema w operations form (run schema form w operations)
all_or_nothing schema w operations form = by (run schema form w operations) refl (run_tells schema form 0 w [] operations)
  where
    by : (r : Result Ran Refusal) → run schema form w operations ≡ r → Tells schema form 0 w [] operations r → IsAllOrNothing schema w operations form r
    by (Ok ran) e tells = (tells, ap (run_world w) e)
    by (Err r) e tells =
        let is : r ≡ refusal_under (operation_pointer form (length tells.earlier)) tells.why = tells.told_so ∙ ap (λ n. refusal_under (operation_pointer form n) tells.why) (from_none (length tells.earlier)) in (
          record {
            earlier = tells.earlier;
            operation = tells.operation;
            later = tells.later;
            split = tells.split;
            world = tells.world;
            lids = tells.bound;
            are_done = tells.are_done;
            why = tells.why;
            is_refused = tells.is_refused;
            told = is;
            under = subst (λ (q : Refusal). IsUnder (operation_pointer form (length tells.earlier)) q.blame) (sym is) (under_is (operation_pointer form (length tells.earlier)) tells.why.blame);
          },
          ap (run_world w) e,
          ap (run_reply schema form operations) e,
        )

-- ---- what is blamed

-- a source in an operation is one in its request
under_source : (in_list : Bool) (s : Source) (at : List ℕ) (b : Blame) → IsSource in_list s b → IsSource in_list s (blame_under at b)
under_source in_list no_source at b h = ap (blame_under at) h
under_source in_list some_pointer at (blame.Pointer p) h = h
under_source in_list some_pointer at (blame.Parameter p) h = h
under_source in_list some_pointer at (blame.Header p) h = h
under_source in_list some_pointer at blame.Nothing h = h
under_source true pointer_in_list at (blame.Pointer p) h = h
under_source true pointer_in_list at (blame.Parameter p) h = h
under_source true pointer_in_list at (blame.Header p) h = h
under_source true pointer_in_list at blame.Nothing h = h
under_source false pointer_in_list at b h = ap (blame_under at) h
under_source in_list some_parameter at (blame.Pointer p) h = h
under_source in_list some_parameter at (blame.Parameter p) h = h
under_source in_list some_parameter at (blame.Header p) h = h
under_source in_list some_parameter at blame.Nothing h = h
under_source in_list some_header at (blame.Pointer p) h = h
under_source in_list some_header at (blame.Parameter p) h = h
under_source in_list some_header at (blame.Header p) h = h
under_source in_list some_header at blame.Nothing h = h
under_source in_list (header name) at b h = ap (blame_under at) h

-- what a refused request is blamed for is what the code asks for
pub run_sourced : (schema : Schema) (form : ReplyForm) (w : World) (operations : List Operation) (r : Refusal)
    → AllByRecursion (IsPlaced (is_list_form form)) operations → run schema form w operations ≡ Err r → IsSourced (is_list_form form) r
run_sourced schema form w operations r placed e =
    by (subst (λ (q : Result Ran Refusal). Tells schema form 0 w [] operations q) e (run_tells schema form 0 w [] operations))
  where
    by : FirstFrom schema form 0 w [] operations r → IsSourced (is_list_form form) r
    by first =
        let among : IsIn operations first.operation = subst (λ (all : List Operation). IsIn all first.operation) (sym first.split) (in_right first.earlier (first.operation ∷ first.later) first.operation (inl refl)) in
        let here = in_all (IsPlaced (is_list_form form)) operations first.operation placed among in
        let sourced = refusal_sourced (is_list_form form) schema first.world first.bound first.operation first.why here first.is_refused in
        subst (λ (q : Refusal). IsSourced (is_list_form form) q) (sym first.told_so) (under_source (is_list_form form) ((told first.why.code).source) (operation_pointer form (0 + length first.earlier)) first.why.blame sourced)
