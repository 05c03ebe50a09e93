-- The resource that an operation changes: what it is refused for, and its row.
use Rattle.std.proofs.Common.{◌≡◌, [], ap, ◌∙◌, Some, None}
use Rattle.std.specs.Prelude.{codes, is_some, not}
use Rattle.std.specs.Option.{option_and_then}
use Rattle.ident_rules.specs.declared.key.Key.{Key}
use Rattle.world_cells.specs.declared.rows.Row.{Row}
use Rattle.world_cells.specs.World.{World, row_at}
use Rattle.task_forms.specs.declared.operations.Who.{Who}
use Rattle.error_objects.specs.declared.codes.Code.TheVariants as code
use Rattle.store_model.specs.Change.{Lids, key_of, refuse_key, refuse_target, at_target, named_row, when}

pub target_unbound : (now : World) (lids : Lids) (who : Who) → key_of lids who.named ≡ None → refuse_target now lids who ≡ Some (at_target code.UnknownLid who (codes "/lid"))
target_unbound now lids who is = ap (refuse_key now who) is

pub target_missing : (now : World) (lids : Lids) (who : Who) (key : Key) → key_of lids who.named ≡ Some key → row_at now key ≡ None → refuse_target now lids who ≡ Some (at_target code.NotFound who [])
target_missing now lids who key is none = ap (refuse_key now who) is ∙ ap (λ o. when (not (is_some o)) (at_target code.NotFound who [])) none

pub target_there : (now : World) (lids : Lids) (who : Who) (key : Key) (row : Row) → key_of lids who.named ≡ Some key → row_at now key ≡ Some row → (refuse_target now lids who ≡ None) × (named_row now lids who ≡ Some row)
target_there now lids who key row is there =
    (ap (refuse_key now who) is ∙ ap (λ o. when (not (is_some o)) (at_target code.NotFound who [])) there, ap (option_and_then (row_at now)) is ∙ there)
