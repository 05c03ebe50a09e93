-- A lock as it is made, and its passes.
use Rattle.std.specs.Prelude.{ℕ, zero, suc, ◌≡◌, List, [], ◌∷◌, ◌++◌, ◌+◌, length, Option, Some}
use Rattle.std.proofs.Common.{ap, ◌∙◌, arith}
use Rattle.atomic_table.specs.Seated.{TableId}
use Rattle.history_lock.specs.declared.rule.Knows.{Knows}
use Rattle.history_lock.specs.declared.rule.Start.{Start}
use Rattle.history_lock.specs.Views.{PassState, LockState, new_view}

-- a pass that has one number alone, and has seen nothing
abbrev pub new_pass : {E K : Type 0} → TableId → Start → K → ℕ → PassState E K
new_pass name start k number = record { lock = name; view = new_view start k (number ∷ []); number = number }

-- so many passes, from one number on
abbrev pub passes_from : {E K : Type 0} → TableId → Start → K → ℕ → ℕ → List (PassState E K)
passes_from name start k i zero = []
passes_from name start k i (suc n) = new_pass name start k i ∷ passes_from name start k (suc i) n

module _ {E K : Type 0} (name : TableId) (start : Start) (k : K) where
  -- one more pass behind them
  pub one_more_pass : (i count : ℕ) → passes_from {E = E} name start k i (suc count) ≡ passes_from name start k i count ++ new_pass name start k (i + count) ∷ []
  one_more_pass i zero = ap (λ (n : ℕ). new_pass name start k n ∷ []) (omega arith)
  one_more_pass i (suc count) =
      ap (λ (l : List (PassState E K)). new_pass name start k i ∷ l)
      (one_more_pass (suc i) count ∙ ap (λ (n : ℕ). passes_from name start k (suc i) count ++ new_pass name start k n ∷ []) (omega arith))

-- the lock begins so, and the i-th of its passes, from 0, has the number i alone
pub record AreMade {E K : Type 0} (first passes : ℕ) (k : K) (lock : LockState) (made : List (PassState E K)) : Type 0 where
  pub start : lock.start ≡ record { first = first; passes = passes }
  pub each : made ≡ passes_from lock.name lock.start k 0 passes

-- a closed lock leaves its value, which stands for what the pass of all numbers has seen; all of it is its own
pub record Leaves {T E K : Type 0} (stands : T → ℕ → List E → Type 0) (kind : T → K) (view : Knows E K) (home : Option T) (count : ℕ) : Type 0 where
  pub value : T
  pub there : home ≡ Some value
  pub stands_for : stands value view.first view.seen
  pub has_kind : view.kind ≡ Some (kind value)
  pub mine : view.mine ≡ view.seen
  pub counted : count ≡ length view.seen
