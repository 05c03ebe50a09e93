-- New passes of a store, on plain values.
use Rattle.std.proofs.Common.{◌≡◌, ℕ, List, [], ◌∷◌, sym, ap, ◌∙◌, Some}
use Rattle.task_forms.specs.declared.tasks.Entry.{Entry}
use Rattle.history_lock.specs.Making.{AreMade, new_pass}
use Rattle.history_lock.specs.Views.{LockState, PassState}
use Rattle.commit_core.specs.Serving.{IsPassOf, ServiceState}

heads : {A : Type 0} (x y : A) (xs ys : List A) → x ∷ xs ≡ y ∷ ys → (x ≡ y) × (xs ≡ ys)
heads x y xs ys e = (cc e, cc e)

-- the one that was made
pub one_is : {K : Type 0} (first : ℕ) (k : K) (lock : LockState) (made : List (PassState Entry K)) (a : PassState Entry K) → AreMade first 1 k lock made → made ≡ a ∷ [] → a ≡ new_pass lock.name lock.start k 0
one_is first k lock made a are is = (heads _ _ _ _ (sym is ∙ are.each)).0

-- the two that were made
module _ {K : Type 0} (first : ℕ) (k : K) (lock : LockState) (made : List (PassState Entry K)) (a b : PassState Entry K) (are : AreMade first 2 k lock made) (is : made ≡ a ∷ b ∷ []) where
  pair : a ∷ b ∷ [] ≡ new_pass lock.name lock.start k 0 ∷ new_pass lock.name lock.start k 1 ∷ []
  pair = sym is ∙ are.each

  pub first_is : a ≡ new_pass lock.name lock.start k 0
  first_is = (heads _ _ _ _ pair).0

  pub second_is : b ≡ new_pass lock.name lock.start k 1
  second_is = (heads _ _ _ _ (heads _ _ _ _ pair).1).0

-- a new pass is of its store
pub new_own : {S K : Type 0} (kind : S → K) (service : ServiceState S) (k : K) (n : ℕ) (p : PassState Entry K) → p ≡ new_pass service.lock.name service.lock.start k n → kind service.subject ≡ k → IsPassOf kind service p
new_own {S} {K} kind service k n p is same = (ap (λ (x : PassState Entry K). x.lock) is, ap (λ (x : PassState Entry K). x.view.kind) is ∙ ap (λ (x : K). Some x) (sym same))
