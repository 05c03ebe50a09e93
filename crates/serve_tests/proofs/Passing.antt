-- Passes of a store, behind desks and of its making, on plain values.
use Rattle.std.proofs.Common.{◌≡◌, ℕ, zero, suc, ◌<◌, true, List, [], ◌∷◌, ◌++◌, refl, ap, sym, ◌∙◌, arith, Some}
use Rattle.ident_rules.specs.Owned.{is_among}
use Rattle.task_forms.specs.declared.tasks.Entry.{Entry}
use Rattle.history_lock.specs.declared.rule.Knows.{Knows}
use Rattle.history_lock.specs.Making.{AreMade, new_pass}
use Rattle.history_lock.specs.Views.{LockState, PassState, both_views}
use Rattle.commit_core.specs.Serving.{IsPassOf, ServiceState}
use Rattle.shared_desk.specs.Passes.{DeskState, numbers_of, owner_of}
use Rattle.shared_desk.specs.PassLaws.{same_kind, same_lock, same_numbers}

-- the pass of a desk is of the desk's store
pub desk_own : {S K : Type 0} (kind : S → K) (service : ServiceState S) (p q : PassState Entry K) (d e : DeskState K) → d ≡ record { kind = kind service.subject; lock = service.lock.name; pass = Some p } → owner_of e ≡ owner_of d
    → q.lock ≡ e.lock → q.view.kind ≡ Some e.kind → IsPassOf kind service q
desk_own {S} {K} kind service p q d e is fixed lock kinds = (
  lock ∙ same_lock e d fixed ∙ ap (λ (x : DeskState K). x.lock) is,
  kinds ∙ ap (λ (k : K). Some k) (same_kind e d fixed ∙ ap (λ (x : DeskState K). x.kind) is),
)

-- with the numbers that it had
pub desk_numbers : {S K : Type 0} (kind : S → K) (service : ServiceState S) (p q : PassState Entry K) (d e : DeskState K) → d ≡ record { kind = kind service.subject; lock = service.lock.name; pass = Some p } → owner_of e ≡ owner_of d
    → Some q ≡ e.pass → q.view.numbers ≡ p.view.numbers
desk_numbers {S} {K} kind service p q d e is fixed out = ap numbers_of out ∙ same_numbers e d fixed ∙ ap (λ (x : DeskState K). numbers_of x.pass) is

heads : {A : Type 0} (x y : A) (xs ys : List A) → x ∷ xs ≡ y ∷ ys → (x ≡ y) × (xs ≡ ys)
heads x y xs ys e = (cc e, cc e)

module _ {K : Type 0} (k : K) (lock : LockState) (made : List (PassState Entry K)) (a b : PassState Entry K) (are : AreMade 0 2 k lock made) (is : made ≡ a ∷ b ∷ []) where
  pair : a ∷ b ∷ [] ≡ new_pass lock.name lock.start k 0 ∷ new_pass lock.name lock.start k 1 ∷ []
  pair = sym is ∙ are.each

  pub first_is : a ≡ new_pass lock.name lock.start k 0
  first_is = (heads _ _ _ _ pair).0

  pub second_is : b ≡ new_pass lock.name lock.start k 1
  second_is = (heads _ _ _ _ (heads _ _ _ _ pair).1).0

-- a new pass is of its store
pub new_own : {S K : Type 0} (kind : S → K) (service : ServiceState S) (k : K) (n : ℕ) (p : PassState Entry K) → p ≡ new_pass service.lock.name service.lock.start k n → kind service.subject ≡ k → IsPassOf kind service p
new_own {S} {K} kind service k n p is same = (ap (λ (x : PassState Entry K). x.lock) is, ap (λ (x : PassState Entry K). x.view.kind) is ∙ ap (λ (x : K). Some x) (sym same))

among_two : (n : ℕ) → n < 2 → is_among n (0 ∷ 1 ∷ []) ≡ true
among_two zero low = refl
among_two (suc zero) low = refl
among_two (suc (suc n)) low = absurd (omega (arith, low))

-- joined they have all numbers
pub all_two : {K : Type 0} (lock : LockState) (k : K) (made : List (PassState Entry K)) (a b c d e : PassState Entry K) → AreMade 0 2 k lock made → made ≡ a ∷ b ∷ [] → c.view.numbers ≡ a.view.numbers → d.view.numbers ≡ b.view.numbers
    → e.view ≡ both_views (λ x. x.by) c.view d.view → (n : ℕ) → n < lock.start.passes → is_among n e.view.numbers ≡ true
all_two {K} lock k made a b c d e are is one other both n low =
    let left : c.view.numbers ≡ 0 ∷ [] = one ∙ ap (λ (x : PassState Entry K). x.view.numbers) (first_is k lock made a b are is) in
    let right : d.view.numbers ≡ 1 ∷ [] = other ∙ ap (λ (x : PassState Entry K). x.view.numbers) (second_is k lock made a b are is) in
    let numbers : e.view.numbers ≡ 0 ∷ 1 ∷ [] = ap (λ (v : Knows Entry K). v.numbers) both ∙ ap (λ (l : List ℕ). l ++ d.view.numbers) left ∙ ap (λ (l : List ℕ). (0 ∷ []) ++ l) right in
    let passes : lock.start.passes ≡ 2 = ap (λ s. s.passes) are.start in
    ap (is_among n) numbers ∙ among_two n (omega (arith, low, passes))
