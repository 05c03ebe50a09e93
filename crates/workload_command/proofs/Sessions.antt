-- A session makes few entries, so its counts are exact and its store is not worn.
use Rattle.std.proofs.Common.{◌≡◌, ℕ, ◌≤◌, ◌==◌, Bool, true, false, List, length, not, refl, arith}
use Rattle.std.specs.Prelude.{IsTrue}
use Rattle.std.proofs.Math.Nat.{min-eq_left}
use Rattle.std.proofs.lemmas.List.Filters.{length-filter_both}
use Rattle.task_forms.specs.declared.tasks.Entry.{Entry}
use Rattle.task_forms.specs.Desks.{last_number}
use Rattle.workload_command.specs.Tallies.{capped, most, replies_with, tally_of}

pub unworn : (worn : Bool) (count : ℕ) → count ≤ 1000000 → (IsTrue worn → count ≡ last_number) → worn ≡ false
unworn false count few wearing = refl
unworn true count few wearing = let many : count ≡ 4611686018427387904 = wearing refl in absurd (omega (arith, few, many))

module _ (entries : List Entry) (few : length entries ≤ 1000000) where
  exact : (status : ℕ) → most (replies_with status entries) ≡ replies_with status entries
  exact status =
      let p : Entry → Bool = λ e. e.reply.status == status in
      let q : Entry → Bool = λ e. not (p e) in
      let both = length-filter_both p q (λ e. refl) entries in
      min-eq_left (omega (arith, both, few))

  pub exact-tally : capped (tally_of entries) ≡ tally_of entries
  exact-tally = λ i. record { ok = exact 200 i; created = exact 201 i; empty = exact 204 i; missing = exact 404 i }
