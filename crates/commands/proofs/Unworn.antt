-- A connection makes few entries, so a store of its own is never worn.
use Rattle.std.proofs.Common.{◌≡◌, ◌≢◌, ℕ, ◌≤◌, Bool, true, false, refl, arith, subst}
use Rattle.std.specs.Prelude.{IsTrue}
use Rattle.http_messages.specs.declared.ends.SessionEnd.{SessionEnd}
use Rattle.http_messages.specs.declared.ends.SessionEnd.TheVariants.{Worn}
use Rattle.task_forms.specs.Desks.{last_number}
use Rattle.session_engine.specs.Seen.{IfWorn}

pub unworn : (worn : Bool) (count : ℕ) → count ≤ 1000000 → (IsTrue worn → count ≡ last_number) → worn ≡ false
unworn false count few wearing = refl
unworn true count few wearing = let many : count ≡ 4611686018427387904 = wearing refl in absurd (omega (arith, few, many))

pub ends_unworn : (worn : Bool) (end : SessionEnd) → worn ≡ false → IfWorn end (IsTrue worn) → end ≢ Worn
ends_unworn true end e h is = cc e
ends_unworn false end e h is = let t : false ≡ true = subst (λ (x : SessionEnd). IfWorn x (IsTrue false)) is h in cc t
