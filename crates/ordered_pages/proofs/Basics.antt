-- Tests that hold, taken apart.
use Rattle.std.proofs.Common.{◌≡◌, Bool, true, false, T, refl}
use Rattle.std.specs.Prelude.{◌&&◌}

pub both_T : (a b : Bool) → T (a && b) → T a × T b
both_T true b h = (tt, h)
both_T false b h = absurd h

pub true_T : (b : Bool) → T b → b ≡ true
true_T true h = refl
true_T false h = absurd h
