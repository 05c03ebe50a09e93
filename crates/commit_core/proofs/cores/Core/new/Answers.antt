use Rattle.std.proofs.Common.{◌≡◌, [], refl, sym, ap, subst, arith}
use Rattle.history_model.specs.Standing.{Keeps}
use Rattle.commit_core.specs.Tallies.{TallyState}
use Rattle.commit_core.proofs.Kept.{keeps_nothing}
use Rattle.commit_core.proofs.cores.Core.new.Goals as goal

pub returns-clause-begins : goal.returns-clause-begins
returns-clause-begins g c = λ w valid same. record {
  legal = record { valid = valid; answers = tt };
  cells = same;
  counted = let e : c.in_ok-tally.tally.count ≡ c.args.first = ap (λ (t : TallyState). t.count) c.in_ok-tally.ensures in omega (arith, e);
  noted = ([], refl, subst (λ (t : TallyState). Keeps t.log []) (sym c.in_ok-tally.ensures) (keeps_nothing c.args.window c.requires.window));
}
