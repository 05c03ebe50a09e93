use Rattle.std.proofs.Common.{ap, sym, ◌∙◌, ◌++◌, arith, List, ℕ}
use Rattle.std.proofs.lemmas.Str.Pattern.{strip_suffix_char}
use Rattle.std.specs.Prelude.{codes}
use Rattle.query_families.proofs.FamilyNames.{in_family, no_family}
use Rattle.query_families.proofs.names.in_brackets.Goals as goal

pub returns-in-Some : goal.returns-in-Some
returns-in-Some c =
    in_family c.args.name.now c.in-Some.behind.now c.strip_suffix.result (c.in-Some.ensures.cases.1.1 ∙ ap (λ (l : List ℕ). codes "fields[" ++ l) (sym c.in-Some.ensures.cases.2))
    (strip_suffix_char 93 c.in-Some.behind.now c.strip_suffix.result c.strip_suffix.ensures.cases (omega arith))

pub returns-in-None : goal.returns-in-None
returns-in-None c = no_family c.args.name.now c.in-None.ensures.cases
