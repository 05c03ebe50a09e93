use Rattle.std.proofs.Common.{◌++◌, List, ℕ, ap, sym, ◌∙◌, arith}
use Rattle.std.proofs.lemmas.Str.{encode_ascii}
use Rattle.route_table.proofs.RouteLemmas.{no_target_without_slash}
use Rattle.route_table.proofs.routes.target_of_path.Goals as goal

pub returns-in-None : goal.returns-in-None
returns-in-None c =
    no_target_without_slash c.args.schema.now c.args.path.now
    (λ rest e. c.in-None.ensures.cases rest (e ∙ ap (λ (slash : List ℕ). slash ++ rest) (sym (encode_ascii 47 (omega arith)))))
