use Rattle.std.proofs.Common.{Some, None, arith}
use Rattle.std.proofs.lemmas.Str.Pattern.{split_once_first}
use Rattle.route_table.proofs.RouteLemmas.{first_and_rest, one_piece}
use Rattle.route_table.proofs.pieces.first_piece.Goals as goal

pub returns-in-Some : goal.returns-in-Some
returns-in-Some c =
    let first = split_once_first 47 c.args.path.now (Some (c.in-Some.piece, c.in-Some.rest)) c.in-Some.ensures.cases (omega arith) in
    first_and_rest c.args.path.now c.in-Some.piece.now c.in-Some.rest.now first.0 first.1 first.2

pub returns-in-None : goal.returns-in-None
returns-in-None c = one_piece c.args.path.now (split_once_first 47 c.args.path.now None c.in-None.ensures.cases (omega arith))
