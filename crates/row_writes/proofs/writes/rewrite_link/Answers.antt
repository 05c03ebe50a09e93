use Rattle.std.proofs.lemmas.Result.{on_ok_weaker}
use Rattle.row_writes.proofs.Backs.{turned_backs, rest_from}
use Rattle.row_writes.proofs.writes.rewrite_link.Goals as goal

pub returns-clause-backs : goal.returns-clause-backs
returns-clause-backs g c =
    on_ok_weaker c.put_backs.result
    (turned_backs c.args.kind c.args.from.now c.args.rel c.args.old.now c.args.new.now c.shared_front-shared.result _ _ _ _ _
    c.shared_front-shared.ensures.same (rest_from c.shared_front-shared.result c.args.old.now) (rest_from c.shared_front-shared.result c.args.new.now) c.in_ok-remove_backs.ensures.backs)
    c.put_backs.ensures.backs
