use Rattle.std.proofs.Common.{◌≡◌, ◌+◌, length, ap, sym, ◌∙◌, arith}
use mathlib.Core.Option.{some-injective}
use lib.ListN.{get_elem?}
use Rattle.std.specs.Slots.{slots_items}
use Rattle.history_lock.proofs.Closing.{found_in}
use Rattle.history_lock.proofs.joins.opened.Goals as goal

pub returns : goal.returns
returns g c =
    let view = c.args.seat.me.0 in
    let start = c.args.table.shared.key in
    let found = found_in g.T.Keeps.stands g.T.Keeps.by g.T.Keeps.kind start c.args.seat.id view _ _ c.requires.idle c.requires.all c.close_with-closed.ensures.values.2 in
    let words = c.take-home.ensures.others.3 in
    let last : c.word-last.result ≡ start.first + length view.seen =
    some-injective _ _ (sym c.word-last.ensures ∙ ap (λ w. get_elem? (slots_items w) 1) words ∙ found.last) in
    let first = c.requires.first in
    record {
      value = found.value;
      there = some-injective _ _ (sym c.take-home.ensures.value ∙ found.taken);
      stands_for = found.stands_for;
      has_kind = found.has_kind;
      mine = found.mine;
      counted = omega (arith, last, first);
    }
