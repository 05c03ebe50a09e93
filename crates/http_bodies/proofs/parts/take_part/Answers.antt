use Rattle.std.proofs.Common.{◌∙◌, refl, sym, ap, length, length-append, arith}
use Rattle.http_bodies.specs.Parts.{Moves}
use Rattle.http_bodies.proofs.PartMoves.{at_ok, at_err, moves_within, moves_used, moved_none, moved_fill, moved_move, moved_kept}
use Rattle.http_bodies.proofs.parts.take_part.Goals as goal

pub returns-then-is_err-clause-takes : goal.returns-then-is_err-clause-takes
returns-then-is_err-clause-takes g c =
    let kept = at_err c.move_some.result (sym c.is_err.ensures.value ∙ c.if-is_err.true) c.move_some.ensures.kept in
    record { moved = moved_kept _ _ _ _ _ _ _ _ (moved_none _ _ _) kept; verdict = tt }

pub returns-in-End-clause-takes : goal.returns-in-End-clause-takes
returns-in-End-clause-takes g c =
    let end = c.in-End.ensures.end in
    let moved = moved_fill _ _ _ _ _ _ _ _ c.reading.invariant.moved c.fill.ensures.adds in
    record {
      moved = moved;
      verdict = (omega (arith, ap length moved.added, length-append c.args.body.now.items moved.part), end.0 ∙ c.reading.invariant.used (omega (arith, c.len-in-reading.ensures, c.reading-test.true, c.reading.body.ok.0)), end.1);
    }

pub returns-in-Failed-clause-takes : goal.returns-in-Failed-clause-takes
returns-in-Failed-clause-takes g c =
    let end = c.in-Failed.ensures.end in
    let moved = moved_fill _ _ _ _ _ _ _ _ c.reading.invariant.moved c.fill.ensures.adds in
    record {
      moved = moved;
      verdict = (omega (arith, ap length moved.added, length-append c.args.body.now.items moved.part), end.0 ∙ c.reading.invariant.used (omega (arith, c.len-in-reading.ensures, c.reading-test.true, c.reading.body.ok.0)));
    }

pub returns-then-is_err-2-clause-takes : goal.returns-then-is_err-2-clause-takes
returns-then-is_err-2-clause-takes g c =
    let kept = at_err c.move_some-in-reading.result (sym c.is_err-in-reading.ensures.value ∙ c.if-is_err-2.true) c.move_some-in-reading.ensures.kept in
    record { moved = moved_kept _ _ _ _ _ _ _ _ (moved_fill _ _ _ _ _ _ _ _ c.reading.invariant.moved c.fill.ensures.adds) kept; verdict = tt }

pub reading-init : goal.reading-init
reading-init g c =
    let moves : Moves _ c.args.buffer.now c.move_some.new.buffer c.args.body.now.items c.move_some.new.body.items =
    at_ok c.move_some.result (sym c.is_err.ensures.value ∙ c.if-is_err.false) c.move_some.ensures.moves in
    record {
      moved = moved_move _ _ _ _ _ _ _ _ _ (moved_none _ _ _) moves;
      count = refl;
      room = c.move_some.ensures.room;
      within = moves_within _ _ _ _ _ moves (omega arith);
      used = moves_used _ _ _ _ _ moves (omega arith);
    }

pub reading-preserved : goal.reading-preserved
reading-preserved g c =
    let moves : Moves _ c.fill.new.self c.move_some-in-reading.new.buffer c.reading.body.items c.move_some-in-reading.new.body.items =
    at_ok c.move_some-in-reading.result (sym c.is_err-in-reading.ensures.value ∙ c.if-is_err-2.false) c.move_some-in-reading.ensures.moves in
    record {
      moved = moved_move _ _ _ _ _ _ _ _ _ (moved_fill _ _ _ _ _ _ _ _ c.reading.invariant.moved c.fill.ensures.adds) moves;
      count = c.in-More.ensures.end.1 ∙ c.reading.invariant.count;
      room = omega (arith, c.reading.invariant.room, c.move_some-in-reading.ensures.room);
      within = moves_within _ _ _ _ _ moves c.reading.invariant.within;
      used = moves_used _ _ _ _ _ moves c.reading.invariant.within;
    }

pub returns-clause-takes : goal.returns-clause-takes
returns-clause-takes g c =
    let moved = c.reading.invariant.moved in
    record { moved = moved; verdict = omega (arith, ap length moved.added, length-append c.args.body.now.items moved.part) }
