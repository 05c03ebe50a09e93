use Rattle.std.proofs.Common.{sym}
use Rattle.httparse.specs.Grammar.{print_chunk_line}
use Rattle.http_model.specs.Bodies.{cut_trailers}
use Rattle.http_bodies.proofs.PieceLaws.{piece_of, line_reads, on_bad_trailers}
use Rattle.http_bodies.proofs.chunks.take_last.Goals as goal

pub returns-in-Bad-clause-takes : goal.returns-in-Bad-clause-takes
returns-in-Bad-clause-takes g c = λ line body h.
    piece_of (print_chunk_line line) _ _ _ body body _ _ _ c.take_trailers.ensures.adds (on_bad_trailers c.args.len line _ body h c.in-Bad.ensures.trailers)

pub returns-in-Cut-clause-takes : goal.returns-in-Cut-clause-takes
returns-in-Cut-clause-takes g c = λ line body h.
    let t = c.in-Cut.ensures.trailers in
    piece_of (print_chunk_line line) _ c.take_trailers.new.buffer _ body body _ _ _ c.take_trailers.ensures.adds
    (t.2, cut_trailers line _ (line_reads c.args.len 0 line c.take_trailers.new.buffer h) (sym h.size_is) t.0 t.1.none t.1.may)

pub returns-in-Fault-clause-takes : goal.returns-in-Fault-clause-takes
returns-in-Fault-clause-takes g c = λ line body h.
    let t = c.in-Fault.ensures.trailers in
    piece_of (print_chunk_line line) _ c.take_trailers.new.buffer _ body body _ _ _ c.take_trailers.ensures.adds
    (cut_trailers line _ (line_reads c.args.len 0 line c.take_trailers.new.buffer h) (sym h.size_is) t.0 t.1.none t.1.may)
