use Rattle.std.proofs.Common.{◌≡◌, ◌++◌, ◌∙◌, sym, ap, List, ℕ, [], arith}
use Rattle.httparse.specs.Grammar.{print_chunk_line}
use Rattle.http_model.specs.Bodies.{bad_line}
use Rattle.http_bodies.proofs.PieceLaws.{piece_of, piece_behind, line_of}
use Rattle.http_bodies.proofs.chunks.take_piece.Goals as goal

pub returns-in-Line-clause-takes : goal.returns-in-Line-clause-takes
returns-in-Line-clause-takes g c =
    let l = c.in-Line.ensures.line in
    let same : print_chunk_line l.line ++ c.advance.new.self ≡ c.take_line.new.buffer =
    ap (λ (b : List ℕ). print_chunk_line l.line ++ b) c.advance.ensures ∙ sym l.takes.reads.1 in
    piece_behind _ _ (print_chunk_line l.line) _ _ _ _ _ _ _ _ c.take_line.ensures.adds same (c.take_behind.ensures.takes l.line (line_of _ _ _ l))

pub returns-in-Bad-clause-takes : goal.returns-in-Bad-clause-takes
returns-in-Bad-clause-takes g c = piece_of [] _ _ _ _ _ _ _ _ c.take_line.ensures.adds (bad_line c.in-Bad.ensures.line, omega arith)
