use Rattle.std.proofs.Common.{◌++◌, sym, subst, List, ℕ, length}
use Rattle.httparse.specs.Grammar.{print_chunk_line}
use Rattle.http_model.specs.Bodies.{IsCutPiece}
use Rattle.http_framing.specs.FillLaws.{adds_then, adds_behind}
use Rattle.http_bodies.proofs.PieceLaws.{piece_of, on_cut_data, on_cut_edge, on_bad_edge, on_chunk}
use Rattle.http_bodies.proofs.chunks.take_data.Goals as goal

pub returns-in-Cut-clause-takes : goal.returns-in-Cut-clause-takes
returns-in-Cut-clause-takes g c = λ line h.
    let p = c.in-Cut.ensures.takes in
    let before = c.args.body.now.items in
    piece_of (print_chunk_line line) _ _ _ before _ _ _ _ p.moved.adds (
      p.verdict.2,
      subst (λ (b : List ℕ). IsCutPiece (length before) (print_chunk_line line ++ (p.moved.part ++ b))) (sym p.verdict.1)
          (on_cut_data c.args.len c.args.size line p.moved.part before h c.requires.some c.requires.within p.verdict.0),
    )

pub returns-in-Fault-clause-takes : goal.returns-in-Fault-clause-takes
returns-in-Fault-clause-takes g c = λ line h.
    let p = c.in-Fault.ensures.takes in
    let before = c.args.body.now.items in
    piece_of (print_chunk_line line) _ _ _ before _ _ _ _ p.moved.adds (
    subst (λ (b : List ℕ). IsCutPiece (length before) (print_chunk_line line ++ (p.moved.part ++ b))) (sym p.verdict.1)
    (on_cut_data c.args.len c.args.size line p.moved.part before h c.requires.some c.requires.within p.verdict.0)
    )

pub returns-in-Cut-take_edge-clause-takes : goal.returns-in-Cut-take_edge-clause-takes
returns-in-Cut-take_edge-clause-takes g c = λ line h.
    let p = c.in-Whole.ensures.takes in
    let before = c.args.body.now.items in
    let adds = adds_then _ _ _ _ _ _ p.moved.adds (adds_behind p.moved.part _ _ _ _ c.take_edge.ensures.adds) in
    let edge = c.in-Cut-take_edge.ensures.edge in
    piece_of (print_chunk_line line) _ _ _ before _ _ _ _ adds
    (edge.1, on_cut_edge c.args.len c.args.size line p.moved.part _ before h c.requires.some c.requires.within p.verdict edge.0)

pub returns-in-Fault-take_edge-clause-takes : goal.returns-in-Fault-take_edge-clause-takes
returns-in-Fault-take_edge-clause-takes g c = λ line h.
    let p = c.in-Whole.ensures.takes in
    let before = c.args.body.now.items in
    let adds = adds_then _ _ _ _ _ _ p.moved.adds (adds_behind p.moved.part _ _ _ _ c.take_edge.ensures.adds) in
    piece_of (print_chunk_line line) _ _ _ before _ _ _ _ adds
    (on_cut_edge c.args.len c.args.size line p.moved.part _ before h c.requires.some c.requires.within p.verdict c.in-Fault-take_edge.ensures.edge)

pub returns-in-Bad-clause-takes : goal.returns-in-Bad-clause-takes
returns-in-Bad-clause-takes g c = λ line h.
    let p = c.in-Whole.ensures.takes in
    let before = c.args.body.now.items in
    let adds = adds_then _ _ _ _ _ _ p.moved.adds (adds_behind p.moved.part _ _ _ _ c.take_edge.ensures.adds) in
    piece_of (print_chunk_line line) _ _ _ before _ _ _ _ adds
    (on_bad_edge c.args.len c.args.size line p.moved.part _ before h c.requires.some c.requires.within p.verdict c.in-Bad.ensures.edge)

pub returns-in-Edge-clause-takes : goal.returns-in-Edge-clause-takes
returns-in-Edge-clause-takes g c = λ line h.
    let p = c.in-Whole.ensures.takes in
    let before = c.args.body.now.items in
    let after = c.take_edge.new.buffer in
    let adds = adds_then _ _ _ _ _ _ p.moved.adds (adds_behind p.moved.part _ _ _ _ c.take_edge.ensures.adds) in
    let edge = c.in-Edge.ensures.edge in
    piece_of (print_chunk_line line) _ _ _ before _ _ _ _ adds
    (on_chunk c.args.len c.args.size line p.moved.part after edge.0 before _ _ h c.requires.some c.requires.within p.verdict p.moved.added edge.1 c.advance.ensures)
