use Rattle.std.proofs.Common.{◌∙◌, arith}
use Rattle.http_bodies.proofs.PieceLaws.{chunks_on, chunk_size_in, body_last, body_cut, body_fault, body_bad, body_large, body_memory}
use Rattle.http_bodies.proofs.chunks.take_chunked.Goals as goal

pub chunks-preserved : goal.chunks-preserved
chunks-preserved g c =
    let q = c.in-Chunk.ensures.takes in
    let sizes = chunk_size_in _ _ _ _ _ q.verdict in
    record {
      read = chunks_on _ _ _ _ _ _ _ _ _ _ c.chunks.invariant.read q;
      count = c.in-Chunk.ensures.cause ∙ c.chunks.invariant.count;
      within = sizes.1;
      low = omega (arith, sizes.2, c.chunks.invariant.low);
    }

pub returns-in-Last-clause-takes : goal.returns-in-Last-clause-takes
returns-in-Last-clause-takes g c = body_last _ _ _ _ _ _ _ _ _ _ c.chunks.invariant.within c.from_vec.ensures c.chunks.invariant.read c.in-Last.ensures.takes

pub returns-in-Cut-clause-takes : goal.returns-in-Cut-clause-takes
returns-in-Cut-clause-takes g c = body_cut _ _ _ _ _ _ _ _ _ c.chunks.invariant.within c.chunks.invariant.read c.in-Cut.ensures.takes

pub returns-in-Bad-clause-takes : goal.returns-in-Bad-clause-takes
returns-in-Bad-clause-takes g c = body_bad _ _ _ _ _ _ _ _ _ _ c.chunks.invariant.within c.chunks.invariant.read c.in-Bad.ensures.takes

pub returns-in-TooLarge-clause-takes : goal.returns-in-TooLarge-clause-takes
returns-in-TooLarge-clause-takes g c = body_large _ _ _ _ _ _ _ _ _ c.chunks.invariant.within c.chunks.invariant.read c.in-TooLarge.ensures.takes

pub returns-in-Fault-clause-takes : goal.returns-in-Fault-clause-takes
returns-in-Fault-clause-takes g c = body_fault _ _ _ _ _ _ _ _ _ c.chunks.invariant.within c.chunks.invariant.read c.in-Fault.ensures.takes

pub returns-in-NoMemory-clause-takes : goal.returns-in-NoMemory-clause-takes
returns-in-NoMemory-clause-takes g c = body_memory _ _ _ _ _ _ _ _ _ c.chunks.invariant.read c.in-NoMemory.ensures.takes
