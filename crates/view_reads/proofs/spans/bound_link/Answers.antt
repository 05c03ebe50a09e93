use Rattle.std.proofs.Common.{ℕ, List, ◌<◌, length, subst}
use Rattle.std.specs.Prelude.{slice_index}
use Rattle.view_reads.proofs.Ranks.{short_id}
use Rattle.view_reads.proofs.spans.bound_link.Goals as goal

pub returns : goal.returns
returns c = record {
  kind_fits = c.ranges.kind.fits;
  rel_fits = c.ranges.rel.fits;
  short = short_id _ _ _ c.bytes.ensures.id;
  bytes = subst (λ (xs : List ℕ). (k : ℕ) → k < length xs → slice_index xs k < 256) c.bytes.ensures.bytes c.bound_bytes.ensures;
}
