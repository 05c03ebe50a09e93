use Rattle.std.proofs.Common.{◌∙◌}
use Rattle.workload_command.proofs.Joined.{state-more, text-more}
use Rattle.workload_command.proofs.inputs.make_input.Goals as goal

pub loop-place-preserved : goal.loop-place-preserved
loop-place-preserved c =
    let at = c.loop-place.invariant in
    record {
      draws = c.make_request.ensures.state ∙ state-more c.args.asked.seed c.loop-place.place c.loop-place.draws at.draws;
      input = c.in_ok-extend_from_slice.ensures.items
          ∙ text-more c.args.asked.seed c.loop-place.place c.loop-place.draws c.loop-place.input.items c.as_slice.result.now at.draws at.input (c.as_slice.ensures ∙ c.in_ok-request.ensures.text);
    }
