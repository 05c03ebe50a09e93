use Rattle.std.proofs.Common.{◌≡◌}
use Rattle.std.specs.List.{concat}
use Rattle.workload_maker.specs.Requests.{first_requests, state_at}
use Rattle.workload_command.proofs.inputs.make_input.Given as goal

abbrev pub invariant-loop-place : goal.invariant-loop-place
invariant-loop-place l = record {
  draws : l.draws ≡ state_at l.fn.asked.seed l.place;
  input : l.input.items ≡ concat (first_requests l.fn.asked.seed l.place);
}
