use Rattle.std.proofs.Common.{◌++◌, ◌∷◌, [], ap, ◌∙◌}
use Rattle.outer_ends.specs.Memory.{ListenerState}
use Rattle.outer_ends.proofs.Connections.{closes_one}
use Rattle.outer_ends.proofs.listeners.MemoryListenerListener.done.Goals as goal

pub returns-clause-closed : goal.returns-clause-closed
returns-clause-closed c =
    closes_one _ _ _ _ c.args.self.now.closed _ c.args.source c.args.sink
    (c.push_reserved.ensures.items ∙ ap (λ (s : ListenerState). s.closed ++ (c.args.source, c.args.sink) ∷ []) c.self.view_is)
