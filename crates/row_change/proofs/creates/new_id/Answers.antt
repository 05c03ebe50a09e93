use Rattle.row_change.proofs.creates.new_id.Goals as goal

pub returns-in-Some-clause-sees : goal.returns-in-Some-clause-sees
returns-in-Some-clause-sees g c = λ schema w now behind leads. rw c.in-Some.is (c.client_id.ensures.sees schema w now behind leads)

pub returns-in-None-clause-sees : goal.returns-in-None-clause-sees
returns-in-None-clause-sees g c = λ schema w now behind leads. rw c.in-None.is (c.server_id.ensures.sees c.args.step.now.pointer.now schema w now behind leads)
