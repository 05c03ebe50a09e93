use Rattle.row_change.proofs.changes.try_change.Goals as goal

pub returns-in-Create-clause-outcome : goal.returns-in-Create-clause-outcome
returns-in-Create-clause-outcome g c w now behind leads = rw c.in-Create.is (c.create.ensures.outcome w now behind leads)

pub returns-in-Create-clause-reach : goal.returns-in-Create-clause-reach
returns-in-Create-clause-reach g c w now valid same now_valid leads k covered new = rw c.in-Create.is (c.create.ensures.reach w now valid same now_valid leads k covered new)

pub returns-in-Update-clause-outcome : goal.returns-in-Update-clause-outcome
returns-in-Update-clause-outcome g c w now behind leads = rw c.in-Update.is (c.update.ensures.outcome w now behind leads)

pub returns-in-SetLinks-clause-outcome : goal.returns-in-SetLinks-clause-outcome
returns-in-SetLinks-clause-outcome g c w now behind leads = rw c.in-SetLinks.is (c.change_link.ensures.outcome w now behind leads)

pub returns-in-AddLinks-clause-outcome : goal.returns-in-AddLinks-clause-outcome
returns-in-AddLinks-clause-outcome g c w now behind leads = rw c.in-AddLinks.is (c.change_link-in-AddLinks.ensures.outcome w now behind leads)

pub returns-in-DropLinks-clause-outcome : goal.returns-in-DropLinks-clause-outcome
returns-in-DropLinks-clause-outcome g c w now behind leads = rw c.in-DropLinks.is (c.change_link-in-DropLinks.ensures.outcome w now behind leads)
