use Rattle.session_engine.proofs.Counting.{serves_plain}
use Rattle.session_engine.proofs.drives.drive.Goals as goal

pub returns-clause-serves : goal.returns-clause-serves
returns-clause-serves g c first w seen mine h =
    (c.drive_counted.result.answered, serves_plain _ _ _ _ _ _ _ _ _ _ _ _ (c.drive_counted.ensures.serves first w seen mine h))
