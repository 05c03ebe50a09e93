use Rattle.include_walk.proofs.Linking.{adds_no_link}
use Rattle.include_walk.proofs.links.insert_linked.Goals as goal

pub returns-in-None : goal.returns-in-None
returns-in-None c = adds_no_link c.args.schema.now c.args.row.now c.args.rel c.args.keys.now.keys c.in-None.ensures
