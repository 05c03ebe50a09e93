use Rattle.http_model.proofs.RestsLaw.{between_none, cut_none, refused_none}
use Rattle.http_model.proofs.laws.no_message_begins.Goals as goal

pub returns : goal.returns
returns c = record { between = between_none; cut = cut_none; refused = refused_none }
