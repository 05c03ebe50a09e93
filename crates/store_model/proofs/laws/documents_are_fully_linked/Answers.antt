use Rattle.store_model.proofs.laws.documents_are_fully_linked.Goals as goal
use Rattle.store_model.proofs.FullLinkage.{fully_linked, document_shows}

pub returns-clause-linked : goal.returns-clause-linked
returns-clause-linked c = λ schema w fetch valid. fully_linked schema w valid fetch

pub returns-clause-shown : goal.returns-clause-shown
returns-clause-shown c = document_shows
