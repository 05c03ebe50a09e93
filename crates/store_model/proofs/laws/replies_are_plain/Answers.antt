use Rattle.store_model.proofs.laws.replies_are_plain.Goals as goal
use Rattle.store_model.proofs.PlainReplies.{reply_plain, document_plain}
use Rattle.store_model.proofs.PlainResources.{resource_plain}

pub returns-clause-replies : goal.returns-clause-replies
returns-clause-replies c = λ schema w t rules valid fits. reply_plain schema rules w t valid fits

pub returns-clause-documents : goal.returns-clause-documents
returns-clause-documents c = λ schema w fetch rules valid. document_plain schema rules w fetch valid

pub returns-clause-resources : goal.returns-clause-resources
returns-clause-resources c = λ schema w k row fields rules valid. resource_plain schema rules w k row fields valid
