-- The reply to a rest that is refused, by the table of error documents (of this project).
use Rattle.http_messages.specs.declared.messages.Reply.{Reply}
use Rattle.http_messages.specs.declared.framings.HeadFault.TheVariants.{Host, TwoFramings, BadCoding, UnknownCoding, BadLength, LongBody, Expectation}
use Rattle.http_messages.specs.declared.framings.RefusedRest.{RefusedRest}
use Rattle.http_messages.specs.declared.framings.RefusedRest.TheVariants.{Hopeless, TooLarge, TooMany, Head, BadChunk, LargeBody}
use Rattle.error_objects.specs.declared.codes.Code.{Code}
use Rattle.error_objects.specs.declared.codes.Code.TheVariants as code
use Rattle.error_objects.specs.Refusals.{refusal}
use Rattle.error_objects.specs.ErrorReply.{error_reply}

-- the code of the error that is told for a reason; two reasons may be told alike
abbrev pub code_of : RefusedRest → Code
code_of Hopeless = code.BadMessage
code_of TooLarge = code.HeadTooLarge
code_of TooMany = code.HeadTooLarge
code_of (Head Host) = code.BadMessage
code_of (Head TwoFramings) = code.BadMessage
code_of (Head BadCoding) = code.BadMessage
code_of (Head UnknownCoding) = code.UnknownCoding
code_of (Head BadLength) = code.BadMessage
code_of (Head LongBody) = code.BodyTooLarge
code_of (Head Expectation) = code.UnknownExpectation
code_of BadChunk = code.BadMessage
code_of LargeBody = code.BodyTooLarge

-- the reply to what is refused for that reason, which blames no part of the request (JSON:API 1.1, "Error Objects")
unfoldable pub refusal_of : RefusedRest → Reply
refusal_of why = error_reply (refusal (code_of why))
