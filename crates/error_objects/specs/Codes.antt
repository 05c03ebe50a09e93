-- What each code says: a status, a word, a title, and where its fault stands (JSON:API 1.1, "Error Objects"; the words and titles are of this project).
use Rattle.std.specs.Prelude.{ℕ, List, codes}
use Rattle.error_objects.specs.declared.codes.Code.{Code}
use Rattle.error_objects.specs.declared.codes.Code.TheVariants as code

-- the form of a code's source
pub data Source : Type 0 where
  no_source : Source
  some_pointer : Source
  pointer_in_list : Source
  some_parameter : Source
  some_header : Source
  header : List ℕ → Source

-- what a code says
pub record Told : Type 0 where
  pub status : ℕ
  pub word : List ℕ
  pub title : List ℕ
  pub source : Source

abbrev pub tell : ℕ → List ℕ → List ℕ → Source → Told
tell status word title source = record { status = status; word = word; title = title; source = source }

-- the table of error documents
abbrev pub told : Code → Told
told code.BadMessage = tell 400 (codes "bad-message") (codes "Malformed message") no_source
told code.HeadTooLarge = tell 431 (codes "head-too-large") (codes "Head too large") no_source
told code.BodyTooLarge = tell 413 (codes "body-too-large") (codes "Body too large") no_source
told code.UnknownCoding = tell 501 (codes "unknown-coding") (codes "Unknown transfer coding") no_source
told code.UnknownExpectation = tell 417 (codes "unknown-expectation") (codes "Unknown expectation") no_source
told code.BadTarget = tell 400 (codes "bad-target") (codes "Malformed request target") no_source
told code.NotFound = tell 404 (codes "not-found") (codes "Not found") pointer_in_list
told code.MethodNotAllowed = tell 405 (codes "method-not-allowed") (codes "Method not allowed") no_source
told code.UnsupportedMediaType = tell 415 (codes "unsupported-media-type") (codes "Unsupported media type") some_header
told code.NotAcceptable = tell 406 (codes "not-acceptable") (codes "Not acceptable") (header (codes "Accept"))
told code.UnknownParameter = tell 400 (codes "unknown-parameter") (codes "Unknown parameter") some_parameter
told code.RepeatedParameter = tell 400 (codes "repeated-parameter") (codes "Repeated parameter") some_parameter
told code.BadInclude = tell 400 (codes "bad-include") (codes "Unsupported include") some_parameter
told code.BadFields = tell 400 (codes "bad-fields") (codes "Unsupported fields") some_parameter
told code.BadSort = tell 400 (codes "bad-sort") (codes "Unsupported sort") some_parameter
told code.BadPageSize = tell 400 (codes "bad-page-size") (codes "Unsupported page size") some_parameter
told code.BadCursor = tell 400 (codes "bad-cursor") (codes "Malformed cursor") some_parameter
told code.BadJson = tell 400 (codes "bad-json") (codes "Malformed JSON") no_source
told code.BadDocument = tell 400 (codes "bad-document") (codes "Malformed document") some_pointer
told code.TooManyOperations = tell 400 (codes "too-many-operations") (codes "Too many operations") some_pointer
told code.TypeMismatch = tell 409 (codes "type-mismatch") (codes "Type does not match") some_pointer
told code.IdMismatch = tell 409 (codes "id-mismatch") (codes "Id does not match") some_pointer
told code.ClientIdUnsupported = tell 403 (codes "client-id-unsupported") (codes "Client ids not supported") some_pointer
told code.BadId = tell 422 (codes "bad-id") (codes "Malformed id") some_pointer
told code.ReservedId = tell 403 (codes "reserved-id") (codes "Reserved id") some_pointer
told code.UnknownField = tell 422 (codes "unknown-field") (codes "Unknown field") some_pointer
told code.BadValue = tell 422 (codes "bad-value") (codes "Unsupported value") some_pointer
told code.MissingField = tell 422 (codes "missing-field") (codes "Missing field") some_pointer
told code.WrongTarget = tell 422 (codes "wrong-target") (codes "Wrong target type") some_pointer
told code.LidBound = tell 409 (codes "lid-bound") (codes "Local id already bound") some_pointer
told code.UnknownLid = tell 404 (codes "unknown-lid") (codes "Unknown local id") some_pointer
told code.IdExists = tell 409 (codes "id-exists") (codes "Id already exists") some_pointer
told code.IdsEnded = tell 403 (codes "ids-ended") (codes "No ids left") no_source
told code.RelatedNotFound = tell 404 (codes "related-not-found") (codes "Related resource not found") some_pointer
told code.TooManyMembers = tell 422 (codes "too-many-members") (codes "Too many members") some_pointer
told code.StillReferenced = tell 409 (codes "still-referenced") (codes "Resource is still referenced") pointer_in_list
