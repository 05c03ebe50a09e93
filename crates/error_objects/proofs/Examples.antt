-- Error documents as they are sent, one for each code, with the sources of the worked requests.
use Rattle.std.specs.Prelude.{◌≡◌, ℕ, List, codes, length, refl}
use Rattle.std.specs.Fmt.{digits}
use Rattle.json.specs.Print.{escape_byte}
use Rattle.error_objects.specs.declared.codes.Code.{Code}
use Rattle.error_objects.specs.declared.codes.Code.TheVariants as code
use Rattle.error_objects.specs.Refusals.{refusal, at_pointer, at_parameter, at_header}
use Rattle.error_objects.specs.ErrorReply.{error_reply}

-- the body of a refusal that blames nothing
abbrev bare : Code → List ℕ
bare c = (error_reply (refusal c)).body

bad_message : bare code.BadMessage ≡ codes "{\"errors\":[{\"code\":\"bad-message\",\"status\":\"400\",\"title\":\"Malformed message\"}]}"
unfolding digits escape_byte
bad_message = refl

head_too_large : bare code.HeadTooLarge ≡ codes "{\"errors\":[{\"code\":\"head-too-large\",\"status\":\"431\",\"title\":\"Head too large\"}]}"
unfolding digits escape_byte
head_too_large = refl

body_too_large : bare code.BodyTooLarge ≡ codes "{\"errors\":[{\"code\":\"body-too-large\",\"status\":\"413\",\"title\":\"Body too large\"}]}"
unfolding digits escape_byte
body_too_large = refl

unknown_coding : bare code.UnknownCoding ≡ codes "{\"errors\":[{\"code\":\"unknown-coding\",\"status\":\"501\",\"title\":\"Unknown transfer coding\"}]}"
unfolding digits escape_byte
unknown_coding = refl

unknown_expectation : bare code.UnknownExpectation ≡ codes "{\"errors\":[{\"code\":\"unknown-expectation\",\"status\":\"417\",\"title\":\"Unknown expectation\"}]}"
unfolding digits escape_byte
unknown_expectation = refl

bad_target : bare code.BadTarget ≡ codes "{\"errors\":[{\"code\":\"bad-target\",\"status\":\"400\",\"title\":\"Malformed request target\"}]}"
unfolding digits escape_byte
bad_target = refl

not_found : bare code.NotFound ≡ codes "{\"errors\":[{\"code\":\"not-found\",\"status\":\"404\",\"title\":\"Not found\"}]}"
unfolding digits escape_byte
not_found = refl

method_not_allowed : bare code.MethodNotAllowed ≡ codes "{\"errors\":[{\"code\":\"method-not-allowed\",\"status\":\"405\",\"title\":\"Method not allowed\"}]}"
unfolding digits escape_byte
method_not_allowed = refl

unsupported_media_type : bare code.UnsupportedMediaType ≡ codes "{\"errors\":[{\"code\":\"unsupported-media-type\",\"status\":\"415\",\"title\":\"Unsupported media type\"}]}"
unfolding digits escape_byte
unsupported_media_type = refl

not_acceptable : bare code.NotAcceptable ≡ codes "{\"errors\":[{\"code\":\"not-acceptable\",\"status\":\"406\",\"title\":\"Not acceptable\"}]}"
unfolding digits escape_byte
not_acceptable = refl

unknown_parameter : bare code.UnknownParameter ≡ codes "{\"errors\":[{\"code\":\"unknown-parameter\",\"status\":\"400\",\"title\":\"Unknown parameter\"}]}"
unfolding digits escape_byte
unknown_parameter = refl

repeated_parameter : bare code.RepeatedParameter ≡ codes "{\"errors\":[{\"code\":\"repeated-parameter\",\"status\":\"400\",\"title\":\"Repeated parameter\"}]}"
unfolding digits escape_byte
repeated_parameter = refl

bad_include : bare code.BadInclude ≡ codes "{\"errors\":[{\"code\":\"bad-include\",\"status\":\"400\",\"title\":\"Unsupported include\"}]}"
unfolding digits escape_byte
bad_include = refl

bad_fields : bare code.BadFields ≡ codes "{\"errors\":[{\"code\":\"bad-fields\",\"status\":\"400\",\"title\":\"Unsupported fields\"}]}"
unfolding digits escape_byte
bad_fields = refl

bad_sort : bare code.BadSort ≡ codes "{\"errors\":[{\"code\":\"bad-sort\",\"status\":\"400\",\"title\":\"Unsupported sort\"}]}"
unfolding digits escape_byte
bad_sort = refl

bad_page_size : bare code.BadPageSize ≡ codes "{\"errors\":[{\"code\":\"bad-page-size\",\"status\":\"400\",\"title\":\"Unsupported page size\"}]}"
unfolding digits escape_byte
bad_page_size = refl

bad_cursor : bare code.BadCursor ≡ codes "{\"errors\":[{\"code\":\"bad-cursor\",\"status\":\"400\",\"title\":\"Malformed cursor\"}]}"
unfolding digits escape_byte
bad_cursor = refl

bad_json : bare code.BadJson ≡ codes "{\"errors\":[{\"code\":\"bad-json\",\"status\":\"400\",\"title\":\"Malformed JSON\"}]}"
unfolding digits escape_byte
bad_json = refl

bad_document : bare code.BadDocument ≡ codes "{\"errors\":[{\"code\":\"bad-document\",\"status\":\"400\",\"title\":\"Malformed document\"}]}"
unfolding digits escape_byte
bad_document = refl

too_many_operations : bare code.TooManyOperations ≡ codes "{\"errors\":[{\"code\":\"too-many-operations\",\"status\":\"400\",\"title\":\"Too many operations\"}]}"
unfolding digits escape_byte
too_many_operations = refl

type_mismatch : bare code.TypeMismatch ≡ codes "{\"errors\":[{\"code\":\"type-mismatch\",\"status\":\"409\",\"title\":\"Type does not match\"}]}"
unfolding digits escape_byte
type_mismatch = refl

id_mismatch : bare code.IdMismatch ≡ codes "{\"errors\":[{\"code\":\"id-mismatch\",\"status\":\"409\",\"title\":\"Id does not match\"}]}"
unfolding digits escape_byte
id_mismatch = refl

client_id_unsupported : bare code.ClientIdUnsupported ≡ codes "{\"errors\":[{\"code\":\"client-id-unsupported\",\"status\":\"403\",\"title\":\"Client ids not supported\"}]}"
unfolding digits escape_byte
client_id_unsupported = refl

bad_id : bare code.BadId ≡ codes "{\"errors\":[{\"code\":\"bad-id\",\"status\":\"422\",\"title\":\"Malformed id\"}]}"
unfolding digits escape_byte
bad_id = refl

reserved_id : bare code.ReservedId ≡ codes "{\"errors\":[{\"code\":\"reserved-id\",\"status\":\"403\",\"title\":\"Reserved id\"}]}"
unfolding digits escape_byte
reserved_id = refl

unknown_field : bare code.UnknownField ≡ codes "{\"errors\":[{\"code\":\"unknown-field\",\"status\":\"422\",\"title\":\"Unknown field\"}]}"
unfolding digits escape_byte
unknown_field = refl

bad_value : bare code.BadValue ≡ codes "{\"errors\":[{\"code\":\"bad-value\",\"status\":\"422\",\"title\":\"Unsupported value\"}]}"
unfolding digits escape_byte
bad_value = refl

missing_field : bare code.MissingField ≡ codes "{\"errors\":[{\"code\":\"missing-field\",\"status\":\"422\",\"title\":\"Missing field\"}]}"
unfolding digits escape_byte
missing_field = refl

wrong_target : bare code.WrongTarget ≡ codes "{\"errors\":[{\"code\":\"wrong-target\",\"status\":\"422\",\"title\":\"Wrong target type\"}]}"
unfolding digits escape_byte
wrong_target = refl

lid_bound : bare code.LidBound ≡ codes "{\"errors\":[{\"code\":\"lid-bound\",\"status\":\"409\",\"title\":\"Local id already bound\"}]}"
unfolding digits escape_byte
lid_bound = refl

unknown_lid : bare code.UnknownLid ≡ codes "{\"errors\":[{\"code\":\"unknown-lid\",\"status\":\"404\",\"title\":\"Unknown local id\"}]}"
unfolding digits escape_byte
unknown_lid = refl

id_exists : bare code.IdExists ≡ codes "{\"errors\":[{\"code\":\"id-exists\",\"status\":\"409\",\"title\":\"Id already exists\"}]}"
unfolding digits escape_byte
id_exists = refl

ids_ended : bare code.IdsEnded ≡ codes "{\"errors\":[{\"code\":\"ids-ended\",\"status\":\"403\",\"title\":\"No ids left\"}]}"
unfolding digits escape_byte
ids_ended = refl

related_not_found : bare code.RelatedNotFound ≡ codes "{\"errors\":[{\"code\":\"related-not-found\",\"status\":\"404\",\"title\":\"Related resource not found\"}]}"
unfolding digits escape_byte
related_not_found = refl

too_many_members : bare code.TooManyMembers ≡ codes "{\"errors\":[{\"code\":\"too-many-members\",\"status\":\"422\",\"title\":\"Too many members\"}]}"
unfolding digits escape_byte
too_many_members = refl

still_referenced : bare code.StillReferenced ≡ codes "{\"errors\":[{\"code\":\"still-referenced\",\"status\":\"409\",\"title\":\"Resource is still referenced\"}]}"
unfolding digits escape_byte
still_referenced = refl

content_type_is_blamed : (error_reply (at_header code.UnsupportedMediaType (codes "Content-Type"))).body ≡ codes "{\"errors\":[{\"code\":\"unsupported-media-type\",\"source\":{\"header\":\"Content-Type\"},\"status\":\"415\",\"title\":\"Unsupported media type\"}]}"
unfolding digits escape_byte
content_type_is_blamed = refl

accept_is_blamed : (error_reply (at_header code.NotAcceptable (codes "Accept"))).body ≡ codes "{\"errors\":[{\"code\":\"not-acceptable\",\"source\":{\"header\":\"Accept\"},\"status\":\"406\",\"title\":\"Not acceptable\"}]}"
unfolding digits escape_byte
accept_is_blamed = refl

a_member_is_blamed : (error_reply (at_pointer code.RelatedNotFound (codes "/atomic:operations/2/data/0/id"))).body ≡ codes "{\"errors\":[{\"code\":\"related-not-found\",\"source\":{\"pointer\":\"/atomic:operations/2/data/0/id\"},\"status\":\"404\",\"title\":\"Related resource not found\"}]}"
unfolding digits escape_byte
a_member_is_blamed = refl

a_parameter_is_blamed : (error_reply (at_parameter code.BadPageSize (codes "page[size]"))).body ≡ codes "{\"errors\":[{\"code\":\"bad-page-size\",\"source\":{\"parameter\":\"page[size]\"},\"status\":\"400\",\"title\":\"Unsupported page size\"}]}"
unfolding digits escape_byte
a_parameter_is_blamed = refl

-- lengths that are written down elsewhere
bad_message_has_78_bytes : length (bare code.BadMessage) ≡ 78
unfolding digits escape_byte
bad_message_has_78_bytes = refl

not_found_has_68_bytes : length (bare code.NotFound) ≡ 68
unfolding digits escape_byte
not_found_has_68_bytes = refl

a_refused_content_type_has_129_bytes : length ((error_reply (at_header code.UnsupportedMediaType (codes "Content-Type"))).body) ≡ 129
unfolding digits escape_byte
a_refused_content_type_has_129_bytes = refl
