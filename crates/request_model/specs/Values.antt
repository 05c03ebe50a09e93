-- Values of attributes as JSON (RFC 8259, section 3; the forms are of this project).
use Rattle.std.specs.Prelude.{ℤ, pos, negsuc, Bool, Option, Some, None, option_map, option_and_then}
use Rattle.serde_json.specs.Data.{unsigned, negative, Data, null, boolean, number, string, array, object}
use Rattle.serde_json.specs.Find.{as_i64}
use Rattle.resource_schema.specs.declared.values.Form.{Form}
use Rattle.resource_schema.specs.declared.values.AttrValue.{AttrValue}
use Rattle.resource_schema.specs.declared.values.AttrValue.TheVariants as value
use Rattle.resource_schema.specs.Forms.{has_form}
use Rattle.request_model.specs.Words.{some_if}

-- an integer, as it is kept
abbrev pub integer : ℤ → Data
integer (pos n) = number (unsigned n)
integer (negsuc n) = number (negative (negsuc n))

-- the value that stands for this one in a document
abbrev pub value_data : AttrValue → Data
value_data value.Null = null
value_data (value.Int z) = integer z
value_data (value.Text t) = string t
value_data (value.Bool b) = boolean b

-- what stands in a document, as the value of some attribute; numbers are integers of 64 bits
abbrev pub plain_value : Data → Option AttrValue
plain_value null = Some value.Null
plain_value (boolean b) = Some (value.Bool b)
plain_value (number n) = option_map value.Int (as_i64 n)
plain_value (string s) = Some (value.Text s)
plain_value (array ds) = None
plain_value (object ms) = None

-- the value of a form, or null where that is allowed
abbrev pub value_from : Form → Bool → Data → Option AttrValue
value_from f nullable d = option_and_then (λ v. some_if (has_form f nullable v) v) (plain_value d)
