-- What values an attribute may have.
use Rattle.std.specs.Prelude.{ℤ, pos, negsuc, ◌^◌, ◌&&◌, Bool, true, false, IsTrue, nat_lt, nat_le, length}
use Rattle.std.specs.Str.{is_utf8}
use Rattle.resource_schema.specs.declared.kinds.Attribute.{Attribute}
use Rattle.resource_schema.specs.declared.values.TheConstants.{TEXT_LIMIT}
use Rattle.resource_schema.specs.declared.values.Form.{Form}
use Rattle.resource_schema.specs.declared.values.Form.TheVariants as form
use Rattle.resource_schema.specs.declared.values.AttrValue.{AttrValue}
use Rattle.resource_schema.specs.declared.values.AttrValue.TheVariants as value

-- an integer of 64 bits with a sign
abbrev pub is_i64 : ℤ → Bool
is_i64 (pos n) = nat_lt n (2 ^ 63)
is_i64 (negsuc n) = nat_lt n (2 ^ 63)

-- an integer has the form Int, and so on; a text is UTF-8 of at most `TEXT_LIMIT` bytes
abbrev pub is_of : Form → AttrValue → Bool
is_of form.Int (value.Int z) = is_i64 z
is_of form.Text (value.Text t) = nat_le (length t) TEXT_LIMIT && is_utf8 t
is_of form.Bool (value.Bool b) = true
is_of f v = false

-- a value of the form, or null where that is allowed (of this project; JSON:API 1.1, "Attributes", allows any JSON)
abbrev pub has_form : Form → Bool → AttrValue → Bool
has_form f nullable value.Null = nullable
has_form f nullable v = is_of f v

-- a value of an attribute
abbrev pub HasForm : Attribute → AttrValue → Type 0
HasForm a v = IsTrue (has_form a.form a.nullable v)
