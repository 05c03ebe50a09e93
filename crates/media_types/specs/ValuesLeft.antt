-- What an iterator over the values of fields has still to give.
use Rattle.std.specs.Prelude.{ℕ, List}
use Rattle.request_model.specs.Negotiation.{field_values}
use Rattle.media_types.specs.declared.fields.Values.{Values}

-- the values that are still to come
abbrev pub values_left : Values → List (List ℕ)
values_left values = field_values values.name.now values.fields.now
