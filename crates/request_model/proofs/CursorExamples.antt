-- Cursors, worked.
use Rattle.std.specs.Prelude.{◌≡◌, Bool, List, [], ◌∷◌, true, false, Some, None, codes, refl, negsuc}
use Rattle.resource_schema.specs.declared.values.Form.{Form}
use Rattle.resource_schema.specs.declared.values.Form.TheVariants as form
use Rattle.resource_schema.specs.declared.values.AttrValue.TheVariants as value
use Rattle.resource_schema.specs.declared.values.Place.{Place}
use Rattle.request_model.specs.Cursors.{cursor_text, place_of_cursor}
use Rattle.request_model.proofs.OnLiterals.{requests_on_literals}

abbrev flags : List (Form × Bool)
flags = (form.Text, false) ∷ (form.Int, false) ∷ (form.Bool, true) ∷ []

abbrev a_place : Place
a_place = record { values = value.Text (codes "??>") ∷ value.Int (negsuc 0) ∷ value.Bool true ∷ []; id = codes "x-1" }

-- `["??>",-1,true,"x-1"]`, with `_` for 63 and without padding
a_cursor : cursor_text a_place ≡ codes "WyI_Pz4iLC0xLHRydWUsIngtMSJd"
unfolding requests_on_literals
a_cursor = refl

same_place : place_of_cursor flags (codes "WyI_Pz4iLC0xLHRydWUsIngtMSJd") ≡ Some a_place
unfolding requests_on_literals
same_place = refl

-- `["b??>",-7,false,"x-1"]`, with `-` for 62
another_place : place_of_cursor flags (codes "WyJiPz8-IiwtNyxmYWxzZSwieC0xIl0") ≡ Some (record { values = value.Text (codes "b??>") ∷ value.Int (negsuc 6) ∷ value.Bool false ∷ []; id = codes "x-1" })
unfolding requests_on_literals
another_place = refl

-- the alphabet of RFC 4648, section 4
other_alphabet : place_of_cursor flags (codes "WyI/Pz4iLC0xLHRydWUsIngtMSJd") ≡ None
unfolding requests_on_literals
other_alphabet = refl

-- `[null,"2"]`
null_cursor : cursor_text (record { values = value.Null ∷ []; id = codes "2" }) ≡ codes "W251bGwsIjIiXQ"
unfolding requests_on_literals
null_cursor = refl

null_place : place_of_cursor ((form.Bool, true) ∷ []) (codes "W251bGwsIjIiXQ") ≡ Some (record { values = value.Null ∷ []; id = codes "2" })
unfolding requests_on_literals
null_place = refl

never_null : place_of_cursor ((form.Bool, false) ∷ []) (codes "W251bGwsIjIiXQ") ≡ None
unfolding requests_on_literals
never_null = refl

-- `["T","2"]`
of_text : place_of_cursor ((form.Text, false) ∷ []) (codes "WyJUIiwiMiJd") ≡ Some (record { values = value.Text (codes "T") ∷ []; id = codes "2" })
unfolding requests_on_literals
of_text = refl

of_another_form : place_of_cursor ((form.Int, false) ∷ []) (codes "WyJUIiwiMiJd") ≡ None
unfolding requests_on_literals
of_another_form = refl

-- a value too many, and one too few
value_too_many : place_of_cursor [] (codes "WyJUIiwiMiJd") ≡ None
unfolding requests_on_literals
value_too_many = refl

value_too_few : place_of_cursor ((form.Text, false) ∷ []) (codes "WyIyIl0") ≡ None
unfolding requests_on_literals
value_too_few = refl

-- `["2"]`
only_id : place_of_cursor [] (codes "WyIyIl0") ≡ Some (record { values = []; id = codes "2" })
unfolding requests_on_literals
only_id = refl

-- `["a b"]`, `[2]` and `[]`: no id
bad_id : place_of_cursor [] (codes "WyJhIGIiXQ") ≡ None
unfolding requests_on_literals
bad_id = refl

number_for_id : place_of_cursor [] (codes "WzJd") ≡ None
unfolding requests_on_literals
number_for_id = refl

no_id : place_of_cursor [] (codes "W10") ≡ None
unfolding requests_on_literals
no_id = refl

-- `[ "2"]`: another spelling of a place
with_space : place_of_cursor [] (codes "WyAiMiJd") ≡ None
unfolding requests_on_literals
with_space = refl

-- `{}`
of_object : place_of_cursor [] (codes "e30") ≡ None
unfolding requests_on_literals
of_object = refl

no_text : place_of_cursor [] [] ≡ None
unfolding requests_on_literals
no_text = refl
