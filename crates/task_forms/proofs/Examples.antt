-- Tasks that are fit for a schema, and tasks that are not.
use Rattle.std.proofs.Common.{arith}
use Rattle.std.specs.Prelude.{ℕ, false, List, [], ◌∷◌, codes, Some, None, pos, refl}
use Rattle.std.specs.Str.{is_utf8, chars}
use lib.Utf8.{encode}
use Rattle.resource_schema.specs.declared.schema.Schema.{Schema}
use Rattle.resource_schema.specs.declared.values.Form.TheVariants as form
use Rattle.resource_schema.specs.declared.values.AttrValue.TheVariants as value
use Rattle.resource_schema.specs.declared.values.Place.{Place}
use Rattle.resource_schema.specs.Kinds.{notes}
use Rattle.task_forms.specs.declared.operations.Named.TheVariants as named
use Rattle.task_forms.specs.declared.operations.Operation.TheVariants.{Create}
use Rattle.task_forms.specs.declared.queries.SortKey.{SortKey}
use Rattle.task_forms.specs.Fit.{IsLid, IsNamed, FitsPage, FitsOperation}

-- ---- texts

-- the local id `é`
a_local_id : IsLid (195 ∷ 169 ∷ [])
unfolding is_utf8 chars encode
a_local_id = (omega arith, omega arith, refl)

-- one byte of the two is missing
local_ids_are_utf8 : ¬ IsLid (195 ∷ [])
unfolding is_utf8 chars encode
local_ids_are_utf8 h = cc (h.2)

local_ids_have_a_byte : ¬ IsLid []
local_ids_have_a_byte h = omega (arith, h.0)

names_by_local_id_are_utf8 : ¬ IsNamed notes (named.Lid 0 (255 ∷ []))
unfolding is_utf8 chars encode
names_by_local_id_are_utf8 h = cc (h.1)

-- a new note with this text
new_note : List ℕ → Type 0
new_note text = FitsOperation notes (Create 0 None None (value.Text text ∷ []) [])

a_fit_note : new_note (195 ∷ 169 ∷ [])
unfolding new_note is_utf8 chars encode
a_fit_note = record { known = omega arith; client_id = tt; local_id = tt; all_values = (refl, tt); linkages = record { rising = tt; each = tt } }

texts_are_utf8 : ¬ new_note (255 ∷ [])
unfolding new_note is_utf8 chars encode
texts_are_utf8 h = cc (h.all_values.0)

-- ---- pages

-- where a note stands in the order of texts
abbrev place : List ℕ → List ℕ → Place
place text id = record { values = value.Text text ∷ []; id = id }

abbrev by_text : List SortKey
by_text = record { attribute = 0; descending = false } ∷ []

both_cursors : FitsPage notes 0 by_text (record { size = 1000; after = Some (place (codes "a") (codes "1")); before = Some (place (codes "b") (codes "2")) })
unfolding is_utf8 chars encode
both_cursors = record { keys = (omega arith, tt); size = omega arith; after = ((refl, tt), refl); before = ((refl, tt), refl) }

cursors_are_of_the_order : ¬ FitsPage notes 0 by_text (record { size = 50; after = None; before = Some (record { values = []; id = codes "2" }) })
cursors_are_of_the_order h = h.before.0

places_have_texts_in_utf8 : ¬ FitsPage notes 0 by_text (record { size = 50; after = Some (place (255 ∷ []) (codes "1")); before = None })
unfolding is_utf8 chars encode
places_have_texts_in_utf8 h = cc (h.after.0.0)
