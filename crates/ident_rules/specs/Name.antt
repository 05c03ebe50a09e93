-- The rule of names.
use Rattle.std.specs.Prelude.{ℕ, List, [], ◌∷◌, length, ◌-◌, ◌==◌, ◌&&◌, Bool, nat_lt, if◌then◌else◌, Option, Some, None, Result, Ok, Err, slice_index}
use Rattle.std.specs.Char.{is_ascii_alphanumeric}
use Rattle.ident_rules.specs.Id.{is_id, bad_place}
use Rattle.ident_rules.specs.declared.id.TheConstants.{ID_LIMIT}
use Rattle.ident_rules.specs.declared.name.NameFault.{NameFault}
use Rattle.ident_rules.specs.declared.name.NameFault.TheVariants.{Empty, TooLong, BadByte}

-- an id with a letter or a digit first and last (of this project, within JSON:API 1.1, "Member Names")
abbrev pub is_name : List ℕ → Bool
is_name text = is_id text && is_ascii_alphanumeric (slice_index text 0) && is_ascii_alphanumeric (slice_index text (length text - 1))

-- the last place, where no name ends so
abbrev pub or_bad_end : List ℕ → Option ℕ → Option ℕ
or_bad_end text (Some place) = Some place
or_bad_end text None = if is_ascii_alphanumeric (slice_index text (length text - 1)) then None else Some (length text - 1)

-- the first place of a byte that no name has there
abbrev pub bad_name_place : List ℕ → Option ℕ
bad_name_place [] = None
bad_name_place (first ∷ more) = if is_ascii_alphanumeric first then or_bad_end (first ∷ more) (bad_place (first ∷ more)) else Some 0

abbrev pub or_bad_name_byte : List ℕ → Option ℕ → Result (List ℕ) NameFault
or_bad_name_byte text None = Ok text
or_bad_name_byte text (Some place) = Err (BadByte place)

-- the name, or the first fault
abbrev pub read_name : List ℕ → Result (List ℕ) NameFault
read_name text =
    if length text == 0 then Err Empty
    else if nat_lt ID_LIMIT (length text) then Err TooLong
    else or_bad_name_byte text (bad_name_place text)
