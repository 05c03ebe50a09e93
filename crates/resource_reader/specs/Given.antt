-- Values that were given, by number.
use Rattle.std.specs.Prelude.{◌≡◌, ℕ, List, option_map, Some, slice_get}
use Rattle.resource_schema.specs.declared.values.AttrValue.{AttrValue}

-- the value at that place is of this number
abbrev pub IsNumberAt : ℕ → List (ℕ × AttrValue) → ℕ → Type 0
IsNumberAt number given i = option_map (λ e. e.0) (slice_get given i) ≡ Some number
