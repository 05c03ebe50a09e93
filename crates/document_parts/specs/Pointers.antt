-- Pointers of members and items (RFC 6901, sections 3 and 4).
use Rattle.std.specs.Prelude.{ℕ, Bool, not, ◌&&◌, ◌==◌, List, decimal}
use Rattle.std.specs.List.{list_all}
use Rattle.json_forms.specs.Pointer.{◌//◌}

-- of the member of that name in the object that the pointer leads to
abbrev pub member_pointer : List ℕ → List ℕ → List ℕ
member_pointer at name = at // name

-- of the item at that place in the array that the pointer leads to
abbrev pub item_pointer : List ℕ → ℕ → List ℕ
item_pointer at place = at // decimal place

-- a name without `~` and `/`, which stands in a pointer as it is
abbrev pub is_plain : List ℕ → Bool
is_plain name = list_all (λ b. not (b == 126) && not (b == 47)) name
