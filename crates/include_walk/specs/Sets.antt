-- Keys as sets.
use Rattle.std.specs.Prelude.{◌≡◌, ◌||◌, ◌&&◌, not, ℕ, List, map}
use Rattle.ident_rules.specs.declared.key.Key.{Key}
use Rattle.store_model.specs.Included.{has_key}

-- what is in the new set is what was in the old one and what is added
abbrev pub Adds : List Key → List Key → List Key → Type 0
Adds old added new = (k : Key) → has_key new k ≡ (has_key old k || has_key added k)

-- and without what is taken away
abbrev pub Takes : List Key → List Key → List Key → Type 0
Takes old taken new = (k : Key) → has_key new k ≡ (has_key old k && not (has_key taken k))

abbrev pub AreSame : List Key → List Key → Type 0
AreSame keys others = (k : Key) → has_key keys k ≡ has_key others k

-- resources of one type
abbrev pub of_kind : ℕ → List (List ℕ) → List Key
of_kind kind ids = map (λ x. record { kind = kind; id = x }) ids
