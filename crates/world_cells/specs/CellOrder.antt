-- The order of cell keys.
use Rattle.std.specs.Prelude.{◌≡◌, ℕ, Bool, [], refl}
use Rattle.std.proofs.Common.{sym, ap}
use Rattle.std.specs.declared.cmp.Ordering.{Ordering}
use Rattle.std.specs.Ordering.{nat_cmp, then_cmp, on, eq_by_cmp}
use Rattle.std.specs.Cmp.{IsTotalOrder, nat_cmp_total, then_total, on_total}
use Rattle.std.specs.FinMap.{IsAntisymmetric, nat_cmp-IsAntisymmetric}
use Rattle.ident_rules.specs.declared.key.Key.{Key}
use Rattle.ident_rules.specs.IdOrder.{first_equal, second_equal}
use Rattle.ident_rules.specs.Key.{key_cmp, key_cmp_total, key_cmp-IsAntisymmetric}
use Rattle.world_cells.specs.declared.keys.CellKey.{CellKey}
use Rattle.world_cells.specs.declared.keys.CellKey.TheVariants.{Row, Back, Counter}

-- a cell key as the number of its variant, its keys and its number
abbrev pub variant_of : CellKey → ℕ
variant_of (Row k) = 0
variant_of (Back to from rel) = 1
variant_of (Counter n) = 2

abbrev pub no_key : Key
no_key = record { kind = 0; id = [] }

abbrev pub first_key : CellKey → Key
first_key (Row k) = k
first_key (Back to from rel) = to
first_key (Counter n) = no_key

abbrev pub second_key : CellKey → Key
second_key (Row k) = no_key
second_key (Back to from rel) = from
second_key (Counter n) = no_key

abbrev pub last_field : CellKey → ℕ
last_field (Row k) = 0
last_field (Back to from rel) = rel
last_field (Counter n) = n

-- by variant, and then by the fields as they stand
abbrev pub cell_key_cmp : CellKey → CellKey → Ordering
cell_key_cmp = then_cmp (on variant_of nat_cmp) (then_cmp (on first_key key_cmp) (then_cmp (on second_key key_cmp) (on last_field nat_cmp)))

abbrev pub same_cell_key : CellKey → CellKey → Bool
same_cell_key = eq_by_cmp cell_key_cmp

pub cell_key_cmp_total : IsTotalOrder cell_key_cmp
cell_key_cmp_total =
    then_total (on_total variant_of nat_cmp_total)
    (then_total (on_total first_key key_cmp_total) (then_total (on_total second_key key_cmp_total) (on_total last_field nat_cmp_total)))

-- equal parts make equal keys
same_parts : (x y : CellKey) → variant_of x ≡ variant_of y → first_key x ≡ first_key y → second_key x ≡ second_key y → last_field x ≡ last_field y → x ≡ y
same_parts (Row k) (Row j) v f s n = ap Row f
same_parts (Row k) (Back to from rel) v f s n = cc v
same_parts (Row k) (Counter m) v f s n = cc v
same_parts (Back to from rel) (Row j) v f s n = cc v
same_parts (Back to from rel) (Back a b c) v f s n = cc (f, s, n)
same_parts (Back to from rel) (Counter m) v f s n = cc v
same_parts (Counter m) (Row j) v f s n = cc v
same_parts (Counter m) (Back a b c) v f s n = cc v
same_parts (Counter m) (Counter i) v f s n = ap Counter n

-- keys that tie are equal
pub cell_key_cmp-IsAntisymmetric : IsAntisymmetric cell_key_cmp
cell_key_cmp-IsAntisymmetric x y e =
    let rest = second_equal _ _ e in
    let last = second_equal _ _ rest in
    same_parts x y
    (nat_cmp-IsAntisymmetric (variant_of x) (variant_of y) (first_equal _ _ e))
    (key_cmp-IsAntisymmetric (first_key x) (first_key y) (first_equal _ _ rest))
    (key_cmp-IsAntisymmetric (second_key x) (second_key y) (first_equal _ _ last))
    (nat_cmp-IsAntisymmetric (last_field x) (last_field y) (second_equal _ _ last))
