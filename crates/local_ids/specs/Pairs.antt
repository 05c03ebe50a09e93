-- What the map of local ids holds: for each text, the types with their ids.
use Rattle.std.specs.Prelude.{ℕ, List, [], ◌∷◌, ◌==◌, not, Option, option_map, find, String, string_bytes, Vec}
use Rattle.std.specs.Str.{bytes_eq}
use Rattle.std.specs.FinMap.Entries.{put, where_key}
use Rattle.std.specs.declared.alloc.Global.{Global}
use Rattle.store_model.specs.Change.{Lids, lid_cmp}

-- the id of a type among those of one text
abbrev pub id_of : List (ℕ × List ℕ) → ℕ → Option (List ℕ)
id_of pairs kind = option_map (λ p. p.1) (find (λ p. p.0 == kind) pairs)

-- local ids with those of one more text
abbrev pub with_pairs : List ℕ → List (ℕ × List ℕ) → Lids → Lids
with_pairs lid [] lids = lids
with_pairs lid (p ∷ ps) lids = put lid_cmp (p.0, lid) p.1 (with_pairs lid ps lids)

-- local ids without those of a text
abbrev pub without_text : List ℕ → Lids → Lids
without_text lid lids = where_key lid_cmp (λ k. not (bytes_eq k.1 lid)) lids

-- the local ids that the map stands for: each text leads to what its first entry has
abbrev pub lids_of : List (String Global × Vec (ℕ × List ℕ) Global) → Lids
lids_of [] = []
lids_of (e ∷ es) = with_pairs (string_bytes e.0) e.1.items (without_text (string_bytes e.0) (lids_of es))
