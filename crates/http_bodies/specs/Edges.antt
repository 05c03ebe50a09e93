-- The end of a chunk at the front of a buffer (RFC 9112, section 7.1).
use Rattle.std.specs.Prelude.{◌≡◌, ◌⊎◌, ℕ, List, [], ◌∷◌}
use Rattle.std.specs.declared.option.Option.{Option}
use Rattle.std.specs.Io.KnownBytes.{IsAtEnd}
use Rattle.outer_ends.specs.Told.{SourceTold}
use Rattle.outer_ends.specs.Causes.{Rose}
use Rattle.http_model.specs.Bodies.{IsBadEnd}
use Rattle.http_bodies.specs.declared.edges.EdgeEnd.{EdgeEnd}
use Rattle.http_bodies.specs.declared.edges.EdgeEnd.TheVariants as end

-- nothing, or CR alone
abbrev pub IsOpenEdge : List ℕ → Type 0
IsOpenEdge bytes = (bytes ≡ []) ⊎ (bytes ≡ 13 ∷ [])

-- the answer, where the buffer holds these bytes
abbrev pub EdgeOn : List ℕ → Option (List ℕ) → EdgeEnd → Type 0
EdgeOn buffer left end.Edge = (rest : List ℕ) × (buffer ≡ 13 ∷ 10 ∷ rest)
EdgeOn buffer left end.Bad = IsBadEnd buffer
EdgeOn buffer left end.Cut = IsOpenEdge buffer × IsAtEnd left
EdgeOn buffer left end.Fault = IsOpenEdge buffer

-- a fault is answered exactly where the count rose, or stands at the greatest `u64`
abbrev pub EdgeCause : SourceTold → SourceTold → EdgeEnd → Type 0
EdgeCause before now end.Fault = Rose before.faults now.faults
EdgeCause before now e = now.faults ≡ before.faults
