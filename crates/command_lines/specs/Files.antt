-- What reading a source whole comes to.
use Rattle.std.specs.Prelude.{◌≡◌, ℕ, ◌<◌, ◌≤◌, ⊤, List, [], ◌++◌, length, IfSome}
use Rattle.std.specs.Io.KnownBytes.{Consumes, IsAtEnd}
use Rattle.outer_ends.specs.Causes.{Rose}
use Rattle.outer_ends.specs.Told.{SourceTold}
use Rattle.command_lines.specs.declared.files.FileBytes.{FileBytes}
use Rattle.command_lines.specs.declared.files.FileBytes.TheVariants as file
use Rattle.command_lines.specs.declared.files.Piece.{Piece}
use Rattle.command_lines.specs.declared.files.Piece.TheVariants as piece

-- what one read said of the count of faults
abbrev pub IsPieceCause : SourceTold → SourceTold → Piece → Type 0
IsPieceCause source source_now piece.Failed = Rose source.faults source_now.faults
IsPieceCause source source_now read = source_now.faults ≡ source.faults

-- what it gave, behind what was read
abbrev pub IsPiece : SourceTold → SourceTold → List ℕ → List ℕ → Piece → Type 0
IsPiece source source_now bytes bytes_now piece.End = Consumes source.left source_now.left [] × IsAtEnd source_now.left × (bytes_now ≡ bytes)
IsPiece source source_now bytes bytes_now piece.More = (more : List ℕ) × Consumes source.left source_now.left more × (bytes_now ≡ bytes ++ more) × (0 < length more)
IsPiece source source_now bytes bytes_now piece.Failed = ⊤
IsPiece source source_now bytes bytes_now piece.NoMemory = ⊤

-- what a source gave that was to have at most so many bytes, by those that it had left, where it tells them
abbrev pub IsRead : ℕ → SourceTold → SourceTold → FileBytes → Type 0
IsRead limit source source_now (file.Whole bytes) =
    (source_now.faults ≡ source.faults) × (length bytes.items ≤ limit) × IfSome source.left (λ all. bytes.items ≡ all)
IsRead limit source source_now file.TooLarge = (source_now.faults ≡ source.faults) × IfSome source.left (λ all. limit < length all)
IsRead limit source source_now file.Failed = Rose source.faults source_now.faults
IsRead limit source source_now file.NoMemory = source_now.faults ≡ source.faults
