-- What reading a schema file by an opener comes to.
use Rattle.std.specs.Prelude.{◌≡◌, ℕ, ◌<◌, ◌≤◌, ⊤, List, length, IfSome, IsSome, Option, Some, None, Result, Ok, Err}
use Rattle.outer_ends.specs.Causes.{Rose}
use Rattle.outer_ends.specs.Opens.{bytes_of, IsFresh}
use Rattle.outer_ends.specs.Told.{SourceTold, OpenerTold}
use Rattle.resource_schema.specs.declared.schema.Schema.{Schema as SchemaKinds}
use Rattle.resource_schema.specs.declared.faults.SchemaFault.{SchemaFault}
use Rattle.request_model.specs.SchemaFile.{schema_of_text}
use Rattle.command_lines.specs.declared.schemas.TheConstants.{SCHEMA_FILE_LIMIT}
use Rattle.command_lines.specs.declared.schemas.SchemaRead.{SchemaRead}
use Rattle.command_lines.specs.declared.schemas.SchemaRead.TheVariants as schema

-- what a schema file gave whose bytes come to this schema, or this fault
abbrev pub IsParsed : Result SchemaKinds SchemaFault → SchemaRead → Type 0
IsParsed d (schema.Good s) = d ≡ Ok s
IsParsed d (schema.Fault place why) = d ≡ Err (record { place = place; why = why })
IsParsed d schema.NoMemory = ⊤
IsParsed d schema.Missing = ⊥
IsParsed d schema.TooLarge = ⊥
IsParsed d schema.Failed = ⊥

-- the schema or the fault of some bytes, which are these where they are told
pub record Parses (told : Option (List ℕ)) (d : Result SchemaKinds SchemaFault) : Type 0 where
  pub bytes : List ℕ
  pub are_told : IfSome told (λ all. bytes ≡ all)
  pub few : length bytes ≤ SCHEMA_FILE_LIMIT
  pub comes_to : schema_of_text bytes ≡ d

-- what a schema file gave that was open, and had these bytes where it tells them
abbrev pub IsContent : Option (List ℕ) → SchemaRead → Type 0
IsContent told (schema.Good s) = Parses told (Ok s)
IsContent told (schema.Fault place why) = Parses told (Err (record { place = place; why = why }))
IsContent told schema.TooLarge = IfSome told (λ all. SCHEMA_FILE_LIMIT < length all)
IsContent told schema.Missing = ⊥
IsContent told schema.Failed = ⊤
IsContent told schema.NoMemory = ⊤

-- the bytes of a path, where the opener tells its files and it is there
abbrev pub told_of : Option (List (List ℕ × List ℕ)) → List ℕ → Option (List ℕ)
told_of None path = None
told_of (Some all) path = bytes_of path all

-- what a path gave: it is missing where there is no such file, and else what its bytes come to
abbrev pub IsFound : Option (List (List ℕ × List ℕ)) → List ℕ → SchemaRead → Type 0
IsFound files path schema.Missing = IfSome files (λ all. bytes_of path all ≡ None)
IsFound files path schema.Failed = ⊤
IsFound files path schema.NoMemory = ⊤
IsFound files path read = IfSome files (λ all. IsSome (bytes_of path all)) × IsContent (told_of files path) read

-- a source of the opener was read for it, unused until then, also where the opener tells no files
abbrev pub IsOpened : {S : Type 0} → (S → SourceTold) → SchemaRead → Type 0
IsOpened told schema.Missing = ⊤
IsOpened told schema.Failed = ⊤
IsOpened {S} told read = (source : S) × IsFresh (told source) × IsContent (told source).left read

-- it is missing only where the count of misses rose
abbrev pub HasMiss : OpenerTold → OpenerTold → SchemaRead → Type 0
HasMiss opener opener_now schema.Missing = Rose opener.misses opener_now.misses
HasMiss opener opener_now read = opener_now.misses ≡ opener.misses

-- it failed only where a count of faults rose
abbrev pub HasFault : ℕ → ℕ → SchemaRead → Type 0
HasFault faults faults_now schema.Failed = Rose faults faults_now
HasFault faults faults_now read = faults_now ≡ faults

-- what the opener gave for the path, with its causes; it still tells the same files
pub record IsReadBy {S : Type 0} (told : S → SourceTold) (opener opener_now : OpenerTold) (path : List ℕ) (read : SchemaRead) : Type 0 where
  pub missed : HasMiss opener opener_now read
  pub failed : HasFault opener.faults opener_now.faults read
  pub files : opener_now.files ≡ opener.files
  pub found : IsFound opener.files path read
  pub opened : IsOpened told read
