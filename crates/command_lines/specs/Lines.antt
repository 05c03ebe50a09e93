-- Lines and notices that a command writes, and its exit status then.
use Rattle.std.specs.Prelude.{◌≡◌, ◌⊎◌, ℕ, ⊤, List, [], ◌∷◌, ◌++◌, codes, Result, Ok, Err}
use Rattle.std.specs.Io.KnownBytes.{Appends}
use Rattle.outer_ends.specs.declared.traits.Failed.{Failed}
use Rattle.outer_ends.specs.Causes.{Rose}
use Rattle.outer_ends.specs.Streams.{AppendsFront}
use Rattle.outer_ends.specs.Told.{SinkTold}
use Rattle.resource_schema.specs.declared.faults.Why.{Why}
use Rattle.schema_file.specs.FaultWords.{word_of}

-- the exit status for what was sent, where that of a good end is known
abbrev pub status_of_sent : ℕ → Result ⊤ Failed → ℕ
status_of_sent good (Ok sent) = good
status_of_sent good (Err failed) = 1

-- the text was written and the status is that of a good end, or a proper prefix of it was written by a sink that failed
abbrev pub Writes : ℕ → List ℕ → SinkTold → SinkTold → ℕ → Type 0
Writes good text sink sink_now status =
    ((status ≡ good) × Appends sink.written sink_now.written text × (sink_now.faults ≡ sink.faults))
    ⊎ ((status ≡ 1) × AppendsFront sink.written sink_now.written text × Rose sink.faults sink_now.faults)

-- the notice was written
abbrev pub Tells : List ℕ → SinkTold → SinkTold → ℕ → Type 0
Tells = Writes 0

-- the line for what is refused, and a text behind it
abbrev pub line : List ℕ → List ℕ → List ℕ
line what text = ((codes "jsonapid: " ++ what) ++ text) ++ 10 ∷ []

-- the line for a schema's fault
abbrev pub schema_line : List ℕ → Why → List ℕ
schema_line place why = (((codes "jsonapid: schema " ++ place) ++ codes " ") ++ word_of why) ++ 10 ∷ []

-- the line was written, or a proper prefix of it by a sink that failed
abbrev pub Refuses : List ℕ → SinkTold → SinkTold → ℕ → Type 0
Refuses = Writes 2
