-- What is counted of a session, and the line that tells it (of this project).
use Rattle.std.specs.Prelude.{ℕ, List, [], ◌∷◌, ◌++◌, length, codes, decimal}
use Rattle.task_forms.specs.declared.tasks.Entry.{Entry}
use Rattle.workload_command.specs.declared.counts.Counts.{Counts}
use Rattle.workload_command.specs.declared.tallies.Tally.{Tally}
use Rattle.workload_command.specs.Tallies.{tally_of}

-- what is counted of the requests that were answered, the entries that joined, and what was sent
abbrev pub counts_of : ℕ → List Entry → List ℕ → Counts
counts_of answered entries out = record { requests = answered; tally = tally_of entries; entries = length entries; bytes = length out }

-- the numbers of replies, as they stand in the line
abbrev pub tally_text : Tally → List ℕ
tally_text t =
    codes " ok " ++ (decimal t.ok ++ (codes " created " ++ (decimal t.created ++ (codes " empty " ++ (decimal t.empty ++ (codes " missing " ++ decimal t.missing))))))

-- `requests R ok A created B empty C missing D entries E bytes F` and a line feed
abbrev pub counts_text : Counts → List ℕ
counts_text c =
    codes "requests " ++ (decimal c.requests ++ (tally_text c.tally ++ (codes " entries " ++ (decimal c.entries ++ (codes " bytes " ++ (decimal c.bytes ++ 10 ∷ []))))))
