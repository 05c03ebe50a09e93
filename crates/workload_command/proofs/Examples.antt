-- Words and lines, computed by the definitions.
use Rattle.std.proofs.Common.{◌≡◌, ℕ, false, List, [], ◌∷◌, Some, None, refl}
use Rattle.std.specs.Prelude.{codes, Option}
use Rattle.std.specs.Fmt.{digits}
use Rattle.workload_command.specs.declared.tallies.Tally.{Tally}
use Rattle.workload_command.specs.declared.words.WorkloadWords.{WorkloadWords}
use Rattle.workload_command.specs.Counts.{counts_text}
use Rattle.workload_command.specs.Tallies.{counted}
use Rattle.workload_command.specs.Words.{is_workload, workload_words}

abbrev asked_by : List ℕ → List ℕ → Option WorkloadWords
asked_by requests seed = workload_words (codes "workload" ∷ requests ∷ seed ∷ [])

few : asked_by (codes "0001") (codes "0") ≡ Some (record { requests = 1; seed = 0 })
few = refl

many : asked_by (codes "100000") (codes "18446744073709551615") ≡ Some (record { requests = 100000; seed = 18446744073709551615 })
many = refl

no_request : asked_by (codes "0") (codes "1") ≡ None
no_request = refl

too_many : asked_by (codes "100001") (codes "1") ≡ None
too_many = refl

too_great : asked_by (codes "1") (codes "18446744073709551616") ≡ None
too_great = refl

too_long : asked_by (codes "1") (codes "000000000000000000001") ≡ None
too_long = refl

no_seed : workload_words (codes "workload" ∷ codes "1" ∷ []) ≡ None
no_seed = refl

behind : workload_words (codes "workload" ∷ codes "1" ∷ codes "1" ∷ codes "1" ∷ []) ≡ None
behind = refl

other : is_workload (codes "pipe" ∷ codes "workload" ∷ []) ≡ false
other = refl

-- ---- counts

abbrev no_reply : Tally
no_reply = record { ok = 0; created = 0; empty = 0; missing = 0 }

one_missing : counted no_reply 404 ≡ record no_reply { missing = 1 }
one_missing = refl

other_status : counted no_reply 409 ≡ no_reply
other_status = refl

line : counts_text (record { requests = 11; tally = record { ok = 1; created = 10; empty = 0; missing = 0 }; entries = 11; bytes = 2327 })
    ≡ codes "requests 11 ok 1 created 10 empty 0 missing 0 entries 11 bytes 2327\n"
unfolding digits
line = refl
