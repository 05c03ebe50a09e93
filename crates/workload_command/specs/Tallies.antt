-- Replies counted by their statuses (of this project).
use Rattle.std.specs.Prelude.{ℕ, ◌-◌, ◌^◌, ◌==◌, Bool, List, length, min, filter, if◌then◌else◌}
use Rattle.outer_ends.specs.Causes.{one_more}
use Rattle.task_forms.specs.declared.tasks.Entry.{Entry}
use Rattle.workload_command.specs.declared.tallies.Tally.{Tally}

-- how many of the replies have that status
abbrev pub replies_with : ℕ → List Entry → ℕ
replies_with status entries = length (filter (λ e. e.reply.status == status) entries)

-- the replies by their statuses (RFC 9110, sections 15.3 and 15.5)
abbrev pub tally_of : List Entry → Tally
tally_of entries = record {
  ok = replies_with 200 entries;
  created = replies_with 201 entries;
  empty = replies_with 204 entries;
  missing = replies_with 404 entries;
}

-- a number that stays at the greatest `u64`
abbrev pub most : ℕ → ℕ
most n = min n (2 ^ 64 - 1)

abbrev pub capped : Tally → Tally
capped t = record { ok = most t.ok; created = most t.created; empty = most t.empty; missing = most t.missing }

-- one more where the test is passed
abbrev pub one_if : Bool → ℕ → ℕ
one_if test n = if test then one_more n else n

-- a tally with a further reply of that status
abbrev pub counted : Tally → ℕ → Tally
counted t status = record {
  ok = one_if (status == 200) t.ok;
  created = one_if (status == 201) t.created;
  empty = one_if (status == 204) t.empty;
  missing = one_if (status == 404) t.missing;
}
