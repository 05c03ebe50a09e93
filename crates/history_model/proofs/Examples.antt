-- Histories of a toy meaning, whose every task takes the next id of one type.
use Rattle.std.specs.Prelude.{◌≡◌, ℕ, ◌+◌, ◌<◌, ◌≤◌, true, false, ⊤, List, [], ◌∷◌, Some, None, refl}
use Rattle.std.proofs.Common.{inl, inr, arith}
use Rattle.http_messages.specs.declared.messages.Reply.{Reply}
use Rattle.http_messages.specs.declared.messages.Content.TheVariants as content
use Rattle.http_messages.specs.declared.messages.Allow.TheVariants as allow
use Rattle.world_cells.specs.declared.keys.CellKey.TheVariants as cell_key
use Rattle.world_cells.specs.World.{World, empty_world, next_id, cell_at}
use Rattle.task_forms.specs.declared.tasks.Entry.{Entry}
use Rattle.task_forms.specs.declared.tasks.Task.{Task}
use Rattle.task_forms.specs.declared.tasks.Task.TheVariants as task
use Rattle.task_forms.specs.declared.tasks.ReplyForm.TheVariants as reply_form
use Rattle.task_forms.specs.Meaning.{Meaning, IsLegal, world_after}
use Rattle.history_model.specs.declared.checks.Check.TheVariants as check
use Rattle.history_model.specs.Histories.{world_at, last_dropped, Noted}
use Rattle.history_model.specs.Standing.{Log, Keeps, LogSays}

-- the reply tells the next id as a status
abbrev pub told_by : World → Reply
told_by w = record { status = next_id w 0; content = content.Nothing; location = None; allow = allow.Nothing; body = [] }

abbrev pub next : World → World
next w = record { rows = []; counters = (0, next_id w 0 + 1) ∷ [] }

abbrev pub toy : Meaning
toy = record {
  cells = cell_at [];
  empty = empty_world;
  valid = λ w. ⊤;
  fit = λ t. ⊤;
  answer = λ w t. told_by w;
  effect = λ w t. next w;
  reach = λ w t k. true;
}

abbrev pub taking : Task
taking = task.Change [] reply_form.Empty

-- an entry by one, told this id
abbrev pub entry : ℕ → ℕ → Entry
entry by id = record { by = by; task = taking; reply = record { status = id; content = content.Nothing; location = None; allow = allow.Nothing; body = [] } }

abbrev three : List Entry
three = entry 7 1 ∷ entry 8 2 ∷ entry 7 3 ∷ []

each_is_told_the_next : IsLegal toy empty_world three
each_is_told_the_next = record { valid = tt; answers = (tt, refl, (tt, refl, (tt, refl, tt))) }

the_last_world : next_id (world_after toy empty_world three) 0 ≡ 4
the_last_world = refl

the_world_at_a_number : next_id (world_at toy 10 empty_world three 12) 0 ≡ 3
the_world_at_a_number = refl

the_world_before_the_first : world_at toy 10 empty_world three 10 ≡ empty_world
the_world_before_the_first = refl

the_world_past_the_last_is_the_last : next_id (world_at toy 10 empty_world three 99) 0 ≡ 4
the_world_past_the_last_is_the_last = refl

-- ---- logs

abbrev pub noted : ℕ → Noted
noted n = record { number = n; keys = cell_key.Counter 0 ∷ [] }

abbrev all : List Noted
all = noted 1 ∷ noted 2 ∷ noted 3 ∷ []

what_a_window_of_two_dropped : last_dropped 2 all ≡ Some 1
what_a_window_of_two_dropped = refl

what_a_window_of_three_dropped : last_dropped 3 all ≡ None
what_a_window_of_three_dropped = refl

what_a_window_of_one_dropped : last_dropped 1 all ≡ Some 2
what_a_window_of_one_dropped = refl

lit_some : 0 < 2
lit_some = omega arith

lit_zero_one : 0 < 1
lit_zero_one = omega arith

lit_size : 2 ≤ 2
lit_size = omega arith

lit_one_two : 1 < 2
lit_one_two = omega arith

not_less : 1 < 1 → ⊥
not_less less = omega arith

apart : false ≡ true → ⊥
apart e = cc e

abbrev pub log : Log
log = record { window = 2; kept = noted 2 ∷ noted 3 ∷ []; dropped = Some 1 }

a_log_of_two : Keeps log all
a_log_of_two = record {
  old = noted 1 ∷ [];
  some = lit_some;
  all = refl;
  last = ([], noted 1, refl, refl);
  size = lit_size;
  full = inr refl;
}

-- a snapshot from before the entry that was dropped is too old
too_old : LogSays log (record { keys = []; parts = [] }) 0 (check.Aged 1)
too_old = (refl, lit_zero_one)

-- nothing that was read was written
nothing_read_conflicts_with_nothing : LogSays log (record { keys = []; parts = [] }) 1 check.Clear
nothing_read_conflicts_with_nothing = (λ less. not_less less, ((λ less meets. apart meets.1), ((λ less meets. apart meets.1), tt)))

-- entry 2 is the first after 1 that wrote what was read
the_first_conflict : LogSays log (record { keys = cell_key.Counter 0 ∷ []; parts = [] }) 1 (check.Conflict 2)
the_first_conflict = (λ less. not_less less, inl (refl, lit_one_two, (cell_key.Counter 0, refl, inl refl)))
