-- The number of the entries that joined, beside what a desk stands for.
use Rattle.std.proofs.Common.{◌≡◌, ℕ, ◌+◌, ◌-◌, ◌<◌, List, [], ◌∷◌, ◌++◌, length, refl, None, sym, ap, subst, ◌∙◌, arith, append_assoc, length-append, add-zero}
use Rattle.outer_ends.specs.Told.{SourceTold, SinkTold}
use Rattle.http_messages.specs.declared.messages.Reply.{Reply}
use Rattle.http_messages.specs.declared.ends.SessionEnd.{SessionEnd}
use Rattle.world_cells.specs.World.{World}
use Rattle.task_forms.specs.declared.tasks.Task.{Task}
use Rattle.task_forms.specs.declared.tasks.Entry.{Entry}
use Rattle.task_forms.specs.declared.desk.DeskEnd.{DeskEnd}
use Rattle.task_forms.specs.Desks.{Joins, Refuses}
use Rattle.session_engine.specs.Plans.{TaskPlans}
use Rattle.session_engine.specs.States.{SessionState}
use Rattle.session_engine.specs.Seen.{Serves, Counted, Standing}
use Rattle.session_engine.proofs.Serving.{Serving, serving_none}

-- what a desk stands for, where its own entries are so many
abbrev pub CountedFrom : Standing → ℕ → ℕ → World → List Entry → List Entry → Type 0
CountedFrom stands count first w = Counted (stands first w) count

pub joins_counted : (new later : Standing) (count total : ℕ) (t : Task) (r : Reply) → total ≡ count + 1
    → ((first : ℕ) (w : World) (seen mine : List Entry) → new first w seen mine → Joins (later first w) seen mine t r)
    → (first : ℕ) (w : World) (seen mine : List Entry) → CountedFrom new count first w seen mine → Joins (CountedFrom later total first w) seen mine t r
joins_counted new later count total t r is h first w seen mine c =
    let j = h first w seen mine c.0 in
    let e : Entry = record { by = j.by; task = t; reply = r } in
    let n = c.1 in
    record { by = j.by; others = j.others; now = (j.now, omega (arith, length-append mine (e ∷ []), is, n)) }

pub refuses_counted : (new later : Standing) (count : ℕ) (e : DeskEnd)
    → ((first : ℕ) (w : World) (seen mine : List Entry) → new first w seen mine → Refuses (later first w) first seen mine e)
    → (first : ℕ) (w : World) (seen mine : List Entry) → CountedFrom new count first w seen mine → Refuses (CountedFrom later count first w) first seen mine e
refuses_counted new later count e h first w seen mine c =
    let r = h first w seen mine c.0 in
    record { others = r.others; now = (r.now, c.1); worn = r.worn }

pub none_counted : (plans : TaskPlans) (old : Standing) (base count : ℕ) (now : SessionState) (t : SourceTold) (w : SinkTold) → count ≡ 0 → now ≡ record { answered = 0; buffer = []; pending = None }
    → Serving plans (CountedFrom old base) (CountedFrom old (base + count)) now t t w w
none_counted plans old base count now t w zero e =
    subst (λ (n : ℕ). Serving plans (CountedFrom old base) (CountedFrom old n) now t t w w) (sym (add-zero base) ∙ ap (λ (n : ℕ). base + n) (sym zero))
    (serving_none plans (CountedFrom old base) now t w e)

-- what is said with the count, without it
pub serves_plain : (plans : TaskPlans) (stands : List Entry → List Entry → Type 0) (count first : ℕ) (seen mine : List Entry) (t u : SourceTold) (w x : SinkTold) (k : ℕ) (end : SessionEnd)
    → Serves plans (Counted stands count) first seen mine t u w x k end → Serves plans stands first seen mine t u w x k end
serves_plain plans stands count first seen mine t u w x k end h = record {
  others = h.others;
  entries = h.entries;
  stood = h.stood.0;
  worn = h.worn;
  wearing = h.wearing;
  ends_worn = h.ends_worn;
  bytes = h.bytes;
  taken_more = h.taken_more;
  left_less = h.left_less;
  out = h.out;
  written_more = h.written_more;
  served = h.served;
}
