-- A desk alone owns every entry.
use Rattle.std.proofs.Common.{◌≡◌, Bool, true, List, [], ◌∷◌, refl, ap, ◌∙◌}
use Rattle.std.specs.Prelude.{filter}
use Rattle.task_forms.specs.declared.tasks.Entry.{Entry}
use Rattle.task_forms.specs.Desks.{IsOwn}

abbrev pub owns_all : Entry → Bool
owns_all entry = true

all_pass : (entries : List Entry) → entries ≡ filter owns_all entries
all_pass [] = refl
all_pass (e ∷ entries) = ap (λ (l : List Entry). e ∷ l) (all_pass entries)

-- where its own are all that it has seen, they are those that pass the test
pub own_alone : (seen mine : List Entry) → mine ≡ seen → IsOwn owns_all seen mine
own_alone seen mine same = same ∙ all_pass seen
