-- A pass is within itself, and what is within another is within all that this one is within.
use Rattle.std.proofs.Common.{List, [], ◌++◌, ap, sym, ◌∙◌, append_assoc, append-nil}
use mathlib.Core.List.{IsPrefix}
use Rattle.task_forms.specs.declared.tasks.Entry.{Entry}
use Rattle.history_lock.specs.Views.{PassState}
use Rattle.serving.specs.Working.{IsWithin}

prefix_then : {A : Type 0} (xs ys zs : List A) → IsPrefix xs ys → IsPrefix ys zs → IsPrefix xs zs
prefix_then xs ys zs p q = (p.0 ++ q.0, sym (append_assoc xs p.0 q.0) ∙ ap (λ l. l ++ q.0) p.1 ∙ q.1)

module _ {K : Type 0} where
  pub within_same : (p : PassState Entry K) → IsWithin p p
  within_same p = record { numbers = λ n among. among; seen = ([], append-nil p.view.seen) }

  pub within_then : (p q r : PassState Entry K) → IsWithin p q → IsWithin q r → IsWithin p r
  within_then p q r one other = record { numbers = λ n among. other.numbers n (one.numbers n among); seen = prefix_then p.view.seen q.view.seen r.view.seen one.seen other.seen }
