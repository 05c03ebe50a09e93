-- What is counted is decided by the tasks and the replies of the entries.
use Rattle.std.proofs.Common.{◌≡◌, ℕ, suc, ◌==◌, Bool, true, false, List, [], ◌∷◌, cond, length, map, Ok, Err, refl, ap, sym, ◌∙◌}
use Rattle.std.specs.Prelude.{filter, Result}
use Rattle.std.proofs.lemmas.List.{length-map}
use Rattle.resource_schema.specs.declared.schema.Schema.{Schema}
use Rattle.resource_schema.specs.declared.faults.SchemaFault.{SchemaFault}
use Rattle.task_forms.specs.declared.tasks.Entry.{Entry}
use Rattle.workload_command.specs.Counts.{counts_of}
use Rattle.workload_command.specs.Tallies.{replies_with, tally_of}
use Rattle.commands.proofs.OneOutput.{told}

one-more : (b : Bool) (x y : Entry) (xs ys : List Entry) → length xs ≡ length ys → length (cond b (x ∷ xs) xs) ≡ length (cond b (y ∷ ys) ys)
one-more true x y xs ys h = ap suc h
one-more false x y xs ys h = h

replies-told : (status : ℕ) (es : List Entry) → replies_with status (map told es) ≡ replies_with status es
replies-told status [] = refl
replies-told status (e ∷ es) =
    one-more (e.reply.status == status) (told e) e (filter (λ x. x.reply.status == status) (map told es)) (filter (λ x. x.reply.status == status) es) (replies-told status es)

tally-told : (es : List Entry) → tally_of (map told es) ≡ tally_of es
tally-told es = λ i. record { ok = replies-told 200 es i; created = replies-told 201 es i; empty = replies-told 204 es i; missing = replies-told 404 es i }

counts-told : (j : ℕ) (es : List Entry) (out : List ℕ) → counts_of j (map told es) out ≡ counts_of j es out
counts-told j es out = λ i. record { requests = j; tally = tally-told es i; entries = length-map es told i; bytes = length out }

pub same-counts : (j k : ℕ) (es fs : List Entry) (out other : List ℕ) → j ≡ k → map told es ≡ map told fs → out ≡ other → counts_of j es out ≡ counts_of k fs other
same-counts j k es fs out other n e o =
    sym (counts-told j es out) ∙ (λ i. counts_of (n i) (e i) (o i)) ∙ counts-told k fs other

abbrev schema_in : Schema → Result Schema SchemaFault → Schema
schema_in other (Ok s) = s
schema_in other (Err fault) = other

pub one-schema : (d : Result Schema SchemaFault) (s t : Schema) → d ≡ Ok s → d ≡ Ok t → s ≡ t
one-schema d s t x y = ap (schema_in s) (sym x ∙ y)
