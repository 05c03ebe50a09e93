-- A query without a byte has no pair, so nothing is asked.
use Rattle.std.specs.Prelude.{[], Ok, ◌==◌}
use Rattle.std.proofs.Common.{◌≡◌, ℕ, List, Bool, true, length, refl, sym, ◌∙◌, arith}
use Rattle.std.proofs.lemmas.Bool.Decides.{nat_tests}
use Rattle.std.proofs.lemmas.List.{nil_from_length}
use Rattle.form_urlencoded.specs.Form.{raw_pairs, split}
use Rattle.resource_schema.specs.declared.schema.Schema.{Schema}
use Rattle.resource_schema.specs.declared.targets.Target.{Target}
use Rattle.task_forms.specs.Queries.{no_query}
use Rattle.request_model.specs.Queries.{query_of}

no_raw_pairs : raw_pairs [] ≡ []
unfolding raw_pairs split
no_raw_pairs = refl

-- the query of a request without one
pub query_of-none : (schema : Schema) (t : Target) → query_of schema t [] ≡ Ok no_query
query_of-none schema t = rw no_raw_pairs refl

pub no_byte : (query : List ℕ) (b : Bool) → b ≡ (length query == 0) → b ≡ true → query ≡ []
no_byte query b is e =
    let none : (length query == 0) ≡ true = sym is ∙ e in
    let zero_long : length query ≡ 0 = grind (arith, nat_tests, none) in
    nil_from_length query zero_long
