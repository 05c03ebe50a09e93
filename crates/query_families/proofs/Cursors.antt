-- The cursors of a query, after its pairs.
use Rattle.std.proofs.Common.{◌≡◌, ℕ, List, Bool, Option, Result, Ok, Err, ap, ◌∙◌}
use Rattle.std.specs.Prelude.{codes}
use Rattle.resource_schema.specs.declared.schema.Schema.{Schema}
use Rattle.resource_schema.specs.declared.targets.Target.{Target}
use Rattle.resource_schema.specs.declared.values.Form.{Form}
use Rattle.resource_schema.specs.declared.values.Place.{Place}
use Rattle.error_objects.specs.declared.refusals.Refusal.{Refusal}
use Rattle.task_forms.specs.declared.queries.Query.{Query}
use Rattle.request_model.specs.declared.forms.Asked.{Asked}
use Rattle.request_model.specs.Results.{◌>>=◌}
use Rattle.request_model.specs.Queries.{pairs_of, place_at, primary_kind, query_of, sort_forms, with_pairs}
use Rattle.query_families.specs.Pairs.{nothing_asked}

module _ (schema : Schema) (t : Target) (text : List ℕ) where
  abbrev forms : Asked → List (Form × Bool)
  forms asked = sort_forms schema (primary_kind schema t) asked.query.sort

  abbrev with_both : Asked → Option Place → Option Place → Result Query Refusal
  with_both asked after before = Ok (record asked.query { page = record asked.query.page { after = after; before = before } })

  abbrev behind : Asked → Option Place → Result Query Refusal
  behind asked after = ◌>>=◌ (place_at (forms asked) (codes "page[before]") asked.before) (λ before. with_both asked after before)

  abbrev on_asked : Asked → Result Query Refusal
  on_asked asked = ◌>>=◌ (place_at (forms asked) (codes "page[after]") asked.after) (behind asked)

  module _ (asked : Asked) (read : with_pairs schema t nothing_asked (pairs_of text) ≡ Ok asked) where
    so_read : query_of schema t text ≡ on_asked asked
    so_read = ap (λ r. ◌>>=◌ r on_asked) read

    pub after-refused : (r : Refusal) → place_at (forms asked) (codes "page[after]") asked.after ≡ Err r → query_of schema t text ≡ Err r
    after-refused r e = so_read ∙ ap (λ p. ◌>>=◌ p (behind asked)) e

    module _ (after : Option Place) (good : place_at (forms asked) (codes "page[after]") asked.after ≡ Ok after) where
      so_after : query_of schema t text ≡ behind asked after
      so_after = so_read ∙ ap (λ p. ◌>>=◌ p (behind asked)) good

      pub before-refused : (r : Refusal) → place_at (forms asked) (codes "page[before]") asked.before ≡ Err r → query_of schema t text ≡ Err r
      before-refused r e = so_after ∙ ap (λ p. ◌>>=◌ p (λ before. with_both asked after before)) e

      pub places-read : (before : Option Place) → place_at (forms asked) (codes "page[before]") asked.before ≡ Ok before → query_of schema t text ≡ Ok (record asked.query { page = record asked.query.page { after = after; before = before } })
      places-read before e = so_after ∙ ap (λ p. ◌>>=◌ p (λ before. with_both asked after before)) e
