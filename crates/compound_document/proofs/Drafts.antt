-- The texts of documents, of the texts of their parts.
use Rattle.std.proofs.Common.{◌≡◌, ℕ, List, [], ◌++◌, Bool, true, false, Option, Some, None, Result, Ok, Err, refl, ap, ◌∙◌}
use Rattle.std.specs.Prelude.{codes, IfOk, MatchResult}
use Rattle.json.specs.Print.{escape_byte}
use Rattle.serde_json.specs.Data.{Data}
use Rattle.serde_json.specs.Written.{compact_text}
use Rattle.json_texts.specs.Drafts.{Adds}
use Rattle.resource_schema.specs.declared.schema.Schema.{Schema}
use Rattle.world_cells.specs.declared.rows.Row.{Row}
use Rattle.task_forms.specs.declared.queries.Query.{Query}
use Rattle.store_model.specs.Document.{resources}
use Rattle.compound_document.specs.Documents.{beside_text, meta_text, one_data, page_object, row_object}

pub page-text : (schema : Schema) (query : Query) (rows : List Row) (beside : Option (List Row)) (links : Data) (truncated : Bool)
    → compact_text (page_object schema query rows beside links truncated)
    ≡ codes "{\"data\":" ++ (compact_text (resources schema query rows) ++ (beside_text schema query beside ++ (codes ",\"links\":" ++ (compact_text links ++ (meta_text truncated ++ codes "}")))))
unfolding escape_byte
page-text schema query rows None links true = refl
page-text schema query rows None links false = refl
page-text schema query rows (Some more) links true = refl
page-text schema query rows (Some more) links false = refl

pub one-text : (schema : Schema) (query : Query) (row : Option Row) (beside : Option (List Row))
    → compact_text (one_data schema query row beside) ≡ codes "{\"data\":" ++ (compact_text (row_object schema query row) ++ (beside_text schema query beside ++ codes "}"))
unfolding escape_byte
one-text schema query row None = refl
one-text schema query row (Some more) = refl

-- a draft that began without a text and is finished
pub finished : {E : Type 0} (r : Result (List ℕ) E) (start now : Option (List ℕ)) (text : List ℕ) → start ≡ Some [] → Adds start now text → MatchResult r (λ bytes. now ≡ Some bytes) (λ e. now ≡ None) → IfOk r (λ bytes. bytes ≡ text)
finished (Err e) start now text none adds ends = tt
finished (Ok bytes) None now text none adds ends = cc none
finished (Ok bytes) (Some begun) None text none adds ends = cc ends
finished (Ok bytes) (Some begun) (Some all) text none adds ends =
    let grown : Some all ≡ Some (begun ++ text) = adds.grown refl in
    let empty : begun ≡ [] = cc none in
    let same : Some all ≡ Some text = grown ∙ ap (λ xs. Some (xs ++ text)) empty in
    cc (ends, same)
