-- A draft of the results of a list, piece after piece.
use Rattle.std.proofs.Common.{◌≡◌, ℕ, Bool, false, true, List, [], ◌∷◌, ◌++◌, Some, None, refl, sym, ap, subst, ◌∙◌, append_assoc, append-nil}
use Rattle.std.specs.Prelude.{IfOk, IsSome, MatchResult, Ok, Err, Result, is_some, codes}
use Rattle.ident_rules.specs.declared.memory.NoMemory.{NoMemory}
use Rattle.std.specs.Option.{option_map}
use Rattle.serde_json.specs.Data.{Data}
use Rattle.serde_json.specs.Written.{comma_if, compact_text}
use Rattle.json_texts.specs.Drafts.{DraftText, Adds, Leaves}
use Rattle.json_texts.specs.DraftLaws.{leaves_less, leaves_none}
use Rattle.document_texts.specs.Texts.{items_left}
use Rattle.document_texts.proofs.PageTexts.{results-text}
use Rattle.operation_run.specs.Texts.{IsDraftOf, list_data, list_left}

pub draft_begun : (empty draft : DraftText) → (IsSome empty → empty ≡ Some []) → Adds empty draft (codes "{\"atomic:results\":[") → IsDraftOf draft false []
draft_begun empty draft new adds more =
    leaves_less {b = empty} {left = codes "{\"atomic:results\":[" ++ list_left false more} (record { rest = λ some. ap (option_map (λ text. text ++ (codes "{\"atomic:results\":[" ++ list_left false more))) (new some) }) adds refl

next_left : (later : Bool) (d : Data) (more : List Data) → list_left later (d ∷ more) ≡ (comma_if later ++ compact_text d) ++ list_left true more
next_left later d more =
    append_assoc (comma_if later) (compact_text d ++ items_left true more) (codes "}")
    ∙ ap (λ text. comma_if later ++ text) (append_assoc (compact_text d) (items_left true more) (codes "}"))
    ∙ sym (append_assoc (comma_if later) (compact_text d) (list_left true more))

pub draft_next : (draft next : DraftText) (later : Bool) (done : List Data) (d : Data) → IsDraftOf draft later done → Adds draft next (comma_if later ++ compact_text d) → IsDraftOf next true (done ++ d ∷ [])
draft_next draft next later done d so_far adds more =
    subst (λ (ds : List Data). Leaves (Some []) next (list_left true more) (codes "{\"atomic:results\":[" ++ list_left false ds)) (sym (append_assoc done (d ∷ []) more))
    (leaves_less {b = draft} {piece = comma_if later ++ compact_text d} (so_far (d ∷ more)) adds (next_left later d more))

-- ---- the text at the end

text_is : (next : DraftText) (text bytes : List ℕ) → Adds (Some []) next text → next ≡ Some bytes → bytes ≡ text
text_is next text bytes adds is = let e = sym is ∙ adds.grown (ap is_some is) in cc

pub draft_ended : (draft next : DraftText) (later : Bool) (done : List Data) (bytes : List ℕ) → IsDraftOf draft later done → Adds draft next (codes "]}") → next ≡ Some bytes → bytes ≡ compact_text (list_data done)
draft_ended draft next later done bytes so_far adds is =
    text_is next (codes "{\"atomic:results\":[" ++ list_left false (done ++ [])) bytes (leaves_none {a = Some []} {b = next} (leaves_less {b = draft} {rest = []} (so_far []) adds refl) refl) is
    ∙ ap (λ (ds : List Data). codes "{\"atomic:results\":[" ++ list_left false ds) (append-nil done)
    ∙ sym (results-text done)

-- a text of one piece
pub one_piece : (empty next : DraftText) (text : List ℕ) (result : Result (List ℕ) NoMemory) → (IsSome empty → empty ≡ Some []) → Adds empty next text
    → MatchResult result (λ bytes. next ≡ Some bytes) (λ e. next ≡ None) → IfOk result (λ bytes. bytes ≡ text)
one_piece empty next text (Err e) new adds is = tt
one_piece empty next text (Ok bytes) new adds is =
    text_is next text bytes
    (leaves_none {a = Some []} {b = next} (leaves_less {b = empty} {left = text} {rest = []} (record { rest = λ some. ap (option_map (λ t. t ++ text)) (new some) }) adds (sym (append-nil text))) refl)
    is
