-- What a runner that reads tells, from its steps.
use Rattle.std.proofs.Common.{◌≡◌, ◌==◌, ℕ, Bool, true, false, List, [], ◌∷◌, Result, Ok, Err, length, refl, sym, ap, subst, ◌∙◌, arith}
use Rattle.std.proofs.lemmas.Bool.Decides.{nat_tests}
use Rattle.std.proofs.lemmas.Bool.{false≢true}
use Rattle.std.proofs.lemmas.List.{nil_from_length}
use Rattle.std.specs.Prelude.{IfOk}
use Rattle.resource_schema.specs.declared.schema.Schema.{Schema}
use Rattle.world_cells.specs.declared.keys.CellKey.{CellKey}
use Rattle.world_cells.specs.Reads.{Cells}
use Rattle.world_cells.specs.World.{World}
use Rattle.view_reads.specs.Recording.{Recording}
use Rattle.trial_steps.specs.Steps.{LooksAt, ReadsWithin, Sees}
use Rattle.trial_steps.specs.Runners.{TellsRead}
use Rattle.task_forms.specs.declared.queries.Page.{Page}
use Rattle.task_forms.specs.declared.queries.SortKey.{SortKey}
use Rattle.store_model.specs.declared.pages.Selected.{Selected}
use Rattle.store_model.specs.Pages.{page_of, rows_at, rows_of}
use Rattle.store_model.specs.Reach.{is_row_in, is_row_of, listed, of_kind, reach_page, reach_sorted}
use Rattle.ident_rules.specs.declared.key.Key.{Key}
use Rattle.page_select.specs.Chosen.{AreListed}

module _ {V : Type 0} (cells : V → Cells) (schema : Schema) where
  pub told : {T E : Type 0} (t : CellKey → Bool) (reach : World → CellKey → Bool) (P : T → World → Type 0) (a b : Recording V) (r : Result T E)
      → LooksAt t a b → Sees schema cells a b (λ now. IfOk r (λ s. P s now)) → IfOk r (λ s. ReadsWithin schema cells reach a b) → IfOk r (λ s. TellsRead schema cells reach (P s) a b)
  told t reach P a b (Ok s) looks sees within = record { follows = looks.follows; unwritten = looks.writes; tells = sees; within = within }
  told t reach P a b (Err e) looks sees within = tt

  -- a page of the rows at listed keys
  pub told_listed : {E : Type 0} (keys : List Key) (sort : List SortKey) (page : Page) (a b : Recording V) (r : Result Selected E) → LooksAt (is_row_in keys) a b
      → Sees schema cells a b (λ now. IfOk r (λ s. AreListed keys → s ≡ page_of sort page (rows_at now keys)))
      → IfOk r (λ s. TellsRead schema cells (reach_page (listed keys) sort page) (λ now. AreListed keys → s ≡ page_of sort page (rows_at now keys)) a b)
  told_listed keys sort page a b (Ok s) looks sees = record { follows = looks.follows; unwritten = looks.writes; tells = sees; within = λ w now valid same now_valid leads k new old. looks.within k new old }
  told_listed keys sort page a b (Err e) looks sees = tt

  module _ {E : Type 0} (kind : ℕ) (page : Page) (a b : Recording V) (r : Result Selected E) where
    abbrev pub TellsPage : (World → CellKey → Bool) → List SortKey → Type 0
    TellsPage reach sort = IfOk r (λ s. TellsRead schema cells reach (λ now. s ≡ page_of sort page (rows_of now kind)) a b)

    -- in the order of the ids
    pub told_by_id : (sort : List SortKey) → sort ≡ [] → TellsPage (λ now. is_row_of (reach_sorted now kind page [])) [] → TellsPage (reach_page (of_kind kind) sort page) sort
    told_by_id sort none h = subst (λ (ks : List SortKey). TellsPage (reach_page (of_kind kind) ks page) ks) (sym none) h

    -- by sort keys
    pub told_by_keys : (sort : List SortKey) → (sort ≡ [] → ⊥) → TellsPage (λ now. is_row_of (λ key. key.kind == kind)) sort → TellsPage (reach_page (of_kind kind) sort page) sort
    told_by_keys [] some h = absurd (some refl)
    told_by_keys (key ∷ sort) some h = h

-- ---- lists without an item

pub no_item : {A : Type 0} (xs : List A) (b : Bool) → b ≡ (length xs == 0) → b ≡ true → xs ≡ []
no_item xs b is e =
    let none : (length xs == 0) ≡ true = sym is ∙ e in
    let zero_long : length xs ≡ 0 = grind (arith, nat_tests, none) in
    nil_from_length xs zero_long

pub some_item : {A : Type 0} (xs : List A) (b : Bool) → b ≡ (length xs == 0) → b ≡ false → xs ≡ [] → ⊥
some_item {A} xs b is e none = false≢true (sym e ∙ is ∙ ap (λ (ys : List A). length ys == 0) none)
