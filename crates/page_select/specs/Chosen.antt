-- The rows that a page is cut from, and the page.
use Rattle.std.specs.Prelude.{◌≡◌, List}
use Rattle.std.specs.List.{IsDistinct}
use Rattle.ident_rules.specs.declared.key.Key.{Key}
use Rattle.ident_rules.specs.Key.{same_key}
use Rattle.world_cells.specs.Lists.{IsIn}
use Rattle.world_cells.specs.World.{World}
use Rattle.task_forms.specs.declared.queries.Page.{Page}
use Rattle.task_forms.specs.declared.queries.SortKey.{SortKey}
use Rattle.store_model.specs.declared.pages.Selected.{Selected}
use Rattle.store_model.specs.Pages.{page_of, rows_of, rows_at}
use Rattle.store_model.specs.Reach.{Members as Meant, of_kind, listed}
use Rattle.page_select.specs.declared.pages.Members.{Members}
use Rattle.page_select.specs.declared.pages.Members.TheVariants as members

-- as the reach of a page names them
abbrev pub meant : Members → Meant
meant (members.OfKind kind) = of_kind kind
meant (members.Listed keys) = listed keys

-- distinct keys of one type
pub record AreListed (keys : List Key) : Type 0 where
  pub distinct : IsDistinct same_key keys
  pub one_kind : (a b : Key) → IsIn keys a → IsIn keys b → a.kind ≡ b.kind

-- the page of the rows of a type, and that of the rows at listed keys
abbrev pub IsSelected : Members → List SortKey → Page → Selected → World → Type 0
IsSelected (members.OfKind kind) sort page s now = s ≡ page_of sort page (rows_of now kind)
IsSelected (members.Listed keys) sort page s now = AreListed keys → s ≡ page_of sort page (rows_at now keys)
