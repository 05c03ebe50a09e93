-- The query that asks for nothing (JSON:API 1.1, "Query Parameters"; the size of a page is of this project).
use Rattle.std.specs.Prelude.{[], None}
use Rattle.task_forms.specs.declared.queries.TheConstants.{DEFAULT_PAGE_SIZE}
use Rattle.task_forms.specs.declared.queries.Page.{Page}
use Rattle.task_forms.specs.declared.queries.Query.{Query}

-- a page from the first item on, of the size that holds where none is asked for
abbrev pub first_page : Page
first_page = record { size = DEFAULT_PAGE_SIZE; after = None; before = None }

-- the query without a pair
abbrev pub no_query : Query
no_query = record { pairs = []; include = None; fields = []; sort = []; page = first_page }
