-- The pairs of a query, read from left to right.
use Rattle.std.specs.Prelude.{None}
use Rattle.request_model.specs.declared.forms.Asked.{Asked}
use Rattle.task_forms.specs.Queries.{no_query}

-- what is asked before the first pair
abbrev pub nothing_asked : Asked
nothing_asked = record { query = no_query; after = None; before = None }
