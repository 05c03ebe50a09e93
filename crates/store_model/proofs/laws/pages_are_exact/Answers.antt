use Rattle.store_model.proofs.laws.pages_are_exact.Goals as goal
use Rattle.store_model.proofs.Paging.{page_exact}
use Rattle.store_model.proofs.WorldRows.{rows_of_apart, linked_apart}
use Rattle.store_model.specs.Pages.{rows_of, rows_at}
use Rattle.world_cells.specs.World.{linked}

pub returns-clause-rows : goal.returns-clause-rows
returns-clause-rows c = λ sort page rows apart. page_exact sort rows apart page

pub returns-clause-collections : goal.returns-clause-collections
returns-clause-collections c = λ schema w kind sort page valid. page_exact sort (rows_of w kind) (rows_of_apart schema w valid kind) page

pub returns-clause-relationships : goal.returns-clause-relationships
returns-clause-relationships c = λ schema w row rel sort page valid. page_exact sort (rows_at w (linked schema row rel)) (linked_apart schema w valid row rel) page
