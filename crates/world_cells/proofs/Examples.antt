-- Cells of small worlds, spans, and what reads cover.
use Rattle.std.specs.Prelude.{◌≡◌, ℕ, ◌^◌, pos, Bool, true, false, List, [], ◌∷◌, codes, Some, None, refl}
use Rattle.std.specs.declared.cmp.Ordering.TheVariants.{Less, Equal, Greater}
use Rattle.ident_rules.specs.declared.key.Key.{Key}
use Rattle.ident_rules.specs.IdOrder.{id_cmp}
use Rattle.resource_schema.specs.declared.kinds.Kind.{Kind}
use Rattle.resource_schema.specs.Kinds.{to_one, to_many}
use Rattle.resource_schema.specs.declared.values.AttrValue.TheVariants as value
use Rattle.world_cells.specs.declared.rows.Row.{Row}
use Rattle.world_cells.specs.declared.rows.Link.TheVariants.{One, Many}
use Rattle.world_cells.specs.declared.keys.CellKey.{CellKey}
use Rattle.world_cells.specs.declared.keys.CellKey.TheVariants as cell_key
use Rattle.world_cells.specs.declared.cells.Cell.TheVariants as cell
use Rattle.world_cells.specs.declared.spans.Edge.TheVariants as edge
use Rattle.world_cells.specs.declared.spans.Span.TheVariants as span
use Rattle.world_cells.specs.declared.sets.ReadSet.{ReadSet}
use Rattle.world_cells.specs.CellOrder.{cell_key_cmp}
use Rattle.world_cells.specs.Slots.{slot_of, group_of, group_of_span}
use Rattle.world_cells.specs.World.{World, empty_world, cell_at, next_id, linked}
use Rattle.world_cells.specs.Reads.{Cells, in_span, in_part, covers, overlay}

-- articles with one author and many comments, comments, and people
abbrev types : List Kind
types =
    record {
      name = codes "articles";
      client_ids = false;
      attributes = [];
      relationships = to_one (codes "author") 2 ∷ to_many (codes "comments") 1 ∷ [];
    }
    ∷ record { name = codes "comments"; client_ids = false; attributes = []; relationships = [] }
    ∷ record { name = codes "people"; client_ids = true; attributes = []; relationships = [] } ∷ []

abbrev at : ℕ → List ℕ → Key
at kind id = record { kind = kind; id = id }

-- article 1 by ann, with the comments 2 and 1
abbrev article : Row
article = record { key = at 0 (codes "1"); values = []; links = One (Some (codes "ann")) ∷ Many (codes "2" ∷ codes "1" ∷ []) ∷ [] }

abbrev world : World
world = record { rows = (at 0 (codes "1"), article) ∷ []; counters = (0, 2) ∷ [] }

-- ---- orders

shorter_ids_come_first : id_cmp (codes "9") (codes "10") ≡ Less
shorter_ids_come_first = refl

ids_of_one_length_by_bytes : id_cmp (codes "b1") (codes "a2") ≡ Greater
ids_of_one_length_by_bytes = refl

rows_stand_before_ways_back : cell_key_cmp (cell_key.Row (at 9 (codes "z"))) (cell_key.Back (at 0 (codes "1")) (at 0 (codes "1")) 0) ≡ Less
rows_stand_before_ways_back = refl

ways_back_stand_before_counters : cell_key_cmp (cell_key.Counter 0) (cell_key.Back (at 9 (codes "z")) (at 9 (codes "z")) 9) ≡ Greater
ways_back_stand_before_counters = refl

ways_back_by_what_they_lead_to : cell_key_cmp (cell_key.Back (at 0 (codes "2")) (at 0 (codes "1")) 0) (cell_key.Back (at 0 (codes "1")) (at 0 (codes "2")) 1) ≡ Greater
ways_back_by_what_they_lead_to = refl

-- ---- cells

a_row_is_a_cell : cell_at types world (cell_key.Row (at 0 (codes "1"))) ≡ Some (cell.Row article)
a_row_is_a_cell = refl

a_link_has_a_way_back : cell_at types world (cell_key.Back (at 1 (codes "2")) (at 0 (codes "1")) 1) ≡ Some cell.Back
a_link_has_a_way_back = refl

ways_back_are_by_relationship : cell_at types world (cell_key.Back (at 1 (codes "2")) (at 0 (codes "1")) 0) ≡ None
ways_back_are_by_relationship = refl

ways_back_lead_to_the_target_type : cell_at types world (cell_key.Back (at 0 (codes "ann")) (at 0 (codes "1")) 0) ≡ None
ways_back_lead_to_the_target_type = refl

a_next_id_above_one_is_a_cell : cell_at types world (cell_key.Counter 0) ≡ Some (cell.Counter 2)
a_next_id_above_one_is_a_cell = refl

a_next_id_of_one_is_none : cell_at types world (cell_key.Counter 1) ≡ None
a_next_id_of_one_is_none = refl

ids_begin_with_one : next_id world 1 ≡ 1
ids_begin_with_one = refl

links_keep_their_order : linked types article 1 ≡ at 1 (codes "2") ∷ at 1 (codes "1") ∷ []
links_keep_their_order = refl

-- ---- spans and reads

closed_edges_are_within : in_span (span.Rows 0 (edge.Closed (codes "2")) (edge.Open (codes "10"))) (cell_key.Row (at 0 (codes "2"))) ≡ true
closed_edges_are_within = refl

open_edges_are_not : in_span (span.Rows 0 (edge.Closed (codes "2")) (edge.Open (codes "10"))) (cell_key.Row (at 0 (codes "10"))) ≡ false
open_edges_are_not = refl

spans_are_of_one_type : in_span (span.Rows 0 edge.End edge.End) (cell_key.Row (at 1 (codes "2"))) ≡ false
spans_are_of_one_type = refl

ways_back_past_one : in_span (span.Backs (at 1 (codes "2")) (Some (at 0 (codes "1"), 0))) (cell_key.Back (at 1 (codes "2")) (at 0 (codes "1")) 1) ≡ true
ways_back_past_one = refl

not_past_itself : in_span (span.Backs (at 1 (codes "2")) (Some (at 0 (codes "1"), 1))) (cell_key.Back (at 1 (codes "2")) (at 0 (codes "1")) 1) ≡ false
not_past_itself = refl

-- the rows of type 0, looked through from below up to id 5
abbrev reads : ReadSet
reads = record {
  keys = cell_key.Counter 0 ∷ [];
  parts = record { span = span.Rows 0 edge.End edge.End; found = Some (cell_key.Row (at 0 (codes "5"))); from_top = false } ∷ [];
}

a_key_is_covered : covers reads (cell_key.Counter 0) ≡ true
a_key_is_covered = refl

what_was_found_is_covered : covers reads (cell_key.Row (at 0 (codes "5"))) ≡ true
what_was_found_is_covered = refl

rows_below_are_covered : covers reads (cell_key.Row (at 0 (codes "3"))) ≡ true
rows_below_are_covered = refl

rows_above_are_not : covers reads (cell_key.Row (at 0 (codes "6"))) ≡ false
rows_above_are_not = refl

-- ---- writes

writes_lie_over_cells : overlay (cell_at types world) (record { key = cell_key.Counter 0; cell = None } ∷ []) (cell_key.Counter 0) ≡ None
writes_lie_over_cells = refl

other_cells_stay : overlay (cell_at types world) (record { key = cell_key.Counter 1; cell = None } ∷ []) (cell_key.Counter 0) ≡ Some (cell.Counter 2)
other_cells_stay = refl

-- ---- slots and groups

the_slot_of_the_first_counter : slot_of (cell_key.Counter 0) ≡ 3842
the_slot_of_the_first_counter = refl

the_slot_of_a_row : slot_of (cell_key.Row (at 0 (codes "1"))) ≡ 49
the_slot_of_a_row = refl

two_rows_may_share_a_slot : slot_of (cell_key.Row (at 2 (codes "ab"))) ≡ slot_of (cell_key.Row (at 2 (codes "bC")))
two_rows_may_share_a_slot = refl

the_group_of_rows : group_of (cell_key.Row (at 2 (codes "ann"))) ≡ 8
the_group_of_rows = refl

ways_back_are_grouped_by_what_they_lead_to : group_of (cell_key.Back (at 2 (codes "ann")) (at 0 (codes "1")) 0) ≡ 9
ways_back_are_grouped_by_what_they_lead_to = refl

the_group_of_a_counter : group_of (cell_key.Counter 2) ≡ 10
the_group_of_a_counter = refl

types_past_sixty_four_share_groups : group_of (cell_key.Counter 66) ≡ 10
types_past_sixty_four_share_groups = refl

the_group_of_a_span_of_ways_back : group_of_span (span.Backs (at 2 (codes "ann")) None) ≡ 9
the_group_of_a_span_of_ways_back = refl
