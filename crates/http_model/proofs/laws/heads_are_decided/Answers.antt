use Rattle.http_model.proofs.Blanks.{is_empty_lines, not_empty_lines}
use Rattle.http_model.proofs.Heads.{never_of_request, never_of_target, never_of_scan, open_of_partial, room_enough}
use Rattle.http_model.proofs.laws.heads_are_decided.Goals as goal

pub returns : goal.returns
returns c = record {
  of_request = never_of_request;
  of_target = never_of_target;
  of_scan = never_of_scan;
  of_partial = open_of_partial;
  of_room = room_enough;
  blank = is_empty_lines;
  not_blank = not_empty_lines;
}
