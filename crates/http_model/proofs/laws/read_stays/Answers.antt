use Rattle.http_model.proofs.Heads.{never_more}
use Rattle.http_model.proofs.Growth.{head_more, whole_more, never_front_more, open_front_more, body_more, bad_chunked_more, large_chunked_more, message_more, refused_more, early_more}
use Rattle.http_model.proofs.laws.read_stays.Goals as goal

pub returns : goal.returns
returns c = record {
  head = head_more;
  whole_head = whole_more;
  never = never_more;
  never_front = never_front_more;
  open_front = open_front_more;
  body = body_more;
  bad_chunk = bad_chunked_more;
  large_body = large_chunked_more;
  message = message_more;
  refused = refused_more;
  early = early_more;
}
