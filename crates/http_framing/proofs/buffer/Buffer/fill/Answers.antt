use Rattle.std.proofs.Common.{◌≡◌, ◌∙◌, List, ℕ, [], ◌++◌, ap, sym, drop, take, length-drop, arith, append-nil}
use Rattle.http_framing.proofs.RoomSteps.{used_more, used_same, appends_nothing, consumes_nothing}
use Rattle.http_framing.proofs.buffer.Buffer.fill.Goals as goal

nothing : (n : ℕ) (read : List ℕ) → n ≡ 0 → take n read ≡ []
nothing n read h = ap (λ (k : ℕ). take k read) h

pub returns-in-Err-clause-adds : goal.returns-in-Err-clause-adds
returns-in-Err-clause-adds g c =
    let room : List ℕ = c.make_room-start.new.room.items in
    let start = c.make_room-start.result.0 in
    let end = c.make_room-start.result.1 in
    record {
      bytes = [];
      kept = used_same room c.read_behind.new.room.items start end c.make_room-start.ensures.ordered c.read_behind.ensures.kept ∙ c.make_room-start.ensures.kept ∙ c.self.view_is ∙ sym (append-nil c.args.self.now);
      taken_more = appends_nothing _ _ c.in-Err.ensures.taken;
      left_less = consumes_nothing _ _ c.in-Err.ensures.left;
    }

pub returns-in-Err-clause-end : goal.returns-in-Err-clause-end
returns-in-Err-clause-end g c =
    let room : List ℕ = c.make_room-start.new.room.items in
    let start = c.make_room-start.result.0 in
    let end = c.make_room-start.result.1 in
    (used_same room c.read_behind.new.room.items start end c.make_room-start.ensures.ordered c.read_behind.ensures.kept ∙ c.make_room-start.ensures.kept ∙ c.self.view_is, c.in-Err.ensures.cause.failed)

pub returns-in-Ok-eq0-clause-adds : goal.returns-in-Ok-eq0-clause-adds
returns-in-Ok-eq0-clause-adds g c =
    let room : List ℕ = c.make_room-start.new.room.items in
    let start = c.make_room-start.result.0 in
    let end = c.make_room-start.result.1 in
    record {
      bytes = take c.in-Ok-eq0.field-0 (drop end c.read_behind.new.room.items);
      kept =
          used_same room c.read_behind.new.room.items start end c.make_room-start.ensures.ordered c.read_behind.ensures.kept ∙ c.make_room-start.ensures.kept ∙ c.self.view_is ∙ sym (append-nil c.args.self.now)
          ∙ ap (λ (l : List ℕ). c.args.self.now ++ l) (sym (nothing c.in-Ok-eq0.field-0 (drop end c.read_behind.new.room.items) c.in-Ok-eq0.field-0-test));
      taken_more = c.in-Ok-eq0.ensures.taken;
      left_less = c.in-Ok-eq0.ensures.left.0;
    }

pub returns-in-Ok-eq0-clause-end : goal.returns-in-Ok-eq0-clause-end
returns-in-Ok-eq0-clause-end g c =
    let room : List ℕ = c.make_room-start.new.room.items in
    let start = c.make_room-start.result.0 in
    let end = c.make_room-start.result.1 in (
      used_same room c.read_behind.new.room.items start end c.make_room-start.ensures.ordered c.read_behind.ensures.kept ∙ c.make_room-start.ensures.kept ∙ c.self.view_is,
      c.in-Ok-eq0.ensures.left.1 c.in-Ok-eq0.field-0-test (omega (arith, c.make_room-start.ensures.free, c.read_behind.ensures.len, length-drop end c.read_behind.new.room.items)),
      c.in-Ok-eq0.ensures.cause.kept,
    )

pub returns-in-Ok-clause-adds : goal.returns-in-Ok-clause-adds
returns-in-Ok-clause-adds g c =
    let room : List ℕ = c.make_room-start.new.room.items in
    let start = c.make_room-start.result.0 in
    let end = c.make_room-start.result.1 in
    record {
      bytes = take c.in-Ok.count (drop end c.read_behind.new.room.items);
      kept =
          used_more room c.read_behind.new.room.items start end c.in-Ok.count c.make_room-start.ensures.ordered c.read_behind.ensures.kept
          ∙ ap (λ (l : List ℕ). l ++ take c.in-Ok.count (drop end c.read_behind.new.room.items)) (c.make_room-start.ensures.kept ∙ c.self.view_is);
      taken_more = c.in-Ok.ensures.taken;
      left_less = c.in-Ok.ensures.left.0;
    }
