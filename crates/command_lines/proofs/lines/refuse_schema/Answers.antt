use Rattle.std.proofs.Common.{◌≡◌, ℕ, List, [], ◌∷◌, ◌++◌, codes, subst, ◌∙◌}
use Rattle.command_lines.specs.Lines.{schema_line, Refuses}
use Rattle.schema_file.specs.FaultWords.{word_of}
use Rattle.command_lines.proofs.Refusals.{refuses_by}
use Rattle.command_lines.proofs.lines.refuse_schema.Goals as goal

pub returns : goal.returns
returns g c =
    let old = g.K.Sink.told c.args.sink.now in
    let now = g.K.Sink.told c.send_more-ended.new.sink in
    let Told : List ℕ → Type 0 = λ text. Refuses text old now c.status_of_sent.result in
    let begun = c.send_all-begun.ensures.sends in
    let placed = c.send_more-placed.ensures.sends old _ begun in
    let parted = c.send_more-parted.ensures.sends old _ placed in
    let told = c.send_more-told.ensures.sends old _ parted in
    let ended = c.send_more-ended.ensures.sends old _ told in
    let cause = c.send_more-ended.ensures.cause _ (c.send_more-told.ensures.cause _ (c.send_more-parted.ensures.cause _ (c.send_more-placed.ensures.cause _ c.send_all-begun.ensures.cause))) in
    let refused = refuses_by _ old now _ _ ended cause c.status_of_sent.ensures in
    let why : c.as_bytes-2.result.now ≡ word_of c.args.why = c.as_bytes-2.ensures.value ∙ c.word_of.ensures in
    let place : c.as_bytes.result.now ≡ c.args.place.now = c.as_bytes.ensures.value in
    let worded = subst (λ (w : List ℕ). Told ((((codes "jsonapid: schema " ++ c.as_bytes.result.now) ++ codes " ") ++ w) ++ 10 ∷ [])) why refused in
    subst (λ (p : List ℕ). Told (schema_line p c.args.why)) place worded
