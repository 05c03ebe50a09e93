use Rattle.std.proofs.Common.{◌∷◌, [], ap, sym, ◌∙◌, List, ℕ, Option, Bor}
use Rattle.std.specs.Prelude.{option_map}
use Rattle.request_model.specs.Targets.{target_of_pieces}
use Rattle.route_table.specs.Routes.{pieces_of}
use Rattle.route_table.proofs.RouteLemmas.{no_target_of_five}
use Rattle.route_table.proofs.routes.word_target.Goals as goal

pub returns-in-Some : goal.returns-in-Some
returns-in-Some c =
    let parts = c.first_piece.ensures ∙ ap (λ (o : Option (Bor (List ℕ))). c.first_piece.result.0.now ∷ pieces_of (option_map (λ t. t.now) o)) c.in-Some.is in
    no_target_of_five c.args.schema.now c.args.kind.now c.args.id.now c.args.word.now c.first_piece.result.0.now c.in-Some._more.now
    ∙ ap (λ (ps : List (List ℕ)). target_of_pieces c.args.schema.now ([] ∷ c.args.kind.now ∷ c.args.id.now ∷ c.args.word.now ∷ ps)) (sym parts)
