-- The parts of `target_of_path`, as a walk over the segments of a path finds them.
use Rattle.std.specs.Prelude.{ℕ, List, [], ◌∷◌, Option, Some, None, option_map}
use Rattle.resource_schema.specs.declared.schema.Schema.{Schema}
use Rattle.resource_schema.specs.declared.targets.Target.{Target}
use Rattle.resource_schema.specs.declared.targets.Target.TheVariants as target
use Rattle.request_model.specs.Words.{parts_at, slash}
use Rattle.request_model.specs.Targets.{key_at, target_of_pieces}

-- the pieces of what is left of a path, where something is
abbrev pub pieces_of : Option (List ℕ) → List (List ℕ)
pieces_of None = []
pieces_of (Some rest) = parts_at slash rest

-- the resource that two segments name
abbrev pub resource_target : Schema → List ℕ → List ℕ → Option Target
resource_target schema kind id = option_map target.Resource (key_at schema kind id)

-- the target of what stands behind the first slash of a path
abbrev pub target_below : Schema → List ℕ → Option Target
target_below schema path = target_of_pieces schema ([] ∷ parts_at slash path)

-- the target of what stands behind three segments
abbrev pub word_target : Schema → List ℕ → List ℕ → List ℕ → List ℕ → Option Target
word_target schema kind id word rest = target_of_pieces schema ([] ∷ kind ∷ id ∷ word ∷ parts_at slash rest)
