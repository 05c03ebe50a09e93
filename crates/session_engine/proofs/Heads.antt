-- What a body changes nothing of.
use Rattle.std.proofs.Common.{◌≡◌, ℕ, List, refl}
use Rattle.http_messages.specs.declared.messages.Message.{Message}
use Rattle.http_model.specs.Framings.{framing_of, expects_continue, interim_of}

-- a body changes nothing of what a message asks for
pub interim_same : (m : Message) (body : List ℕ) → interim_of (record m { body = body }) ≡ interim_of m
unfolding expects_continue framing_of
interim_same m body = refl
