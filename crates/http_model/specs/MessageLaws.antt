-- Laws of fields and of the number of messages, for the crates that take heads, drive sessions and make programs of them.
use Rattle.std.proofs.Common.{◌≡◌, ◌≢◌, ℕ, ◌+◌, ◌*◌, ◌<◌, ◌≤◌, Bool, true, false, List, [], ◌∷◌, ◌++◌, length, refl, sym, ◌∙◌, arith, length-append, eqb, eq-eqb, All}
use Rattle.std.specs.Prelude.{◌||◌, IsFalse}
use Rattle.std.specs.List.{flat_map}
use Rattle.std.proofs.lemmas.Bool.{false≢true}
use Rattle.std.proofs.lemmas.List.Elements.{All-head, All-tail}
use Rattle.httparse.specs.Grammar.{Field, IsField, LineEnd, crlf, lf, print_end, print_field}
use Rattle.http_messages.specs.declared.messages.Message.{Message}
use Rattle.http_messages.specs.declared.limits.TheConstants.{MESSAGE_LIMIT}
use Rattle.http_model.specs.Framings.{closes}

-- each field has three bytes at least
pub fields_length : (fields : List Field) → All IsField fields → 3 * length fields ≤ length (flat_map print_field fields)
fields_length [] h = omega arith
fields_length (f ∷ fields) h =
    omega (arith, fields_length fields (All-tail IsField f fields h), (All-head IsField f fields h).name.0, length-append (print_field f) (flat_map print_field fields), field_length f)
  where
    end_length : (e : LineEnd) → 0 < length (print_end e)
    end_length crlf = omega arith
    end_length lf = omega arith

    field_length : (f : Field) → length f.name + 2 ≤ length (print_field f)
    field_length f =
        omega (arith, length-append (f.name ++ 58 ∷ f.raw) (print_end f.end), length-append f.name (58 ∷ f.raw), end_length f.end)

or_true : (b : Bool) → (b || true) ≡ true
or_true true = refl
or_true false = refl

below_last : (x : Bool) (n : ℕ) (b : Bool) → eqb n MESSAGE_LIMIT ≡ b → IsFalse (x || b) → n ≤ MESSAGE_LIMIT → n < MESSAGE_LIMIT
below_last x n true e h le = absurd (false≢true (sym h ∙ or_true x))
below_last x n false e h le = let other : n ≢ 1000000 = λ same. false≢true (sym e ∙ eq-eqb n MESSAGE_LIMIT same) in omega (arith, other)

-- a message that does not close is not the last that may come
pub few_more : (m : Message) (n : ℕ) → n ≤ MESSAGE_LIMIT → IsFalse (closes m n) → n < MESSAGE_LIMIT
unfolding closes
few_more m n le h = below_last _ n (eqb n MESSAGE_LIMIT) refl h le
