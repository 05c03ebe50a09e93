-- A rest is refused for one reason, or cut, or between messages, and in none of these cases does a message begin it.
use Rattle.std.proofs.Common.{◌≡◌, ℕ, ◌+◌, ◌-◌, Bool, true, false, List, [], ◌∷◌, ◌++◌, length, take, drop, refl, sym, ap, subst, ◌∙◌, arith, append_assoc, append-nil, ◌⊎◌, inl, inr, Ok, Err, Result, take-append-drop}
use Rattle.std.proofs.Math.Seq.{take-append-add}
use Rattle.std.specs.List.{list_all}
use Rattle.std.proofs.lemmas.Bool.{and_parts, false≢true}
use Rattle.std.proofs.lemmas.List.Elements.{All-nil}
use Rattle.std.proofs.lemmas.List.Sums.{AllPass-from_list_all, list_all-from_AllPass}
use Rattle.httparse.specs.Grammar.{RequestHead, print_request, IsToken, is_token_byte, LineEnd, crlf, lf, print_blank}
use Rattle.httparse.specs.Pieces.{is_newline}
use Rattle.httparse.proofs.PieceLemmas.{token_is_no_newline}
use Rattle.httparse.proofs.GrammarLemmas.{print_request-append}
use Rattle.http_messages.specs.declared.messages.Message.{Message}
use Rattle.http_model.specs.Heads.{is_visible, ReadsHead, NeverHasHead, IsOpen, front, IsEmptyLines}
use Rattle.http_model.specs.Messages.{FitsHeadLimit}
use Rattle.http_messages.specs.declared.framings.Framing.{Framing}
use Rattle.http_messages.specs.declared.framings.Framing.TheVariants.{Chunked}
use Rattle.http_messages.specs.declared.framings.HeadFault.{HeadFault}
use Rattle.http_model.specs.Framings.{framing_of, interim_of, is_head}
use Rattle.http_model.specs.Requests.{ReadsWholeHead, HasNoMessage}
use Rattle.http_messages.specs.declared.framings.RefusedRest.{RefusedRest}
use Rattle.http_messages.specs.declared.framings.RefusedRest.TheVariants.{Hopeless, TooLarge, TooMany, Head, BadChunk, LargeBody}
use Rattle.http_model.specs.Rests.{IsBetweenMessages, IsRefused, IsCut, RestKind, rest_between, rest_cut, rest_refused, rest_message, IsRest, HeadKind, head_never, head_large, head_many, head_open, head_whole, IsHeadKind}
use Rattle.http_model.specs.Bodies.{BodyKind, body_good, body_bad, body_large, body_cut, IsBodyKind}
use Rattle.http_model.proofs.BodiesLaw.{body_kind_unique}
use Rattle.http_model.proofs.HopelessLaw.{in_front, at_end}
use Rattle.http_model.proofs.Heads.{may_behind}
use Rattle.http_model.proofs.Requests.{head_unique, whole_head_unique}
use Rattle.http_messages.specs.declared.limits.TheConstants.{HEAD_LIMIT}

never_read : (rest more : List ℕ) (h : RequestHead) (after : List ℕ) → NeverHasHead (front rest) → ReadsHead (rest ++ more) h after → ⊥
never_read rest more h after never x =
    never (drop HEAD_LIMIT rest ++ more) h after
    (subst (λ (l : List ℕ). ReadsHead l h after)
    (ap (λ (l : List ℕ). l ++ more) (sym (take-append-drop HEAD_LIMIT rest)) ∙ append_assoc (take HEAD_LIMIT rest) (drop HEAD_LIMIT rest) more) x)

never_whole : (rest : List ℕ) (h : RequestHead) (after : List ℕ) → NeverHasHead (front rest) → ReadsHead rest h after → ⊥
never_whole rest h after never x = never_read rest [] h after never (record { reads = (x.reads.0, append-nil rest ∙ x.reads.1); target = x.target })

-- a head within the limit stands in the front
in_limit : (rest : List ℕ) (h : RequestHead) (after : List ℕ) → FitsHeadLimit h → ReadsHead rest h after → (y : List ℕ) × ReadsHead (front rest) h y
in_limit rest h after fits x = (
  take (HEAD_LIMIT - length (print_request h)) after,
  record { reads = (x.reads.0, ap (take HEAD_LIMIT) x.reads.1 ∙ ap (λ (n : ℕ). take n (print_request h ++ after)) sizes ∙ take-append-add (print_request h) after (HEAD_LIMIT - length (print_request h))); target = x.target },
)
  where
    sizes : HEAD_LIMIT ≡ length (print_request h) + (HEAD_LIMIT - length (print_request h))
    sizes = omega (arith, fits)

large_read : (rest : List ℕ) (h : RequestHead) (after : List ℕ) → FitsHeadLimit h → IsOpen (front rest) → ReadsHead rest h after → ⊥
large_read rest h after fits may x = let f = in_limit rest h after fits x in may.none h f.0 f.1

open_never : (rest : List ℕ) → IsOpen rest → NeverHasHead (front rest) → ⊥
open_never rest o never = never_read rest o.may.more o.may.head [] never o.may.reads

front_open_never : (rest : List ℕ) → IsOpen (front rest) → NeverHasHead (front rest) → ⊥
front_open_never rest o never = never o.may.more o.may.head [] o.may.reads

-- a rest has one kind of head
pub head_kind_unique : (rest : List ℕ) (j k : HeadKind) → IsHeadKind rest j → IsHeadKind rest k → j ≡ k
head_kind_unique rest head_never head_never x y = refl
head_kind_unique rest head_never head_large x y = absurd (front_open_never rest y.1 x)
head_kind_unique rest head_never head_many x y = absurd (never_whole rest y.0 y.1 x y.2)
head_kind_unique rest head_never head_open x y = absurd (open_never rest y.1 x)
head_kind_unique rest head_never (head_whole m after) x y = absurd (never_whole rest y.head after x y.reads)
head_kind_unique rest head_large head_never x y = absurd (front_open_never rest x.1 y)
head_kind_unique rest head_large head_large x y = refl
head_kind_unique rest head_large head_many x y = absurd (large_read rest y.0 y.1 y.3 x.1 y.2)
head_kind_unique rest head_large head_open x y = absurd (omega (arith, x.0, y.0))
head_kind_unique rest head_large (head_whole m after) x y = absurd (large_read rest y.head after y.fits x.1 y.reads)
head_kind_unique rest head_many head_never x y = absurd (never_whole rest x.0 x.1 y x.2)
head_kind_unique rest head_many head_large x y = absurd (large_read rest x.0 x.1 x.3 y.1 x.2)
head_kind_unique rest head_many head_many x y = refl
head_kind_unique rest head_many head_open x y = absurd (y.1.none x.0 x.1 x.2)
head_kind_unique rest head_many (head_whole m after) x y =
    absurd (omega (arith, x.4, y.fields, ap (λ (h : RequestHead). length h.fields) (head_unique rest x.0 y.head x.1 after x.2 y.reads).0))
head_kind_unique rest head_open head_never x y = absurd (open_never rest x.1 y)
head_kind_unique rest head_open head_large x y = absurd (omega (arith, x.0, y.0))
head_kind_unique rest head_open head_many x y = absurd (x.1.none y.0 y.1 y.2)
head_kind_unique rest head_open head_open x y = refl
head_kind_unique rest head_open (head_whole m after) x y = absurd (x.1.none y.head after y.reads)
head_kind_unique rest (head_whole m after) head_never x y = absurd (never_whole rest x.head after y x.reads)
head_kind_unique rest (head_whole m after) head_large x y = absurd (large_read rest x.head after x.fits y.1 x.reads)
head_kind_unique rest (head_whole m after) head_many x y =
    absurd (omega (arith, y.4, x.fields, ap (λ (h : RequestHead). length h.fields) (head_unique rest x.head y.0 after y.1 x.reads y.2).0))
head_kind_unique rest (head_whole m after) head_open x y = absurd (y.1.none x.head after x.reads)
head_kind_unique rest (head_whole m after) (head_whole n behind) x y = let same = whole_head_unique rest m n after behind x y in λ i. head_whole (same.0 i) (same.1 i)

-- ---- empty lines are open

blank_newlines : (ends : List LineEnd) → list_all is_newline (print_blank ends) ≡ true
blank_newlines [] = refl
blank_newlines (crlf ∷ ends) = blank_newlines ends
blank_newlines (lf ∷ ends) = blank_newlines ends

no_newline_word : (m : List ℕ) → IsToken m → list_all is_newline m ≡ true → ⊥
no_newline_word [] token h = absurd (omega (arith, token.0))
no_newline_word (b ∷ m) token h =
    false≢true (sym (token_is_no_newline b (and_parts (is_token_byte b) (list_all is_token_byte m) (list_all-from_AllPass is_token_byte (b ∷ m) token.1)).0)
    ∙ (and_parts (is_newline b) (list_all is_newline m) h).0)

a_word : list_all is_token_byte (71 ∷ []) ≡ true
unfolding is_token_byte
a_word = refl

open_of_blank : (ends : List LineEnd) → IsOpen (print_blank ends)
open_of_blank ends = record {
  none = λ h rest x. no_newline_word h.method x.reads.0.method
      (in_front is_newline h.method _ (at_end is_newline (print_blank h.blank) _
      (ap (list_all is_newline) (sym (x.reads.1 ∙ print_request-append h rest)) ∙ blank_newlines ends)));
  may = may_behind (print_blank ends) (71 ∷ 32 ∷ []) ends (71 ∷ []) [] (omega arith, AllPass-from_list_all is_token_byte (71 ∷ []) a_word)
      (All-nil (λ (b : ℕ). is_visible b ≡ true)) refl;
}

-- ---- rests

abbrev rest_of : Message → BodyKind → RestKind
rest_of m (body_good body after) = rest_message (record m { body = body }) after
rest_of m (body_bad place) = rest_refused BadChunk (interim_of m) (is_head m)
rest_of m body_large = rest_refused LargeBody (interim_of m) (is_head m)
rest_of m body_cut = rest_cut (interim_of m)

-- what a rest is behind a whole head, by its framing
abbrev BehindWhole : Message → List ℕ → Result Framing HeadFault → RestKind → Type 0
BehindWhole m after (Err r) k = k ≡ rest_refused (Head r) [] (is_head m)
BehindWhole m after (Ok f) k = (b : BodyKind) × IsBodyKind f after b × (k ≡ rest_of m b)

-- what a rest is behind what begins it
abbrev Behind : List ℕ → HeadKind → RestKind → Type 0
Behind rest head_never k = k ≡ rest_refused Hopeless [] false
Behind rest head_large k = k ≡ rest_refused TooLarge [] false
Behind rest head_many k = k ≡ rest_refused TooMany [] false
Behind rest head_open k = (IsEmptyLines rest × (k ≡ rest_between)) ⊎ (¬ (IsEmptyLines rest) × (k ≡ rest_cut []))
Behind rest (head_whole m after) k = BehindWhole m after (framing_of m) k

whole_unique : (m : Message) (after : List ℕ) (r : Result Framing HeadFault) (j k : RestKind) → BehindWhole m after r j → BehindWhole m after r k → j ≡ k
whole_unique m after (Err r) j k x y = x ∙ sym y
whole_unique m after (Ok f) j k (a, x, p) (b, y, q) = p ∙ ap (rest_of m) (body_kind_unique f after a b x y) ∙ sym q

behind_unique : (rest : List ℕ) (h : HeadKind) (j k : RestKind) → Behind rest h j → Behind rest h k → j ≡ k
behind_unique rest head_never j k x y = x ∙ sym y
behind_unique rest head_large j k x y = x ∙ sym y
behind_unique rest head_many j k x y = x ∙ sym y
behind_unique rest head_open j k (inl (a, x)) (inl (b, y)) = x ∙ sym y
behind_unique rest head_open j k (inl (a, x)) (inr (b, y)) = absurd (b a)
behind_unique rest head_open j k (inr (a, x)) (inl (b, y)) = absurd (a b)
behind_unique rest head_open j k (inr (a, x)) (inr (b, y)) = x ∙ sym y
behind_unique rest (head_whole m after) j k x y = whole_unique m after (framing_of m) j k x y

record View (rest : List ℕ) (k : RestKind) : Type 0 where
  pub head : HeadKind
  pub is : IsHeadKind rest head
  pub behind : Behind rest head k

view_unique : (rest : List ℕ) (j k : RestKind) → View rest j → View rest k → j ≡ k
view_unique rest j k x y =
    behind_unique rest y.head j k (subst (λ (h : HeadKind). Behind rest h j) (head_kind_unique rest x.head y.head x.is y.is) x.behind) y.behind

whole_view : (rest : List ℕ) (m : Message) (after : List ℕ) (r : Result Framing HeadFault) (k : RestKind) → ReadsWholeHead rest m after → framing_of m ≡ r
    → BehindWhole m after r k → View rest k
whole_view rest m after r k h e x = record { head = head_whole m after; is = h; behind = subst (λ (v : Result Framing HeadFault). BehindWhole m after v k) (sym e) x }

refused_same : (why : RefusedRest) (a b : List ℕ) (c d : Bool) → a ≡ b → c ≡ d → rest_refused why a c ≡ rest_refused why b d
refused_same why a b c d p q = λ i. rest_refused why (p i) (q i)

view_of : (rest : List ℕ) (k : RestKind) → IsRest rest k → View rest k
view_of rest rest_between (short, (ends, e)) = record { head = head_open; is = (short, subst IsOpen (sym e) (open_of_blank ends)); behind = inl ((ends, e), refl) }
view_of rest (rest_cut early) (inl (short, o, n, e)) = record { head = head_open; is = (short, o); behind = inr (n, ap rest_cut e) }
view_of rest (rest_cut early) (inr (m, after, f, h, c, e)) = whole_view rest m after (Ok f) (rest_cut early) h.head h.framed (body_cut, c, ap rest_cut e)
view_of rest (rest_refused Hopeless early only) (x, p, q) = record { head = head_never; is = x; behind = refused_same Hopeless early [] only false p q }
view_of rest (rest_refused TooLarge early only) (n, x, p, q) = record { head = head_large; is = (n, x); behind = refused_same TooLarge early [] only false p q }
view_of rest (rest_refused TooMany early only) (h, after, x, fits, n, p, q) =
    record { head = head_many; is = (h, after, x, fits, n); behind = refused_same TooMany early [] only false p q }
view_of rest (rest_refused (Head r) early only) (m, after, h, e, p, q) =
    whole_view rest m after (Err r) (rest_refused (Head r) early only) h e (refused_same (Head r) early [] only (is_head m) p q)
view_of rest (rest_refused BadChunk early only) (m, after, h, (place, x), p, q) =
    whole_view rest m after (Ok Chunked) (rest_refused BadChunk early only) h.head h.framed
    (body_bad place, (refl, x), refused_same BadChunk early (interim_of m) only (is_head m) p q)
view_of rest (rest_refused LargeBody early only) (m, after, h, x, p, q) =
    whole_view rest m after (Ok Chunked) (rest_refused LargeBody early only) h.head h.framed
    (body_large, (refl, x), refused_same LargeBody early (interim_of m) only (is_head m) p q)
view_of rest (rest_message m after) x =
    whole_view rest x.bare x.middle (Ok x.framed) (rest_message m after) x.head x.framing
    (body_good m.body after, x.content, ap (λ (n : Message). rest_message n after) x.same)

-- a rest is one of the four
pub rest_unique : (rest : List ℕ) (j k : RestKind) → IsRest rest j → IsRest rest k → j ≡ k
rest_unique rest j k x y = view_unique rest j k (view_of rest j x) (view_of rest k y)

-- ---- no message begins a rest of the other kinds

abbrev IsNoMessage : RestKind → Type 0
IsNoMessage rest_between = Unit {0}
IsNoMessage (rest_cut early) = Unit {0}
IsNoMessage (rest_refused why early only) = Unit {0}
IsNoMessage (rest_message m after) = ⊥

none_of : (rest : List ℕ) (k : RestKind) → IsNoMessage k → IsRest rest k → HasNoMessage rest
none_of rest k other x m after y = subst IsNoMessage (rest_unique rest k (rest_message m after) x y) other

pub between_none : (rest : List ℕ) → IsBetweenMessages rest → HasNoMessage rest
between_none rest x = none_of rest rest_between tt x

pub cut_none : (rest early : List ℕ) → IsCut rest early → HasNoMessage rest
cut_none rest early x = none_of rest (rest_cut early) tt x

pub refused_none : (rest : List ℕ) (why : RefusedRest) (early : List ℕ) (only : Bool) → IsRefused rest why early only → HasNoMessage rest
refused_none rest why early only x = none_of rest (rest_refused why early only) tt x
