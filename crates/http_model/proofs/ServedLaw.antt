-- Where the input decides the end, it and the entries decide what is sent.
use Rattle.std.proofs.Common.{◌≡◌, ℕ, Bool, true, false, List, [], ◌++◌, map, refl, sym, ap, subst, ◌∙◌, ◌⊎◌, inl, inr, append_assoc, append-nil}
use Rattle.http_messages.specs.declared.framings.RefusedRest.{RefusedRest}
use Rattle.http_messages.specs.ReplyText.{reply_text, unavailable_text}
use Rattle.http_model.specs.Rests.{IsBetweenMessages, IsCut, RestKind, rest_between, rest_cut, rest_refused, rest_message}
use Rattle.http_model.specs.Refusals.{refusal_of}
use Rattle.http_model.specs.Requests.{AreRequests}
use Rattle.http_messages.specs.declared.ends.SessionEnd.TheVariants.{ReadFault, NoMemory}
use Rattle.http_model.specs.Exchanges.{Plans, Exchange, Runs, StaysOpen, LastCloses, AreAllAnswered, text_of, entries_of}
use Rattle.http_model.specs.Served.{RefusalText, EndIs, read_at, Served, InputEnd, by_closing, by_cut, by_refusal, end_of, RunsOut}
use Rattle.http_model.proofs.RestsLaw.{rest_unique, between_none, cut_none, refused_none}
use Rattle.http_model.proofs.ExchangesLaw.{open_apart, runs_unique, are_requests}

-- ---- parts of a kind of rest

why_of : RestKind → RefusedRest → RefusedRest
why_of (rest_refused why early only) other = why
why_of rest_between other = other
why_of (rest_cut early) other = other
why_of (rest_message m after) other = other

early_of : RestKind → List ℕ
early_of (rest_refused why early only) = early
early_of rest_between = []
early_of (rest_cut early) = early
early_of (rest_message m after) = []

only_of : RestKind → Bool
only_of (rest_refused why early only) = only
only_of rest_between = false
only_of (rest_cut early) = false
only_of (rest_message m after) = false

refusal_unique : (rest : List ℕ) (s t : ℕ) (a b : List ℕ) → RefusalText rest s a → RefusalText rest t b → (s ≡ t) × (a ≡ b)
unfolding why_of early_of only_of
refusal_unique rest s t a b x y =
    let same = rest_unique rest (rest_refused x.why x.early x.head_only) (rest_refused y.why y.early y.head_only) x.refused y.refused in
    let why : x.why ≡ y.why = ap (λ k. why_of k x.why) same in
    let early : x.early ≡ y.early = ap early_of same in
    let only : x.head_only ≡ y.head_only = ap only_of same in (
      x.status_of ∙ ap (λ w. (refusal_of w).status) why ∙ sym y.status_of,
      x.whole ∙ (λ z. early z ++ reply_text (refusal_of (why z)) (only z) true) ∙ sym y.whole,
    )

cut_unique : (rest a b : List ℕ) → IsCut rest a → IsCut rest b → a ≡ b
unfolding early_of
cut_unique rest a b x y = ap early_of (rest_unique rest (rest_cut a) (rest_cut b) x y)

IsBetweenKind : RestKind → Type 0
IsBetweenKind rest_between = Unit {0}
IsBetweenKind (rest_cut early) = ⊥
IsBetweenKind (rest_refused why early only) = ⊥
IsBetweenKind (rest_message m after) = ⊥

IsCutKind : RestKind → Type 0
IsCutKind (rest_cut early) = Unit {0}
IsCutKind rest_between = ⊥
IsCutKind (rest_refused why early only) = ⊥
IsCutKind (rest_message m after) = ⊥

between_cut : (rest a : List ℕ) → IsBetweenMessages rest → IsCut rest a → ⊥
unfolding IsBetweenKind
between_cut rest a x y = subst IsBetweenKind (rest_unique rest rest_between (rest_cut a) x y) tt

between_refused : (rest : List ℕ) (s : ℕ) (a : List ℕ) → IsBetweenMessages rest → RefusalText rest s a → ⊥
unfolding IsBetweenKind
between_refused rest s a x y = subst IsBetweenKind (rest_unique rest rest_between (rest_refused y.why y.early y.head_only) x y.refused) tt

cut_refused : (rest : List ℕ) (s : ℕ) (a b : List ℕ) → IsCut rest b → RefusalText rest s a → ⊥
unfolding IsCutKind
cut_refused rest s a b x y = subst IsCutKind (rest_unique rest (rest_cut b) (rest_refused y.why y.early y.head_only) x y.refused) tt

-- ---- ends

-- an end that the input decides has all messages, and no further entry
ended : {T E : Type 0} → (plans : Plans T E) (worn : Bool) (xs : List (Exchange E)) (j : ℕ) (rest : List ℕ) (more : List E) (tail : List ℕ) (e : InputEnd)
    → EndIs plans worn xs j rest more tail (end_of e) → AreAllAnswered xs rest × (more ≡ [])
ended plans worn xs j rest more tail by_closing (inl (stays, between), none, empty) = (inl (stays, between_none rest between), none)
ended plans worn xs j rest more tail by_closing (inr last, none, empty) = (inr last, none)
ended plans worn xs j rest more tail by_cut (stays, cut, none) = (inl (stays, cut_none rest tail cut), none)
ended plans worn xs j rest more tail (by_refusal s) (stays, text, none) = (inl (stays, refused_none rest text.why text.early text.head_only text.refused), none)

closing_apart : {E : Type 0} → (xs : List (Exchange E)) (rest : List ℕ) → (StaysOpen xs × IsBetweenMessages rest) ⊎ LastCloses xs → StaysOpen xs → (IsBetweenMessages rest → ⊥) → ⊥
closing_apart xs rest (inl (stays, between)) still none = none between
closing_apart xs rest (inr last) still none = open_apart xs still last

-- behind the same exchanges and before the same rest, one end
end_unique : {T E : Type 0} → (plans : Plans T E) (v w : Bool) (xs : List (Exchange E)) (j k : ℕ) (rest : List ℕ) (x y : List E) (a b : List ℕ) (e f : InputEnd)
    → EndIs plans v xs j rest x a (end_of e) → EndIs plans w xs k rest y b (end_of f) → (a ≡ b) × (e ≡ f)
end_unique plans v w xs j k rest x y a b by_closing by_closing (c, m, p) (d, n, q) = (p ∙ sym q, refl)
end_unique plans v w xs j k rest x y a b by_closing by_cut (c, m, p) (stays, cut, n) = absurd (closing_apart xs rest c stays (λ z. between_cut rest b z cut))
end_unique plans v w xs j k rest x y a b by_closing (by_refusal t) (c, m, p) (stays, text, n) = absurd (closing_apart xs rest c stays (λ z. between_refused rest t b z text))
end_unique plans v w xs j k rest x y a b by_cut by_closing (stays, cut, n) (c, m, p) = absurd (closing_apart xs rest c stays (λ z. between_cut rest a z cut))
end_unique plans v w xs j k rest x y a b by_cut by_cut (stays, cut, n) (still, part, m) = (cut_unique rest a b cut part, refl)
end_unique plans v w xs j k rest x y a b by_cut (by_refusal t) (stays, cut, n) (still, text, m) = absurd (cut_refused rest t b a cut text)
end_unique plans v w xs j k rest x y a b (by_refusal s) by_closing (stays, text, n) (c, m, p) = absurd (closing_apart xs rest c stays (λ z. between_refused rest s a z text))
end_unique plans v w xs j k rest x y a b (by_refusal s) by_cut (stays, text, n) (still, cut, m) = absurd (cut_refused rest s a b cut text)
end_unique plans v w xs j k rest x y a b (by_refusal s) (by_refusal t) (stays, text, n) (still, other, m) =
    let same = refusal_unique rest s t a b text other in (same.1, ap by_refusal same.0)

-- ---- sessions

read_all : (e : InputEnd) (bytes taken : List ℕ) → read_at (end_of e) bytes taken ≡ bytes
read_all by_closing bytes taken = refl
read_all by_cut bytes taken = refl
read_all (by_refusal s) bytes taken = refl

pub served_unique : {T E : Type 0} → (plans : Plans T E) (i : ℕ) (bytes t u : List ℕ) (v w : Bool) (j k : ℕ) (entries : List E) (a b : List ℕ) (e f : InputEnd)
    → Served plans i bytes t v j entries a (end_of e) → Served plans i bytes u w k entries b (end_of f) → (a ≡ b) × (e ≡ f) × (j ≡ k)
served_unique {T} {E} plans i bytes t u v w j k entries a b e f x y =
    let left = ended plans v x.exchanges j x.rest x.more x.tail e x.ends in
    let right = ended plans w y.exchanges k y.rest y.more y.tail f y.ends in
    let runs = runs_unique plans i bytes x.exchanges y.exchanges j k x.rest y.rest x.more y.more
    (subst (λ (l : List ℕ). Runs plans i l x.exchanges j x.rest) (read_all e bytes t) x.runs)
    (subst (λ (l : List ℕ). Runs plans i l y.exchanges k y.rest) (read_all f bytes u) y.runs)
    left.0 right.0 (sym x.joined ∙ y.joined) in
    let ends = end_unique plans v w y.exchanges j k y.rest x.more y.more x.tail y.tail e f
    (subst (λ (r : List ℕ). EndIs plans v y.exchanges j r x.more x.tail (end_of e)) runs.2
    (subst (λ (l : List (Exchange E)). EndIs plans v l j x.rest x.more x.tail (end_of e)) runs.0 x.ends)) y.ends in
    (x.sent ∙ (λ z. text_of (runs.0 z) ++ ends.0 z) ∙ sym y.sent, ends.1, runs.1)

pub served_all : {T E : Type 0} → (plans : Plans T E) (i : ℕ) (bytes taken : List ℕ) (worn : Bool) (j : ℕ) (entries : List E) (out : List ℕ) (e : InputEnd)
    → (s : Served plans i bytes taken worn j entries out (end_of e)) → AreRequests i bytes (map (λ x. x.message) s.exchanges) s.rest
served_all plans i bytes taken worn j entries out e s =
    are_requests plans i bytes s.exchanges j s.rest (subst (λ (l : List ℕ). Runs plans i l s.exchanges j s.rest) (read_all e bytes taken) s.runs)
    (ended plans worn s.exchanges j s.rest s.more s.tail e s.ends).0

-- behind the exchanges of a session whose source failed no message follows
failed_whole : {E : Type 0} → (xs : List (Exchange E)) (rest tail : List ℕ) → StaysOpen xs → (IsBetweenMessages rest × (tail ≡ [])) ⊎ IsCut rest tail → AreAllAnswered xs rest
failed_whole xs rest tail stays (inl (between, e)) = inl (stays, between_none rest between)
failed_whole xs rest tail stays (inr cut) = inl (stays, cut_none rest tail cut)

pub served_failed : {T E : Type 0} → (plans : Plans T E) (i : ℕ) (bytes taken : List ℕ) (worn : Bool) (j : ℕ) (entries : List E) (out : List ℕ)
    → (s : Served plans i bytes taken worn j entries out ReadFault) → AreRequests i taken (map (λ x. x.message) s.exchanges) s.rest
served_failed plans i bytes taken worn j entries out s =
    are_requests plans i taken s.exchanges j s.rest s.runs (failed_whole s.exchanges s.rest s.tail s.ends.0 s.ends.1)

pub served_out : {T E : Type 0} → (plans : Plans T E) (i : ℕ) (taken untaken : List ℕ) (worn : Bool) (j : ℕ) (entries : List E) (out : List ℕ)
    → RunsOut plans i (taken ++ untaken) j entries out → Served plans i (taken ++ untaken) taken worn j entries (out ++ unavailable_text) NoMemory
served_out plans i taken untaken worn j entries out r = record {
  untaken = untaken;
  front = refl;
  exchanges = r.exchanges;
  rest = r.rest;
  more = [];
  tail = r.early ++ unavailable_text;
  runs = r.runs;
  joined = r.joined ∙ sym (append-nil (entries_of r.exchanges));
  sent = ap (λ (l : List ℕ). l ++ unavailable_text) r.sent ∙ append_assoc (text_of r.exchanges) r.early unavailable_text;
  ends = (r.stays, record { early = r.early; is_early = r.is_early; whole = refl }, refl);
}
