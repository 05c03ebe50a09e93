-- Both rules of hopeless bytes agree: that of httparse's heads and a target so far, and that no bytes make them a head.
use Rattle.std.proofs.Common.{◌≡◌, ℕ, ◌<◌, Bool, true, false, not, ◌&&◌, ◌||◌, cond, List, [], ◌∷◌, ◌++◌, length, drop, refl, sym, ap, subst, ◌∙◌, arith, append_assoc, append-nil, eqb, ◌⊎◌, inl, inr}
use Rattle.std.specs.List.{list_all}
use Rattle.std.proofs.lemmas.Bool.{and_parts, and_from, false≢true, eqb-true}
use Rattle.std.proofs.lemmas.Bool.Decides.{nat_tests}
use Rattle.std.proofs.lemmas.List.Sums.{AllPass-from_list_all, list_all-from_AllPass}
use Rattle.std.proofs.lemmas.List.Folds.{list_all-append}
use Rattle.httparse.specs.Grammar.{AllPass, is_token_byte, is_uri_byte, IsToken, LineEnd, crlf, lf, print_blank, print_end, print_version, print_section, RequestHead, print_request, ReadsRequest}
use Rattle.httparse.specs.Pieces.{is_newline, Stops}
use Rattle.httparse.proofs.PieceLemmas.{token_is_no_newline, space_ends_token, Blank_deterministic}
use Rattle.httparse.proofs.GrammarLemmas.{print_request-append}
use Rattle.http_model.specs.Heads.{is_visible, HasNoHead, NeverHasHead, MayBecomeHead}
use Rattle.http_model.specs.Targets.{visible_to_space, has_visible_target}
use Rattle.http_model.specs.Hopeless.{is_plain, after_lines, plain_front, behind_plain, before_space, target_at, target_so_far, is_empty, ends_at, ends_in_target, start_of, BeginsNoRequest, IsHopeless, RuleAgrees}
use Rattle.http_model.proofs.Targets.{target_front, target_behind, visible_passes, visible_front}
use Rattle.http_model.proofs.Heads.{splits, may_behind, may_of_partial}

-- ---- bytes

abbrev no_space : ℕ → Bool
no_space b = not (eqb b 32)

false_of_not : (t : Bool) → not t ≡ true → t ≡ false
false_of_not true h = absurd (false≢true h)
false_of_not false h = refl

false_or_true : (t : Bool) → (t ≡ true) ⊎ (t ≡ false)
false_or_true true = inl refl
false_or_true false = inr refl

plain_no_space : (b : ℕ) → is_plain b ≡ true → no_space b ≡ true
plain_no_space b h = (and_parts (not (eqb b 32)) _ h).0

plain_no_newline : (b : ℕ) → is_plain b ≡ true → is_newline b ≡ false
plain_no_newline b h = false_of_not _ (and_parts (not (eqb b 32)) _ h).1

uri_plain : (b : ℕ) → is_uri_byte b ≡ true → is_plain b ≡ true
uri_plain b h = grind (arith, nat_tests)

visible_plain : (b : ℕ) → is_visible b ≡ true → is_plain b ≡ true
visible_plain b h = grind (arith, nat_tests)

token_no_space : (t : Bool) (b : ℕ) → eqb b 32 ≡ t → is_token_byte b ≡ true → not t ≡ true
token_no_space true b is token = absurd (false≢true (sym space_ends_token ∙ ap is_token_byte (sym (eqb-true b 32 is)) ∙ token))
token_no_space false b is token = refl

token_plain : (b : ℕ) → is_token_byte b ≡ true → is_plain b ≡ true
token_plain b h = and_from _ _ (token_no_space (eqb b 32) b refl h) (ap not (token_is_no_newline b h))

-- ---- lists whose bytes pass

weaker : (p q : ℕ → Bool) → ((b : ℕ) → p b ≡ true → q b ≡ true) → (l : List ℕ) → list_all p l ≡ true → list_all q l ≡ true
weaker p q f [] h = refl
weaker p q f (b ∷ l) h = let both = and_parts (p b) (list_all p l) h in and_from _ _ (f b both.0) (weaker p q f l both.1)

pub in_front : (p : ℕ → Bool) (a b : List ℕ) → list_all p (a ++ b) ≡ true → list_all p a ≡ true
in_front p a b h = (and_parts _ (list_all p b) (sym (list_all-append p a b) ∙ h)).0

pub at_end : (p : ℕ → Bool) (a b : List ℕ) → list_all p (a ++ b) ≡ true → list_all p b ≡ true
at_end p a b h = (and_parts (list_all p a) _ (sym (list_all-append p a b) ∙ h)).1

both_parts : (p : ℕ → Bool) (a b : List ℕ) → list_all p a ≡ true → list_all p b ≡ true → list_all p (a ++ b) ≡ true
both_parts p a b h k = list_all-append p a b ∙ and_from _ _ h k

blank_no_space : (ends : List LineEnd) → list_all no_space (print_blank ends) ≡ true
blank_no_space [] = refl
blank_no_space (crlf ∷ ends) = blank_no_space ends
blank_no_space (lf ∷ ends) = blank_no_space ends

-- ---- empty lines

lines_split : (p : List ℕ) → (ends : List LineEnd) × (p ≡ print_blank ends ++ after_lines p)
lines_split [] = ([], refl)
lines_split (b ∷ []) = one (eqb b 10) refl
  where
    one : (t : Bool) → eqb b 10 ≡ t → (ends : List LineEnd) × (b ∷ [] ≡ print_blank ends ++ cond t [] (b ∷ []))
    one true is = (lf ∷ [], ap (λ (v : ℕ). v ∷ []) (eqb-true b 10 is))
    one false is = ([], refl)
lines_split (b ∷ c ∷ q) = two (eqb b 10) refl (eqb b 13 && eqb c 10) refl (lines_split (c ∷ q)) (lines_split q)
  where
    two : (t : Bool) → eqb b 10 ≡ t → (u : Bool) → (eqb b 13 && eqb c 10) ≡ u → (ends : List LineEnd) × (c ∷ q ≡ print_blank ends ++ after_lines (c ∷ q))
        → (ends : List LineEnd) × (q ≡ print_blank ends ++ after_lines q)
        → (ends : List LineEnd) × (b ∷ c ∷ q ≡ print_blank ends ++ cond t (after_lines (c ∷ q)) (cond u (after_lines q) (b ∷ c ∷ q)))
    two true is u us (ends, e) more = (lf ∷ ends, ap (λ (v : ℕ). v ∷ c ∷ q) (eqb-true b 10 is) ∙ ap (λ (l : List ℕ). 10 ∷ l) e)
    two false is true us more (ends, e) =
        let both = and_parts (eqb b 13) (eqb c 10) us in
        (crlf ∷ ends, ap (λ (v : ℕ). v ∷ c ∷ q) (eqb-true b 13 both.0) ∙ ap (λ (v : ℕ). 13 ∷ v ∷ q) (eqb-true c 10 both.1) ∙ ap (λ (l : List ℕ). 13 ∷ 10 ∷ l) e)
    two false is false us more other = ([], refl)

after_lf : (x : List ℕ) → after_lines (10 ∷ x) ≡ after_lines x
after_lf [] = refl
after_lf (b ∷ x) = refl

after_plain : (w : ℕ) (x : List ℕ) → is_newline w ≡ false → after_lines (w ∷ x) ≡ w ∷ x
after_plain w x h = kept x (eqb w 13) (eqb w 10) refl refl h
  where
    kept : (x : List ℕ) (s t : Bool) → eqb w 13 ≡ s → eqb w 10 ≡ t → (s || t) ≡ false → after_lines (w ∷ x) ≡ w ∷ x
    kept x true t e f g = absurd (false≢true (sym g))
    kept x false true e f g = absurd (false≢true (sym g))
    kept [] false false e f g = ap (λ (v : Bool). cond v [] (w ∷ [])) f
    kept (c ∷ y) false false e f g =
        ap (λ (v : Bool). cond v (after_lines (c ∷ y)) (cond (eqb w 13 && eqb c 10) (after_lines y) (w ∷ c ∷ y))) f
        ∙ ap (λ (v : Bool). cond (v && eqb c 10) (after_lines y) (w ∷ c ∷ y)) e

after_blank : (ends : List LineEnd) (w : ℕ) (x : List ℕ) → is_newline w ≡ false → after_lines (print_blank ends ++ w ∷ x) ≡ w ∷ x
after_blank [] w x h = after_plain w x h
after_blank (crlf ∷ ends) w x h = after_blank ends w x h
after_blank (lf ∷ ends) w x h = after_lf (print_blank ends ++ w ∷ x) ∙ after_blank ends w x h

-- ---- words

word_split : (q : List ℕ) → q ≡ plain_front q ++ behind_plain q
word_split [] = refl
word_split (b ∷ q) = step (is_plain b) (word_split q)
  where
    step : (t : Bool) → q ≡ plain_front q ++ behind_plain q → b ∷ q ≡ cond t (b ∷ plain_front q) [] ++ cond t (behind_plain q) (b ∷ q)
    step true e = ap (λ (l : List ℕ). b ∷ l) e
    step false e = refl

front_plain : (q : List ℕ) → list_all is_plain (plain_front q) ≡ true
front_plain [] = refl
front_plain (b ∷ q) = step (is_plain b) refl (front_plain q)
  where
    step : (t : Bool) → is_plain b ≡ t → list_all is_plain (plain_front q) ≡ true → list_all is_plain (cond t (b ∷ plain_front q) []) ≡ true
    step true is h = and_from _ _ is h
    step false is h = refl

plain_word : (w c : List ℕ) → list_all is_plain w ≡ true → (plain_front (w ++ 32 ∷ c) ≡ w) × (behind_plain (w ++ 32 ∷ c) ≡ 32 ∷ c)
plain_word [] c h = (refl, refl)
plain_word (b ∷ w) c h =
    let both = and_parts (is_plain b) (list_all is_plain w) h in
    let more = plain_word w c both.1 in (
      ap (λ (v : Bool). cond v (b ∷ plain_front (w ++ 32 ∷ c)) []) both.0 ∙ ap (λ (l : List ℕ). b ∷ l) more.0,
      ap (λ (v : Bool). cond v (behind_plain (w ++ 32 ∷ c)) (b ∷ w ++ 32 ∷ c)) both.0 ∙ more.1,
    )

plain_whole : (w : List ℕ) → list_all is_plain w ≡ true → plain_front w ≡ w
plain_whole [] h = refl
plain_whole (b ∷ w) h =
    let both = and_parts (is_plain b) (list_all is_plain w) h in
    ap (λ (v : Bool). cond v (b ∷ plain_front w) []) both.0 ∙ ap (λ (l : List ℕ). b ∷ l) (plain_whole w both.1)

before_word : (a c : List ℕ) → list_all no_space a ≡ true → before_space (a ++ 32 ∷ c) ≡ a
before_word [] c h = refl
before_word (b ∷ a) c h =
    let both = and_parts (no_space b) (list_all no_space a) h in
    ap (λ (v : Bool). cond v [] (b ∷ before_space (a ++ 32 ∷ c))) (false_of_not (eqb b 32) both.0) ∙ ap (λ (l : List ℕ). b ∷ l) (before_word a c both.1)

before_split : (p : List ℕ) → (z : List ℕ) × (p ≡ before_space p ++ z)
before_split [] = ([], refl)
before_split (b ∷ p) = step (eqb b 32) (before_split p)
  where
    step : (t : Bool) → (z : List ℕ) × (p ≡ before_space p ++ z) → (z : List ℕ) × (b ∷ p ≡ cond t [] (b ∷ before_space p) ++ z)
    step true more = (b ∷ p, refl)
    step false (z, e) = (z, ap (λ (l : List ℕ). b ∷ l) e)

start_split : (p : List ℕ) → (z : List ℕ) × (p ≡ start_of p ++ z)
start_split p = step (ends_in_target p)
  where
    step : (t : Bool) → (z : List ℕ) × (p ≡ cond t (before_space p) p ++ z)
    step true = before_split p
    step false = ([], sym (append-nil p))

-- ---- the target so far

far_at : (ends : List LineEnd) (w : List ℕ) (c : List ℕ) → 0 < length w → list_all is_plain w ≡ true
    → target_so_far (print_blank ends ++ (w ++ 32 ∷ c)) ≡ plain_front c
far_at ends [] c some h = absurd (omega (arith, some))
far_at ends (x ∷ w) c some h =
    let word = plain_word (x ∷ w) c h in
    ap (λ (l : List ℕ). target_at (plain_front l) (behind_plain l)) (after_blank ends x (w ++ 32 ∷ c) (plain_no_newline x (and_parts (is_plain x) (list_all is_plain w) h).0))
    ∙ ap (λ (l : List ℕ). target_at l (behind_plain (x ∷ w ++ 32 ∷ c))) word.0
    ∙ ap (λ (l : List ℕ). target_at (x ∷ w) l) word.1

no_target : (w r : List ℕ) → list_all no_space r ≡ true → target_at w r ≡ []
no_target [] r h = refl
no_target (x ∷ w) [] h = refl
no_target (x ∷ w) (b ∷ r) h = ap (λ (v : Bool). cond v (plain_front r) []) (false_of_not (eqb b 32) (and_parts (no_space b) (list_all no_space r) h).0)

far_none : (p : List ℕ) → list_all no_space p ≡ true → target_so_far p ≡ []
far_none p h = at (lines_split p)
  where
    at : (ends : List LineEnd) × (p ≡ print_blank ends ++ after_lines p) → target_so_far p ≡ []
    at (ends, e) =
        let rest : list_all no_space (after_lines p) ≡ true = at_end no_space (print_blank ends) (after_lines p) (ap (list_all no_space) (sym e) ∙ h) in
        no_target (plain_front (after_lines p)) (behind_plain (after_lines p))
        (at_end no_space (plain_front (after_lines p)) (behind_plain (after_lines p)) (ap (list_all no_space) (sym (word_split (after_lines p))) ∙ rest))

-- ---- a part of a head of httparse's grammar

abbrev behind_target : RequestHead → List ℕ
behind_target h = 32 ∷ (print_version h.minor ++ (print_end h.line_end ++ (print_section h.fields h.last ++ [])))

-- p stands before the first space of the head, or ends in its target, or goes on behind it
pub data Part (p : List ℕ) (h : RequestHead) : Type 0 where
  before : (z : List ℕ) → p ++ z ≡ print_blank h.blank ++ h.method → Part p h
  inside : (c z : List ℕ) → p ≡ print_blank h.blank ++ (h.method ++ 32 ∷ c) → h.target ≡ c ++ z → Part p h
  behind : (z : List ℕ) → p ≡ print_blank h.blank ++ (h.method ++ 32 ∷ (h.target ++ 32 ∷ z)) → Part p h

part_of : (p more : List ℕ) (h : RequestHead) → ReadsRequest (p ++ more) h [] → Part p h
part_of p more h x = first (splits p more pre (32 ∷ (h.target ++ behind_target h)) whole)
  where
    pre : List ℕ
    pre = print_blank h.blank ++ h.method

    whole : p ++ more ≡ pre ++ 32 ∷ (h.target ++ behind_target h)
    whole = x.1 ∙ print_request-append h [] ∙ sym (append_assoc (print_blank h.blank) h.method (32 ∷ (h.target ++ behind_target h)))

    second : (v : ℕ) (c : List ℕ) → 32 ≡ v → p ≡ pre ++ v ∷ c
        → ((z : List ℕ) × (h.target ≡ c ++ z) × (more ≡ z ++ behind_target h)) ⊎ ((z : List ℕ) × (c ≡ h.target ++ z) × (behind_target h ≡ z ++ more)) → Part p h
    second v c is e (inl (z, t, m)) =
        inside c z (e ∙ ap (λ (w : ℕ). pre ++ w ∷ c) (sym is) ∙ append_assoc (print_blank h.blank) h.method (32 ∷ c)) t
    second v c is e (inr ([], t, m)) =
        inside c [] (e ∙ ap (λ (w : ℕ). pre ++ w ∷ c) (sym is) ∙ append_assoc (print_blank h.blank) h.method (32 ∷ c)) (sym (append-nil h.target) ∙ sym t ∙ sym (append-nil c))
    second v c is e (inr (u ∷ z, t, m)) =
        behind z (e ∙ ap (λ (w : ℕ). pre ++ w ∷ c) (sym is) ∙ append_assoc (print_blank h.blank) h.method (32 ∷ c)
        ∙ ap (λ (l : List ℕ). print_blank h.blank ++ (h.method ++ 32 ∷ l)) (t ∙ ap (λ (w : ℕ). h.target ++ w ∷ z) (sym (head m))))
      where
        head : behind_target h ≡ u ∷ z ++ more → 32 ≡ u
        head k = cc

    first : ((z : List ℕ) × (pre ≡ p ++ z) × (more ≡ z ++ 32 ∷ (h.target ++ behind_target h)))
        ⊎ ((z : List ℕ) × (p ≡ pre ++ z) × (32 ∷ (h.target ++ behind_target h) ≡ z ++ more)) → Part p h
    first (inl (z, e, m)) = before z (sym e)
    first (inr ([], e, m)) = before [] (append-nil p ∙ e ∙ append-nil pre)
    first (inr (v ∷ c, e, m)) = second v c (head m) e (splits c more h.target (behind_target h) (sym (ap (drop 1) m)))
      where
        head : 32 ∷ (h.target ++ behind_target h) ≡ v ∷ c ++ more → 32 ≡ v
        head k = cc

-- where the bytes are a part, there is a target so far of that text, or none
token_word : (h : RequestHead) → IsToken h.method → list_all is_plain h.method ≡ true
token_word h token = weaker is_token_byte is_plain token_plain h.method (list_all-from_AllPass is_token_byte h.method token.1)

pre_no_space : (h : RequestHead) → IsToken h.method → list_all no_space (print_blank h.blank ++ h.method) ≡ true
pre_no_space h token = both_parts no_space (print_blank h.blank) h.method (blank_no_space h.blank) (weaker is_plain no_space plain_no_space h.method (token_word h token))

-- ---- hopeless by the rule: no head, whatever follows

-- a part of a head with a visible target
shown : (p : List ℕ) (h : RequestHead) → IsToken h.method → list_all is_visible h.target ≡ true → Part p h → list_all is_visible (target_so_far p) ≡ true
shown p h token visible (before z e) =
    ap (list_all is_visible) (far_none p (in_front no_space p z (ap (list_all no_space) e ∙ pre_no_space h token)))
shown p h token visible (inside c z e t) =
    let seen : list_all is_visible c ≡ true = in_front is_visible c z (ap (list_all is_visible) (sym t) ∙ visible) in
    ap (λ (l : List ℕ). list_all is_visible (target_so_far l)) e
    ∙ ap (list_all is_visible) (far_at h.blank h.method c token.0 (token_word h token) ∙ plain_whole c (weaker is_visible is_plain visible_plain c seen))
    ∙ seen
shown p h token visible (behind z e) =
    ap (λ (l : List ℕ). list_all is_visible (target_so_far l)) e
    ∙ ap (list_all is_visible) (far_at h.blank h.method (h.target ++ 32 ∷ z) token.0 (token_word h token)
    ∙ (plain_word h.target z (weaker is_visible is_plain visible_plain h.target visible)).0)
    ∙ visible

pub never_of_rule : (p : List ℕ) → HasNoHead p → IsHopeless p → NeverHasHead p
never_of_rule p none Hopeless more h rest x = at (splits p more (print_request h) rest x.reads.1)
  where
    within : (z : List ℕ) → print_request h ≡ p ++ z → IsHopeless p → ⊥
    within z e (inl hidden) =
        false≢true (sym hidden ∙ shown p h x.reads.0.method (list_all-from_AllPass is_visible h.target x.target)
        (part_of p z h (x.reads.0, sym e ∙ sym (append-nil (print_request h)))))
    within z e (inr begins) = start (start_split p)
      where
        start : (y : List ℕ) × (p ≡ start_of p ++ y) → ⊥
        start (y, s) =
            begins (y ++ z) h
            (x.reads.0, sym (append_assoc (start_of p) y z) ∙ ap (λ (l : List ℕ). l ++ z) (sym s) ∙ sym e ∙ sym (append-nil (print_request h)))

    at : ((z : List ℕ) × (print_request h ≡ p ++ z) × (more ≡ z ++ rest)) ⊎ ((z : List ℕ) × (p ≡ print_request h ++ z) × (rest ≡ z ++ more)) → ⊥
    at (inl (z, e, m)) = within z e Hopeless
    at (inr (z, e, m)) = none h z (record { reads = (x.reads.0, e); target = x.target })

-- ---- no head, whatever follows: hopeless by the rule

visible_whole : (c : List ℕ) → list_all is_visible c ≡ true → visible_to_space c ≡ true
visible_whole c h = visible_front c (32 ∷ []) (visible_passes c [] (AllPass-from_list_all is_visible c h))

-- a part of a head of httparse's grammar, where the target so far is visible
passes : (p : List ℕ) (h : RequestHead) → IsToken h.method → AllPass is_uri_byte h.target → Part p h → list_all is_visible (target_so_far p) ≡ true
    → has_visible_target p ≡ true
passes p h token uri (before z e) visible =
    target_front p (z ++ 32 ∷ [])
    (ap has_visible_target (sym (append_assoc p z (32 ∷ [])) ∙ ap (λ (l : List ℕ). l ++ 32 ∷ []) e ∙ append_assoc (print_blank h.blank) h.method (32 ∷ []))
    ∙ target_behind h.blank h.method [] token)
passes p h token uri (inside c z e t) visible =
    let plain : list_all is_plain c ≡ true = weaker is_uri_byte is_plain uri_plain c (in_front is_uri_byte c z (ap (list_all is_uri_byte) (sym t) ∙ list_all-from_AllPass is_uri_byte h.target uri)) in
    let far : target_so_far p ≡ c = ap target_so_far e ∙ far_at h.blank h.method c token.0 (token_word h token) ∙ plain_whole c plain in
    ap has_visible_target e ∙ target_behind h.blank h.method c token ∙ visible_whole c (ap (list_all is_visible) (sym far) ∙ visible)
passes p h token uri (behind z e) visible =
    let plain : list_all is_plain h.target ≡ true = weaker is_uri_byte is_plain uri_plain h.target (list_all-from_AllPass is_uri_byte h.target uri) in
    let far : target_so_far p ≡ h.target = ap target_so_far e ∙ far_at h.blank h.method (h.target ++ 32 ∷ z) token.0 (token_word h token) ∙ (plain_word h.target z plain).0 in
    ap has_visible_target e ∙ target_behind h.blank h.method (h.target ++ 32 ∷ z) token
    ∙ visible_passes h.target z (AllPass-from_list_all is_visible h.target (ap (list_all is_visible) (sym far) ∙ visible))

not_may : (p : List ℕ) → NeverHasHead p → MayBecomeHead p → ⊥
not_may p never may = never may.more may.head [] may.reads

-- bytes that end within a target
pub record WithinTarget (p : List ℕ) : Type 0 where
  pub ends : List LineEnd
  pub first : ℕ
  pub word : List ℕ
  pub target : List ℕ
  pub plain : list_all is_plain (first ∷ word) ≡ true
  pub text : p ≡ print_blank ends ++ (first ∷ word ++ 32 ∷ target)
  pub target_plain : list_all is_plain target ≡ true

within_of : (p : List ℕ) → ends_in_target p ≡ true → WithinTarget p
within_of p h = at (lines_split p) (plain_front q) (behind_plain q) (word_split q) (front_plain q) h
  where
    q : List ℕ
    q = after_lines p

    at : (ends : List LineEnd) × (p ≡ print_blank ends ++ q) → (w r : List ℕ) → q ≡ w ++ r → list_all is_plain w ≡ true → ends_at w r ≡ true → WithinTarget p
    at lines [] r e plain ended = absurd (false≢true ended)
    at lines (x ∷ w) [] e plain ended = absurd (false≢true ended)
    at (ends, l) (x ∷ w) (b ∷ t) e plain ended = record {
      ends = ends;
      first = x;
      word = w;
      target = t;
      plain = plain;
      text = l ∙ ap (λ (k : List ℕ). print_blank ends ++ k) (e ∙ ap (λ (v : ℕ). x ∷ w ++ v ∷ t) (eqb-true b 32 (and_parts (eqb b 32) (is_empty (behind_plain t)) ended).0));
      target_plain = ap (list_all is_plain) (whole (behind_plain t) (word_split t) (and_parts (eqb b 32) (is_empty (behind_plain t)) ended).1) ∙ front_plain t;
    }
      where
        whole : (z : List ℕ) → t ≡ plain_front t ++ z → is_empty z ≡ true → t ≡ plain_front t
        whole [] k g = k ∙ append-nil (plain_front t)
        whole (y ∷ z) k g = absurd (false≢true g)

-- a word that begins a head is a token
token_of : (ends : List LineEnd) (x : ℕ) (w more : List ℕ) (h : RequestHead) → list_all is_plain (x ∷ w) ≡ true
    → ReadsRequest ((print_blank ends ++ x ∷ w) ++ more) h [] → AllPass is_token_byte (x ∷ w)
token_of ends x w more h plain r = at (splits (x ∷ w) more h.method (32 ∷ (h.target ++ behind_target h)) aligned)
  where
    stops : (m t : List ℕ) → IsToken m → Stops is_newline (m ++ t)
    stops [] t k = absurd (omega (arith, k.0))
    stops (b ∷ m) t k = token_is_no_newline b (and_parts (is_token_byte b) (list_all is_token_byte m) (list_all-from_AllPass is_token_byte (b ∷ m) k.1)).0

    aligned : (x ∷ w) ++ more ≡ h.method ++ 32 ∷ (h.target ++ behind_target h)
    aligned =
        (Blank_deterministic.unique ends h.blank _ ((x ∷ w) ++ more) (h.method ++ 32 ∷ (h.target ++ behind_target h))
        (append_assoc (print_blank ends) (x ∷ w) more, plain_no_newline x (and_parts (is_plain x) (list_all is_plain w) plain).0)
        (r.1 ∙ print_request-append h [], stops h.method _ r.0.method)).1

    token : list_all is_token_byte h.method ≡ true
    token = list_all-from_AllPass is_token_byte h.method r.0.method.1

    at : ((z : List ℕ) × (h.method ≡ (x ∷ w) ++ z) × (more ≡ z ++ 32 ∷ (h.target ++ behind_target h)))
        ⊎ ((z : List ℕ) × (x ∷ w ≡ h.method ++ z) × (32 ∷ (h.target ++ behind_target h) ≡ z ++ more)) → AllPass is_token_byte (x ∷ w)
    at (inl (z, e, m)) = AllPass-from_list_all is_token_byte (x ∷ w) (in_front is_token_byte (x ∷ w) z (ap (list_all is_token_byte) (sym e) ∙ token))
    at (inr ([], e, m)) = AllPass-from_list_all is_token_byte (x ∷ w) (ap (list_all is_token_byte) (e ∙ append-nil h.method) ∙ token)
    at (inr (v ∷ z, e, m)) =
        absurd (false≢true ((and_parts (is_plain 32) (list_all is_plain z)
        (at_end is_plain h.method (32 ∷ z) (ap (list_all is_plain) (ap (λ (u : ℕ). h.method ++ u ∷ z) (head m) ∙ sym e) ∙ plain))).0))
      where
        head : 32 ∷ (h.target ++ behind_target h) ≡ v ∷ z ++ more → 32 ≡ v
        head k = cc

may_within : (p : List ℕ) (more : List ℕ) (h : RequestHead) (s : WithinTarget p) → list_all is_visible (target_so_far p) ≡ true
    → ReadsRequest (before_space p ++ more) h [] → MayBecomeHead p
may_within p more h s visible r =
    may_behind p [] s.ends (s.first ∷ s.word) s.target (omega arith, token_of s.ends s.first s.word more h s.plain (subst (λ (l : List ℕ). ReadsRequest (l ++ more) h []) start r))
    (AllPass-from_list_all is_visible s.target (ap (list_all is_visible) (sym far) ∙ visible))
    (append-nil p ∙ s.text)
  where
    start : before_space p ≡ print_blank s.ends ++ s.first ∷ s.word
    start =
        ap before_space (s.text ∙ sym (append_assoc (print_blank s.ends) (s.first ∷ s.word) (32 ∷ s.target)))
        ∙ before_word (print_blank s.ends ++ s.first ∷ s.word) s.target
        (both_parts no_space (print_blank s.ends) (s.first ∷ s.word) (blank_no_space s.ends) (weaker is_plain no_space plain_no_space (s.first ∷ s.word) s.plain))

    far : target_so_far p ≡ s.target
    far = ap target_so_far s.text ∙ far_at s.ends (s.first ∷ s.word) s.target (omega arith) s.plain ∙ plain_whole s.target s.target_plain

pub rule_of_never : (p : List ℕ) → NeverHasHead p → IsHopeless p
rule_of_never p never = at (false_or_true (list_all is_visible (target_so_far p)))
  where
    none : list_all is_visible (target_so_far p) ≡ true → (t : Bool) → ends_in_target p ≡ t → BeginsNoRequest (cond t (before_space p) p)
    none visible true is more h r = not_may p never (may_within p more h (within_of p is) visible r)
    none visible false is more h r =
        not_may p never (may_of_partial p (inl (more, h, r)) (passes p h r.0.method r.0.target.1 (part_of p more h r) visible))

    at : (list_all is_visible (target_so_far p) ≡ true) ⊎ (list_all is_visible (target_so_far p) ≡ false) → IsHopeless p
    at (inl visible) = inr (none visible (ends_in_target p) refl)
    at (inr hidden) = inl hidden

pub rule_agrees : (p : List ℕ) → RuleAgrees p
rule_agrees p none = (never_of_rule p none, rule_of_never p)
