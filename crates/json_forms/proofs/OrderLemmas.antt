-- Members in byte order: what `put` keeps, and in which order it may come.
use Rattle.std.proofs.Common.{◌≡◌, ◌≢◌, ℕ, List, Ordering, Less, Equal, Greater, nat_cmp, refl, sym, ap, ◌∙◌}
use Rattle.std.proofs.lemmas.Cmp.{nat_list_cmp_total, tied_itself}
use Rattle.std.proofs.lemmas.Map.Lookups.{exact_bytes}
use Rattle.std.specs.Ordering.{match_ordering, ordering_reverse}
use Rattle.std.specs.Cmp.Lexicographic.{slice_cmp}
use Rattle.serde_json.specs.Data.{Data, Members, no_members, member, put}
use Rattle.json_forms.specs.Order.{IsBefore, AreBehind, AreAscending, IsInByteOrder, MembersAreInByteOrder}

same_text : (xs : List ℕ) → slice_cmp nat_cmp xs xs ≡ Equal
same_text xs = tied_itself nat_list_cmp_total xs

pub behind : (k l : List ℕ) → IsBefore k l → slice_cmp nat_cmp l k ≡ Greater
behind k l before = nat_list_cmp_total.antisymm l k ∙ ap ordering_reverse before

before : (k l : List ℕ) → slice_cmp nat_cmp l k ≡ Greater → IsBefore k l
before k l is = nat_list_cmp_total.antisymm k l ∙ ap ordering_reverse is

of_match_ordering : (P : Members → Type 0) (o : Ordering) (a b c : Members) → (o ≡ Less → P a) → (o ≡ Equal → P b) → (o ≡ Greater → P c) → P (match_ordering o a b c)
of_match_ordering P Less a b c less equal greater = less refl
of_match_ordering P Equal a b c less equal greater = equal refl
of_match_ordering P Greater a b c less equal greater = greater refl

AreBehind-earlier : (k l : List ℕ) (ms : Members) → IsBefore k l → AreBehind l ms → AreBehind k ms
AreBehind-earlier k l no_members first h = tt
AreBehind-earlier k l (member m d ms) first h = (nat_list_cmp_total.trans k l m first h.0, AreBehind-earlier k l ms first h.1)

AreBehind-put : (q k : List ℕ) (d : Data) (ms : Members) → IsBefore q k → AreBehind q ms → AreBehind q (put k d ms)
AreBehind-put q k d no_members first h = (first, tt)
AreBehind-put q k d (member l e ms) first h =
    of_match_ordering (AreBehind q) (slice_cmp nat_cmp k l) (member k d (member l e ms)) (member l d ms) (member l e (put k d ms))
    (λ is. (first, h)) (λ is. h) (λ is. (h.0, AreBehind-put q k d ms first h.1))

-- what `put` gives ascends, where the members ascended before
pub AreAscending-put : (k : List ℕ) (d : Data) (ms : Members) → AreAscending ms → AreAscending (put k d ms)
AreAscending-put k d no_members h = (tt, tt)
AreAscending-put k d (member l e ms) h =
    of_match_ordering AreAscending (slice_cmp nat_cmp k l) (member k d (member l e ms)) (member l d ms) (member l e (put k d ms))
    (λ is. ((is, AreBehind-earlier k l ms is h.0), h))
    (λ is. h)
    (λ is. (AreBehind-put l k d ms (before l k is) h.0, AreAscending-put k d ms h.1))

pub MembersAreInByteOrder-put : (k : List ℕ) (d : Data) (ms : Members) → IsInByteOrder d → MembersAreInByteOrder ms → MembersAreInByteOrder (put k d ms)
MembersAreInByteOrder-put k d no_members one h = (one, tt)
MembersAreInByteOrder-put k d (member l e ms) one h =
    of_match_ordering MembersAreInByteOrder (slice_cmp nat_cmp k l) (member k d (member l e ms)) (member l d ms) (member l e (put k d ms))
    (λ is. (one, h)) (λ is. (one, h.1)) (λ is. (h.0, MembersAreInByteOrder-put k d ms one h.1))

-- ---- a name put twice, and two names in either order

put_twice_at : (o : Ordering) (k l : List ℕ) (d e f : Data) (ms : Members) → slice_cmp nat_cmp k l ≡ o → put k d (put k e ms) ≡ put k d ms
    → put k d (match_ordering o (member k e (member l f ms)) (member l e ms) (member l f (put k e ms))) ≡ match_ordering o (member k d (member l f ms)) (member l d ms) (member l f (put k d ms))
put_twice_at Less k l d e f ms is later = rw same_text
put_twice_at Equal k l d e f ms is later = rw is
put_twice_at Greater k l d e f ms is later = rw is (ap (member l f) later)

pub put_twice : (k : List ℕ) (d e : Data) (ms : Members) → put k d (put k e ms) ≡ put k d ms
put_twice k d e no_members = rw same_text
put_twice k d e (member l f ms) = put_twice_at _ k l d e f ms refl (put_twice k d e ms)

-- a name that is not before m, and one that stands behind it
past : (o : Ordering) (k l m : List ℕ) → slice_cmp nat_cmp k m ≡ o → o ≢ Less → IsBefore k l → slice_cmp nat_cmp l m ≡ Greater
past Less k l m is other kl = absurd (other refl)
past Equal k l m is other kl = behind m l (sym (nat_list_cmp_total.congr k m l is) ∙ kl)
past Greater k l m is other kl = behind m l (nat_list_cmp_total.trans m k l (before m k is) kl)

-- the other name goes in first, at the member m
put_first_at : (p : Ordering) (k l m : List ℕ) (d e f : Data) (ms : Members) → slice_cmp nat_cmp l m ≡ p → IsBefore k l → IsBefore k m
    → put k d (match_ordering p (member l e (member m f ms)) (member m e ms) (member m f (put l e ms))) ≡ member k d (match_ordering p (member l e (member m f ms)) (member m e ms) (member m f (put l e ms)))
put_first_at Less k l m d e f ms is kl km = rw kl
put_first_at Equal k l m d e f ms is kl km = rw km
put_first_at Greater k l m d e f ms is kl km = rw km

put_in_order_at : (o : Ordering) (k l m : List ℕ) (d e f : Data) (ms : Members) → slice_cmp nat_cmp k m ≡ o → IsBefore k l → put k d (put l e ms) ≡ put l e (put k d ms)
    → put k d (put l e (member m f ms)) ≡ put l e (match_ordering o (member k d (member m f ms)) (member m d ms) (member m f (put k d ms)))
put_in_order_at Less k l m d e f ms is kl later = rw (behind k l kl) (put_first_at _ k l m d e f ms refl kl is)
put_in_order_at Equal k l m d e f ms is kl later = let lm : slice_cmp nat_cmp l m ≡ Greater = past Equal k l m is (λ e. cc) kl in simp (lm, is)
put_in_order_at Greater k l m d e f ms is kl later = let lm : slice_cmp nat_cmp l m ≡ Greater = past Greater k l m is (λ e. cc) kl in simp (lm, is) (ap (member m f) later)

put_in_order : (k l : List ℕ) (d e : Data) (ms : Members) → IsBefore k l → put k d (put l e ms) ≡ put l e (put k d ms)
put_in_order k l d e no_members kl = simp (kl, behind k l kl)
put_in_order k l d e (member m f ms) kl = put_in_order_at _ k l m d e f ms refl kl (put_in_order k l d e ms kl)

apart : (o : Ordering) (k l : List ℕ) (d e : Data) (ms : Members) → slice_cmp nat_cmp k l ≡ o → k ≢ l → put k d (put l e ms) ≡ put l e (put k d ms)
apart Less k l d e ms is other = put_in_order k l d e ms is
apart Equal k l d e ms is other = absurd (other (exact_bytes k l is))
apart Greater k l d e ms is other = sym (put_in_order l k e d ms (before l k is))

pub put_in_any_order : (k l : List ℕ) (d e : Data) (ms : Members) → k ≢ l → put k d (put l e ms) ≡ put l e (put k d ms)
put_in_any_order k l d e ms other = apart _ k l d e ms refl other

-- ---- members behind others

abbrev pub joined : Members → Members → Members
joined no_members ns = ns
joined (member k d ms) ns = member k d (joined ms ns)

pub joined-none : (ms : Members) → joined ms no_members ≡ ms
joined-none no_members = refl
joined-none (member k d ms) = ap (member k d) (joined-none ms)

pub joined-one : (done : Members) (k : List ℕ) (d : Data) (ms : Members) → joined (joined done (member k d no_members)) ms ≡ joined done (member k d ms)
joined-one no_members k d ms = refl
joined-one (member l e done) k d ms = ap (member l e) (joined-one done k d ms)

before_middle : (l : List ℕ) (done : Members) (k : List ℕ) (d : Data) (ms : Members) → AreBehind l (joined done (member k d ms)) → IsBefore l k
before_middle l no_members k d ms h = h.0
before_middle l (member m e done) k d ms h = before_middle l done k d ms h.1

-- a name that stands behind those before it goes last
pub put_last : (done : Members) (k : List ℕ) (d : Data) (ms : Members) → AreAscending (joined done (member k d ms)) → put k d done ≡ joined done (member k d no_members)
put_last no_members k d ms h = refl
put_last (member l e done) k d ms h = rw (behind l k (before_middle l done k d ms h.0)) (ap (member l e) (put_last done k d ms h.1))
