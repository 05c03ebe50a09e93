-- What a log says is what its history says: the entry that was dropped last, and the first that wrote what was read.
use Rattle.std.proofs.Common.{◌≡◌, ◌≢◌, ℕ, ◌+◌, ◌-◌, ◌<◌, ◌≤◌, List, [], ◌∷◌, ◌++◌, true, false, length, take, refl, sym, ap, subst, ◌∙◌, Some, None, Option, arith, inl, inr, suc}
use Rattle.std.specs.Prelude.{⊤, ◌⊎◌, ◌==◌, if◌then◌else◌}
use Rattle.std.proofs.lemmas.Grind.{common_steps}
use Rattle.std.proofs.lemmas.Bool.Decides.{nat_tests}
use Rattle.world_cells.specs.declared.keys.CellKey.{CellKey}
use Rattle.world_cells.specs.declared.sets.ReadSet.{ReadSet}
use Rattle.task_forms.specs.declared.tasks.Entry.{Entry}
use Rattle.world_cells.specs.World.{World}
use Rattle.world_cells.specs.Lists.{IsIn}
use Rattle.task_forms.specs.Meaning.{Meaning}
use Rattle.std.specs.List.{AllByRecursion}
use Rattle.history_model.specs.declared.checks.Check.{Check}
use Rattle.history_model.specs.declared.checks.Check.TheVariants as check
use Rattle.task_forms.specs.Meaning.{world_after}
use Rattle.history_model.specs.Histories.{IsLeastAbove, Noted, Writings, Writes, IsNumber, MeetsReads, IsConflict, IsAbove, last_dropped, world_at}
use Rattle.history_model.specs.Standing.{IsSaid, LogSays, Log, Keeps, IsLastOf, Meets, NoneMeets, IsFirstMeeting}

-- ---- the entry that was dropped last

-- fewer than `window` follow each of at most `window`
none_dropped : (window : ℕ) (kept : List Noted) → length kept ≤ window → last_dropped window kept ≡ None
none_dropped window [] h = refl
none_dropped window (x ∷ kept) h =
    let shorter : length kept ≤ window = omega arith in
    elim (length kept == window) as (λ b. (length kept == window) ≡ b → (if b then Some x.number else last_dropped window kept) ≡ None) [
      | true ↦ λ e. let same : length kept ≡ window = grind (arith, nat_tests) in let no : ⊥ = omega arith in absurd no
      | false ↦ λ e. none_dropped window kept shorter
    ] refl

-- exactly `window` follow the one before them
one_dropped : (window : ℕ) (front kept : List Noted) (x : Noted) → length kept ≡ window → last_dropped window ((front ++ x ∷ []) ++ kept) ≡ Some x.number
one_dropped window [] kept x h = elim (length kept == window) as (λ b. (length kept == window) ≡ b → (if b then Some x.number else last_dropped window kept) ≡ Some x.number) [
  | true ↦ λ e. refl
  | false ↦ λ e. let no : ⊥ = grind (arith, nat_tests) in absurd no
] refl
one_dropped window (y ∷ front) kept x h =
    elim (length ((front ++ x ∷ []) ++ kept) == window) as (λ b. (length ((front ++ x ∷ []) ++ kept) == window) ≡ b → (if b then Some y.number else last_dropped window ((front ++ x ∷ []) ++ kept)) ≡ Some x.number) [
      | true ↦ λ e.
          let same : length ((front ++ x ∷ []) ++ kept) ≡ window = grind (arith, nat_tests) in
          let more : length ((front ++ x ∷ []) ++ kept) ≡ length front + 1 + length kept = grind (arith, common_steps) in
          let no : ⊥ = omega arith in absurd no
      | false ↦ λ e. one_dropped window front kept x h
    ] refl

-- the number that a log keeps as dropped is that of the entry that exactly `window` entries follow
pub log_dropped : (log : Log) (noted : List Noted) → Keeps log noted → last_dropped log.window noted ≡ log.dropped
log_dropped log noted keeps = ap (last_dropped log.window) keeps.all ∙ by keeps.old log.dropped keeps.last keeps.full
  where
    by : (old : List Noted) (dropped : Option ℕ) → IsLastOf dropped old → (old ≡ []) ⊎ (length log.kept ≡ log.window) → last_dropped log.window (old ++ log.kept) ≡ dropped
    by old None none full = ap (λ o. last_dropped log.window (o ++ log.kept)) none ∙ none_dropped log.window log.kept keeps.size
    by old (Some n) last (inl none) = let no : length old ≡ length (last.0 ++ last.1 ∷ []) = ap length last.2 in let some : length (last.0 ++ last.1 ∷ []) ≡ length (last.0) + 1 = grind (arith, common_steps) in let zero : length old ≡ 0 = ap length none in let clash : ⊥ = omega arith in absurd clash
    by old (Some n) last (inr full) = ap (λ o. last_dropped log.window (o ++ log.kept)) last.2 ∙ one_dropped log.window (last.0) log.kept (last.1) full ∙ ap Some last.3

-- ---- the writing entries of a history

later_world : (m : Meaning) (first : ℕ) (w : World) (e : Entry) (entries : List Entry) (n : ℕ) → first < n → world_at m first w (e ∷ entries) n ≡ world_at m (first + 1) (m.effect w e.task) entries n
later_world m first w e entries n low = let one : n - first ≡ suc (n - (first + 1)) = omega arith in ap (λ i. world_after m w (take i (e ∷ entries))) one

-- an entry but the first writes what it writes in the history after the first
later_writes : (m : Meaning) (first : ℕ) (w : World) (e : Entry) (entries : List Entry) (n : ℕ) (k : CellKey) → first + 1 < n → Writes m first w (e ∷ entries) n k ≡ Writes m (first + 1) (m.effect w e.task) entries n k
later_writes m first w e entries n k low =
    let a : first < n - 1 = omega arith in
    let b : first < n = omega arith in
    λ i. m.cells (later_world m first w e entries (n - 1) a i) k ≢ m.cells (later_world m first w e entries n b i) k

first_writes : (m : Meaning) (first : ℕ) (w : World) (e : Entry) (entries : List Entry) (n : ℕ) (k : CellKey) → n ≡ first + 1 → Writes m first w (e ∷ entries) n k ≡ (m.cells w k ≢ m.cells (m.effect w e.task) k)
first_writes m first w e entries n k is =
    let a : n - 1 - first ≡ 0 = omega arith in
    let b : n - first ≡ suc 0 = omega arith in
    λ i. m.cells (world_after m w (take (a i) (e ∷ entries))) k ≢ m.cells (world_after m w (take (b i) (e ∷ entries))) k

-- numbers that rise above another
abbrev pub RisesAbove : ℕ → List Noted → Type 0
RisesAbove n [] = ⊤
RisesAbove n (x ∷ noted) = (n < x.number) × RisesAbove x.number noted

rises_from : (n i : ℕ) (noted : List Noted) → n ≤ i → RisesAbove i noted → RisesAbove n noted
rises_from n i [] low h = tt
rises_from n i (x ∷ noted) low h = (let b : i < x.number = h.0 in omega arith, h.1)

pub writings_rise : (m : Meaning) (first : ℕ) (w : World) (entries : List Entry) (noted : List Noted) → Writings m first w entries noted → RisesAbove first noted
writings_rise m first w [] noted is = subst (RisesAbove first) (sym is) tt
writings_rise m first w (e ∷ entries) noted (inl same) = rises_from first (first + 1) noted (omega arith) (writings_rise m (first + 1) (m.effect w e.task) entries noted same.1)
writings_rise m first w (e ∷ entries) noted (inr (keys, rest, is, some, exactly, more)) = subst (RisesAbove first) (sym is) (omega arith, writings_rise m (first + 1) (m.effect w e.task) entries rest more)

abbrev pub IsNotedWrite : List Noted → ℕ → CellKey → Type 0
IsNotedWrite noted n k = (x : Noted) × IsIn noted x × (x.number ≡ n) × IsIn x.keys k

-- what is noted of a history after its first entry, of what that entry wrote or not
module _ (m : Meaning) (first : ℕ) (w : World) (e : Entry) (entries : List Entry) (n : ℕ) (k : CellKey) where
  abbrev Rest : Type 0
  Rest = (noted : List Noted) → Writings m (first + 1) (m.effect w e.task) entries noted → IsNumber (first + 1) entries n → Writes m (first + 1) (m.effect w e.task) entries n k → IsNotedWrite noted n k

  at_first : (noted : List Noted) → n ≡ first + 1 → Writes m first w (e ∷ entries) n k → Writings m first w (e ∷ entries) noted → IsNotedWrite noted n k
  at_first noted is writes (inl same) = absurd (subst (λ A. A) (first_writes m first w e entries n k is) writes (same.0 k))
  at_first noted is writes (inr (keys, rest, these, some, exactly, more)) = elim (exactly.same k) [
    | inl among ↦ subst (λ noted. IsNotedWrite noted n k) (sym these) (record { number = first + 1; keys = keys }, inl refl, sym is, among)
    | inr same ↦ absurd (subst (λ A. A) (first_writes m first w e entries n k is) writes same)
  ]

  after_first : (noted : List Noted) → Rest → first + 1 < n → IsNumber (first + 1) entries n → Writes m first w (e ∷ entries) n k → Writings m first w (e ∷ entries) noted → IsNotedWrite noted n k
  after_first noted recur low number writes (inl same) = recur noted same.1 number (subst (λ A. A) (later_writes m first w e entries n k low) writes)
  after_first noted recur low number writes (inr (keys, rest, these, some, exactly, more)) =
      let one = recur rest more number (subst (λ A. A) (later_writes m first w e entries n k low) writes) in
      subst (λ noted. IsNotedWrite noted n k) (sym these) (one.0, inr one.1, one.2, one.3)

first_or_later : (first n : ℕ) → first < n → (n ≡ first + 1) ⊎ (first + 1 < n)
first_or_later first n low = elim (n == first + 1) as (λ b. (n == first + 1) ≡ b → (n ≡ first + 1) ⊎ (first + 1 < n)) [
  | true ↦ λ is. let same : n ≡ first + 1 = grind (arith, nat_tests) in inl same
  | false ↦ λ apart. let more : first + 1 < n = grind (arith, nat_tests) in inr more
] refl

inner_number : (first n : ℕ) (e : Entry) (entries : List Entry) → first + 1 < n → IsNumber first (e ∷ entries) n → IsNumber (first + 1) entries n
inner_number first n e entries low number = (low, high number.1)
  where
    high : n ≤ first + length (e ∷ entries) → n ≤ first + 1 + length entries
    high h = omega arith

-- whatever an entry writes is noted
pub written_is_noted : (m : Meaning) (first : ℕ) (w : World) (entries : List Entry) (noted : List Noted) → Writings m first w entries noted → (n : ℕ) (k : CellKey) → IsNumber first entries n → Writes m first w entries n k → IsNotedWrite noted n k
written_is_noted m first w [] noted is n k number writes = let low : first < n = number.0 in let high : n ≤ first + 0 = number.1 in let no : ⊥ = omega arith in absurd no
written_is_noted m first w (e ∷ entries) noted writings n k number writes = elim (first_or_later first n number.0) [
  | inl is ↦ at_first m first w e entries n k noted is writes writings
  | inr low ↦ after_first m first w e entries n k noted (λ noted more number writes. written_is_noted m (first + 1) (m.effect w e.task) entries noted more n k number writes) low (inner_number first n e entries low number) writes writings
]

-- whatever is noted was written
abbrev pub IsWritten : Meaning → ℕ → World → List Entry → Noted → Type 0
IsWritten m first w entries x = IsNumber first entries x.number × ((k : CellKey) → IsIn x.keys k → Writes m first w entries x.number k)

later_written : (m : Meaning) (first : ℕ) (w : World) (e : Entry) (entries : List Entry) (x : Noted) → IsWritten m (first + 1) (m.effect w e.task) entries x → IsWritten m first w (e ∷ entries) x
later_written m first w e entries x h = (number h.0, λ k among. subst (λ A. A) (sym (later_writes m first w e entries x.number k (h.0.0))) (h.1 k among))
  where
    number : IsNumber (first + 1) entries x.number → IsNumber first (e ∷ entries) x.number
    number h = let low : first + 1 < x.number = h.0 in let high : x.number ≤ first + 1 + length entries = h.1 in (omega arith, omega arith)

pub noted_is_written : (m : Meaning) (first : ℕ) (w : World) (entries : List Entry) (noted : List Noted) → Writings m first w entries noted → (x : Noted) → IsIn noted x → IsWritten m first w entries x
noted_is_written m first w [] noted is x among = absurd (subst (λ l. IsIn l x) is among)
noted_is_written m first w (e ∷ entries) noted (inl same) x among = later_written m first w e entries x (noted_is_written m (first + 1) (m.effect w e.task) entries noted same.1 x among)
noted_is_written m first w (e ∷ entries) noted (inr (keys, rest, these, some, exactly, more)) x among = by (subst (λ l. IsIn l x) these among) (λ later. noted_is_written m (first + 1) (m.effect w e.task) entries rest more x later)
  where
    by : IsIn (record { number = first + 1; keys = keys } ∷ rest) x → (IsIn rest x → IsWritten m (first + 1) (m.effect w e.task) entries x) → IsWritten m first w (e ∷ entries) x
    by (inl is) recur = subst (IsWritten m first w (e ∷ entries)) is ((omega arith, omega arith), λ k among. subst (λ A. A) (sym (first_writes m first w e entries (first + 1) k refl)) (exactly.differ k among))
    by (inr later) recur = later_written m first w e entries x (recur later)

-- ---- conflicts

none_in : (reads : ReadSet) (since : ℕ) (noted : List Noted) → NoneMeets reads since noted → (x : Noted) → IsIn noted x → since < x.number → ¬ Meets reads x.keys
none_in reads since [] none x among low = absurd among
none_in reads since (y ∷ noted) none x (inl is) low = subst (λ y. ¬ Meets reads y.keys) is (none.0 (subst (λ y. since < y.number) (sym is) low))
none_in reads since (y ∷ noted) none x (inr among) low = none_in reads since noted none.1 x among low

rises_in : (a : ℕ) (noted : List Noted) → RisesAbove a noted → (x : Noted) → IsIn noted x → a < x.number
rises_in a [] rises x among = absurd among
rises_in a (y ∷ noted) rises x (inl is) = subst (λ y. a < y.number) is rises.0
rises_in a (y ∷ noted) rises x (inr among) = let low : a < y.number = rises.0 in let more : y.number < x.number = rises_in y.number noted rises.1 x among in omega arith

meeting_in : (reads : ReadSet) (since : ℕ) (noted : List Noted) (n : ℕ) → IsFirstMeeting reads since noted n → (x : Noted) × IsIn noted x × (x.number ≡ n) × (since < n) × Meets reads x.keys
meeting_in reads since [] n h = absurd h
meeting_in reads since (y ∷ noted) n (inl here) = (y, inl refl, here.0, here.1, here.2)
meeting_in reads since (y ∷ noted) n (inr later) = let one = meeting_in reads since noted n later.1 in (one.0, inr one.1, one.2, one.3, one.4)

none_before : (reads : ReadSet) (since a : ℕ) (noted : List Noted) (n : ℕ) → RisesAbove a noted → IsFirstMeeting reads since noted n → (x : Noted) → IsIn noted x → since < x.number → x.number < n → ¬ Meets reads x.keys
none_before reads since a [] n rises h x among low high = absurd h
none_before reads since a (y ∷ noted) n rises (inl here) x (inl is) low high = let same : y.number ≡ x.number = ap (λ z. z.number) is in let at : y.number ≡ n = here.0 in let no : ⊥ = omega arith in absurd no
none_before reads since a (y ∷ noted) n rises (inl here) x (inr among) low high = let more : y.number < x.number = rises_in y.number noted rises.1 x among in let at : y.number ≡ n = here.0 in let no : ⊥ = omega arith in absurd no
none_before reads since a (y ∷ noted) n rises (inr later) x (inl is) low high = subst (λ y. ¬ Meets reads y.keys) is (later.0 (subst (λ y. since < y.number) (sym is) low))
none_before reads since a (y ∷ noted) n rises (inr later) x (inr among) low high = none_before reads since y.number noted n rises.1 later.1 x among low high

module _ (m : Meaning) (first : ℕ) (w : World) (entries : List Entry) (noted : List Noted) (writings : Writings m first w entries noted) (reads : ReadSet) (since : ℕ) where
  meets_noted : (n : ℕ) → MeetsReads m first w entries reads n → (x : Noted) × IsIn noted x × (x.number ≡ n) × Meets reads x.keys
  meets_noted n meets = let one = written_is_noted m first w entries noted writings n meets.1.0 meets.0 meets.1.1 in (one.0, one.1, one.2, (meets.1.0, meets.1.2, one.3))

  -- no writing entry that is noted meets the reads: there is no conflict
  pub no_conflict : NoneMeets reads since noted → IsConflict m first w entries reads since None
  no_conflict none = λ n low meets. let one = meets_noted n meets in none_in reads since noted none one.0 one.1 (subst (λ i. since < i) (sym one.2) low) one.3

  -- the first that is noted and meets them is the conflict
  pub first_conflict : (n : ℕ) → IsFirstMeeting reads since noted n → IsConflict m first w entries reads since (Some n)
  first_conflict n h =
      let one = meeting_in reads since noted n h in
      let written = noted_is_written m first w entries noted writings one.0 one.1 in (
        one.3,
        subst (MeetsReads m first w entries reads) one.2 (written.0, (one.4.0, written.1 one.4.0 one.4.2, one.4.1)),
        λ i low high meets.
            let other = meets_noted i meets in
            none_before reads since first noted n (writings_rise m first w entries noted writings) h other.0 other.1 (subst (λ j. since < j) (sym other.2) low) (subst (λ j. j < n) (sym other.2) high) other.3,
      )

-- ---- what a log says

-- entries up to a number
abbrev pub AreUpTo : ℕ → List Noted → Type 0
AreUpTo since old = AllByRecursion (λ x. x.number ≤ since) old

up_to_last : (since a : ℕ) (front kept : List Noted) (y : Noted) → RisesAbove a ((front ++ y ∷ []) ++ kept) → y.number ≤ since → AreUpTo since (front ++ y ∷ [])
up_to_last since a [] kept y rises low = (low, tt)
up_to_last since a (x ∷ front) kept y rises low = (
  (let less : x.number < y.number = rises_in x.number ((front ++ y ∷ []) ++ kept) rises.1 y (last_in front) in omega arith),
  up_to_last since x.number front kept y rises.1 low,
)
  where
    last_in : (front : List Noted) → IsIn ((front ++ y ∷ []) ++ kept) y
    last_in [] = inl refl
    last_in (z ∷ front) = inr (last_in front)

-- where the entry that was dropped last is none after a number, no dropped one is
old_up_to : (since a : ℕ) (old kept : List Noted) (dropped : Option ℕ) → RisesAbove a (old ++ kept) → IsLastOf dropped old → ¬ IsAbove since dropped → AreUpTo since old
old_up_to since a old kept None rises last below = subst (AreUpTo since) (sym last) tt
old_up_to since a old kept (Some n) rises last below =
    let low : last.1.number ≤ since = not_above (last.1.number) since (λ more. below (subst (λ i. since < i) last.3 more)) in
    subst (AreUpTo since) (sym last.2) (up_to_last since a (last.0) kept (last.1) (subst (λ o. RisesAbove a (o ++ kept)) last.2 rises) low)
  where
    not_above : (i since : ℕ) → ¬ (since < i) → i ≤ since
    not_above i since h = grind (arith)

none_of_all : (reads : ReadSet) (since : ℕ) (old kept : List Noted) → AreUpTo since old → NoneMeets reads since kept → NoneMeets reads since (old ++ kept)
none_of_all reads since [] kept up none = none
none_of_all reads since (x ∷ old) kept up none = ((λ low. let h : x.number ≤ since = up.0 in let no : ⊥ = omega arith in absurd no), none_of_all reads since old kept up.1 none)

first_of_all : (reads : ReadSet) (since n : ℕ) (old kept : List Noted) → AreUpTo since old → IsFirstMeeting reads since kept n → IsFirstMeeting reads since (old ++ kept) n
first_of_all reads since n [] kept up h = h
first_of_all reads since n (x ∷ old) kept up h = inr ((λ low. let h : x.number ≤ since = up.0 in let no : ⊥ = omega arith in absurd no), first_of_all reads since n old kept up.1 h)

pub judges : (m : Meaning) (first : ℕ) (w : World) (entries : List Entry) (noted : List Noted) → Writings m first w entries noted → (log : Log) → Keeps log noted → (reads : ReadSet) (since : ℕ) (check : Check)
    → LogSays log reads since check → IsSaid m first w entries log.window reads since check
judges m first w entries noted writings log keeps reads since check.Clear said = (
  no_conflict m first w entries noted writings reads since (subst (NoneMeets reads since) (sym keeps.all) (none_of_all reads since keeps.old log.kept (old_up_to since first keeps.old log.kept log.dropped (subst (RisesAbove first) keeps.all (writings_rise m first w entries noted writings)) keeps.last said.0) said.1)),
  (noted, writings, subst (λ o. ¬ IsAbove since o) (sym (log_dropped log noted keeps)) said.0),
)
judges m first w entries noted writings log keeps reads since (check.Conflict n) said = (
  first_conflict m first w entries noted writings reads since n (subst (λ l. IsFirstMeeting reads since l n) (sym keeps.all) (first_of_all reads since n keeps.old log.kept (old_up_to since first keeps.old log.kept log.dropped (subst (RisesAbove first) keeps.all (writings_rise m first w entries noted writings)) keeps.last said.0) said.1)),
  (noted, writings, subst (λ o. ¬ IsAbove since o) (sym (log_dropped log noted keeps)) said.0),
)
judges m first w entries noted writings log keeps reads since (check.Aged n) said = (noted, writings, (log_dropped log noted keeps ∙ said.0, said.1))

-- the least number above another at which something holds is one
pub least_is_one : (P : ℕ → Type 0) (at : ℕ) (one other : Option ℕ) → IsLeastAbove P at one → IsLeastAbove P at other → one ≡ other
least_is_one P at None None p q = refl
least_is_one P at None (Some n) p q = absurd (p n q.0 q.1)
least_is_one P at (Some n) None p q = absurd (q n p.0 p.1)
least_is_one P at (Some n) (Some i) p q =
    let low : ¬ (n < i) = λ less. q.2 n p.0 less p.1 in
    let high : ¬ (i < n) = λ less. p.2 i q.0 less q.1 in
    ap Some (neither n i low high)
  where
    neither : (a b : ℕ) → ¬ (a < b) → ¬ (b < a) → a ≡ b
    neither a b low high = grind (arith)
