-- Worked: what entries write, conflicts, age and trials, in a history whose first entry has the number 11.
use Rattle.std.specs.Prelude.{◌≡◌, ℕ, ◌+◌, ◌<◌, ◌≤◌, ◌⊎◌, [], ◌∷◌, Some, None, refl}
use Rattle.std.proofs.Common.{inl, inr, arith, subst, ap}
use Rattle.world_cells.specs.declared.cells.Cell.TheVariants as cell
use Rattle.world_cells.specs.declared.keys.CellKey.{CellKey}
use Rattle.world_cells.specs.declared.keys.CellKey.TheVariants as cell_key
use Rattle.world_cells.specs.World.{empty_world, cell_at, next_id}
use Rattle.http_messages.specs.declared.messages.Reply.{Reply}
use Rattle.history_model.specs.Trials.{IsTried, StaysInReach}
use Rattle.history_model.specs.Histories.{world_at, Writes, IsNumber, Exactly, Writings, MeetsReads, IsConflict, last_dropped, IsAbove, OnlyAbove, IsAged, MayRefuse}
use Rattle.base_tests.proofs.Counting.{told, at, counting, taking, asking, took, asked, three, four, four_are_noted, counter, reads_of, reads, noted, three_are_noted}

-- ---- worlds and writes

its_worlds : (next_id (world_at counting 10 empty_world three 10) 0 ≡ 1) × (next_id (world_at counting 10 empty_world three 11) 0 ≡ 2) × (next_id (world_at counting 10 empty_world three 12) 0 ≡ 2) × (next_id (world_at counting 10 empty_world three 13) 0 ≡ 3)
its_worlds = (refl, refl, refl, refl)

taking_writes : Writes counting 10 empty_world three 11 counter × Writes counting 10 empty_world three 13 counter
taking_writes = ((λ e. cc e), (λ e. cc e))

asking_writes_nothing : (k : CellKey) → ¬ Writes counting 10 empty_world three 12 k
asking_writes_nothing k writes = writes refl

no_other_counter : ¬ Writes counting 10 empty_world three 11 (cell_key.Counter 1)
no_other_counter writes = writes refl

-- the numbers are 11, 12 and 13
first_number : IsNumber 10 three 11
first_number = (omega arith, omega arith)

last_number : IsNumber 10 three 13
last_number = (omega arith, omega arith)

none_before : ¬ IsNumber 10 three 10
none_before is = let low : 10 < 10 = is.0 in omega arith

none_behind : ¬ IsNumber 10 three 14
none_behind is = let high : 14 ≤ 10 + 3 = is.1 in omega arith

-- a key is left out
not_all_keys : ¬ Exactly [] (cell_at [] empty_world) (cell_at [] (at 2))
not_all_keys exact = missed (exact.same counter)
  where
    missed : ⊥ ⊎ (cell_at [] empty_world counter ≡ cell_at [] (at 2) counter) → ⊥
    missed (inl none) = none
    missed (inr same) = cc same

-- a key whose cell stays is listed
not_only_keys : ¬ Exactly (counter ∷ cell_key.Counter 1 ∷ []) (cell_at [] empty_world) (cell_at [] (at 2))
not_only_keys exact = exact.differ (cell_key.Counter 1) (inr (inl refl)) refl

-- an entry that writes is noted, and one that writes nothing is not
taking_is_noted : ¬ Writings counting 10 empty_world (took 1 1 ∷ []) []
taking_is_noted (inl (same, rest)) = cc (same counter)
taking_is_noted (inr (keys, rest, is, some, exact, more)) = cc is

asking_is_not_noted : ¬ Writings counting 10 empty_world (asked 2 1 ∷ []) (noted 11 ∷ [])
asking_is_not_noted (inl (same, rest)) = cc rest
asking_is_not_noted (inr ([], rest, is, some, exact, more)) = some refl
asking_is_not_noted (inr (k ∷ keys, rest, is, some, exact, more)) = exact.differ k (inl refl) refl

-- ---- conflicts

between : (i : ℕ) → 11 < i → i < 13 → 12 ≡ i
between i low high = omega arith

below : (i : ℕ) → 10 < i → i < 11 → ⊥
below i low high = omega arith

past : (n : ℕ) → 13 < n → n ≤ 10 + 3 → ⊥
past n low high = omega arith

meets_first : MeetsReads counting 10 empty_world three reads 11
meets_first = (first_number, (counter, (λ e. cc e), refl))

meets_last : MeetsReads counting 10 empty_world three reads 13
meets_last = (last_number, (counter, (λ e. cc e), refl))

pub first_conflict : IsConflict counting 10 empty_world three reads 10 (Some 11)
first_conflict = (omega arith, meets_first, λ i low high meets. below i low high)

-- behind entry 11 the next that meets the reads is 13, since 12 writes nothing
next_conflict : IsConflict counting 10 empty_world three reads 11 (Some 13)
next_conflict = (omega arith, meets_last, λ i low high meets. subst (λ i. ¬ MeetsReads counting 10 empty_world three reads i) (between i low high) (λ meets. meets.1.1 refl) meets)

pub no_conflict_at_the_end : IsConflict counting 10 empty_world three reads 13 None
no_conflict_at_the_end n above meets = past n above meets.0.1

no_conflict_of_nothing : IsConflict counting 10 empty_world three (reads_of []) 10 None
no_conflict_of_nothing n above meets = cc meets.1.2

not_without_conflict : ¬ IsConflict counting 10 empty_world three reads 10 None
not_without_conflict none = none 11 (omega arith) meets_first

not_the_last_first : ¬ IsConflict counting 10 empty_world three reads 10 (Some 13)
not_the_last_first conflict = conflict.2 11 (omega arith) (omega arith) meets_first

not_its_own_conflict : ¬ IsConflict counting 10 empty_world three reads 11 (Some 11)
not_its_own_conflict conflict = let above : 11 < 11 = conflict.0 in omega arith

-- ---- age

-- a log of one has dropped entry 11, and one of two nothing
dropped : (last_dropped 1 (noted 11 ∷ noted 13 ∷ []) ≡ Some 11) × (last_dropped 2 (noted 11 ∷ noted 13 ∷ []) ≡ None) × (last_dropped 3 (noted 11 ∷ noted 13 ∷ []) ≡ None)
dropped = (refl, refl, refl)

pub too_old : IsAged counting 10 empty_world three 10 1 (Some 11)
too_old = (noted 11 ∷ noted 13 ∷ [], three_are_noted, (refl, omega arith))

not_too_old : IsAged counting 10 empty_world three 11 1 None
not_too_old = (noted 11 ∷ noted 13 ∷ [], three_are_noted, λ above. let more : 11 < 11 = above in omega arith)

pub nothing_dropped : IsAged counting 10 empty_world three 10 2 None
nothing_dropped = (noted 11 ∷ noted 13 ∷ [], three_are_noted, λ above. above)

no_number_above : (¬ IsAbove 10 None) × (¬ IsAbove 11 (Some 11)) × IsAbove 10 (Some 11)
no_number_above = ((λ above. above), (λ above. let more : 11 < 11 = above in omega arith), omega arith)

only_above : (¬ OnlyAbove 11 (Some 11) (Some 11)) × (¬ OnlyAbove 10 (Some 12) (Some 11)) × (¬ OnlyAbove 10 (Some 11) None) × OnlyAbove 10 None None
only_above = ((λ it. let more : 11 < 11 = it.1 in omega arith), (λ it. cc it.0), (λ it. it (omega arith)), λ above. above)

-- ---- what may be refused

refused_for_entry : MayRefuse counting 10 empty_world three asking 10 2
refused_for_entry = inl (11, omega arith, first_number, (counter, (λ e. cc e), refl))

refused_for_age : MayRefuse counting 10 empty_world four asking 12 1
refused_for_age = inr (13, (noted 11 ∷ noted 13 ∷ noted 14 ∷ [], four_are_noted, (refl, omega arith)))

-- nothing is refused where no entry came
not_refused_without_entries : (window : ℕ) → ¬ MayRefuse counting 10 empty_world [] asking 10 window
not_refused_without_entries window (inl (i, after, number, writes)) = let low : 10 < i = after in let high : i ≤ 10 + 0 = number.1 in omega arith
not_refused_without_entries window (inr (i, aged)) = cc (ap (last_dropped window) aged.1, aged.2.0)

-- ---- trials

-- whoever asks is told the id, and no other
another_answer : ¬ IsTried counting (cell_at [] (at 3)) asking reads [] (told 4)
another_answer tried = let same : 4 ≡ 3 = ap (λ (r : Reply). r.status) (tried (at 3) refl (λ k covered. refl)).0 in omega (arith, same)

-- taking without a write is no trial, and asking with one neither
nothing_taken : ¬ IsTried counting (cell_at [] (at 3)) taking reads [] (told 3)
nothing_taken tried = cc ((tried (at 3) refl (λ k covered. refl)).1 counter)

written_by_asking : ¬ IsTried counting (cell_at [] (at 3)) asking reads (record { key = counter; cell = Some (cell.Counter 4) } ∷ []) (told 3)
written_by_asking tried = cc ((tried (at 3) refl (λ k covered. refl)).1 counter)

-- an answer by what was not read
too_few_reads : ¬ IsTried counting (cell_at [] (at 3)) asking (reads_of []) [] (told 3)
too_few_reads tried = let same : 3 ≡ 4 = ap (λ (r : Reply). r.status) (tried (at 4) refl (λ k covered. cc covered)).0 in omega (arith, same)

-- both look at the counter of the type 0 alone
read_out_of_reach : ¬ StaysInReach counting (cell_at [] (at 3)) asking (reads_of (cell_key.Counter 1 ∷ []))
read_out_of_reach stays = cc (stays (at 3) refl (λ k. refl) (cell_key.Counter 1) refl)

nothing_read_stays : StaysInReach counting (cell_at [] (at 3)) asking (reads_of [])
nothing_read_stays w valid same k covered = cc covered

counter_stays : StaysInReach counting (cell_at [] (at 3)) asking reads
counter_stays w valid same k covered = covered
