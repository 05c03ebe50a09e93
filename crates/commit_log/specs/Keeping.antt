-- What is kept of entries, and what a scan of it finds.
use Rattle.std.specs.Prelude.{⊤, ◌≡◌, ℕ, ◌+◌, ◌<◌, Bool, cond, nat_lt, not, true, List, [], ◌∷◌, ◌++◌, length, Some, None, Option}
use Rattle.std.specs.Option.{option_map_or}
use Rattle.std.specs.Ordering.{is_lt}
use Rattle.circular_buffer.specs.Buffer.{Buffer}
use Rattle.world_cells.specs.declared.keys.CellKey.{CellKey}
use Rattle.world_cells.specs.declared.sets.ReadSet.{ReadSet}
use Rattle.world_cells.specs.CellOrder.{cell_key_cmp}
use Rattle.history_model.specs.declared.checks.Check.{Check}
use Rattle.history_model.specs.declared.checks.Check.TheVariants as check
use Rattle.history_model.specs.Histories.{Noted}
use Rattle.history_model.specs.Standing.{NoneMeets, IsFirstMeeting}
use Rattle.commit_log.specs.declared.kept.KeptEntry.{KeptEntry}

-- an entry as the history has it
abbrev pub noted : KeptEntry → Noted
noted e = record { number = e.number; keys = e.keys.keys }

-- ---- numbers

-- each number is less than this one
abbrev pub AreBelow : ℕ → List Noted → Type 0
AreBelow n [] = ⊤
AreBelow n (x ∷ xs) = (x.number < n) × AreBelow n xs

-- each number is greater than this one
abbrev pub AreAbove : ℕ → List Noted → Type 0
AreAbove n [] = ⊤
AreAbove n (x ∷ xs) = (n < x.number) × AreAbove n xs

-- the numbers strictly rise
abbrev pub AreRising : List Noted → Type 0
AreRising [] = ⊤
AreRising (x ∷ xs) = AreAbove x.number xs × AreRising xs

-- how many have a greater number than this one
abbrev pub count_after : ℕ → List Noted → ℕ
count_after n [] = 0
count_after n (x ∷ xs) = cond (nat_lt n x.number) 1 0 + count_after n xs

-- ---- a ring

-- with one more entry; where it was full, the first is dropped, whose number is told
pub record IsPushed (old : Buffer KeptEntry) (entry : KeptEntry) (new : Buffer KeptEntry) (dropped : Option ℕ) : Type 0 where
  pub capacity : new.capacity ≡ old.capacity
  pub room : length old.items < old.capacity → (new.items ≡ old.items ++ entry ∷ []) × (dropped ≡ None)
  pub full : (first : KeptEntry) (rest : List KeptEntry) → old.items ≡ first ∷ rest → length old.items ≡ old.capacity → (new.items ≡ rest ++ entry ∷ []) × (dropped ≡ Some first.number)

-- ---- a scan

-- a key lies not past the key that was found, where one was
abbrev pub is_up_to : Bool → Option CellKey → CellKey → Bool
is_up_to from_top found k = option_map_or (λ f. cond from_top (not (is_lt (cell_key_cmp k f))) (not (is_lt (cell_key_cmp f k)))) found true

-- the first of these after a number that wrote what was read, or that there is none
abbrev pub IsScanned : ReadSet → ℕ → List Noted → Check → Type 0
IsScanned reads since xs check.Clear = NoneMeets reads since xs
IsScanned reads since xs (check.Conflict n) = IsFirstMeeting reads since xs n
IsScanned reads since xs (check.Aged n) = ⊥
