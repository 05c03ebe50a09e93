-- Tables of last writers.
use Rattle.std.proofs.Common.{◌≡◌, ℕ, zero, suc, ◌+◌, ◌<◌, ◌≤◌, List, [], ◌∷◌, Bool, cond, length, get_or, refl, sym, ap, subst, ◌∙◌, arith, inl, inr}
use Rattle.std.specs.Prelude.{replicate, ◌==◌}
use Rattle.std.proofs.lemmas.Bool.Decides.{leb_tells, eqb_tells}
use Rattle.std.proofs.lemmas.List.{get_or-set_same, get_or-set_other, length-set}
use Rattle.world_cells.specs.declared.keys.CellKey.{CellKey}
use Rattle.world_cells.specs.declared.keys.CellKey.TheVariants as cell_key
use Rattle.world_cells.specs.declared.slots.TheConstants.{SLOTS, GROUPS}
use Rattle.world_cells.specs.Slots.{slot_of, group_of, with_byte, with_bytes, cell_key_bytes, first_group}
use Rattle.history_model.specs.Histories.{Noted}
use Rattle.commit_log.specs.Writers.{Note, Writers, IsTable, StandsFor, greater, raised, with_note, with_notes, with_all}
use Rattle.commit_log.specs.Logs.{IsTold, AreTold, EachTold}

-- ---- slots and groups are bounded

bytes_within : (slot : ℕ) (bytes : List ℕ) → slot < SLOTS → with_bytes slot bytes < SLOTS
bytes_within slot [] h = h
bytes_within slot (b ∷ bytes) h = bytes_within (with_byte slot b) bytes (omega arith)

pub slot_within : (k : CellKey) → slot_of k < SLOTS
slot_within k = bytes_within 0 (cell_key_bytes k) (omega arith)

first_within : (kind : ℕ) → first_group kind + 2 < GROUPS
first_within kind = omega arith

pub group_within : (k : CellKey) → group_of k < GROUPS
group_within (cell_key.Row k) = let w = first_within k.kind in omega arith
group_within (cell_key.Back to from rel) = let w = first_within to.kind in omega arith
group_within (cell_key.Counter kind) = let w = first_within kind in omega arith

-- ---- notes

pub zeros_at : (n i : ℕ) → let none : ℕ = 0 in get_or (replicate n none) i none ≡ none
zeros_at zero i = refl
zeros_at (suc n) zero = refl
zeros_at (suc n) (suc i) = zeros_at n i

pub raised_as : (numbers : List ℕ) (at n i l : ℕ) → at < length numbers → get_or numbers i 0 ≡ l → get_or (raised numbers at n) i 0 ≡ cond (at == i) (greater l n) l
raised_as numbers at n i l lt is = elim (eqb_tells at i) [
  | inl h ↦
      ap (λ j. get_or (raised numbers at n) j 0) (sym h.1) ∙ get_or-set_same numbers at _ 0 lt
      ∙ ap (λ m. greater m n) (ap (λ j. get_or numbers j 0) h.1 ∙ is) ∙ ap (λ b. cond b (greater l n) l) (sym h.0)
  | inr h ↦ get_or-set_other numbers at i _ 0 (λ e. h.1 (sym e)) ∙ is ∙ ap (λ b. cond b (greater l n) l) (sym h.0)
]

pub noted_stands : (w : Writers) (k : CellKey) (n : ℕ) (notes : List Note) → IsTable w → StandsFor w notes → StandsFor (with_note w k n) ((k, n) ∷ notes)
noted_stands w k n notes table h = record {
  slots = λ slot lt. let within = slot_within k in let long = table.slots in raised_as w.slots (slot_of k) n slot _ (omega arith) (h.slots slot lt);
  groups = λ group lt. let within = group_within k in let long = table.groups in raised_as w.groups (group_of k) n group _ (omega arith) (h.groups group lt);
}

pub noted_table : (w : Writers) (k : CellKey) (n : ℕ) → IsTable w → IsTable (with_note w k n)
noted_table w k n h = record { slots = length-set w.slots _ _ ∙ h.slots; groups = length-set w.groups _ _ ∙ h.groups }

pub all_stand : (w : Writers) (keys : List CellKey) (n : ℕ) (notes : List Note) → IsTable w → StandsFor w notes → StandsFor (with_notes w keys n) (with_all notes keys n)
all_stand w [] n notes table h = h
all_stand w (k ∷ keys) n notes table h = all_stand (with_note w k n) keys n ((k, n) ∷ notes) (noted_table w k n table) (noted_stands w k n notes table h)

pub all_table : (w : Writers) (keys : List CellKey) (n : ℕ) → IsTable w → IsTable (with_notes w keys n)
all_table w [] n h = h
all_table w (k ∷ keys) n h = all_table (with_note w k n) keys n (noted_table w k n h)

-- ---- what a table tells stays told

greater_left : (m n : ℕ) → m ≤ greater m n
greater_left m n = elim (leb_tells (suc m) n) [
  | inl h ↦ subst (λ (b : Bool). m ≤ cond b n m) (sym h.0) (let lt : suc m ≤ n = h.1 in omega arith)
  | inr h ↦ subst (λ (b : Bool). m ≤ cond b n m) (sym h.0) (omega arith)
]

greater_right : (m n : ℕ) → n ≤ greater m n
greater_right m n = elim (leb_tells (suc m) n) [
  | inl h ↦ subst (λ (b : Bool). n ≤ cond b n m) (sym h.0) (omega arith)
  | inr h ↦ subst (λ (b : Bool). n ≤ cond b n m) (sym h.0) (let le : n < suc m = h.1 in omega arith)
]

raised_up : (numbers : List ℕ) (at n i : ℕ) → get_or numbers i 0 ≤ get_or (raised numbers at n) i 0
raised_up [] at n i = omega arith
raised_up (x ∷ xs) zero n zero = greater_left x n
raised_up (x ∷ xs) zero n (suc i) = omega arith
raised_up (x ∷ xs) (suc at) n zero = omega arith
raised_up (x ∷ xs) (suc at) n (suc i) = raised_up xs at n i

raised_here : (numbers : List ℕ) (at n : ℕ) → at < length numbers → n ≤ get_or (raised numbers at n) at 0
raised_here [] at n lt = absurd (omega arith)
raised_here (x ∷ xs) zero n lt = greater_right x n
raised_here (x ∷ xs) (suc at) n lt = raised_here xs at n (omega arith)

told_more : (w : Writers) (j : CellKey) (m n : ℕ) (k : CellKey) → IsTold w n k → IsTold (with_note w j m) n k
told_more w j m n k h = (let up = raised_up w.slots (slot_of j) m (slot_of k) in let le = h.0 in omega arith, let up = raised_up w.groups (group_of j) m (group_of k) in let le = h.1 in omega arith)

told_all : (w : Writers) (keys : List CellKey) (m n : ℕ) (k : CellKey) → IsTold w n k → IsTold (with_notes w keys m) n k
told_all w [] m n k h = h
told_all w (j ∷ keys) m n k h = told_all (with_note w j m) keys m n k (told_more w j m n k h)

are_told_all : (w : Writers) (keys : List CellKey) (m n : ℕ) (ks : List CellKey) → AreTold w n ks → AreTold (with_notes w keys m) n ks
are_told_all w keys m n [] h = tt
are_told_all w keys m n (k ∷ ks) h = (told_all w keys m n k h.0, are_told_all w keys m n ks h.1)

pub each_told_all : (w : Writers) (keys : List CellKey) (m : ℕ) (xs : List Noted) → EachTold w xs → EachTold (with_notes w keys m) xs
each_told_all w keys m [] h = tt
each_told_all w keys m (x ∷ xs) h = (are_told_all w keys m x.number x.keys h.0, each_told_all w keys m xs h.1)

pub now_told : (w : Writers) (keys : List CellKey) (n : ℕ) → IsTable w → AreTold (with_notes w keys n) n keys
now_told w [] n table = tt
now_told w (k ∷ keys) n table = (
  let slot = slot_within k in let group = group_within k in let a = table.slots in let b = table.groups in
      told_all (with_note w k n) keys n n k (raised_here w.slots (slot_of k) n (omega arith), raised_here w.groups (group_of k) n (omega arith)),
  now_told (with_note w k n) keys n (noted_table w k n table),
)
