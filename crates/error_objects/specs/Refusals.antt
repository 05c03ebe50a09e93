-- Refusals: how they are made, what they may name, and what a reader answers.
use Rattle.std.specs.Prelude.{◌≡◌, ℕ, Bool, true, false, List, Result, Ok, Err, ⊤}
use Rattle.error_objects.specs.declared.codes.Code.{Code}
use Rattle.error_objects.specs.declared.refusals.Blame.{Blame}
use Rattle.error_objects.specs.declared.refusals.Blame.TheVariants as blame
use Rattle.error_objects.specs.declared.refusals.Refusal.{Refusal}
use Rattle.error_objects.specs.declared.refusals.Read.{Read}
use Rattle.error_objects.specs.declared.refusals.Read.TheVariants as read
use Rattle.error_objects.specs.Codes.{Source, no_source, some_pointer, pointer_in_list, some_parameter, some_header, header, told}

-- ---- a refusal that names nothing, and those that name a place (JSON:API 1.1, "Error Objects")

abbrev pub refusal : Code → Refusal
refusal code = record { code = code; blame = blame.Nothing }

abbrev pub at_pointer : Code → List ℕ → Refusal
at_pointer code pointer = record { code = code; blame = blame.Pointer pointer }

abbrev pub at_parameter : Code → List ℕ → Refusal
at_parameter code name = record { code = code; blame = blame.Parameter name }

abbrev pub at_header : Code → List ℕ → Refusal
at_header code name = record { code = code; blame = blame.Header name }

-- ---- what a code asks to be named

abbrev pub IsPointer : Blame → Type 0
IsPointer (blame.Pointer text) = ⊤
IsPointer b = ⊥

abbrev pub IsParameter : Blame → Type 0
IsParameter (blame.Parameter text) = ⊤
IsParameter b = ⊥

abbrev pub IsHeader : Blame → Type 0
IsHeader (blame.Header text) = ⊤
IsHeader b = ⊥

-- what is blamed is a source of this form, in a list of operations or not
abbrev pub IsSource : Bool → Source → Blame → Type 0
IsSource in_list no_source b = b ≡ blame.Nothing
IsSource in_list some_pointer b = IsPointer b
IsSource true pointer_in_list b = IsPointer b
IsSource false pointer_in_list b = b ≡ blame.Nothing
IsSource in_list some_parameter b = IsParameter b
IsSource in_list some_header b = IsHeader b
IsSource in_list (header name) b = b ≡ blame.Header name

-- a refusal names the source that its code asks for
abbrev pub IsSourced : Bool → Refusal → Type 0
IsSourced in_list refusal = IsSource in_list ((told refusal.code).source) refusal.blame

-- ---- what a reader answers, against a definition that knows no want of memory

abbrev pub IsRead : {T : Type 0} → Read T → Result T Refusal → Type 0
IsRead (read.Good x) d = d ≡ Ok x
IsRead (read.Refused r) d = d ≡ Err r
IsRead read.NoMemory d = ⊤
