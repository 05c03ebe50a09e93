-- The text of a report (of this project; RFC 8259).
use Rattle.std.specs.Prelude.{ℕ, List, ◌∷◌, [], ◌++◌, codes, map}
use Rattle.base64.specs.Engines.{standard}
use Rattle.base64.specs.GeneralPurpose.{encode_of}
use Rattle.http_messages.specs.declared.ends.SessionEnd.{SessionEnd}
use Rattle.http_messages.specs.declared.ends.SessionEnd.TheVariants as end
use Rattle.serde_json.specs.Data.{Data, array, number, string, unsigned}
use Rattle.serde_json.specs.View.{items_of}
use Rattle.serde_json.specs.Written.{compact_text}
use Rattle.store_model.specs.Resource.{object_of}
use Rattle.replay_runs.specs.declared.reports.Report.{Report}

-- the word of an end
abbrev pub end_word : SessionEnd → List ℕ
end_word end.Closed = codes "closed"
end_word (end.Refused status) = codes "refused"
end_word end.CutShort = codes "cut-short"
end_word end.NoMemory = codes "no-memory"
end_word end.ReadFault = codes "read-fault"
end_word end.WriteFault = codes "write-fault"
end_word end.Worn = codes "worn"

abbrev pub end_data : SessionEnd → Data
end_data e = string (end_word e)

abbrev pub number_data : ℕ → Data
number_data n = number (unsigned n)

-- bytes, in padded base64
abbrev pub bytes_data : List ℕ → Data
bytes_data bytes = string (encode_of standard bytes)

-- the items of a list, each as that value
abbrev pub array_data : {A : Type 0} → (A → Data) → List A → Data
array_data f xs = array (items_of (map f xs))

abbrev pub report_data : Report → Data
report_data r = object_of (
    (codes "ends", array_data end_data r.ends.items)
    ∷ (codes "history", array_data number_data r.history.items)
    ∷ (codes "refused", array_data number_data r.refused.items)
    ∷ (codes "replies", array_data bytes_data r.replies.items)
    ∷ [])

-- its text and a line feed
abbrev pub report_text : Report → List ℕ
report_text r = compact_text (report_data r) ++ 10 ∷ []
