-- The parts of a document's text, as the code appends them.
use Rattle.std.specs.Prelude.{ℕ, Bool, true, false, Option, None, Some, List, [], ◌∷◌, ◌++◌, codes}
use Rattle.json.specs.Print.{quoted}
use Rattle.serde_json.specs.Data.{Data, null, string}
use Rattle.serde_json.specs.View.{items_of}
use Rattle.serde_json.specs.Written.{comma_if, compact_text, items_text, members_text}
use Rattle.resource_schema.specs.declared.schema.Schema.{Schema}
use Rattle.store_model.specs.Resource.{members_of, identifier}

-- ---- objects whose members are appended where they are shown

-- what stands before a member's name: a comma, or the object's name and bracket before the first
abbrev pub opening : List ℕ → Bool → List ℕ
opening name true = codes ","
opening name false = quoted name ++ codes ":{"

-- one of them
abbrev pub shown_text : List ℕ → Bool → List ℕ → Data → List ℕ
shown_text name begun k d = opening name begun ++ (quoted k ++ (codes ":" ++ compact_text d))

-- and what it is where it is not shown
abbrev pub shown_if : Bool → List ℕ → Bool → List ℕ → Data → List ℕ
shown_if true name begun k d = shown_text name begun k d
shown_if false name begun k d = []

-- the object as a member with a comma behind it, and nothing where it has no member
abbrev pub leading : List ℕ → List (List ℕ × Data) → List ℕ
leading name [] = []
leading name (m ∷ ms) = opening name false ++ (members_text false (members_of (m ∷ ms)) ++ codes ",")

-- what is left of that text
abbrev pub left_of : List ℕ → Bool → List (List ℕ × Data) → List ℕ
left_of name false ms = leading name ms
left_of name true ms = members_text true (members_of ms) ++ codes ","

-- its end
abbrev pub closing : Bool → List ℕ
closing true = codes "},"
closing false = []

-- ---- arrays

-- what is left of the text of an array, from the item at a place
abbrev pub items_left : Bool → List Data → List ℕ
items_left later ds = items_text later (items_of ds)

-- ---- parts of resource objects

-- what stands before the id of an identifier: as an item of an array, behind another, with a comma
abbrev pub before_id : Bool → List ℕ
before_id later = comma_if later ++ codes "{\"id\":\""

abbrev pub identifier_of : Schema → ℕ → List ℕ → Data
identifier_of schema kind id = identifier schema (record { kind = kind; id = id })

-- the links of a relationship, of texts that need no further escape
abbrev pub links_text : List ℕ → List ℕ → List ℕ
links_text related own = codes "{\"related\":\"" ++ (related ++ (codes "\",\"self\":\"" ++ (own ++ codes "\"}")))

-- ---- documents of pages

-- a link, or null
abbrev pub link_data : Option (List ℕ) → Data
link_data None = null
link_data (Some text) = string text
