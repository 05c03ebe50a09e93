-- The schema of the examples: articles, comments and people.
use Rattle.std.specs.Prelude.{ℕ, List, [], ◌∷◌, true, false, Some, None, codes, pos}
use Rattle.resource_schema.specs.Kinds.{to_one, to_many}
use Rattle.resource_schema.specs.declared.schema.Schema.{Schema}
use Rattle.resource_schema.specs.declared.kinds.Attribute.{Attribute}
use Rattle.resource_schema.specs.declared.values.Form.TheVariants as form
use Rattle.resource_schema.specs.declared.values.AttrValue.TheVariants as value

abbrev pub text_attribute : List ℕ → Attribute
text_attribute name = record { name = name; form = form.Text; nullable = false; default = None }

abbrev pub blog : Schema
blog =
    record {
      name = codes "articles";
      client_ids = false;
      attributes = record { name = codes "draft"; form = form.Bool; nullable = true; default = None } ∷ text_attribute (codes "title") ∷ record { name = codes "views"; form = form.Int; nullable = false; default = Some (value.Int (pos 0)) } ∷ [];
      relationships = to_one (codes "author") 2 ∷ to_many (codes "comments") 1 ∷ [];
    }
    ∷ record { name = codes "comments"; client_ids = false; attributes = text_attribute (codes "text") ∷ []; relationships = to_one (codes "author") 2 ∷ [] }
    ∷ record { name = codes "people"; client_ids = true; attributes = text_attribute (codes "name") ∷ []; relationships = [] }
    ∷ []

-- its text
abbrev pub blog_text : List ℕ
blog_text = codes "{\"types\":{\"articles\":{\"attributes\":{\"draft\":{\"type\":\"bool\",\"nullable\":true},\"title\":{\"type\":\"text\"},\"views\":{\"type\":\"int\",\"default\":0}},\"relationships\":{\"author\":{\"kind\":\"one\",\"target\":\"people\"},\"comments\":{\"kind\":\"many\",\"target\":\"comments\"}}},\"comments\":{\"attributes\":{\"text\":{\"type\":\"text\"}},\"relationships\":{\"author\":{\"kind\":\"one\",\"target\":\"people\"}}},\"people\":{\"client-ids\":true,\"attributes\":{\"name\":{\"type\":\"text\"}}}}}"
