-- Worked: queries that no other example tells from their like.
use Rattle.std.specs.Prelude.{◌≡◌, ℕ, List, [], ◌∷◌, true, false, Some, None, Err, codes, pos, refl}
use Rattle.resource_schema.specs.declared.schema.Schema.{Schema}
use Rattle.resource_schema.specs.declared.values.Form.TheVariants as form
use Rattle.resource_schema.specs.declared.values.AttrValue.TheVariants as value
use Rattle.resource_schema.specs.Kinds.{to_one, to_many}
use Rattle.resource_schema.specs.declared.kinds.Attribute.{Attribute}
use Rattle.resource_schema.specs.declared.targets.Target.TheVariants as target
use Rattle.error_objects.specs.declared.codes.Code.TheVariants as code
use Rattle.error_objects.specs.Refusals.{at_parameter}
use Rattle.request_model.specs.Queries.{query_of}
use Rattle.request_model.proofs.OnLiterals.{requests_on_literals}

abbrev text_attribute : List ℕ → Attribute
text_attribute name = record { name = name; form = form.Text; nullable = false; default = None }

-- articles, comments and people
abbrev pub blog : Schema
blog =
    record {
      name = codes "articles";
      client_ids = false;
      attributes = record { name = codes "draft"; form = form.Bool; nullable = true; default = None } ∷ text_attribute (codes "title") ∷ record { name = codes "views"; form = form.Int; nullable = false; default = Some (value.Int (pos 0)) } ∷ [];
      relationships = to_one (codes "author") 2 ∷ to_many (codes "comments") 1 ∷ [];
    }
    ∷ record { name = codes "comments"; client_ids = false; attributes = text_attribute (codes "text") ∷ []; relationships = to_one (codes "author") 2 ∷ [] }
    ∷ record { name = codes "people"; client_ids = true; attributes = text_attribute (codes "name") ∷ []; relationships = [] }
    ∷ []

-- an attribute twice, the first time behind another
later_attribute_twice : query_of blog (target.Collection 0) (codes "sort=views,title,title") ≡ Err (at_parameter code.BadSort (codes "sort"))
unfolding requests_on_literals
later_attribute_twice = refl
