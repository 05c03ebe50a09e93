-- Links, worked.
use Rattle.std.specs.Prelude.{◌≡◌, [], ◌∷◌, codes, refl}
use Rattle.request_model.specs.Links.{collection_link, resource_link, related_link, relationship_link, path_with_query}
use Rattle.request_model.proofs.OnLiterals.{requests_on_literals}

to_collection : collection_link (codes "articles") ≡ codes "/articles"
unfolding requests_on_literals
to_collection = refl

to_resource : resource_link (codes "articles") (codes "1") ≡ codes "/articles/1"
unfolding requests_on_literals
to_resource = refl

to_related : related_link (codes "articles") (codes "1") (codes "author") ≡ codes "/articles/1/author"
unfolding requests_on_literals
to_related = refl

to_relationship : relationship_link (codes "articles") (codes "1") (codes "author") ≡ codes "/articles/1/relationships/author"
unfolding requests_on_literals
to_relationship = refl

-- pairs as a form (URL Standard, section 5.2)
to_page : path_with_query (codes "/articles") ((codes "page[size]", codes "2") ∷ (codes "sort", codes "-title,a b") ∷ []) ≡ codes "/articles?page%5Bsize%5D=2&sort=-title%2Ca+b"
unfolding requests_on_literals
to_page = refl
