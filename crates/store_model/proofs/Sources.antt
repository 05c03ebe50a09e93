-- Each refusal of an operation blames what its code asks for, where the operation's target is named as its request does: by the path, or in a list by the operation itself.
use Rattle.std.proofs.Common.{◌≡◌, ℕ, List, [], ◌∷◌, ◌++◌, Bool, true, false, refl, subst, Some, None, Option}
use Rattle.std.specs.Prelude.{◌||◌, ◌&&◌, ◌==◌, not, nat_lt, map, length, is_some, is_none, IfSome, codes}
use Rattle.std.specs.Option.{option_map_or}
use Rattle.std.specs.List.{AllByRecursion}
use Rattle.ident_rules.specs.declared.key.Key.{Key}
use Rattle.resource_schema.specs.declared.schema.Schema.{Schema}
use Rattle.resource_schema.specs.declared.kinds.Relationship.{Relationship}
use Rattle.task_forms.specs.declared.operations.Where.{Where}
use Rattle.task_forms.specs.declared.operations.Where.TheVariants as stands
use Rattle.task_forms.specs.declared.operations.Who.{Who}
use Rattle.task_forms.specs.declared.operations.Member.{Member}
use Rattle.task_forms.specs.declared.operations.Operation.{Operation}
use Rattle.task_forms.specs.declared.operations.Operation.TheVariants.{Create, Update, Remove, SetLinks, AddLinks, DropLinks}
use Rattle.error_objects.specs.declared.codes.Code.TheVariants as code
use Rattle.error_objects.specs.declared.refusals.Refusal.{Refusal}
use Rattle.ident_rules.specs.Key.{same_key}
use Rattle.world_cells.specs.World.{World, has_row, next_id, ids_of, link_at}
use Rattle.world_cells.specs.declared.cells.TheConstants.{LAST_NEXT_ID}
use Rattle.world_cells.specs.declared.rows.TheConstants.{LINK_LIMIT}
use Rattle.resource_schema.specs.Kinds.{relationships_of}
use Rattle.store_model.specs.Change.{Lids, key_of, bind, is_bound, is_referenced, created_key, named_row, member_ids, append_new, first_of, when, at_target, target_blame, refuse_key, refuse_target, refuse_named, refuse_member, refuse_linkage, refuse_links, linkage_pointer, pointer_of_member, name_pointer, refused}
use Rattle.task_forms.specs.Fit.{kind_of}
use Rattle.error_objects.specs.Refusals.{at_pointer, IsSource, IsSourced}
use Rattle.error_objects.specs.Codes.{pointer_in_list, some_pointer}
use Rattle.request_model.specs.Documents.{is_by_path}
use Rattle.store_model.specs.Laws.{IsPlaced}
use Rattle.error_objects.specs.Refusals.{refusal}

at_place : (in_list : Bool) (place : Where) → is_by_path place ≡ not in_list → IsSource in_list pointer_in_list (target_blame place [])
at_place true stands.Plain e = cc
at_place true stands.Ref e = tt
at_place true stands.Href e = tt
at_place true stands.Data e = tt
at_place false stands.Plain e = refl
at_place false stands.Ref e = cc
at_place false stands.Href e = cc
at_place false stands.Data e = cc

under_place : (in_list : Bool) (place : Where) → IsSource in_list some_pointer (target_blame place (codes "/lid"))
under_place in_list stands.Plain = tt
under_place in_list stands.Ref = tt
under_place in_list stands.Href = tt
under_place in_list stands.Data = tt

module _ (in_list : Bool) where
  -- a refusal, if there is one, is sourced
  abbrev Sound : Option Refusal → Type 0
  Sound o = IfSome o (IsSourced in_list)

  when_sound : (b : Bool) (r : Refusal) → IsSourced in_list r → Sound (when b r)
  when_sound true r h = h
  when_sound false r h = tt

  first_sound : (all : List (Option Refusal)) → AllByRecursion Sound all → Sound (first_of all)
  first_sound [] h = tt
  first_sound (None ∷ all) h = first_sound all h.1
  first_sound (Some r ∷ all) h = h.0

  map_sound : {A : Type 0} (f : A → Option Refusal) → ((x : A) → Sound (f x)) → (xs : List A) → AllByRecursion Sound (map f xs)
  map_sound f each [] = tt
  map_sound f each (x ∷ xs) = (each x, map_sound f each xs)

  more_sound : (xs ys : List (Option Refusal)) → AllByRecursion Sound xs → AllByRecursion Sound ys → AllByRecursion Sound (xs ++ ys)
  more_sound [] ys h g = g
  more_sound (x ∷ xs) ys h g = (h.0, more_sound xs ys h.1 g)

  named_sound : (there : Key → Bool) (pointer : List ℕ) (o : Option Key) → Sound (refuse_named there pointer o)
  named_sound there pointer None = tt
  named_sound there pointer (Some key) = when_sound (not (there key)) (at_pointer code.RelatedNotFound pointer) tt

  member_sound : (there : Key → Bool) (lids : Lids) (pointer : List ℕ) (m : Member) → Sound (refuse_member there lids pointer m)
  member_sound there lids pointer m = named_sound there (pointer_of_member pointer m ++ name_pointer m.named) (key_of lids m.named)

  linkage_sound : (there : Key → Bool) (lids : Lids) (pointer : List ℕ) (old : List (List ℕ)) (members : List Member) → Sound (refuse_linkage there lids pointer old members)
  linkage_sound there lids pointer old members =
      let many = when (nat_lt LINK_LIMIT (length (append_new old (member_ids lids members)))) (at_pointer code.TooManyMembers pointer) in
      first_sound (map (refuse_member there lids pointer) members ++ many ∷ [])
      (more_sound (map (refuse_member there lids pointer) members) (many ∷ []) (map_sound (refuse_member there lids pointer) (member_sound there lids pointer) members) (when_sound (nat_lt LINK_LIMIT (length (append_new old (member_ids lids members)))) (at_pointer code.TooManyMembers pointer) tt, tt))

  links_sound : (there : Key → Bool) (lids : Lids) (rels : List Relationship) (links : List (ℕ × List Member)) → Sound (refuse_links there lids rels links)
  links_sound there lids rels links = first_sound (map (λ l. refuse_linkage there lids (linkage_pointer rels l.0) [] l.1) links) (map_sound (λ l. refuse_linkage there lids (linkage_pointer rels l.0) [] l.1) (λ l. linkage_sound there lids (linkage_pointer rels l.0) [] l.1) links)

  key_sound : (w : World) (who : Who) (o : Option Key) → is_by_path who.place ≡ not in_list → Sound (refuse_key w who o)
  key_sound w who None placed = under_place in_list who.place
  key_sound w who (Some key) placed = when_sound (not (has_row w key)) (at_target code.NotFound who []) (at_place in_list who.place placed)

  refused_sound : (schema : Schema) (w : World) (lids : Lids) (operation : Operation) → IsPlaced in_list operation → Sound (refused schema w lids operation)
  refused_sound schema w lids (Create kind id lid values links) placed =
      let key = created_key w kind id in
      let bound = when (is_bound lids kind lid) (at_pointer code.LidBound (codes "/data/lid")) in
      let exists = when (is_some id && has_row w key) (at_pointer code.IdExists (codes "/data/id")) in
      let ended = when (is_none id && next_id w kind == LAST_NEXT_ID) (refusal code.IdsEnded) in
      let linked = refuse_links (λ k. same_key key k || has_row w k) (bind lids kind lid key.id) (relationships_of schema kind) links in
      first_sound (bound ∷ exists ∷ ended ∷ linked ∷ []) (
        when_sound (is_bound lids kind lid) (at_pointer code.LidBound (codes "/data/lid")) tt,
        (
          when_sound (is_some id && has_row w key) (at_pointer code.IdExists (codes "/data/id")) tt,
          (
            when_sound (is_none id && next_id w kind == LAST_NEXT_ID) (refusal code.IdsEnded) refl,
            (links_sound (λ k. same_key key k || has_row w k) (bind lids kind lid key.id) (relationships_of schema kind) links, tt),
          ),
        ),
      )
  refused_sound schema w lids (Update who values links) placed =
      first_sound (refuse_target w lids who ∷ refuse_links (has_row w) lids (relationships_of schema (kind_of who.named)) links ∷ []) (key_sound w who (key_of lids who.named) placed, (links_sound (has_row w) lids (relationships_of schema (kind_of who.named)) links, tt))
  refused_sound schema w lids (Remove who) placed =
      let led = option_map_or (is_referenced schema w) (key_of lids who.named) false in
      first_sound (refuse_target w lids who ∷ when led (at_target code.StillReferenced who []) ∷ []) (key_sound w who (key_of lids who.named) placed, (when_sound led (at_target code.StillReferenced who []) (at_place in_list who.place placed), tt))
  refused_sound schema w lids (SetLinks who rel members) placed =
      first_sound (refuse_target w lids who ∷ refuse_linkage (has_row w) lids (codes "/data") [] members ∷ []) (key_sound w who (key_of lids who.named) placed, (linkage_sound (has_row w) lids (codes "/data") [] members, tt))
  refused_sound schema w lids (AddLinks who rel members) placed =
      let old = option_map_or (λ row. ids_of (link_at row rel)) (named_row w lids who) [] in
      first_sound (refuse_target w lids who ∷ refuse_linkage (has_row w) lids (codes "/data") old members ∷ []) (key_sound w who (key_of lids who.named) placed, (linkage_sound (has_row w) lids (codes "/data") old members, tt))
  refused_sound schema w lids (DropLinks who rel members) placed =
      first_sound (refuse_target w lids who ∷ map (refuse_member (λ k. true) lids (codes "/data")) members) (key_sound w who (key_of lids who.named) placed, map_sound (refuse_member (λ k. true) lids (codes "/data")) (member_sound (λ k. true) lids (codes "/data")) members)

  -- the refusal of an operation blames what the table of codes says
  pub refusal_sourced : (schema : Schema) (w : World) (lids : Lids) (operation : Operation) (r : Refusal) → IsPlaced in_list operation → refused schema w lids operation ≡ Some r → IsSourced in_list r
  refusal_sourced schema w lids operation r placed is = subst Sound is (refused_sound schema w lids operation placed)
