-- The links of a row, set one after another.
use Rattle.std.proofs.Common.{◌≡◌, ℕ, ◌+◌, ◌<◌, suc, List, [], ◌∷◌, ◌++◌, sym, ap, subst, ◌∙◌, length, get_or, drop, add-one, drop-cons, append-nil}
use Rattle.std.specs.Prelude.{Bool, slice_set}
use Rattle.std.proofs.lemmas.Grind.{flat_map-append}
use Rattle.ident_rules.specs.declared.key.Key.{Key}
use Rattle.task_forms.specs.declared.operations.Member.{Member}
use Rattle.world_cells.specs.declared.rows.Link.{Link}
use Rattle.world_cells.specs.World.{no_link}
use Rattle.store_model.specs.Change.{Lids, refuse_linkage, append_new, member_ids, set_links, link_of}
use Rattle.store_model.specs.Reach.{is_row_in, member_keys, linked_keys}
use Rattle.view_reads.specs.Recording.{Recording}
use Rattle.trial_steps.specs.Steps.{LooksAt}

pub linked_keys_split : (lids : Lids) (xs ys : List (ℕ × List Member)) → linked_keys lids (xs ++ ys) ≡ linked_keys lids xs ++ linked_keys lids ys
linked_keys_split lids xs ys = flat_map-append (λ l. member_keys lids l.1) xs ys

-- the members of one linkage
pub looks_one : {V : Type 0} (lids : Lids) (item : ℕ × List Member) (members : List Member) (b c : Recording V) → members ≡ item.1
    → LooksAt (is_row_in (member_keys lids members)) b c → LooksAt (is_row_in (linked_keys lids (item ∷ []))) b c
looks_one lids item members b c is f =
    subst (λ (ks : List Key). LooksAt (is_row_in ks) b c) (ap (member_keys lids) is ∙ sym (append-nil (member_keys lids item.1))) f

-- the refusal of one linkage, by what its pointer and its members are
pub refused_alike : (test : Key → Bool) (lids : Lids) (linkage pointer : List ℕ) (members given : List Member) → linkage ≡ pointer → members ≡ given
    → refuse_linkage test lids linkage [] members ≡ refuse_linkage test lids pointer [] given
refused_alike test lids linkage pointer members given same is =
    ap (λ p. refuse_linkage test lids p [] members) same ∙ ap (λ ms. refuse_linkage test lids pointer [] ms) is

-- one link set, and the rest to be set
pub set_next : (lids : Lids) (links : List (ℕ × List Member)) (i : ℕ) (item : ℕ × List Member) (old new : List Link) (ids : List (List ℕ)) (members : List Member)
    → i < length links → item ≡ get_or links i item → members ≡ item.1 → ids ≡ append_new [] (member_ids lids members) → new ≡ slice_set old item.0 (link_of (get_or old item.0 no_link) ids)
    → set_links lids new (drop (i + 1) links) ≡ set_links lids old (drop i links)
set_next lids links i item old new ids members lt is same ids_are set =
    ap (λ n. set_links lids new (drop n links)) (add-one i)
    ∙ ap (λ l. set_links lids l (drop (suc i) links)) (set ∙ ap (λ x. slice_set old item.0 (link_of (get_or old item.0 no_link) x)) (ids_are ∙ ap (λ ms. append_new [] (member_ids lids ms)) same))
    ∙ ap (set_links lids old) (ap (λ y. y ∷ drop (suc i) links) is ∙ sym (drop-cons links i item lt))
