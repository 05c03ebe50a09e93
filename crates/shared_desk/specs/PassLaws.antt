-- What a desk of one pass stands for is legal, and its own entries are those with its numbers.
use Rattle.std.proofs.Common.{◌≡◌, ℕ, List, [], ◌∷◌, refl, ap, sym, subst, ◌∙◌, Some, None, Option}
use Rattle.std.specs.Prelude.{filter, if◌then◌else◌}
use Rattle.atomic_table.specs.Seated.{TableId}
use Rattle.ident_rules.specs.Owned.{entries_by, is_among}
use Rattle.world_cells.specs.World.{World}
use Rattle.task_forms.specs.declared.tasks.Entry.{Entry}
use Rattle.task_forms.specs.Desks.{IsOwn}
use Rattle.task_forms.specs.Meaning.{Meaning, IsLegal}
use Rattle.history_lock.specs.Views.{PassState}
use Rattle.shared_desk.specs.Passes.{DeskState, StandsFor, is_own, numbers_of, owner_of}
use Rattle.shared_desk.specs.declared.owners.Owner.{Owner}

own_are_filtered : (numbers : List ℕ) (seen : List Entry) → entries_by (λ e. e.by) numbers seen ≡ filter (is_own numbers) seen
own_are_filtered numbers [] = refl
own_are_filtered numbers (e ∷ seen) = ap (λ (l : List Entry). if is_among e.by numbers then e ∷ l else l) (own_are_filtered numbers seen)

module _ {K : Type 0} (m : Meaning) where
  pub legal_of : (p : Option (PassState Entry K)) (first : ℕ) (w : World) (seen mine : List Entry) → StandsFor m p first w seen mine → IsLegal m w seen
  legal_of None first w seen mine none = absurd none
  legal_of (Some p) first w seen mine stands = subst (λ (x : World). IsLegal m x seen) (sym stands.empty) stands.legal

  pub own_of : (p : Option (PassState Entry K)) (first : ℕ) (w : World) (seen mine : List Entry) → StandsFor m p first w seen mine → IsOwn (is_own (numbers_of p)) seen mine
  own_of None first w seen mine none = absurd none
  own_of (Some p) first w seen mine stands = sym stands.own ∙ own_are_filtered p.view.numbers seen

-- ---- desks with equal owners are of one store, one lock and one pass's numbers

module _ {K : Type 0} where
  lock_in : Owner K → TableId
  lock_in o = record { words = o.words; slots = o.slots; views_name = o.views_name; atom = o.atom; block = o.block; offset = o.offset; slot_names = o.slot_names }

  pub same_lock : (d e : DeskState K) → owner_of d ≡ owner_of e → d.lock ≡ e.lock
  unfolding lock_in
  same_lock d e same = ap lock_in same

  pub same_kind : (d e : DeskState K) → owner_of d ≡ owner_of e → d.kind ≡ e.kind
  same_kind d e same = ap (λ (o : Owner K). o.kind) same

  pub same_numbers : (d e : DeskState K) → owner_of d ≡ owner_of e → numbers_of d.pass ≡ numbers_of e.pass
  same_numbers d e same = ap (λ (o : Owner K). o.numbers) same
