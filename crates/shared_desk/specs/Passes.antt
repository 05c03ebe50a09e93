-- What a desk of one pass stands for (of this project).
use Rattle.std.specs.Prelude.{◌≡◌, ℕ, Bool, List, [], Option, Some, None}
use Rattle.atomic_table.specs.Seated.{TableId}
use Rattle.ident_rules.specs.Owned.{entries_by, is_among}
use Rattle.world_cells.specs.World.{World}
use Rattle.task_forms.specs.declared.tasks.Entry.{Entry}
use Rattle.task_forms.specs.Meaning.{Meaning, IsLegal}
use Rattle.history_lock.specs.Views.{PassState}
use Rattle.shared_desk.specs.declared.owners.Owner.{Owner}

-- what contracts see of a desk: its store's kind, the name of the lock, and its pass
pub record DeskState (K : Type 0) : Type 0 where
  pub kind : K
  pub lock : TableId
  pub pass : Option (PassState Entry K)

module _ {K : Type 0} where
  abbrev pub numbers_of : Option (PassState Entry K) → List ℕ
  numbers_of None = []
  numbers_of (Some p) = p.view.numbers

  -- what no call of a desk changes
  abbrev pub owner_of : DeskState K → Owner K
  owner_of d = record {
    kind = d.kind;
    words = d.lock.words;
    slots = d.lock.slots;
    views_name = d.lock.views_name;
    atom = d.lock.atom;
    block = d.lock.block;
    offset = d.lock.offset;
    slot_names = d.lock.slot_names;
    numbers = numbers_of d.pass;
  }

  -- A pass has seen this legal history, and of it these entries are its own.
  pub record StandsOf (m : Meaning) (p : PassState Entry K) (first : ℕ) (w : World) (seen mine : List Entry) : Type 0 where
    pub begins : p.view.first ≡ first
    pub empty : w ≡ m.empty
    pub saw : p.view.seen ≡ seen
    pub has : p.view.mine ≡ mine
    pub own : entries_by (λ e. e.by) p.view.numbers seen ≡ mine
    pub legal : IsLegal m m.empty seen

  abbrev pub StandsFor : Meaning → Option (PassState Entry K) → ℕ → World → List Entry → List Entry → Type 0
  StandsFor m None first w seen mine = ⊥
  StandsFor m (Some p) first w seen mine = StandsOf m p first w seen mine

-- an entry is a pass's own where it was made with one of the pass's numbers
abbrev pub is_own : List ℕ → Entry → Bool
is_own numbers e = is_among e.by numbers
