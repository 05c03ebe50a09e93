-- One runner after another: what both tell, and what they look at.
use Rattle.std.proofs.Common.{◌≡◌, Bool, List, Result, Ok, Err, sym, subst, ◌∙◌}
use Rattle.std.specs.Prelude.{IfOk, IsTrue}
use Rattle.resource_schema.specs.declared.schema.Schema.{Schema}
use Rattle.world_cells.specs.declared.keys.CellKey.{CellKey}
use Rattle.world_cells.specs.declared.sets.Written.{Written}
use Rattle.world_cells.specs.Reads.{Cells, covers, Leads}
use Rattle.world_cells.specs.World.{World, cell_at}
use Rattle.store_model.specs.Valid.{IsValid}
use Rattle.view_reads.specs.Recording.{Recording}
use Rattle.view_reads.specs.RecordingLaws.{follows_on}
use Rattle.trial_steps.specs.Steps.{LooksAt, Sees, StandsBehind}
use Rattle.trial_steps.specs.StepLaws.{stands_before}
use Rattle.trial_steps.specs.Runners.{TellsRead}
use Rattle.compound_document.proofs.Lists.{by_bool}

pub map_ok : {A E : Type 0} (P Q : A → Type 0) (r : Result A E) → ((x : A) → P x → Q x) → IfOk r P → IfOk r Q
map_ok P Q (Ok x) f h = f x h
map_ok P Q (Err e) f h = tt

module _ {V : Type 0} (schema : Schema) (cells : V → Cells) where
  -- a step
  pub told_step : {T E : Type 0} (test : CellKey → Bool) (P : T → World → Type 0) (a b : Recording V) (r : Result T E) → LooksAt test a b → Sees schema cells a b (λ now. IfOk r (λ x. P x now)) → IfOk r (λ x. TellsRead schema cells (λ now. test) (P x) a b)
  told_step test P a b (Ok x) looks sees = record { follows = looks.follows; unwritten = looks.writes; tells = sees; within = λ w now valid same now_valid leads k new old. looks.within k new old }
  told_step test P a b (Err e) looks sees = tt

  -- a step that came through
  pub told_looked : (test : CellKey → Bool) (P : World → Type 0) (a b : Recording V) → LooksAt test a b → Sees schema cells a b P → TellsRead schema cells (λ now. test) P a b
  told_looked test P a b looks sees = record { follows = looks.follows; unwritten = looks.writes; tells = sees; within = λ w now valid same now_valid leads k new old. looks.within k new old }

  -- what follows from what is told, and more that may be looked at
  pub told_so : (first reach : World → CellKey → Bool) (P R : World → Type 0) (a b : Recording V)
      → ((now : World) → IsValid schema now → P now → R now)
      → ((now : World) (k : CellKey) → IsValid schema now → P now → IsTrue (first now k) → IsTrue (reach now k))
      → TellsRead schema cells first P a b → TellsRead schema cells reach R a b
  told_so first reach P R a b so more f = record {
    follows = f.follows;
    unwritten = f.unwritten;
    tells = λ w now behind leads. so now behind.now_valid (f.tells w now behind leads);
    within = λ w now valid same now_valid leads k new old.
        more now k now_valid (f.tells w now (record { valid = valid; agrees = λ j e. same j; now_valid = now_valid }) leads) (f.within w now valid same now_valid leads k new old);
  }

  -- one runner, and then another
  pub told_then : (first second reach : World → CellKey → Bool) (P Q R : World → Type 0) (a b c : Recording V)
      → ((now : World) → IsValid schema now → P now → Q now → R now)
      → ((now : World) (k : CellKey) → IsValid schema now → P now → IsTrue (first now k) → IsTrue (reach now k))
      → ((now : World) (k : CellKey) → IsValid schema now → P now → IsTrue (second now k) → IsTrue (reach now k))
      → TellsRead schema cells first P a b → TellsRead schema cells second Q b c → TellsRead schema cells reach R a c
  told_then first second reach P Q R a b c both more after f g = record {
    follows = follows_on a b c f.follows g.follows;
    unwritten = g.unwritten ∙ f.unwritten;
    tells = λ w now behind leads. both now behind.now_valid
        (f.tells w now (stands_before schema cells a b c w now g.follows behind) leads)
        (g.tells w now (subst (λ (s : V). StandsBehind schema (cells s) c.reads w now) (sym f.follows.store) behind) (from_there w now leads));
    within = λ w now valid same now_valid leads k new old.
        let told = f.tells w now (record { valid = valid; agrees = λ j e. same j; now_valid = now_valid }) leads in
        by_bool (covers b.reads k)
        (λ before. more now k now_valid told (f.within w now valid same now_valid leads k before old))
        (λ later. after now k now_valid told (g.within w now valid (subst (λ (s : V). (j : CellKey) → cell_at schema w j ≡ cells s j) (sym f.follows.store) same) now_valid (from_there w now leads) k new later));
  }
    where
      from_there : (w now : World) → Leads (cell_at schema w) a.writes (cell_at schema now) → Leads (cell_at schema w) b.writes (cell_at schema now)
      from_there w now leads = subst (λ (ws : List Written). Leads (cell_at schema w) ws (cell_at schema now)) (sym f.unwritten) leads
