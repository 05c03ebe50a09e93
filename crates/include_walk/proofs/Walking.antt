-- Steps and walks over a recorder, one after another.
use Rattle.std.proofs.Common.{◌≡◌, ℕ, ◌+◌, ◌<◌, ◌≤◌, List, [], ◌∷◌, ◌++◌, Bool, true, false, Option, Result, Ok, Err, length, get_or, take, drop, refl, sym, ap, subst, ◌∙◌, ◌⊎◌, inl, inr, append-nil}
use Rattle.std.specs.Prelude.{◌||◌, ◌&&◌, IsTrue, IsFalse, IfOk}
use Rattle.std.specs.List.{cons_option}
use Rattle.std.proofs.lemmas.List.{take_more, take_all}
use Rattle.std.proofs.lemmas.List.Elements.{filter_map-append}
use Rattle.std.proofs.lemmas.Bool.{or_left, or_right}
use Rattle.ident_rules.specs.declared.key.Key.{Key}
use Rattle.resource_schema.specs.declared.schema.Schema.{Schema}
use Rattle.world_cells.specs.declared.keys.CellKey.{CellKey}
use Rattle.world_cells.specs.declared.keys.CellKey.TheVariants as cell_key
use Rattle.world_cells.specs.declared.rows.Row.{Row}
use Rattle.world_cells.specs.declared.sets.Written.{Written}
use Rattle.world_cells.specs.Reads.{Cells, covers, Leads}
use Rattle.world_cells.specs.World.{World, cell_at, row_at, has_row}
use Rattle.task_forms.specs.declared.queries.Path.{Path}
use Rattle.store_model.specs.Valid.{IsValid}
use Rattle.store_model.specs.Pages.{rows_at}
use Rattle.store_model.specs.Included.{has_key, step, along, reached_keys, included}
use Rattle.store_model.specs.Reach.{is_row_in, reach_walk}
use Rattle.store_model.specs.Laws.{AreIncluded}
use Rattle.view_reads.specs.Recording.{Recording}
use Rattle.view_reads.specs.RecordingLaws.{follows_on}
use Rattle.trial_steps.specs.Runners.{TellsRead}
use Rattle.std.specs.List.Sorted.{IsStrictlySortedBy}
use Rattle.ident_rules.specs.Key.{key_cmp}
use Rattle.trial_steps.specs.Steps.{LooksAt, ReadsWithin, Sees}
use Rattle.trial_steps.specs.StepLaws.{sees_before, sees_after}
use Rattle.include_walk.specs.Sets.{Adds, Takes, AreSame}
use Rattle.include_walk.specs.Reading.{anywhere, reach_along}
use Rattle.include_walk.proofs.Stepping.{by_bool, linked_from, step_more}
use Rattle.include_walk.proofs.Along.{IsOnPath, IsWalked, walk_on, IsWalkedTo, path_on}
use Rattle.include_walk.proofs.Finding.{path_in_reach, found_is, rows_in_reach}

module _ {V : Type 0} (schema : Schema) (cells : V → Cells) where
  -- one key more of a step
  pub step_seen : (rel : ℕ) (keys : List Key) (i : ℕ) (key : Key) (a b c : Recording V) (next more : List Key) → i < length keys → key ≡ get_or keys i key
      → LooksAt (is_row_in (take i keys)) a b → LooksAt (is_row_in (key ∷ [])) b c
      → Sees schema cells a b (λ now. AreSame next (step schema now rel (take i keys))) → Sees schema cells b c (λ now. Adds next (linked_from schema now rel key) more)
      → Sees schema cells a c (λ now. AreSame more (step schema now rel (take (i + 1) keys)))
  step_seen rel keys i key a b c next more lt is ab bc first second = λ w now behind leads.
      step_more schema now rel keys next more i key lt is
      (sees_before schema cells (is_row_in (key ∷ [])) a b c (λ now. AreSame next (step schema now rel (take i keys))) bc first w now behind leads)
      (sees_after schema cells (is_row_in (take i keys)) a b c (λ now. Adds next (linked_from schema now rel key) more) ab second w now behind leads)

  pub step_ends : (rel : ℕ) (keys : List Key) (i : ℕ) (a b : Recording V) (next : List Key) → length keys ≤ i → Sees schema cells a b (λ now. AreSame next (step schema now rel (take i keys))) → Sees schema cells a b (λ now. AreSame next (step schema now rel keys))
  step_ends rel keys i a b next le seen = λ w now behind leads. subst (λ (ks : List Key). AreSame next (step schema now rel ks)) (take_all i keys le) (seen w now behind leads)

  -- one step more of a path
  pub walk_seen : (primaries : List Key) (path : List ℕ) (i d : ℕ) (a b c : Recording V) (level slice next later put old reached more : List Key) → i < length path → slice ≡ level → later ≡ next → put ≡ later
      → LooksAt anywhere a b → LooksAt (is_row_in slice) b c → Sees schema cells a b (λ now. IsWalked schema now primaries path i level old reached)
      → Sees schema cells b c (λ now. AreSame next (step schema now (get_or path i d) slice)) → Adds reached put more → Sees schema cells a c (λ now. IsWalked schema now primaries path (i + 1) later old more)
  walk_seen primaries path i d a b c level slice next later put old reached more lt sliced same putting ab bc first second added = λ w now behind leads.
      walk_on schema now behind.now_valid primaries path i d level later old reached more lt
      (sees_before schema cells (is_row_in slice) a b c (λ now. IsWalked schema now primaries path i level old reached) bc first w now behind leads)
      (subst (λ (ks : List Key). AreSame later (step schema now (get_or path i d) ks)) sliced
      (subst (λ (ks : List Key). AreSame ks (step schema now (get_or path i d) slice)) (sym same) (sees_after schema cells anywhere a b c (λ now. AreSame next (step schema now (get_or path i d) slice)) ab second w now behind leads)))
      (subst (λ (ks : List Key). Adds reached ks more) putting added)

  on_path : (now : World) (primaries : List Key) (path : List ℕ) (level : List Key) (k : CellKey) → ((q : Key) → has_key level q ≡ true → IsOnPath schema now primaries path q) → is_row_in level k ≡ true → reach_along schema primaries path now k ≡ true
  on_path now primaries path level (cell_key.Row q) here e = by_place (here q e)
    where
      by_place : IsOnPath schema now primaries path q → reach_along schema primaries path now (cell_key.Row q) ≡ true
      by_place (inl primary) = or_left _ _ primary
      by_place (inr there) = or_right (has_key primaries q) _ there
  on_path now primaries path level (cell_key.Back to from rel) here e = cc e
  on_path now primaries path level (cell_key.Counter n) here e = cc e

  -- what one step more looks at is on the path
  pub walk_within : (primaries : List Key) (path : List ℕ) (i : ℕ) (a b c : Recording V) (level slice old reached : List Key) → slice ≡ level → LooksAt anywhere a b → LooksAt (is_row_in slice) b c
      → Sees schema cells a b (λ now. IsWalked schema now primaries path i level old reached) → ReadsWithin schema cells (reach_along schema primaries path) a b → ReadsWithin schema cells (reach_along schema primaries path) a c
  walk_within primaries path i a b c level slice old reached sliced ab bc seen within = λ w now valid same now_valid leads k new past.
      by_bool (covers b.reads k)
      (λ before. within w now valid same now_valid leads k before past)
      (λ after. on_path now primaries path level k
      (sees_before schema cells (is_row_in slice) a b c (λ now. IsWalked schema now primaries path i level old reached) bc seen w now (record { valid = valid; agrees = λ j e. same j; now_valid = now_valid }) leads).here
      (subst (λ (ks : List Key). is_row_in ks k ≡ true) sliced (bc.within k new after)))

  -- one path more
  pub path_seen : (primaries : List Key) (paths : List Path) (j : ℕ) (path : Path) (rels : List ℕ) (a b c : Recording V) (reached more : List Key) → j < length paths → path ≡ get_or paths j path → rels ≡ path.rels → LooksAt anywhere a b → LooksAt anywhere b c
      → Sees schema cells a b (λ now. IsWalkedTo schema now primaries paths j reached) → Sees schema cells b c (λ now. Adds reached (along schema now rels primaries) more)
      → Sees schema cells a c (λ now. IsWalkedTo schema now primaries paths (j + 1) more)
  path_seen primaries paths j path rels a b c reached more lt is of_path ab bc first second = λ w now behind leads.
      path_on schema now primaries paths j path reached more lt is
      (sees_before schema cells anywhere a b c (λ now. IsWalkedTo schema now primaries paths j reached) bc first w now behind leads)
      (subst (λ (rs : List ℕ). Adds reached (along schema now rs primaries) more) of_path (sees_after schema cells anywhere a b c (λ now. Adds reached (along schema now rels primaries) more) ab second w now behind leads))

  pub path_within : (primaries : List Key) (paths : List Path) (j : ℕ) (path : Path) (rels : List ℕ) (a b c : Recording V) → j < length paths → path ≡ get_or paths j path → rels ≡ path.rels → LooksAt anywhere a b
      → ReadsWithin schema cells (reach_walk schema primaries paths) a b → ReadsWithin schema cells (reach_along schema primaries rels) b c → ReadsWithin schema cells (reach_walk schema primaries paths) a c
  path_within primaries paths j path rels a b c lt is of_path ab first second = λ w now valid same now_valid leads k new past.
      by_bool (covers b.reads k)
      (λ before. first w now valid same now_valid leads k before past)
      (λ after. path_in_reach schema now now_valid primaries paths j path k lt is
      (subst (λ (rs : List ℕ). reach_along schema primaries rs now k ≡ true) of_path
      (second w now valid (λ i. same i ∙ ap (λ (s : V). cells s i) (sym ab.follows.store)) now_valid
      (subst (λ (ws : List Written). Leads (cell_at schema w) ws (cell_at schema now)) (sym ab.writes) leads) k new after)))

-- ---- rows at keys

module _ {V : Type 0} (schema : Schema) (cells : V → Cells) where
  pub rows_seen : (keys : List Key) (i : ℕ) (key : Key) (a b c : Recording V) (rows more : List Row) (found : Option Row) → i < length keys → key ≡ get_or keys i key
      → LooksAt (is_row_in (take i keys)) a b → LooksAt (is_row_in (key ∷ [])) b c
      → Sees schema cells a b (λ now. rows ≡ rows_at now (take i keys)) → Sees schema cells b c (λ now. found ≡ row_at now key) → more ≡ rows ++ cons_option found []
      → Sees schema cells a c (λ now. more ≡ rows_at now (take (i + 1) keys))
  rows_seen keys i key a b c rows more found lt is ab bc first second pushed = λ w now behind leads.
      pushed ∙ ap (λ xs. xs ++ cons_option found []) (sees_before schema cells (is_row_in (key ∷ [])) a b c (λ now. rows ≡ rows_at now (take i keys)) bc first w now behind leads)
      ∙ ap (λ o. rows_at now (take i keys) ++ cons_option o []) (sees_after schema cells (is_row_in (take i keys)) a b c (λ now. found ≡ row_at now key) ab second w now behind leads)
      ∙ sym (ap (rows_at now) (take_more keys i key lt ∙ ap (λ (k : Key). take i keys ++ k ∷ []) (sym is)) ∙ filter_map-append (row_at now) (take i keys) (key ∷ []))

  pub rows_end : (keys : List Key) (i : ℕ) (a b : Recording V) (rows : List Row) → length keys ≤ i → Sees schema cells a b (λ now. rows ≡ rows_at now (take i keys)) → Sees schema cells a b (λ now. rows ≡ rows_at now keys)
  rows_end keys i a b rows le seen = λ w now behind leads. subst (λ (ks : List Key). rows ≡ rows_at now ks) (take_all i keys le) (seen w now behind leads)

-- ---- all together

module _ {V : Type 0} (schema : Schema) (cells : V → Cells) (primaries : List Key) (paths : List Path) (a b c : Recording V) (reached left keys slice : List Key) (ab : LooksAt anywhere a b) (bc : LooksAt (is_row_in slice) b c)
    (seen : Sees schema cells a b (λ now. AreSame reached (reached_keys schema now primaries paths))) (takes : Takes reached primaries left) (all : keys ≡ left) (sliced : slice ≡ keys) (rising : IsStrictlySortedBy key_cmp keys)
    (within : ReadsWithin schema cells (reach_walk schema primaries paths) a b)
    (one : (s : Schema) (v : World) (ks : List Key) (ps : List Path) (x y : List Row) → AreIncluded s v ks ps x → AreIncluded s v ks ps y → x ≡ y)
    (law : (s : Schema) (v : World) (ks : List Key) (ps : List Path) → IsValid s v → AreIncluded s v ks ps (included s v ks ps)) where
  reads : ReadsWithin schema cells (reach_walk schema primaries paths) a c
  reads = λ w now valid same now_valid leads k new past.
      by_bool (covers b.reads k)
      (λ before. within w now valid same now_valid leads k before past)
      (λ after. rows_in_reach schema now now_valid primaries paths reached left keys k
      (sees_before schema cells (is_row_in slice) a b c (λ now. AreSame reached (reached_keys schema now primaries paths)) bc seen w now (record { valid = valid; agrees = λ j e. same j; now_valid = now_valid }) leads)
      takes all (subst (λ (ks : List Key). is_row_in ks k ≡ true) sliced (bc.within k new after)))

  pub walked : {T E : Type 0} (items : T → List Row) (r : Result T E) → Sees schema cells b c (λ now. IfOk r (λ x. items x ≡ rows_at now slice)) → IfOk r (λ x. TellsRead schema cells (reach_walk schema primaries paths) (λ now. items x ≡ included schema now primaries paths) a c)
  walked items (Err e) told = tt
  walked items (Ok x) told = record {
    follows = follows_on a b c ab.follows bc.follows;
    unwritten = bc.writes ∙ ab.writes;
    tells = λ w now behind leads. found_is schema now behind.now_valid primaries paths reached left keys
        (sees_before schema cells (is_row_in slice) a b c (λ now. AreSame reached (reached_keys schema now primaries paths)) bc seen w now behind leads) takes all (items x) rising
        (sees_after schema cells anywhere a b c (λ now. items x ≡ rows_at now slice) ab told w now behind leads ∙ ap (rows_at now) sliced) one law;
    within = reads;
  }
