-- A walk along a path, one step after another, and along one path after another.
use Rattle.std.proofs.Common.{◌≡◌, ℕ, zero, suc, ◌+◌, ◌<◌, List, [], ◌∷◌, ◌++◌, Bool, true, false, length, get_or, drop, refl, sym, ap, ◌∙◌, ◌⊎◌, inl, inr, arith}
use Rattle.std.specs.Prelude.{◌||◌, ◌&&◌}
use Rattle.std.specs.List.{flat_map}
use Rattle.std.proofs.lemmas.List.{drop_more}
use Rattle.std.proofs.lemmas.Bool.{or_left, or_right}
use Rattle.ident_rules.specs.declared.key.Key.{Key}
use Rattle.resource_schema.specs.declared.schema.Schema.{Schema}
use Rattle.world_cells.specs.World.{World, has_row}
use Rattle.task_forms.specs.declared.queries.Path.{Path}
use Rattle.store_model.specs.Valid.{IsValid}
use Rattle.store_model.specs.Included.{has_key, step, along, reached_keys}
use Rattle.include_walk.specs.Sets.{Adds, AreSame}
use Rattle.include_walk.proofs.Adding.{has_both, or_assoc}
use Rattle.include_walk.proofs.Stepping.{by_either, along_same, step_there}

-- ---- one path

-- a key is a primary, or a row that the path leads to
abbrev pub IsOnPath : Schema → World → List Key → List ℕ → Key → Type 0
IsOnPath schema w primaries path q = (has_key primaries q ≡ true) ⊎ ((has_key (along schema w path primaries) q && has_row w q) ≡ true)

-- How far a walk along a path has come: the keys that it reached, with those that it reaches from this level on, are all; and
-- each key of the level is on the path.
pub record IsWalked (schema : Schema) (w : World) (primaries : List Key) (path : List ℕ) (i : ℕ) (level old reached : List Key) : Type 0 where
  pub all : (q : Key) → (has_key old q || has_key (along schema w path primaries) q) ≡ (has_key reached q || has_key (along schema w (drop i path) level) q)
  pub ahead : (q : Key) → has_key (along schema w (drop i path) level) q ≡ true → has_key (along schema w path primaries) q ≡ true
  pub here : (q : Key) → has_key level q ≡ true → IsOnPath schema w primaries path q

both : (a b : Bool) → a ≡ true → b ≡ true → (a && b) ≡ true
both true b e f = f
both false b e f = cc e

regroup : (r s t : Bool) → (r || (s || t)) ≡ ((r || s) || t)
regroup true s t = refl
regroup false s t = refl

pub walk_begins : (schema : Schema) (w : World) (primaries : List Key) (path : List ℕ) (level old : List Key) → level ≡ primaries → IsWalked schema w primaries path 0 level old old
walk_begins schema w primaries path level old is = record {
  all = λ q. ap (λ (ks : List Key). has_key old q || has_key (along schema w path ks) q) (sym is);
  ahead = λ q e. ap (λ (ks : List Key). has_key (along schema w path ks) q) (sym is) ∙ e;
  here = λ q e. inl (ap (λ (ks : List Key). has_key ks q) (sym is) ∙ e);
}

module _ (schema : Schema) (w : World) (valid : IsValid schema w) (primaries : List Key) (path : List ℕ) (i d : ℕ) (level next old reached more : List Key) (lt : i < length path)
    (walked : IsWalked schema w primaries path i level old reached) (stepped : AreSame next (step schema w (get_or path i d) level)) (added : Adds reached next more) where
  rest : List ℕ
  rest = drop (i + 1) path

  -- what is ahead, split at the next step
  ahead_is : (q : Key) → has_key (along schema w (drop i path) level) q ≡ (has_key next q || has_key (along schema w (drop (i + 1) path) next) q)
  ahead_is q =
      ap (λ (p : List ℕ). has_key (along schema w p level) q) (drop_more path i d lt)
      ∙ has_both (step schema w (get_or path i d) level) (along schema w (drop (i + 1) path) (step schema w (get_or path i d) level)) q
      ∙ ap (λ b. b || has_key (along schema w (drop (i + 1) path) (step schema w (get_or path i d) level)) q) (sym (stepped q))
      ∙ ap (λ b. has_key next q || b) (sym (along_same schema w (drop (i + 1) path) next (step schema w (get_or path i d) level) stepped q))

  pub walk_on : IsWalked schema w primaries path (i + 1) next old more
  walk_on = record {
    all = λ q. walked.all q ∙ ap (λ b. has_key reached q || b) (ahead_is q) ∙ regroup (has_key reached q) (has_key next q) (has_key (along schema w (drop (i + 1) path) next) q)
        ∙ ap (λ b. b || has_key (along schema w (drop (i + 1) path) next) q) (sym (added q));
    ahead = λ q e. walked.ahead q (ahead_is q ∙ or_right (has_key next q) _ e);
    here = λ q e. inr (both _ _ (walked.ahead q (ahead_is q ∙ or_left _ (has_key (along schema w (drop (i + 1) path) next) q) e)) (step_there schema w (get_or path i d) level q valid (sym (stepped q) ∙ e)));
  }

or_false : (b : Bool) → (b || false) ≡ b
or_false true = refl
or_false false = refl

pub walk_ends : (schema : Schema) (w : World) (primaries : List Key) (path : List ℕ) (i : ℕ) (level old reached : List Key) → drop i path ≡ [] → IsWalked schema w primaries path i level old reached
    → Adds old (along schema w path primaries) reached
walk_ends schema w primaries path i level old reached none walked = λ q.
    sym (walked.all q ∙ ap (λ (p : List ℕ). has_key reached q || has_key (along schema w p level) q) none ∙ or_false (has_key reached q))

-- ---- all paths

-- what was reached, and what the paths that are left lead to, are all
abbrev pub IsWalkedTo : Schema → World → List Key → List Path → ℕ → List Key → Type 0
IsWalkedTo schema w primaries paths j reached = (q : Key) → has_key (reached_keys schema w primaries paths) q ≡ (has_key reached q || has_key (reached_keys schema w primaries (drop j paths)) q)

pub path_on : (schema : Schema) (w : World) (primaries : List Key) (paths : List Path) (j : ℕ) (path : Path) (reached more : List Key) → j < length paths → path ≡ get_or paths j path → IsWalkedTo schema w primaries paths j reached
    → Adds reached (along schema w path.rels primaries) more → IsWalkedTo schema w primaries paths (j + 1) more
path_on schema w primaries paths j path reached more lt is walked added = λ q.
    walked q ∙ ap (λ (ps : List Path). has_key reached q || has_key (reached_keys schema w primaries ps) q) (drop_more paths j path lt)
    ∙ ap (λ (p : Path). has_key reached q || has_key (reached_keys schema w primaries (p ∷ drop (j + 1) paths)) q) (sym is)
    ∙ ap (λ b. has_key reached q || b) (has_both (along schema w path.rels primaries) (reached_keys schema w primaries (drop (j + 1) paths)) q)
    ∙ regroup (has_key reached q) (has_key (along schema w path.rels primaries) q) (has_key (reached_keys schema w primaries (drop (j + 1) paths)) q)
    ∙ ap (λ b. b || has_key (reached_keys schema w primaries (drop (j + 1) paths)) q) (sym (added q))

pub paths_end : (schema : Schema) (w : World) (primaries : List Key) (paths : List Path) (j : ℕ) (reached : List Key) → drop j paths ≡ [] → IsWalkedTo schema w primaries paths j reached → AreSame reached (reached_keys schema w primaries paths)
paths_end schema w primaries paths j reached none walked = λ q.
    sym (walked q ∙ ap (λ (ps : List Path). has_key reached q || has_key (reached_keys schema w primaries ps) q) none ∙ or_false (has_key reached q))

-- what one of the paths leads to, all do
pub among_paths : (schema : Schema) (w : World) (primaries : List Key) (paths : List Path) (j : ℕ) (path : Path) (q : Key) → j < length paths → path ≡ get_or paths j path
    → has_key (along schema w path.rels primaries) q ≡ true → has_key (reached_keys schema w primaries paths) q ≡ true
among_paths schema w primaries [] j path q lt is e = absurd (none lt)
  where
    none : j < 0 → ⊥
    none l = omega arith
among_paths schema w primaries (p ∷ paths) j path q lt is e = at (λ i l same. among_paths schema w primaries paths i path q l same e) j lt is
  where
    split : has_key (reached_keys schema w primaries (p ∷ paths)) q ≡ (has_key (along schema w p.rels primaries) q || has_key (reached_keys schema w primaries paths) q)
    split = has_both (along schema w p.rels primaries) (reached_keys schema w primaries paths) q

    at : ((i : ℕ) → i < length paths → path ≡ get_or paths i path → has_key (reached_keys schema w primaries paths) q ≡ true) → (i : ℕ) → i < length (p ∷ paths) → path ≡ get_or (p ∷ paths) i path → has_key (reached_keys schema w primaries (p ∷ paths)) q ≡ true
    at later zero l same = split ∙ or_left _ _ (ap (λ (x : Path). has_key (along schema w x.rels primaries) q) (sym same) ∙ e)
    at later (suc i) l same = split ∙ or_right (has_key (along schema w p.rels primaries) q) _ (later i (omega arith) same)
