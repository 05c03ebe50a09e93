-- What the changed links of a row leave at each cell key, and the world that the writes lead to then.
use Rattle.std.proofs.Common.{◌≡◌, ℕ, ◌+◌, List, [], ◌∷◌, Bool, true, false, nat_lt, refl, sym, ap, subst, ◌∙◌, Option, arith}
use Rattle.std.specs.Prelude.{cond, ◌&&◌, ◌||◌, ◌==◌, map}
use Rattle.std.specs.List.{list_any}
use Rattle.std.specs.Ordering.{is_eq, ordering_then, nat_cmp, eq_by_cmp}
use Rattle.std.specs.Cmp.{unsigned_tied}
use Rattle.std.proofs.lemmas.Bool.{le-ltb}
use Rattle.std.proofs.lemmas.Bool.Decides.{nat_tests}
use Rattle.ident_rules.specs.declared.key.Key.{Key}
use Rattle.ident_rules.specs.IdOrder.{number_is}
use Rattle.ident_rules.specs.Key.{key_cmp, same_key}
use Rattle.resource_schema.specs.declared.schema.Schema.{Schema}
use Rattle.resource_schema.specs.Kinds.{target_of}
use Rattle.world_cells.specs.declared.rows.Link.{Link}
use Rattle.world_cells.specs.declared.keys.CellKey.{CellKey}
use Rattle.world_cells.specs.declared.keys.CellKey.TheVariants as cell_key
use Rattle.world_cells.specs.declared.cells.Cell.{Cell}
use Rattle.world_cells.specs.declared.sets.Written.{Written}
use Rattle.world_cells.specs.Reads.{overlay}
use Rattle.row_writes.specs.WritesBacks.{is_back_of, turned, TurnsBacks, ids_at, leads_to, rewritten, RewritesLinks}
use Rattle.row_writes.proofs.Backs.{same_then}

-- ---- whether a cell key is a way back

no_back_row : (kind : ℕ) (from : Key) (rel : ℕ) (ids : List (List ℕ)) (q : Key) → is_back_of kind from rel ids (cell_key.Row q) ≡ false
no_back_row kind from rel [] q = refl
no_back_row kind from rel (x ∷ ids) q = no_back_row kind from rel ids q

no_back_counter : (kind : ℕ) (from : Key) (rel : ℕ) (ids : List (List ℕ)) (m : ℕ) → is_back_of kind from rel ids (cell_key.Counter m) ≡ false
no_back_counter kind from rel [] m = refl
no_back_counter kind from rel (x ∷ ids) m = no_back_counter kind from rel ids m

and_false : (b : Bool) → false ≡ (b && false)
and_false true = refl
and_false false = refl

gather : (s t r : Bool) → ((s && t) || (t && r)) ≡ (t && (s || r))
gather true true r = refl
gather false true r = refl
gather true false r = refl
gather false false r = refl

same_ways : (to other from key : Key) (r rel : ℕ)
    → is_eq (ordering_then (key_cmp to other) (ordering_then (key_cmp from key) (nat_cmp r rel))) ≡ (same_key to other && (same_key from key && eq_by_cmp nat_cmp r rel))
same_ways to other from key r rel = same_then _ _ ∙ ap (λ b. same_key to other && b) (same_then _ _)

-- of the row and the number, and from one of the ids
back_test : (kind : ℕ) (key : Key) (rel : ℕ) (ids : List (List ℕ)) (to from : Key) (r : ℕ)
    → is_back_of kind key rel ids (cell_key.Back to from r)
    ≡ ((same_key from key && eq_by_cmp nat_cmp r rel) && list_any (same_key to) (map (λ x. record { kind = kind; id = x }) ids))
back_test kind key rel [] to from r = and_false _
back_test kind key rel (x ∷ ids) to from r =
    ap (λ b. b || is_back_of kind key rel ids (cell_key.Back to from r)) (same_ways to (record { kind = kind; id = x }) from key r rel)
    ∙ ap (λ b. (same_key to (record { kind = kind; id = x }) && (same_key from key && eq_by_cmp nat_cmp r rel)) || b) (back_test kind key rel ids to from r)
    ∙ gather (same_key to (record { kind = kind; id = x })) (same_key from key && eq_by_cmp nat_cmp r rel) (list_any (same_key to) (map (λ y. record { kind = kind; id = y }) ids))

-- ---- one more link

turn_step : (f e l m was_e is_e was is : Bool) (c : Option Cell) → (e ≡ true → was_e ≡ was) → (e ≡ true → is_e ≡ is) → (e ≡ true → l ≡ false) → m ≡ (l || e)
    → turned ((f && e) && was_e) ((f && e) && is_e) (cond (f && l) (turned was is c) c) ≡ cond (f && m) (turned was is c) c
turn_step false e l m was_e is_e was is c w i s p = refl
turn_step true false true m was_e is_e was is c w i s p = rw p refl
turn_step true false false m was_e is_e was is c w i s p = rw p refl
turn_step true true true m was_e is_e was is c w i s p = cc (s refl)
turn_step true true false m was_e is_e was is c w i s p = rw (p, w refl, i refl) refl

lt_itself : (n : ℕ) → nat_lt n n ≡ false
lt_itself n = le-ltb n n (omega arith)

one_later : (r i : ℕ) → nat_lt r (i + 1) ≡ (nat_lt r i || (r == i))
one_later r i = grind (arith, nat_tests)

lt_more : (r i : ℕ) → nat_lt r (i + 1) ≡ (nat_lt r i || eq_by_cmp nat_cmp r i)
lt_more r i = one_later r i ∙ ap (λ b. nat_lt r i || b) (sym (unsigned_tied r i))

step_at : (schema : Schema) (key : Key) (old new : List Link) (i : ℕ) (k : CellKey) (c : Option Cell)
    → turned (is_back_of (target_of schema key.kind i) key i (ids_at old i) k) (is_back_of (target_of schema key.kind i) key i (ids_at new i) k) (rewritten schema key old new i k c)
    ≡ rewritten schema key old new (i + 1) k c
step_at schema key old new i (cell_key.Row q) c = rw (no_back_row (target_of schema key.kind i) key i (ids_at old i) q, no_back_row (target_of schema key.kind i) key i (ids_at new i) q) refl
step_at schema key old new i (cell_key.Counter m) c = rw (no_back_counter (target_of schema key.kind i) key i (ids_at old i) m, no_back_counter (target_of schema key.kind i) key i (ids_at new i) m) refl
step_at schema key old new i (cell_key.Back to from r) c =
    ap (λ b. turned b (is_back_of (target_of schema key.kind i) key i (ids_at new i) (cell_key.Back to from r)) (rewritten schema key old new i (cell_key.Back to from r) c))
    (back_test (target_of schema key.kind i) key i (ids_at old i) to from r)
    ∙ ap (λ b. turned ((same_key from key && eq_by_cmp nat_cmp r i) && leads_to schema key.kind old i to) b (rewritten schema key old new i (cell_key.Back to from r) c))
    (back_test (target_of schema key.kind i) key i (ids_at new i) to from r)
    ∙ turn_step (same_key from key) (eq_by_cmp nat_cmp r i) (nat_lt r i) (nat_lt r (i + 1))
    (leads_to schema key.kind old i to) (leads_to schema key.kind new i to) (leads_to schema key.kind old r to) (leads_to schema key.kind new r to) c
    (λ e. ap (λ n. leads_to schema key.kind old n to) (sym (number_is r i e)))
    (λ e. ap (λ n. leads_to schema key.kind new n to) (sym (number_is r i e)))
    (λ e. ap (λ n. nat_lt n i) (number_is r i e) ∙ lt_itself i)
    (lt_more r i)

links_start : (schema : Schema) (key : Key) (old new : List Link) (k : CellKey) (c : Option Cell) → c ≡ rewritten schema key old new 0 k c
links_start schema key old new (cell_key.Row q) c = refl
links_start schema key old new (cell_key.Counter m) c = refl
links_start schema key old new (cell_key.Back to from r) c = ap (λ b. cond b (turned (leads_to schema key.kind old r to) (leads_to schema key.kind new r to) c) c) (and_false (same_key from key) ∙ ap (λ b. same_key from key && b) (sym (le-ltb r 0 (omega arith))))

-- no link so far
pub rewrote_none : (schema : Schema) (key : Key) (old new : List Link) (start : List Written) → RewritesLinks schema key old new 0 start start
rewrote_none schema key old new start f k = links_start schema key old new k (overlay f start k)

-- one more link
pub rewrote_more : (schema : Schema) (key : Key) (old new : List Link) (i kind : ℕ) (left led : List (List ℕ)) (start before after : List Written)
    → kind ≡ target_of schema key.kind i → left ≡ ids_at old i → led ≡ ids_at new i
    → RewritesLinks schema key old new i start before → TurnsBacks kind key i left led before after → RewritesLinks schema key old new (i + 1) start after
rewrote_more schema key old new i kind left led start before after is_kind is_left is_led links turns f k =
    subst (λ (x : ℕ × List (List ℕ) × List (List ℕ)). TurnsBacks x.0 key i x.1 x.2 before after) (λ j. (is_kind j, is_left j, is_led j)) turns f k
    ∙ ap (turned (is_back_of (target_of schema key.kind i) key i (ids_at old i) k) (is_back_of (target_of schema key.kind i) key i (ids_at new i) k)) (links f k)
    ∙ step_at schema key old new i k (overlay f start k)
