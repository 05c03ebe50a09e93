-- A commit leads from a history to the history with its entry.
use Rattle.std.proofs.Common.{◌≡◌, ◌≢◌, ◌⊎◌, ℕ, zero, suc, ◌+◌, ◌-◌, ◌<◌, ◌≤◌, List, [], ◌∷◌, ◌++◌, length, take, Option, Some, None, refl, sym, ap, ◌∙◌, subst, inl, inr, ⊎_elim, arith, add-zero, append_assoc, length-append}
use Rattle.std.specs.Prelude.{unwrap_or}
use Rattle.std.specs.FinMap.Entries.{find}
use Rattle.world_cells.specs.declared.keys.CellKey.{CellKey}
use Rattle.world_cells.specs.declared.sets.ReadSet.{ReadSet}
use Rattle.world_cells.specs.declared.sets.Written.{Written}
use Rattle.task_forms.specs.declared.tasks.Task.{Task}
use Rattle.http_messages.specs.declared.messages.Reply.{Reply}
use Rattle.task_forms.specs.declared.tasks.Entry.{Entry}
use Rattle.world_cells.specs.CellOrder.{cell_key_cmp}
use Rattle.world_cells.specs.World.{World}
use Rattle.world_cells.specs.Reads.{Cells, AgreeOn, entries_of, overlay, Leads}
use Rattle.world_cells.specs.Lists.{IsIn}
use Rattle.task_forms.specs.Meaning.{Meaning, IsLawful}
use Rattle.task_forms.specs.MeaningLaws.{after_more}
use Rattle.history_model.specs.Trials.{IsTried}
use Rattle.task_forms.specs.Meaning.{world_after, AreAnswers, IsLegal}
use Rattle.history_model.specs.Histories.{world_at, Exactly, Noted, Writings, IsAbove}
use Rattle.history_model.specs.Standing.{IsLastOf, Log, Keeps, Stands, NoneMeets, Pushes}
use Rattle.history_model.proofs.LogLaws.{RisesAbove}
use Rattle.history_model.specs.Laws.{TakesEntry}

not_less : (a b : ℕ) → (a < b → ⊥) → b ≤ a
not_less a b h = grind (arith)

rises_from : (n k : ℕ) (xs : List Noted) → n ≤ k → RisesAbove k xs → RisesAbove n xs
rises_from n k [] le h = tt
rises_from n k (x ∷ xs) le h = (let a = h.0 in omega arith, h.1)

before_last : (n : ℕ) (front : List Noted) (x : Noted) (rest : List Noted) → RisesAbove n (front ++ x ∷ rest) → n < x.number
before_last n [] x rest h = h.0
before_last n (y ∷ ys) x rest h = let a = h.0 in let b = before_last y.number ys x rest h.1 in omega arith

none_later : (reads : ReadSet) (s t : ℕ) (xs : List Noted) → s ≤ t → NoneMeets reads s xs → NoneMeets reads t xs
none_later reads s t [] le h = tt
none_later reads s t (x ∷ xs) le h = ((λ lt. h.0 (omega arith)), none_later reads s t xs le h.1)

-- what was dropped is too old to count
none_dropped : (reads : ReadSet) (s n : ℕ) (front : List Noted) (x : Noted) (rest : List Noted) → RisesAbove n (front ++ x ∷ rest) → x.number ≤ s → NoneMeets reads s rest → NoneMeets reads s (front ++ x ∷ rest)
none_dropped reads s n [] x rest asc le h = ((λ lt _. absurd (omega arith)), h)
none_dropped reads s n (y ∷ ys) x rest asc le h =
    let b = before_last y.number ys x rest asc.1 in
    ((λ lt _. absurd (omega arith)), none_dropped reads s y.number ys x rest asc.1 le h)

none_of_all : (reads : ReadSet) (s n : ℕ) (log : Log) (ws : List Noted) → Keeps log ws → RisesAbove n ws → (IsAbove s log.dropped → ⊥) → NoneMeets reads s log.kept → NoneMeets reads s ws
none_of_all reads s n log ws keeps asc young none = cases log.dropped keeps.last young
  where
    cases : (d : Option ℕ) → IsLastOf d keeps.old → (IsAbove s d → ⊥) → NoneMeets reads s ws
    cases None last y = subst (NoneMeets reads s) (sym (keeps.all ∙ ap (λ l. l ++ log.kept) last)) none
    cases (Some k) last y =
        let all : ws ≡ last.0 ++ last.1 ∷ log.kept = keeps.all ∙ (ap (λ l. l ++ log.kept) last.2 ∙ append_assoc last.0 (last.1 ∷ []) log.kept) in
        let le : k ≤ s = not_less s k y in
        let is : last.1.number ≡ k = last.3 in
        subst (NoneMeets reads s) (sym all) (none_dropped reads s n last.0 last.1 log.kept (subst (RisesAbove n) all asc) (omega arith) none)

overlay_at : (writes : List Written) (f g : Cells) (k : CellKey) → f k ≡ g k → overlay f writes k ≡ overlay g writes k
overlay_at writes f g k e = ap (unwrap_or (find cell_key_cmp k (entries_of writes))) e

exactly_as : (keys : List CellKey) (f f' g g' : Cells) → ((k : CellKey) → f k ≡ g k) → ((k : CellKey) → f' k ≡ g' k) → Exactly keys f f' → Exactly keys g g'
exactly_as keys f f' g g' p q ex =
    record {
      differ = λ k i e. ex.differ k i (p k ∙ (e ∙ sym (q k)));
      same = λ k. ⊎_elim (λ i. inl i) (λ e. inr (sym (p k) ∙ (e ∙ q k))) (ex.same k);
    }

module _ (m : Meaning) where
  valid_after : IsLawful m → (w : World) (es : List Entry) → m.valid w → AreAnswers m w es → m.valid (world_after m w es)
  valid_after lawful w [] v l = v
  valid_after lawful w (e ∷ es) v l = valid_after lawful (m.effect w e.task) es (lawful.keeps w e.task v l.0) l.2

  legal_more : (w : World) (es : List Entry) (e : Entry) → AreAnswers m w es → m.fit e.task → e.reply ≡ m.answer (world_after m w es) e.task → AreAnswers m w (es ++ e ∷ [])
  legal_more w [] e l f r = (f, r, tt)
  legal_more w (x ∷ xs) e l f r = (l.0, l.1, legal_more (m.effect w x.task) xs e l.2 f r)

  ascends : (n : ℕ) (w : World) (es : List Entry) (ws : List Noted) → Writings m n w es ws → RisesAbove n ws
  ascends n w [] ws h = subst (RisesAbove n) (sym h) tt
  ascends n w (e ∷ es) ws (inl h) = rises_from n (n + 1) ws (omega arith) (ascends (n + 1) (m.effect w e.task) es ws h.1)
  ascends n w (e ∷ es) ws (inr h) = subst (RisesAbove n) (sym h.2) (omega arith, ascends (n + 1) (m.effect w e.task) es h.1 h.5)

  -- reads that no later entry meets find the same
  agree_all : (reads : ReadSet) (n : ℕ) (w : World) (es : List Entry) (ws : List Noted) → Writings m n w es ws → NoneMeets reads n ws → AgreeOn reads (m.cells w) (m.cells (world_after m w es))
  agree_all reads n w [] ws h none = λ k i. refl
  agree_all reads n w (e ∷ es) ws (inl h) none =
      λ k i. h.0 k ∙ agree_all reads (n + 1) (m.effect w e.task) es ws h.1 (none_later reads n (n + 1) ws (omega arith) none) k i
  agree_all reads n w (e ∷ es) ws (inr h) none =
      let none' = subst (NoneMeets reads n) h.2 none in
      λ k i. ⊎_elim (λ there. absurd (none'.0 (omega arith) (k, i, there))) (λ same. same) (h.4.same k)
      ∙ agree_all reads (n + 1) (m.effect w e.task) es h.1 h.5 (none_later reads n (n + 1) h.1 (omega arith) none'.1) k i

  agree_at : (reads : ReadSet) (i n : ℕ) (w : World) (es : List Entry) (ws : List Noted) → Writings m n w es ws → NoneMeets reads (n + i) ws → AgreeOn reads (m.cells (world_after m w (take i es))) (m.cells (world_after m w es))
  agree_at reads zero n w es ws h none = agree_all reads n w es ws h (subst (λ k. NoneMeets reads k ws) (add-zero n) none)
  agree_at reads (suc i) n w [] ws h none = λ k j. refl
  agree_at reads (suc i) n w (e ∷ es) ws (inl h) none =
      let p : n + suc i ≡ (n + 1) + i = omega arith in
      agree_at reads i (n + 1) (m.effect w e.task) es ws h.1 (subst (λ k. NoneMeets reads k ws) p none)
  agree_at reads (suc i) n w (e ∷ es) ws (inr h) none =
      let p : n + suc i ≡ (n + 1) + i = omega arith in
      agree_at reads i (n + 1) (m.effect w e.task) es h.1 h.5 (subst (λ k. NoneMeets reads k h.1) p (subst (NoneMeets reads (n + suc i)) h.2 none).1)

  writings_same : (n : ℕ) (w : World) (es : List Entry) (ws : List Noted) (e : Entry) → Writings m n w es ws → ((k : CellKey) → m.cells (world_after m w es) k ≡ m.cells (m.effect (world_after m w es) e.task) k) → Writings m n w (es ++ e ∷ []) ws
  writings_same n w [] ws e h s = inl (s, h)
  writings_same n w (x ∷ xs) ws e (inl h) s = inl (h.0, writings_same (n + 1) (m.effect w x.task) xs ws e h.1 s)
  writings_same n w (x ∷ xs) ws e (inr h) s = inr (h.0, h.1, h.2, h.3, h.4, writings_same (n + 1) (m.effect w x.task) xs h.1 e h.5 s)

  writings_more : (n : ℕ) (w : World) (es : List Entry) (ws : List Noted) (e : Entry) (keys : List CellKey) (num : ℕ) → Writings m n w es ws → keys ≢ [] → Exactly keys (m.cells (world_after m w es)) (m.cells (m.effect (world_after m w es) e.task)) → num ≡ n + length es + 1
      → Writings m n w (es ++ e ∷ []) (ws ++ record { number = num; keys = keys } ∷ [])
  writings_more n w [] ws e keys num h ne ex is =
      let q : num ≡ n + 1 = omega arith in
      inr (keys, [], (λ i. h i ++ record { number = q i; keys = keys } ∷ []), ne, ex, refl)
  writings_more n w (x ∷ xs) ws e keys num (inl h) ne ex is =
      inl (h.0, writings_more (n + 1) (m.effect w x.task) xs ws e keys num h.1 ne ex (omega arith))
  writings_more n w (x ∷ xs) ws e keys num (inr h) ne ex is =
      inr (h.0, h.1 ++ record { number = num; keys = keys } ∷ [], ap (λ (l : List Noted). l ++ record { number = num; keys = keys } ∷ []) h.2, h.3, h.4, writings_more (n + 1) (m.effect w x.task) xs h.1 e keys num h.5 ne ex (omega arith))

keeps_push : (log : Log) (ws : List Noted) (x : Noted) (new : Log) → Keeps log ws → Pushes log x new → Keeps new (ws ++ x ∷ [])
keeps_push log ws x new k p = by_room (room (length log.kept) log.window k.size)
  where
    room : (a b : ℕ) → a ≤ b → (a < b) ⊎ (a ≡ b)
    room a b le = grind (arith)

    by_list : (l : List Noted) → log.kept ≡ l → length log.kept ≡ log.window → Keeps new (ws ++ x ∷ [])
    by_list [] is whole = let s = k.some in let e : length log.kept ≡ 0 = ap length is in absurd (omega arith)
    by_list (y ∷ ys) is whole =
        let q = p.full y ys is whole in
        let le = length-append ys (x ∷ []) in
        let n : length log.kept ≡ suc (length ys) = ap length is in
        let wide : new.window ≡ log.window = p.window in
        let len : length new.kept ≡ new.window = ap length q.0 ∙ omega arith in
        record {
          old = k.old ++ y ∷ [];
          some = subst (λ n. 0 < n) (sym wide) k.some;
          all = ap (λ l. l ++ x ∷ []) (k.all ∙ ap (λ l. k.old ++ l) is) ∙ (append_assoc k.old (y ∷ ys) (x ∷ []) ∙ (sym (append_assoc k.old (y ∷ []) (ys ++ x ∷ [])) ∙ ap (λ l. (k.old ++ y ∷ []) ++ l) (sym q.0)));
          last = subst (λ d. IsLastOf d (k.old ++ y ∷ [])) (sym q.1) (k.old, y, refl, refl);
          size = omega arith;
          full = inr len;
        }

    by_room : (length log.kept < log.window) ⊎ (length log.kept ≡ log.window) → Keeps new (ws ++ x ∷ [])
    by_room (inl lt) =
        let q = p.room lt in
        let wide : new.window ≡ log.window = p.window in
        let len : length new.kept ≡ length log.kept + 1 = ap length q.0 ∙ length-append log.kept (x ∷ []) in
        record {
          old = k.old;
          some = subst (λ n. 0 < n) (sym wide) k.some;
          all = ap (λ l. l ++ x ∷ []) k.all ∙ (append_assoc k.old log.kept (x ∷ []) ∙ ap (λ l. k.old ++ l) (sym q.0));
          last = subst (λ d. IsLastOf d k.old) (sym q.1) k.last;
          size = omega arith;
          full = ⊎_elim (λ e. inl e) (λ e. absurd (omega arith)) k.full;
        }
    by_room (inr e) = by_list log.kept refl e

-- ---- a commit

module _ (m : Meaning) (lawful : IsLawful m) (f : Cells) (count : ℕ) (log : Log) (first : ℕ) (w : World) (es : List Entry) (st : Stands m f count log first w es) where
  -- a trial that nothing contradicts is right in the last world
  pub trial_holds : (since : ℕ) (t : Task) (reads : ReadSet) (writes : List Written) (r : Reply) → first ≤ since → (IsAbove since log.dropped → ⊥) → NoneMeets reads since log.kept → IsTried m (m.cells (world_at m first w es since)) t reads writes r
      → (r ≡ m.answer (world_after m w es) t) × Leads (m.cells (world_after m w es)) writes (m.cells (m.effect (world_after m w es) t))
  trial_holds since t reads writes r low young none tried =
      let ws = st.noted.0 in
      let p : since ≡ first + (since - first) = omega arith in
      let full = none_of_all reads since first log ws st.noted.2 (ascends m first w es ws st.noted.1) young none in
      tried (world_after m w es) (valid_after m lawful w es st.legal.valid st.legal.answers) (λ k read. sym (agree_at m reads (since - first) first w es ws st.noted.1 (subst (λ k. NoneMeets reads k ws) p full) k read))

  -- a trial on the last cells is right in the last world
  pub last_holds : (t : Task) (reads : ReadSet) (writes : List Written) (r : Reply) → IsTried m f t reads writes r
      → (r ≡ m.answer (world_after m w es) t) × Leads (m.cells (world_after m w es)) writes (m.cells (m.effect (world_after m w es) t))
  last_holds t reads writes r tried = tried (world_after m w es) (valid_after m lawful w es st.legal.valid st.legal.answers) (λ k read. sym (st.cells k))

  module _ (e : Entry) (writes : List Written) (fit : m.fit e.task) (right : e.reply ≡ m.answer (world_after m w es) e.task) (leads_to : Leads (m.cells (world_after m w es)) writes (m.cells (m.effect (world_after m w es) e.task)))
      (f' next : Cells) (keys : List CellKey) (into : (k : CellKey) → f' k ≡ next k) (does : (k : CellKey) → next k ≡ overlay f writes k) (ex : Exactly keys f next) where
    leads : (k : CellKey) → next k ≡ m.cells (m.effect (world_after m w es) e.task) k
    leads k = does k ∙ (overlay_at writes f (m.cells (world_after m w es)) k (st.cells k) ∙ leads_to k)

    cells_now : (k : CellKey) → f' k ≡ m.cells (world_after m w (es ++ e ∷ [])) k
    cells_now k = into k ∙ (leads k ∙ ap (λ (v : World). m.cells v k) (sym (after_more m w es e)))

    changed : Exactly keys (m.cells (world_after m w es)) (m.cells (m.effect (world_after m w es) e.task))
    changed = exactly_as keys f next (m.cells (world_after m w es)) (m.cells (m.effect (world_after m w es) e.task)) st.cells leads ex

    counted_now : count + 1 ≡ first + length (es ++ e ∷ [])
    counted_now = let n = length-append es (e ∷ []) in let c = st.counted in omega arith

    legal_now : IsLegal m w (es ++ e ∷ [])
    legal_now = record { valid = st.legal.valid; answers = legal_more m w es e st.legal.answers fit right }

    pub commit_same : keys ≡ [] → Stands m f' (count + 1) log first w (es ++ e ∷ [])
    commit_same none_changed =
        let still : (k : CellKey) → m.cells (world_after m w es) k ≡ m.cells (m.effect (world_after m w es) e.task) k = λ k. ⊎_elim (λ i. absurd (subst (λ l. IsIn l k) none_changed i)) (λ e. e) (changed.same k) in
        record { legal = legal_now; cells = cells_now; counted = counted_now; noted = (st.noted.0, writings_same m first w es st.noted.0 e st.noted.1 still, st.noted.2) }

    pub commit_more : keys ≢ [] → (num : ℕ) → num ≡ count + 1 → (log' : Log) → Pushes log (record { number = num; keys = keys }) log' → Stands m f' num log' first w (es ++ e ∷ [])
    commit_more some_changed num is log' push =
        let c = st.counted in
        let x : Noted = record { number = num; keys = keys } in
        record {
          legal = legal_now;
          cells = cells_now;
          counted = is ∙ counted_now;
          noted = (st.noted.0 ++ x ∷ [], writings_more m first w es st.noted.0 e keys num st.noted.1 some_changed changed (omega arith), keeps_push log st.noted.0 x log' st.noted.2 push);
        }

-- a store that takes an entry that is right in the last world stands for the history with it
pub takes_entry : (m : Meaning) → IsLawful m → (f f' : Cells) (count : ℕ) (log log' : Log) (first : ℕ) (w : World) (es : List Entry) → Stands m f count log first w es → (e : Entry) (writes : List Written) → m.fit e.task
    → (e.reply ≡ m.answer (world_after m w es) e.task) × Leads (m.cells (world_after m w es)) writes (m.cells (m.effect (world_after m w es) e.task))
    → TakesEntry f f' count log log' writes → Stands m f' (count + 1) log' first w (es ++ e ∷ [])
takes_entry m lawful f f' count log log' first w es st e writes fit right takes = by takes.logged
  where
    same : Stands m f' (count + 1) log first w (es ++ e ∷ []) → log' ≡ log → Stands m f' (count + 1) log' first w (es ++ e ∷ [])
    same stands is = subst (λ l. Stands m f' (count + 1) l first w (es ++ e ∷ [])) (sym is) stands

    by : ((takes.keys ≡ []) × (log' ≡ log)) ⊎ ((takes.keys ≢ []) × Pushes log (record { number = count + 1; keys = takes.keys }) log') → Stands m f' (count + 1) log' first w (es ++ e ∷ [])
    by (inl quiet) = same (commit_same m lawful f count log first w es st e writes fit right.0 right.1 f' f' takes.keys (λ k. refl) takes.written takes.changed quiet.0) quiet.1
    by (inr loud) = commit_more m lawful f count log first w es st e writes fit right.0 right.1 f' f' takes.keys (λ k. refl) takes.written takes.changed loud.0 (count + 1) refl log' loud.1
