-- The local ids after a change of the map's entries.
use Rattle.std.proofs.Common.{◌≡◌, ℕ, ◌==◌, ◌&&◌, true, false, cond, List, [], ◌∷◌, ◌++◌, Option, Some, None, option_map, option_and_then, is_some, Global, String, Vec, string_bytes, refl, sym, ap, ◌∙◌}
use Rattle.std.specs.Prelude as plain
use Rattle.std.specs.Str.{bytes_eq}
use Rattle.std.specs.String.{string_eq}
use Rattle.std.specs.Map.{lookup, set_value}
use Rattle.std.specs.Cmp.{unsigned_Decides}
use Rattle.std.specs.FinMap.Entries.{find, find-put, put, is_sorted-put, same_entries}
use Rattle.std.proofs.lemmas.Slice.Eq.{bytes_eq-Decides}
use Rattle.indexmap.specs.IndexMap.{insert_entry}
use Rattle.store_model.specs.Change.{lid_cmp, lid_cmp_total}
use Rattle.local_ids.specs.Pairs.{id_of, lids_of}
use Rattle.local_ids.proofs.Finds.{lid_cmp-IsAntisymmetric, same_lid, find-lids_of, lids_of-sorted}

pub none_from : {A : Type 0} (o : Option A) → is_some o ≡ false → o ≡ None
none_from None e = refl
none_from (Some x) e = cc e

-- ---- look-ups after a change at the text a, at an entry of the text t

module _ {W : Type 0} (a l t : List ℕ) (v w rest : Option W) where
  changed-here : bytes_eq a t ≡ true → cond (bytes_eq l t) w rest ≡ cond (bytes_eq l a) w (cond (bytes_eq l t) v rest)
  changed-here here =
      let same : a ≡ t = (bytes_eq-Decides a t).0 here in
      elim (bytes_eq l t) as (λ b. cond b w rest ≡ cond b w (cond b v rest)) [ true ↦ refl | false ↦ refl ]
      ∙ ap (λ x. cond (bytes_eq l x) w (cond (bytes_eq l t) v rest)) (sym same)

  changed-away : (more : Option W) → bytes_eq a t ≡ false → more ≡ cond (bytes_eq l a) w rest → cond (bytes_eq l t) v more ≡ cond (bytes_eq l a) w (cond (bytes_eq l t) v rest)
  changed-away more away is =
      elim (bytes_eq l t) as (λ b. bytes_eq l t ≡ b → cond b v more ≡ cond (bytes_eq l a) w (cond b v rest)) [
        | true ↦ λ e. elim (bytes_eq l a) as (λ b. bytes_eq l a ≡ b → v ≡ cond b w v) [
          | true ↦ λ f. let same : a ≡ t = sym ((bytes_eq-Decides l a).0 f) ∙ (bytes_eq-Decides l t).0 e in cc (sym away ∙ (bytes_eq-Decides a t).1 same)
          | false ↦ λ f. refl
        ] refl
        | false ↦ λ e. is
      ] refl

lookup-set_value : (a : List ℕ) (es : List (String Global × Vec (ℕ × List ℕ) Global)) (v w : Vec (ℕ × List ℕ) Global) → lookup (λ k. bytes_eq a (string_bytes k)) es ≡ Some v
    → (l : List ℕ) → lookup (λ k. bytes_eq l (string_bytes k)) (set_value (λ k. bytes_eq a (string_bytes k)) es w) ≡ cond (bytes_eq l a) (Some w) (lookup (λ k. bytes_eq l (string_bytes k)) es)
lookup-set_value a [] v w found l = cc found
lookup-set_value a (e ∷ es) v w found l =
    let text = string_bytes e.0 in
    let rest = lookup (λ k. bytes_eq l (string_bytes k)) es in
    elim (bytes_eq a text) as (λ b. bytes_eq a text ≡ b → cond b (Some e.1) (lookup (λ k. bytes_eq a (string_bytes k)) es) ≡ Some v
    → lookup (λ k. bytes_eq l (string_bytes k)) (cond b ((e.0, w) ∷ es) (e ∷ set_value (λ k. bytes_eq a (string_bytes k)) es w)) ≡ cond (bytes_eq l a) (Some w) (cond (bytes_eq l text) (Some e.1) rest)) [
      | true ↦ λ here _. changed-here a l text (Some e.1) (Some w) rest here
      | false ↦ λ away f. changed-away a l text (Some e.1) (Some w) rest _ away (lookup-set_value a es v w f l)
    ] refl found

lookup-insert_entry : (es : List (String Global × Vec (ℕ × List ℕ) Global)) (k : String Global) (w : Vec (ℕ × List ℕ) Global)
    → (l : List ℕ) → lookup (λ k. bytes_eq l (string_bytes k)) (insert_entry string_eq es k w) ≡ cond (bytes_eq l (string_bytes k)) (Some w) (lookup (λ k. bytes_eq l (string_bytes k)) es)
lookup-insert_entry [] k w l = refl
lookup-insert_entry (e ∷ es) k w l =
    let text = string_bytes e.0 in
    let rest = lookup (λ k. bytes_eq l (string_bytes k)) es in
    elim (bytes_eq (string_bytes k) text) as (λ b. bytes_eq (string_bytes k) text ≡ b
    → lookup (λ k. bytes_eq l (string_bytes k)) (cond b ((e.0, w) ∷ es) (e ∷ insert_entry string_eq es k w)) ≡ cond (bytes_eq l (string_bytes k)) (Some w) (cond (bytes_eq l text) (Some e.1) rest)) [
      | true ↦ λ here. changed-here (string_bytes k) l text (Some e.1) (Some w) rest here
      | false ↦ λ away. changed-away (string_bytes k) l text (Some e.1) (Some w) rest _ away (lookup-insert_entry es k w l)
    ] refl

-- ---- one more id

-- behind the ids of a text, where it has none of that type
id_of-more : (kind : ℕ) (id : List ℕ) (ps : List (ℕ × List ℕ)) → id_of ps kind ≡ None → (k : ℕ) → id_of (ps ++ (kind, id) ∷ []) k ≡ cond (kind == k) (Some id) (id_of ps k)
id_of-more kind id [] none k = one (kind, id)
  where
    one : (p : ℕ × List ℕ) → option_map (λ p. p.1) (cond (p.0 == k) (Some p) None) ≡ cond (p.0 == k) (Some p.1) None
    one p = elim (p.0 == k) as (λ b. option_map (λ p. p.1) (cond b (Some p) None) ≡ cond b (Some p.1) None) [ true ↦ refl | false ↦ refl ]
id_of-more kind id (p ∷ ps) none k =
    elim (p.0 == kind) as (λ c. (p.0 == kind) ≡ c → option_map (λ p. p.1) (cond c (Some p) (plain.find (λ p. p.0 == kind) ps)) ≡ None → id_of (p ∷ ps ++ (kind, id) ∷ []) k ≡ cond (kind == k) (Some id) (id_of (p ∷ ps) k)) [
      | true ↦ λ c f. cc f
      | false ↦ λ c f. elim (p.0 == k) as (λ b. (p.0 == k) ≡ b → option_map (λ p. p.1) (cond b (Some p) (plain.find (λ p. p.0 == k) (ps ++ (kind, id) ∷ []))) ≡ cond (kind == k) (Some id) (option_map (λ p. p.1) (cond b (Some p) (plain.find (λ p. p.0 == k) ps)))) [
        | true ↦ λ e. elim (kind == k) as (λ b. (kind == k) ≡ b → Some p.1 ≡ cond b (Some id) (Some p.1)) [
          | true ↦ λ g. let same : p.0 ≡ kind = (unsigned_Decides p.0 k).0 e ∙ sym ((unsigned_Decides kind k).0 g) in cc (sym c ∙ (unsigned_Decides p.0 kind).1 same)
          | false ↦ λ g. refl
        ] refl
        | false ↦ λ e. id_of-more kind id ps f k
      ] refl
    ] refl none

module _ (kind : ℕ) (lid id : List ℕ) (es fs : List (String Global × Vec (ℕ × List ℕ) Global)) (w : Vec (ℕ × List ℕ) Global)
    (at_lid : (l : List ℕ) → lookup (λ k. bytes_eq l (string_bytes k)) fs ≡ cond (bytes_eq l lid) (Some w) (lookup (λ k. bytes_eq l (string_bytes k)) es))
    (one_more : (k : ℕ) → id_of w.items k ≡ cond (kind == k) (Some id) (find lid_cmp (k, lid) (lids_of es))) where
  find-bound : (k : ℕ) (l : List ℕ) → find lid_cmp (k, l) (lids_of fs) ≡ find lid_cmp (k, l) (put lid_cmp (kind, lid) id (lids_of es))
  find-bound k l =
      find-lids_of k l fs
      ∙ ap (option_and_then (λ v. id_of v.items k)) (at_lid l)
      ∙ elim (bytes_eq l lid) as (λ b. bytes_eq l lid ≡ b → option_and_then (λ v. id_of v.items k) (cond b (Some w) (lookup (λ k. bytes_eq l (string_bytes k)) es)) ≡ cond (b && (kind == k)) (Some id) (find lid_cmp (k, l) (lids_of es))) [
        | true ↦ λ here. one_more k ∙ ap (λ t. cond (kind == k) (Some id) (find lid_cmp (k, t) (lids_of es))) (sym ((bytes_eq-Decides l lid).0 here))
        | false ↦ λ away. sym (find-lids_of k l es)
      ] refl
      ∙ ap (λ b. cond b (Some id) (find lid_cmp (k, l) (lids_of es))) (sym (same_lid k l kind lid))
      ∙ sym (find-put lid_cmp lid_cmp_total (k, l) (kind, lid) id (lids_of es))

  lids_of-bound : lids_of fs ≡ put lid_cmp (kind, lid) id (lids_of es)
  lids_of-bound =
      same_entries lid_cmp lid_cmp_total lid_cmp-IsAntisymmetric (lids_of fs) (put lid_cmp (kind, lid) id (lids_of es)) (lids_of-sorted fs)
      (is_sorted-put lid_cmp lid_cmp_total (kind, lid) id (lids_of es) (lids_of-sorted es)) (λ q. find-bound q.0 q.1)

module _ (kind : ℕ) (lid id : List ℕ) (es : List (String Global × Vec (ℕ × List ℕ) Global)) (v w : Vec (ℕ × List ℕ) Global) where
  -- the same ids of a text change nothing
  pub lids_of-same : lookup (λ k. bytes_eq lid (string_bytes k)) es ≡ Some v → w.items ≡ v.items → lids_of (set_value (λ k. bytes_eq lid (string_bytes k)) es w) ≡ lids_of es
  lids_of-same found same =
      let fs = set_value (λ k. bytes_eq lid (string_bytes k)) es w in
      same_entries lid_cmp lid_cmp_total lid_cmp-IsAntisymmetric (lids_of fs) (lids_of es) (lids_of-sorted fs) (lids_of-sorted es) (λ q.
      find-lids_of q.0 q.1 fs
      ∙ ap (option_and_then (λ v. id_of v.items q.0)) (lookup-set_value lid es v w found q.1)
      ∙ elim (bytes_eq q.1 lid) as (λ b. bytes_eq q.1 lid ≡ b → option_and_then (λ v. id_of v.items q.0) (cond b (Some w) (lookup (λ k. bytes_eq q.1 (string_bytes k)) es)) ≡ option_and_then (λ v. id_of v.items q.0) (lookup (λ k. bytes_eq q.1 (string_bytes k)) es)) [
        | true ↦ λ here. ap (λ ps. id_of ps q.0) same ∙ ap (option_and_then (λ v. id_of v.items q.0)) (sym found ∙ ap (λ t. lookup (λ k. bytes_eq t (string_bytes k)) es) (sym ((bytes_eq-Decides q.1 lid).0 here)))
        | false ↦ λ away. refl
      ] refl
      ∙ sym (find-lids_of q.0 q.1 es))

  -- one more id of a text that is there
  pub lids_of-more : lookup (λ k. bytes_eq lid (string_bytes k)) es ≡ Some v → w.items ≡ v.items ++ (kind, id) ∷ [] → find lid_cmp (kind, lid) (lids_of es) ≡ None
      → lids_of (set_value (λ k. bytes_eq lid (string_bytes k)) es w) ≡ put lid_cmp (kind, lid) id (lids_of es)
  lids_of-more found more none =
      let there = λ (k : ℕ). find-lids_of k lid es ∙ ap (option_and_then (λ v. id_of v.items k)) found in
      lids_of-bound kind lid id es _ w (lookup-set_value lid es v w found)
      (λ k. ap (λ ps. id_of ps k) more ∙ id_of-more kind id v.items (sym (there kind) ∙ none) k ∙ ap (cond (kind == k) (Some id)) (sym (there k)))

-- the first id of a new text
pub lids_of-new : (kind : ℕ) (lid id : List ℕ) (es : List (String Global × Vec (ℕ × List ℕ) Global)) (text : String Global) (w : Vec (ℕ × List ℕ) Global)
    → lookup (λ k. bytes_eq lid (string_bytes k)) es ≡ None → string_bytes text ≡ lid → w.items ≡ (kind, id) ∷ []
    → lids_of (insert_entry string_eq es text w) ≡ put lid_cmp (kind, lid) id (lids_of es)
lids_of-new kind lid id es text w none is one =
    let there = λ (k : ℕ). find-lids_of k lid es ∙ ap (option_and_then (λ v. id_of v.items k)) none in
    lids_of-bound kind lid id es _ w (λ l. lookup-insert_entry es text w l ∙ ap (λ t. cond (bytes_eq l t) (Some w) (lookup (λ k. bytes_eq l (string_bytes k)) es)) is)
    (λ k. ap (λ ps. id_of ps k) one ∙ id_of-more kind id [] refl k ∙ ap (cond (kind == k) (Some id)) (sym (there k)))
