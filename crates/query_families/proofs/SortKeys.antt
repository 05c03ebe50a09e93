-- Keys of an order.
use Rattle.std.proofs.Common.{◌≡◌, ◌≢◌, ℕ, suc, ◌+◌, ◌<◌, ◌&&◌, Bool, true, false, List, [], ◌∷◌, ◌++◌, map, length, drop, Option, Some, None, refl, ap, sym, ◌∙◌, append_assoc, append-nil, get_or}
use Rattle.std.specs.Prelude.{codes, if◌then◌else◌, nat_le, not, option_map, slice_get, nat_eq}
use Rattle.std.specs.List.{cons_option, list_any}
use Rattle.std.proofs.lemmas.Bool.Decides.{Decides-eqb}
use Rattle.std.proofs.lemmas.List.{drop_more}
use Rattle.std.proofs.lemmas.Slice.Eq.{starts_is}
use Rattle.resource_schema.specs.declared.schema.Schema.{Schema}
use Rattle.resource_schema.specs.declared.kinds.Attribute.{Attribute}
use Rattle.resource_schema.specs.declared.values.Form.{Form}
use Rattle.resource_schema.specs.Kinds.{attributes_of}
use Rattle.task_forms.specs.declared.queries.SortKey.{SortKey}
use Rattle.task_forms.specs.declared.queries.TheConstants.{SORT_LIMIT}
use Rattle.request_model.specs.Options as option
use Rattle.request_model.specs.Words.{all_some, begins, some_if, parts_at, comma}
use Rattle.request_model.specs.Queries.{are_distinct, sort_forms, sort_key_of, sort_keys_of}
use Rattle.query_families.specs.Keys.{key_named}

-- ---- one key

by_sign : (schema : Schema) (kind b : ℕ) (bs : List ℕ) (t : Bool) → (begins (codes "-") (b ∷ bs)) ≡ t → t ≡ false → key_named schema kind (b ∷ bs) false ≡ sort_key_of schema kind (b ∷ bs)
by_sign schema kind b bs t is none =
    ap (λ t. key_named schema kind (if t then bs else b ∷ bs) t) (sym (is ∙ none))

first_byte : (b : ℕ) (bs : List ℕ) (t : Bool) → begins (codes "-") (b ∷ bs) ≡ t → b ≢ 45 → t ≡ false
first_byte b bs true is other = absurd (other (ap (λ l. get_or l 0 0) ((starts_is Decides-eqb (b ∷ bs) (codes "-") _ refl).0 is)))
first_byte b bs false is other = refl

-- a text without a sign
pub plain_key : (schema : Schema) (kind : ℕ) (text : List ℕ) → ((rest : List ℕ) → text ≢ 45 ∷ rest) → key_named schema kind text false ≡ sort_key_of schema kind text
plain_key schema kind [] none = refl
plain_key schema kind (b ∷ bs) none =
    by_sign schema kind b bs (begins (codes "-") (b ∷ bs)) refl (first_byte b bs (begins (codes "-") (b ∷ bs)) refl (λ e. none bs (ap (λ (c : ℕ). c ∷ bs) e)))

pub signed_key : (schema : Schema) (kind : ℕ) (text name : List ℕ) → text ≡ 45 ∷ name → key_named schema kind name true ≡ sort_key_of schema kind text
signed_key schema kind text name e = sym (ap (sort_key_of schema kind) e)

-- ---- all keys

length-map : {X A : Type 0} (f : X → Option A) (xs : List X) (ys : List A) → all_some (map f xs) ≡ Some ys → length ys ≡ length xs
length-map f [] [] e = refl
length-map f [] (y ∷ ys) e = cc e
length-map {X} {A} f (x ∷ xs) ys e = by_first (f x) e (length-map f xs) where
  by_rest : (y : A) (o : Option (List A)) → all_some (map f xs) ≡ o → option_map (λ zs. y ∷ zs) o ≡ Some ys → ((zs : List A) → all_some (map f xs) ≡ Some zs → length zs ≡ length xs) → length ys ≡ suc (length xs)
  by_rest y None is e more = cc e
  by_rest y (Some zs) is e more = let same : y ∷ zs ≡ ys = cc e in ap length (sym same) ∙ ap suc (more zs is)

  by_first : (o : Option A) → all_some (o ∷ map f xs) ≡ Some ys → ((zs : List A) → all_some (map f xs) ≡ Some zs → length zs ≡ length xs) → length ys ≡ suc (length xs)
  by_first None e more = cc e
  by_first (Some y) e more = by_rest y (all_some (map f xs)) refl e more

module _ (schema : Schema) (kind : ℕ) (value : List ℕ) where
  abbrev read : Option (List SortKey)
  read = all_some (map (sort_key_of schema kind) (parts_at comma value))

  abbrev judged : List SortKey → Option (List SortKey)
  judged keys = some_if (nat_le (length keys) SORT_LIMIT && are_distinct (map (λ k. k.attribute) keys)) keys

  by_read : (o : Option (List SortKey)) → all_some (map (sort_key_of schema kind) (parts_at comma value)) ≡ o → sort_keys_of schema kind value ≡ option.◌>>=◌ o judged
  by_read o e = ap (λ p. option.◌>>=◌ p judged) e

  count : (keys : List SortKey) → all_some (map (sort_key_of schema kind) (parts_at comma value)) ≡ Some keys → length keys ≡ length (parts_at comma value)
  count keys e = length-map (sort_key_of schema kind) (parts_at comma value) keys e

  -- more parts than keys may be
  pub too_many : nat_le (length (parts_at comma value)) SORT_LIMIT ≡ false → None ≡ sort_keys_of schema kind value
  too_many many = by_case read refl where
    by_case : (o : Option (List SortKey)) → all_some (map (sort_key_of schema kind) (parts_at comma value)) ≡ o → None ≡ sort_keys_of schema kind value
    by_case None e = sym (by_read None e)
    by_case (Some keys) e =
        sym (by_read (Some keys) e ∙ ap (λ n. some_if (nat_le n SORT_LIMIT && are_distinct (map (λ k. k.attribute) keys)) keys) (count keys e)
        ∙ ap (λ b. some_if (b && are_distinct (map (λ k. k.attribute) keys)) keys) many)

  -- a part is no key
  pub no_keys : all_some (map (sort_key_of schema kind) (parts_at comma value)) ≡ None → None ≡ sort_keys_of schema kind value
  no_keys e = sym (by_read None e)

  -- so many keys, which may be equal
  pub so_many : (keys : List SortKey) (b : Bool) → nat_le (length (parts_at comma value)) SORT_LIMIT ≡ true → all_some (map (sort_key_of schema kind) (parts_at comma value)) ≡ Some keys
      → are_distinct (map (λ k. k.attribute) keys) ≡ b → some_if b keys ≡ sort_keys_of schema kind value
  so_many keys b few e distinct =
      sym (by_read (Some keys) e ∙ ap (λ n. some_if (nat_le n SORT_LIMIT && are_distinct (map (λ k. k.attribute) keys)) keys) (count keys e)
      ∙ ap (λ b. some_if (b && are_distinct (map (λ k. k.attribute) keys)) keys) few
      ∙ ap (λ b. some_if b keys) distinct)

-- ---- keys that stand once, and their forms

pub distinct-step : (key : SortKey) (keys : List SortKey) (b : Bool) → list_any (nat_eq key.attribute) (map (λ k. k.attribute) keys) ≡ b
    → are_distinct (map (λ k. k.attribute) (key ∷ keys)) ≡ (not b && are_distinct (map (λ k. k.attribute) keys))
distinct-step key keys b e = ap (λ t. not t && are_distinct (map (λ k. k.attribute) keys)) e

abbrev form_of : Attribute → Form × Bool
form_of a = (a.form, a.nullable)

more_forms : (o : Option (Form × Bool)) (forms rest : List (Form × Bool)) → forms ++ cons_option o rest ≡ (forms ++ cons_option o []) ++ rest
more_forms None forms rest = ap (λ fs. fs ++ rest) (sym (append-nil forms))
more_forms (Some f) forms rest = sym (append_assoc forms (f ∷ []) rest)

-- the form of one more key
pub forms_more : (schema : Schema) (kind : ℕ) (keys : List SortKey) (i : ℕ) (d : SortKey) (attributes : List Attribute) (found : Option (Form × Bool)) (all forms more : List (Form × Bool)) → i < length keys → all ≡ forms ++ sort_forms schema kind (drop i keys)
    → attributes ≡ attributes_of schema kind → found ≡ option_map form_of (slice_get attributes (get_or keys i d).attribute) → more ≡ forms ++ cons_option found [] → all ≡ more ++ sort_forms schema kind (drop (i + 1) keys)
forms_more schema kind keys i d attributes found all forms more lt so_far whole is pushed =
    so_far ∙ ap (λ ks. forms ++ sort_forms schema kind ks) (drop_more keys i d lt)
    ∙ ap (λ o. forms ++ cons_option o (sort_forms schema kind (drop (i + 1) keys))) (sym (is ∙ ap (λ all_of. option_map form_of (slice_get all_of (get_or keys i d).attribute)) whole))
    ∙ more_forms found forms (sort_forms schema kind (drop (i + 1) keys))
    ∙ ap (λ fs. fs ++ sort_forms schema kind (drop (i + 1) keys)) (sym pushed)
