use Rattle.std.proofs.Common.{◌≡◌, ◌++◌, [], ◌∷◌, sym, ◌∙◌, ap, is_some, not, cond}
use Rattle.std.specs.String.{string_eq}
use Rattle.std.specs.FinMap.Entries.{find, put}
use Rattle.indexmap.specs.IndexMap.{insert_entry}
use Rattle.store_model.specs.Change.{lid_cmp}
use Rattle.local_ids.specs.Pairs.{lids_of}
use Rattle.local_ids.proofs.Changes.{none_from, lids_of-same, lids_of-more, lids_of-new}
use Rattle.local_ids.proofs.bound.LocalIds.bind.Goals as goal

pub returns-then-is_err : goal.returns-then-is_err
returns-then-is_err c =
    let absent = none_from _ (ap is_some (sym c.find.ensures) ∙ sym c.is_some.ensures ∙ c.if-is_some.false) in
    let kept = c.is_err.ensures.negation ∙ ap not c.if-is_err.true in
    let same = c.push.ensures.items ∙ ap (λ b. cond b (c.in-Some.pairs.now.items ++ (c.args.kind, c.args.id) ∷ []) c.in-Some.pairs.now.items) kept in
    let written = lids_of-same c.args.kind c.as_str-2.result.now c.args.id c.self.inside.ids.entries c.in-Some.pairs.now c.push.new.self (sym c.in-Some.ensures.value) same in
    (ap (λ t. find lid_cmp (c.args.kind, t) c.args.self.now) (sym c.as_str.ensures) ∙ absent, ap lids_of (c.get_mut.follows.holds c.push.new.self).0 ∙ written ∙ c.self.view_is)

pub returns-in-Some : goal.returns-in-Some
returns-in-Some c =
    let absent = none_from _ (ap is_some (sym c.find.ensures) ∙ sym c.is_some.ensures ∙ c.if-is_some.false) in
    let free = ap (λ t. find lid_cmp (c.args.kind, t) c.args.self.now) (sym c.as_str.ensures) ∙ absent in
    let kept = c.is_err.ensures.negation ∙ ap not c.if-is_err.false in
    let more = c.push.ensures.items ∙ ap (λ b. cond b (c.in-Some.pairs.now.items ++ (c.args.kind, c.args.id) ∷ []) c.in-Some.pairs.now.items) kept in
    let none = ap (λ ls. find lid_cmp (c.args.kind, c.as_str-2.result.now) ls) c.self.view_is ∙ ap (λ t. find lid_cmp (c.args.kind, t) c.args.self.now) c.as_str-2.ensures ∙ free in
    let written = lids_of-more c.args.kind c.as_str-2.result.now c.args.id c.self.inside.ids.entries c.in-Some.pairs.now c.push.new.self (sym c.in-Some.ensures.value) more none in (
      free,
      ap lids_of (c.get_mut.follows.holds c.push.new.self).0 ∙ written ∙ ap (λ t. put lid_cmp (c.args.kind, t) c.args.id (lids_of c.self.inside.ids.entries)) c.as_str-2.ensures
          ∙ ap (put lid_cmp (c.args.kind, c.args.lid) c.args.id) c.self.view_is,
    )

pub returns-in-Ok : goal.returns-in-Ok
returns-in-Ok c =
    let absent = none_from _ (ap is_some (sym c.find.ensures) ∙ sym c.is_some.ensures ∙ c.if-is_some.false) in
    let kept = c.is_err-2.ensures.negation ∙ ap not c.if-is_err-2.false in
    let one : c.push-2.new.self.items ≡ (c.args.kind, c.args.id) ∷ [] =
    c.push-2.ensures.items ∙ ap (λ b. cond b (c.new-pairs.result.items ++ (c.args.kind, c.args.id) ∷ []) c.new-pairs.result.items) kept
    ∙ ap (λ s. s ++ (c.args.kind, c.args.id) ∷ []) c.new-pairs.ensures.items in (
      ap (λ t. find lid_cmp (c.args.kind, t) c.args.self.now) (sym c.as_str.ensures) ∙ absent,
      ap lids_of (c.in-Ok.ensures.entries ∙ ap (λ m. insert_entry string_eq m.entries c.into_string.result c.push-2.new.self) c.get_mut.follows.holds-at-none)
          ∙ lids_of-new c.args.kind c.as_str-2.result.now c.args.id c.self.inside.ids.entries c.into_string.result c.push-2.new.self
          (sym c.in_default.ensures.value) (c.into_string.ensures ∙ sym c.as_str-2.ensures) one
          ∙ ap (λ t. put lid_cmp (c.args.kind, t) c.args.id (lids_of c.self.inside.ids.entries)) c.as_str-2.ensures
          ∙ ap (put lid_cmp (c.args.kind, c.args.lid) c.args.id) c.self.view_is,
    )
