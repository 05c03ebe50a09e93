use Rattle.std.proofs.Common.{◌≡◌, ◌++◌, List, ℕ, ap, ◌∙◌, subst, length}
use Rattle.outer_ends.specs.Streams.{Sends}
use Rattle.http_messages.specs.declared.messages.Reply.{Reply}
use Rattle.http_messages.specs.ReplyText.{reply_text, start_text, length_line, location_line, end_line}
use Rattle.http_messages.proofs.DraftLemmas.{drafts_none}
use Rattle.http_messages.proofs.replies.send_reply_by.Goals as goal

-- the text of the pieces that were added
abbrev added : Reply → ℕ → List ℕ → List ℕ → List ℕ → List ℕ
added r n allow close body =
    start_text r ++ length_line r.status n ++ location_line r.location ++ allow ++ close ++ end_line ++ body

-- equal pieces make one text
same_text : (r : Reply) (n m : ℕ) (a b c d x y : List ℕ) → n ≡ m → a ≡ b → c ≡ d → x ≡ y → added r n a c x ≡ added r m b d y
same_text r n m a b c d x y p q s t =
    ap (λ (v : ℕ). added r v a c x) p ∙ ap (λ (v : List ℕ). added r m v c x) q
    ∙ ap (λ (v : List ℕ). added r m b v x) s ∙ ap (λ (v : List ℕ). added r m b d v) t

pub returns-clause-sends : goal.returns-clause-sends
unfolding reply_text
returns-clause-sends g c =
    let start = g.K.Sink.told c.args.sink.now in
    let drafts = c.add-4.ensures.text start _ (c.add-3.ensures.text start _ (c.add-2.ensures.text start _ (c.add.ensures.text start _
    (c.add_location.ensures.text start _ (c.add_length.ensures.text start _ (c.add_start.ensures.text start _ (drafts_none start _ c.new-draft.ensures))))))) in
    subst (λ (l : List ℕ). Sends start (g.K.Sink.told c.finish.new.sink) l c.finish.result)
    (same_text c.args.reply.now _ _ _ _ _ _ _ _ (ap length c.as_slice.ensures) c.allow_of.ensures c.closing_of.ensures c.body_of.ensures)
    (c.finish.ensures.sends start _ drafts)
