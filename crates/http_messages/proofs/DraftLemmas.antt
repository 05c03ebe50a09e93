-- Lemmas on texts that are put together before they are sent.
use Rattle.std.proofs.Common.{◌≡◌, ℕ, List, [], false, sym, subst, append-nil}
use Rattle.std.specs.Prelude.{Result, Ok, Err, ⊤}
use Rattle.std.specs.Result.{is_err}
use Rattle.outer_ends.specs.StreamLaws.{appends_none}
use Rattle.outer_ends.specs.Told.{SinkTold}
use Rattle.outer_ends.specs.Streams.{Sends, SendsMore}
use Rattle.outer_ends.specs.declared.traits.Failed.{Failed}
use Rattle.http_messages.specs.Draft.{DraftState, Drafts}

-- a draft with nothing in it, of a text that was sent
pub drafts_sent : (start now : SinkTold) (text : List ℕ) (r : Result ⊤ Failed) → Sends start now text r
    → Drafts start now text (record { held = []; sent = r })
drafts_sent start now text (Ok done) s = record { whole = record { front = text; parts = sym (append-nil text); appended = s.whole }; front = tt }
drafts_sent start now text (Err e) s = record { whole = tt; front = s.front }

-- where no write failed, what waits ends the text
pub sends_held : (start old new : SinkTold) (text held : List ℕ) (sent result : Result ⊤ Failed)
    → Drafts start old text (record { held = held; sent = sent }) → is_err sent ≡ false → SendsMore old new held sent result
    → Sends start new text result
sends_held start old new text held (Ok done) result d ok more =
    subst (λ l. Sends start new l result) (sym d.whole.parts) (more start d.whole.front (record { whole = d.whole.appended; front = tt }))
sends_held start old new text held (Err e) result d ok more = cc

-- a new draft is one of no text
pub drafts_none : (start : SinkTold) (new : DraftState) → new ≡ record { held = []; sent = Ok tt } → Drafts start start [] new
drafts_none start new is = subst (λ d. Drafts start start [] d) (sym is) (drafts_sent start start [] (Ok tt) (record { whole = appends_none start.written; front = tt }))
