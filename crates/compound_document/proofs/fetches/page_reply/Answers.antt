use Rattle.std.proofs.Common.{◌≡◌, true, List, ap, subst, sym, ◌∙◌}
use Rattle.ident_rules.specs.declared.key.Key.{Key}
use Rattle.serde_json.specs.Written.{compact_text}
use Rattle.store_model.specs.Answer.{ok_reply}
use Rattle.compound_document.specs.Documents.{page_data}
use Rattle.compound_document.specs.Fetches.{reply_with}
use Rattle.compound_document.specs.Gathering.{asked_keys, gathered, keys_in, reach_beside}
use Rattle.compound_document.proofs.Asked.{asked_gathered, asked_reach}
use Rattle.compound_document.proofs.Runs.{told_so}
use Rattle.compound_document.proofs.fetches.page_reply.Goals as goal

pub returns : goal.returns
returns g c =
    let schema = c.args.schema.now in
    let query = c.args.query.now in
    let page = c.args.page.now in
    let same : c.as_slice-2.result.now ≡ asked_keys query.include (keys_in page.rows) = c.as_slice-2.ensures.value ∙ c.in_ok-keys.ensures ∙ ap (λ rows. asked_keys query.include (keys_in rows)) c.as_slice.ensures in
    told_so schema g.V.View.cells (reach_beside schema c.as_slice-2.result.now query.include) (reach_beside schema (keys_in page.rows) query.include)
    (λ now. c.in_ok-beside.beside ≡ gathered schema now c.as_slice-2.result.now query.include)
    (λ now. c.ok_reply.result ≡ ok_reply c.args.content (page_data schema query c.args.path.now page (gathered schema now (keys_in page.rows) query.include)))
    c.args.recorder.now c.rows_beside.new.recorder
    (λ now valid is. c.ok_reply.ensures ∙ ap (reply_with c.args.content) (c.in_ok-body.ensures ∙ ap (λ o. compact_text (page_data schema query c.args.path.now page o)) (is ∙ ap (λ ks. gathered schema now ks query.include) same ∙ asked_gathered schema now (keys_in page.rows) query.include)))
    (λ now k valid is e. sym (asked_reach schema now (keys_in page.rows) query.include k) ∙ subst (λ (ks : List Key). reach_beside schema ks query.include now k ≡ true) same e)
    c.in_ok-beside.ensures
