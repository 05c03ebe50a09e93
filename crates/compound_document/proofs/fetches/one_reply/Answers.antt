use Rattle.std.proofs.Common.{◌≡◌, true, List, ap, subst, sym, ◌∙◌}
use Rattle.ident_rules.specs.declared.key.Key.{Key}
use Rattle.serde_json.specs.Written.{compact_text}
use Rattle.store_model.specs.Answer.{ok_reply}
use Rattle.compound_document.specs.Documents.{one_data}
use Rattle.compound_document.specs.Fetches.{reply_with}
use Rattle.compound_document.specs.Gathering.{asked_keys, gathered, key_list, reach_beside}
use Rattle.compound_document.proofs.Asked.{asked_gathered, asked_reach}
use Rattle.compound_document.proofs.Runs.{told_so}
use Rattle.compound_document.proofs.fetches.one_reply.Goals as goal

pub returns : goal.returns
returns g c =
    let schema = c.args.schema.now in
    let query = c.args.query.now in
    let row = c.args.row.now in
    let same : c.as_slice.result.now ≡ asked_keys query.include (key_list row) = c.as_slice.ensures.value ∙ c.in_ok-keys.ensures in
    told_so schema g.V.View.cells (reach_beside schema c.as_slice.result.now query.include) (reach_beside schema (key_list row) query.include)
    (λ now. c.in_ok-beside.beside ≡ gathered schema now c.as_slice.result.now query.include)
    (λ now. c.ok_reply.result ≡ ok_reply c.args.content (one_data schema query row (gathered schema now (key_list row) query.include)))
    c.args.recorder.now c.rows_beside.new.recorder
    (λ now valid is. c.ok_reply.ensures ∙ ap (reply_with c.args.content) (c.in_ok-body.ensures ∙ ap (λ o. compact_text (one_data schema query row o)) (is ∙ ap (λ ks. gathered schema now ks query.include) same ∙ asked_gathered schema now (key_list row) query.include)))
    (λ now k valid is e. sym (asked_reach schema now (key_list row) query.include k) ∙ subst (λ (ks : List Key). reach_beside schema ks query.include now k ≡ true) same e)
    c.in_ok-beside.ensures
