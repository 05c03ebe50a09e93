-- Fetches by target and query, and their replies.
use Rattle.std.specs.Prelude.{◌≡◌, ℕ, Bool, List, None, Some, Option, Result, IfOk}
use Rattle.http_messages.specs.declared.messages.Allow.TheVariants as allow
use Rattle.http_messages.specs.declared.messages.Content.{Content}
use Rattle.http_messages.specs.declared.messages.Content.TheVariants as content
use Rattle.http_messages.specs.declared.messages.Reply.{Reply}
use Rattle.serde_json.specs.Data.{Data}
use Rattle.error_objects.specs.declared.codes.Code.TheVariants as code
use Rattle.error_objects.specs.ErrorReply.{error_reply}
use Rattle.error_objects.specs.Refusals.{refusal}
use Rattle.ident_rules.specs.declared.key.Key.{Key}
use Rattle.resource_schema.specs.declared.schema.Schema.{Schema}
use Rattle.resource_schema.specs.declared.targets.Target.{Target}
use Rattle.world_cells.specs.declared.keys.CellKey.{CellKey}
use Rattle.world_cells.specs.declared.rows.Row.{Row}
use Rattle.world_cells.specs.Reads.{Cells}
use Rattle.world_cells.specs.World.{World}
use Rattle.task_forms.specs.declared.queries.Query.{Query}
use Rattle.store_model.specs.Answer.{fetch_reply, ok_reply}
use Rattle.store_model.specs.Reach.{reach_fetch}
use Rattle.view_reads.specs.Recording.{Recording}
use Rattle.trial_steps.specs.Runners.{TellsRead}
use Rattle.compound_document.specs.Documents.{one_data}
use Rattle.compound_document.specs.Gathering.{gathered, reach_beside}

-- what a fetch of a target looks at
abbrev pub reach_of : Schema → Query → Target → World → CellKey → Bool
reach_of schema query target w k = reach_fetch schema w (record { target = target; query = query }) k

-- and its reply
abbrev pub reply_of : Schema → Query → Target → World → Reply
reply_of schema query target w = fetch_reply schema w (record { target = target; query = query })

-- what a runner tells that answers a fetch of a target, and what it looks at
abbrev pub TellsFetch : {V E : Type 0} → Schema → (V → Cells) → Query → Target → Recording V → Recording V → Result Reply E → Type 0
TellsFetch schema cells query at before after result = IfOk result (λ r. TellsRead schema cells (reach_of schema query at) (λ now. r ≡ reply_of schema query at now) before after)

-- the same of one that has the primary rows, where their document is made of those beside them
abbrev pub TellsBeside : {V E : Type 0} → Schema → (V → Cells) → Query → List Key → Content → (Option (List Row) → Data) → Recording V → Recording V → Result Reply E → Type 0
TellsBeside schema cells query keys c document before after result =
    IfOk result (λ r. TellsRead schema cells (reach_beside schema keys query.include) (λ now. r ≡ ok_reply c (document (gathered schema now keys query.include))) before after)

-- the reply with a body
abbrev pub reply_with : Content → List ℕ → Reply
reply_with c body = record { status = 200; content = c; location = None; allow = allow.Nothing; body = body }

-- the reply with a resource and nothing beside it, or that it is not there
abbrev pub alone_reply : Schema → Query → Option Row → Reply
alone_reply schema query None = error_reply (refusal code.NotFound)
alone_reply schema query (Some row) = ok_reply content.Plain (one_data schema query (Some row) None)
