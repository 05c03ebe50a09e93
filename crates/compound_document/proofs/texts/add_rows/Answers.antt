use Rattle.std.proofs.Common.{sym, ap, map}
use Rattle.serde_json.specs.Data.{array}
use Rattle.serde_json.specs.View.{items_of}
use Rattle.serde_json.specs.Written.{compact_text}
use Rattle.store_model.specs.Resource.{resource}
use Rattle.json_texts.specs.DraftLaws.{adds_as}
use Rattle.compound_document.proofs.texts.add_rows.Goals as goal

pub returns : goal.returns
returns c = adds_as (ap (λ fields. compact_text (array (items_of (map (λ row. resource c.args.schema.now row fields) c.args.rows.now)))) (sym c.as_slice.ensures)) c.add_resources.ensures
