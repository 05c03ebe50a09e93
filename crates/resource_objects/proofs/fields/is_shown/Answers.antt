use Rattle.std.proofs.Common.{◌∙◌, ap, Some, None}
use Rattle.std.specs.List.{list_any}
use Rattle.std.specs.Str.{bytes_eq}
use Rattle.resource_objects.proofs.Shown.{is_shown-found}
use Rattle.resource_objects.proofs.fields.is_shown.Goals as goal

pub returns-in-Some : goal.returns-in-Some
returns-in-Some c =
    c.is_one_of.ensures ∙ ap (list_any (bytes_eq c.args.name.now)) c.as_slice.ensures
    ∙ is_shown-found c.args.fields.now c.args.kind c.args.name.now (Some c.in-Some.set.now) c.in-Some.ensures

pub returns-in-None : goal.returns-in-None
returns-in-None c = is_shown-found c.args.fields.now c.args.kind c.args.name.now None c.in-None.ensures
