use Rattle.std.proofs.Common.{◌≡◌, ◌++◌, true, ap, ◌∙◌, sym, string_bytes}
use Rattle.document_parts.specs.Pointers.{is_plain}
use Rattle.document_parts.proofs.PointerTexts.{escape-is_plain}
use Rattle.document_parts.proofs.pointers.push_name.Goals as goal

pub returns-in_ok-push_str : goal.returns-in_ok-push_str
returns-in_ok-push_str c =
    let plain : is_plain c.args.name.now ≡ true = ap is_plain (sym c.as_bytes.ensures.value) ∙ sym c.is_plain.ensures ∙ c.if-is_plain.true in
    c.in_ok-push_str.ensures.bytes ∙ ap (λ l. string_bytes c.args.pointer.now ++ l) (sym (escape-is_plain c.args.name.now plain))
