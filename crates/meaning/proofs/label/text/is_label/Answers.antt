use Rattle.std.proofs.Common.{sym, ◌∙◌, arith}
use Rattle.meaning.proofs.Lettered.{label_by_bytes}
use Rattle.meaning.proofs.label.text.is_label.Goals as goal

pub returns-then-is_letter : goal.returns-then-is_letter
returns-then-is_letter c =
    let e = label_by_bytes c.args.code c.to_be_bytes-bytes.result (omega arith) c.to_be_bytes-bytes.ensures in
    let l = c.if-is_letter.ensures in
    c.is_lettered.ensures ∙ sym (e ∙ rw (sym l))

pub returns-else-is_letter : goal.returns-else-is_letter
returns-else-is_letter c =
    let e = label_by_bytes c.args.code c.to_be_bytes-bytes.result (omega arith) c.to_be_bytes-bytes.ensures in
    let l = c.if-is_letter.ensures in
    c.if-is_letter.false ∙ sym (e ∙ rw (sym l))
