use Rattle.std.proofs.Common.{map, set, take, ap, ◌∙◌}
use Rattle.std.proofs.lemmas.List.{map-set}
use Rattle.meaning.specs.Rows.{standing_of}
use Rattle.ordered.specs.Items.{items}
use Rattle.balances.proofs.Tables.{books}
use Rattle.balances.proofs.plain.Tables.put_back.Goals as goal

pub returns : goal.returns
returns c =
    let s = c.args.self.now in
    let u = c.args.undo.now in
    let first = ap (map standing_of) c.set.ensures ∙ map-set standing_of (items s.accounts) u.credit u.credit_was in
    let second = ap (map standing_of) c.set-2.ensures ∙ map-set standing_of (items c.set.new.self) u.debit u.debit_was in
    let held = c.truncate.ensures ∙ ap (take u.reserved_was) c.set-3.ensures in
    (λ i. books ((second ∙ ap (λ rows. set rows u.debit (standing_of u.debit_was)) first) i) (held i) u.highest_was (items s.queue) (items s.lines))
