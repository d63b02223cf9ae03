use Rattle.std.proofs.Common.{rules}
use Rattle.balances.specs.Shown.{shown}
use Rattle.meaning.specs.Rows.{standing_of, debited, credited}
use Rattle.ordered.specs.Items.{items}
use Rattle.balances.specs.Contents.{no_row}
use Rattle.balances.proofs.Tables.{shown_change, between}
use Rattle.balances.proofs.plain.Tables.move_between.Goals as goal

pub returns : goal.returns
returns c =
    let f = debited c.args.pending c.args.posted in
    let h = credited c.args.pending c.args.posted in
    between (shown c.args.self.now) f h c.args.debit c.args.credit c.account_place-from.ensures c.account_place-to.ensures
    (shown_change standing_of f no_row (items c.args.self.now.accounts) (items c.change.new.self) c.account_place-from.result c.change.ensures.there c.change.ensures.nowhere (λ x y r. search rules))
    (shown_change standing_of h no_row (items c.change.new.self) (items c.change-2.new.self) c.account_place-to.result c.change-2.ensures.there c.change-2.ensures.nowhere (λ x y r. search rules))
