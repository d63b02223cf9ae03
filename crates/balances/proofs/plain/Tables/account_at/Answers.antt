use Rattle.std.proofs.Common.{unwrap_or, ap, ◌∙◌}
use Rattle.meaning.specs.Rows.{standing_of}
use Rattle.ordered.specs.Items.{items}
use Rattle.balances.specs.Contents.{no_row}
use Rattle.balances.proofs.Tables.{shown_at}
use Rattle.balances.proofs.plain.Tables.account_at.Goals as goal

pub returns : goal.returns
returns c =
    let i = c.args.place in
    let none = c.no_account.result in
    ap standing_of (c.unwrap_or.ensures ∙ ap (λ o. unwrap_or o none) c.get.ensures)
    ∙ (shown_at (items c.args.self.now.accounts) i none no_row c.no_account.ensures)
