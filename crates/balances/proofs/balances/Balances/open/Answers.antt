use Rattle.std.proofs.Common.{sym, subst, rules}
use Rattle.meaning.specs.Rows.{standing_of}
use Rattle.balances.specs.Books.{books_of}
use Rattle.balances.specs.Contents.{Few}
use Rattle.balances.proofs.Room.{few_opened}
use Rattle.balances.proofs.balances.Balances.open.Goals as goal

pub invariant_of-self : goal.invariant_of-self
invariant_of-self c =
    let b = c.args.self.now in
    record { few = subst Few (sym c.open.ensures) (few_opened (standing_of c.args.account) (books_of b) b.few); fit = search rules; short = b.short }
