use Rattle.std.proofs.Common.{◌∙◌}
use Rattle.listing.proofs.Writing.{one_digit, last_digit}
use Rattle.listing.proofs.page.Page.+decimal.Goals as goal
use Rattle.listing.proofs.page.Page.+decimal.Goals.{then-number-ge10, else-number-ge10}

pub returns : goal.returns
returns t c =
    let n = c.args.number in
    let p = c.args.self.now in
    let q = c.if-number-ge10.self in
    let r = c.byte.new.self in
    elim c.if-number-ge10.branch [
      | then-number-ge10 w ↦ last_digit n p q r w.if-number-ge10.true c.ranges.number.fits (w.self-is ∙ w.decimal.ensures) c.byte.ensures
      | else-number-ge10 w ↦ one_digit n p q r w.if-number-ge10.false w.self-is c.byte.ensures
    ]
