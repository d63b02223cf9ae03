use Rattle.std.proofs.Common.{arith}
use Rattle.balances.specs.Books.{books_of}
use Rattle.moves.proofs.Stepping.{one_more, no_more}
use Rattle.moves.proofs.Arrived.{all_lapse}
use Rattle.moves.proofs.advance.Goals as goal

pub loop-turn-preserved : goal.loop-turn-preserved
loop-turn-preserved c =
    let step = one_more c.count_due-due.result c.loop-turn._turn c.args.moment (books_of c.loop-turn.balances) (omega arith) in
    cc

pub returns : goal.returns
returns c = λ policy J T reads is le.
    let end = no_more c.count_due-due.result c.loop-turn._turn c.args.moment (books_of c.loop-turn.balances) (omega arith) in
    let all = all_lapse policy J reads T c.args.moment (books_of c.args.balances.now) is c.count_due-due.result c.count_due-due.ensures le in
    cc
