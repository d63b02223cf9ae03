use Rattle.std.proofs.Common.{◌-◌, sym, arith}
use Rattle.std.proofs.lemmas.Result.{err_from_is_err_and}
use Rattle.balances.specs.Books.{books_of}
use Rattle.moves.proofs.Arrived.{refused_move, taken_move}
use Rattle.moves.proofs.move_on.Goals as goal

pub returns-in_err-check_move : goal.returns-in_err-check_move
returns-in_err-check_move c = λ policy J reads is.
    let p = err_from_is_err_and c.from_residual.result c.from_residual.ensures.1 in
    rw (p.1, p.2) (refused_move policy J reads c.args.from c.args.to (books_of c.args.balances.now) is c.count_due-due.result c.count_due-due.ensures c.args.lapses.now c.in_err-check_move.field-0.0 (sym c.in_err-check_move.ensures))

pub returns : goal.returns
returns c = λ policy J reads is.
    taken_move policy J reads c.args.from c.args.to (books_of c.args.balances.now) is c.count_due-due.result c.count_due-due.ensures c.args.lapses.now (sym c.in_ok-check_move.ensures) (c.count_due-due.result - 0) (omega arith) (books_of c.lapse_into.new.balances) c.lapse_into.ensures.books c.next_deadline.result c.next_deadline.ensures c.lapse_into.new.places c.lapse_into.ensures.numbers
