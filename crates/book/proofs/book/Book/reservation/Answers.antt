use Rattle.std.proofs.Common.{◌∙◌}
use Rattle.book.proofs.Calling.{reservation_seen_lem}
use Rattle.book.proofs.book.Book.reservation.Goals as goal

pub returns : goal.returns
returns g c = c.reservation.ensures ∙ reservation_seen_lem g.J.Journal g.P.Policy c.args.self.now c.args.number
