use Rattle.std.proofs.Common.{◌-◌, min, length, ap, ◌∙◌}
use Rattle.promise.specs.Made.{with_desk}
use Rattle.clients.proofs.Starting.{two_rolls, writes, leaves}
use Rattle.clients.proofs.standby.written.Goals as goal

pub returns-clause-entries : goal.returns-clause-entries
returns-clause-entries c =
    let m = c.new-3.result in
    let empty = c.new-3.ensures.one ∙ c.new.ensures.list in
    let room = two_rolls m c.new.result c.new-2.result c.new-3.ensures.one c.new-3.ensures.other c.new.ensures.spare c.new-2.ensures.spare in
    ap (λ x. x.0.first) c.close-journal.ensures
    ∙ writes _ m empty room _ c.season.result c.season.ensures c.create-book.result c.run_calls.new.book c.create-book.ensures c.args.orders.now c.args.past.now c.new-desk.result c.run_calls.new.desk (ap (with_desk _) c.new-desk.ensures) c.run_calls.ensures.made

pub returns-clause-spare : goal.returns-clause-spare
returns-clause-spare c =
    let m = c.new-3.result in
    let empty = c.new-3.ensures.one ∙ c.new.ensures.list in
    let room = two_rolls m c.new.result c.new-2.result c.new-3.ensures.one c.new-3.ensures.other c.new.ensures.spare c.new-2.ensures.spare in
    ap (λ x. min (256 - length x.0.first) (256 - length x.0.second)) c.close-journal.ensures
    ∙ leaves _ m empty room _ c.season.result c.season.ensures c.create-book.result c.run_calls.new.book c.create-book.ensures c.args.orders.now c.args.past.now c.new-desk.result c.run_calls.new.desk (ap (with_desk _) c.new-desk.ensures) c.run_calls.ensures.made
