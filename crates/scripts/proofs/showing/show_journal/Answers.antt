use Rattle.std.proofs.Common.{rules, ◌≡◌, ◌+◌, ◌*◌, length, Err, arith}
use Rattle.scripts.specs.Told.{told_journal}
use Rattle.scripts.proofs.Rooms.{kept_out, let_in}
use Rattle.scripts.proofs.Telling.{journal_long}
use Rattle.scripts.proofs.showing.show_journal.Goals as goal

pub returns-in_err-check_room-clause-put : goal.returns-in_err-check_room-clause-put
returns-in_err-check_room-clause-put g c =
    let es = g.J.Journal.entries c.args.journal.now in
    let told = told_journal es (g.J.Journal.spare c.args.journal.now) in
    let same : c.count.result * 48 + 25 ≡ length told + 8 = omega (arith, journal_long es (g.J.Journal.spare c.args.journal.now), c.count.ensures) in
    let e : c.from_residual.result ≡ Err c.in_err-check_room.field-0.0 = search rules in
    kept_out c.args.page.now told 8 _ same _ _ e c.in_err-check_room.ensures

pub returns-clause-put : goal.returns-clause-put
returns-clause-put g c =
    let es = g.J.Journal.entries c.args.journal.now in
    let told = told_journal es (g.J.Journal.spare c.args.journal.now) in
    let same : c.count.result * 48 + 25 ≡ length told + 8 = omega (arith, journal_long es (g.J.Journal.spare c.args.journal.now), c.count.ensures) in
    let_in c.args.page.now told 8 _ same _ c.in_ok-check_room.ensures c.put_journal.ensures.bytes c.put_journal.ensures.next
