use Rattle.std.proofs.Common.{sym, ◌∙◌}
use Rattle.std.proofs.lemmas.Bool.{eq-eqb, ne_eqb}
use Rattle.balances.specs.Books.{books_of}
use Rattle.steps.proofs.Accounts.{taken}
use Rattle.steps.proofs.opening.check_place.Goals as goal
use Rattle.steps.proofs.opening.check_place.Goals.{then-number-eq0-via-then-number-eq0, then-number-eq0-via-else-number-eq0+then-is_some}

pub returns-then-number-eq0-clause-answer : goal.returns-then-number-eq0-clause-answer
returns-then-number-eq0-clause-answer c = λ policy J T shown.
    elim c.then-number-eq0.branch [
      | then-number-eq0-via-then-number-eq0 w ↦ let n = eq-eqb c.args.number 0 w.if-number-eq0.true in rw n
      | then-number-eq0-via-else-number-eq0+then-is_some w ↦
          let n = ne_eqb c.args.number 0 w.if-number-eq0.false in
          let t = taken policy J T shown.reads (books_of c.args.balances.now) shown.tables c.args.number w.account.result w.account.ensures ∙ sym w.if-is_some.ensures in
          rw (n, t)
    ]

pub returns-then-ledger-eq0-clause-answer : goal.returns-then-ledger-eq0-clause-answer
returns-then-ledger-eq0-clause-answer c = λ policy J T shown.
    let t = taken policy J T shown.reads (books_of c.args.balances.now) shown.tables c.args.number c.account.result c.account.ensures ∙ sym c.if-is_some.ensures in
    let n = ne_eqb c.args.number 0 c.if-number-eq0.false in
    let l = eq-eqb c.args.ledger 0 c.if-ledger-eq0.true in
    rw (n, t, l)

pub returns-clause-answer : goal.returns-clause-answer
returns-clause-answer c = λ policy J T shown.
    let t = taken policy J T shown.reads (books_of c.args.balances.now) shown.tables c.args.number c.account.result c.account.ensures ∙ sym c.if-is_some.ensures in
    let n = ne_eqb c.args.number 0 c.if-number-eq0.false in
    let l = ne_eqb c.args.ledger 0 c.if-ledger-eq0.false in
    rw (n, t, l)
