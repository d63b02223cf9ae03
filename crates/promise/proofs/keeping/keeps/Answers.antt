use Rattle.std.proofs.Common.{sym, ◌∙◌}
use Rattle.promise.proofs.Kept.{keeps_all}
use Rattle.promise.proofs.keeping.keeps.Goals as goal

pub returns-clause-kept : goal.returns-clause-kept
returns-clause-kept g c = λ through.
    let b = c.args.book.now in
    keeps_all g.J.Journal g.P.Policy b (g.met.P.Policy.lawful b.policy) (sym c.reading.ensures.kept ∙ through)
