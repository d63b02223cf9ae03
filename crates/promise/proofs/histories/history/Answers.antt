use Rattle.std.proofs.Common.{sym, ◌∙◌, subst}
use Rattle.promise.specs.Pairs.{pair}
use Rattle.promise.specs.Takeovers.{Fits, TakenOver}
use Rattle.promise.proofs.Living.{lived}
use Rattle.promise.proofs.histories.history.Goals as goal

pub returns-clause-history : goal.returns-clause-history
returns-clause-history g c =
    let j = g.J.Journal in
    let p = g.P.Policy in
    let k = g.K.Journal in
    let q = g.Q.Policy in
    let a = c.args in
    let os = a.orders.now in
    let A1 = c.run_calls.new.book in
    let A2 = c.take_over-second.new.first in
    let L = lived j p os a.journal a.policy a.past.now a.further.now a.before.now a.mine.now c.run_calls.new.desk c.take_over-second.new.mine c.create-first.result A1 A2 c.create-first.ensures c.run_calls.ensures.made c.take_over-second.ensures.first in
    let v = pair A2 c.take_over-second.new.mine c.take_over-second.result.0 c.take_over-second.new.theirs in
    record {
      past_told = L.was_told;
      first_told = L.is_told;
      wrote = L.wrote_all;
      policy = L.policy_end;
      reading = L.reading_end;
      keeps = λ through. c.take_over-second.ensures.keeps (L.reading_mid ∙ through);
      from_nothing = L.nothing;
      second = subst (λ at. TakenOver at os a.further.now a.mine.now a.other a.other_policy a.theirs.now v c.take_over-second.result.1) L.at c.take_over-second.ensures.second;
      together = λ fits alike. (A1, (L.at, L.reached, c.take_over-second.ensures.together (subst (λ at. Fits k q at a.other a.other_policy) (sym L.at) fits) alike));
    }
