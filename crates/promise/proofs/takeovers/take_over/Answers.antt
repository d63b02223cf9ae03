use Rattle.std.proofs.Common.{◌∙◌, sym, subst}
use Rattle.meaning.proofs.Agreeing.{same_policy}
use Rattle.meaning.specs.Policies.{Agrees}
use Rattle.book.specs.States.{policy_of}
use Rattle.book.specs.Called.{MovedTo}
use Rattle.promise.specs.Takeovers.{places}
use Rattle.promise.proofs.Kept.{keeps_all}
use Rattle.promise.proofs.Second.{came}
use Rattle.promise.proofs.Twins.{meets, agree_first, twin}
use Rattle.promise.proofs.takeovers.take_over.Goals as goal

pub returns-clause-keeps : goal.returns-clause-keeps
returns-clause-keeps g c = λ through.
    let b = c.run_both.new.first in
    keeps_all g.J.Journal g.P.Policy b (g.met.P.Policy.lawful b.policy) (c.run_both.ensures.first.reading ∙ through)

pub returns-clause-second : goal.returns-clause-second
returns-clause-second g c =
    let j = g.J.Journal in
    let p = g.P.Policy in
    let k = g.K.Journal in
    let q = g.Q.Policy in
    let a = c.args in
    let b = a.first.now in
    let os = a.orders.now in
    let B2 = c.run_both.new.second in
    let S = came k q a.other a.other_policy c.create-second.result c.move_to-arrival.new.self B2 os a.further.now a.theirs.now c.run_both.new.theirs c.moment.result b.moment _ _ c.create-second.ensures c.move_to-arrival.ensures c.run_both.ensures.second c.moment.ensures in
    record {
      second_moved = S.answer;
      second_told = S.told;
      second_wrote = S.wrote;
      second_policy = S.policy;
      second_reading = S.reading;
      meets = λ fits. meets j p k q b a.other a.other_policy (same_policy _ _ (g.met.Q.Policy.lawful a.other_policy) (g.met.P.Policy.lawful b.policy) fits.policy) fits os a.further.now a.mine.now a.theirs.now c.run_both.new.theirs _ B2 _ S (g.met.Q.Policy.lawful B2.policy);
      twin = λ fits alike. twin j p k q b a.other a.other_policy (same_policy _ _ (g.met.Q.Policy.lawful a.other_policy) (g.met.P.Policy.lawful b.policy) fits.policy) fits os a.further.now a.mine.now a.theirs.now c.run_both.new.theirs _ B2 _ S alike c.run_both.new.first c.run_both.new.mine c.run_both.ensures.first;
    }

pub returns-clause-together : goal.returns-clause-together
returns-clause-together g c = λ fits alike.
    let j = g.J.Journal in
    let p = g.P.Policy in
    let k = g.K.Journal in
    let q = g.Q.Policy in
    let a = c.args in
    let b = a.first.now in
    let os = a.orders.now in
    let B = c.create-second.result in
    let B1 = c.move_to-arrival.new.self in
    let went = c.move_to-arrival.ensures in
    let S = came k q a.other a.other_policy B B1 c.run_both.new.second os a.further.now a.theirs.now c.run_both.new.theirs c.moment.result b.moment _ _ c.create-second.ensures went c.run_both.ensures.second c.moment.ensures in
    record {
      second = B1;
      comes = record { new = B; created = c.create-second.ensures; lapses = c.move_to-arrival.new.lapses; moved = subst (λ t. MovedTo k q B t places c.move_to-arrival.result c.move_to-arrival.new.lapses B1) c.moment.ensures went };
      together = c.run_both.ensures.together (subst (λ says. Agrees says (policy_of j p b)) (sym S.policy_moved) fits.policy) (agree_first j p k q b a.other a.other_policy (same_policy _ _ (g.met.Q.Policy.lawful a.other_policy) (g.met.P.Policy.lawful b.policy) fits.policy) fits os a.further.now a.mine.now a.theirs.now c.run_both.new.theirs B1 _ _ S alike);
    }
