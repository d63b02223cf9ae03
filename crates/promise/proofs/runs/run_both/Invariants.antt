use Rattle.meaning.specs.Policies.{Agrees}
use Rattle.book.specs.States.{policy_of}
use Rattle.promise.specs.Made.{Same}
use Rattle.promise.specs.Pairs.{pair, Agree}
use Rattle.promise.proofs.Abreast.{Abreast}
use Rattle.promise.proofs.Turns.{Along}
use Rattle.promise.proofs.runs.run_both.Given as goal

abbrev pub invariant-loop-next : goal.invariant-loop-next
invariant-loop-next g l =
    let j = g.J.Journal in
    let p = g.P.Policy in
    let k = g.K.Journal in
    let q = g.Q.Policy in
    record {
      mine_same : Same l.initial.mine l.mine;
      theirs_same : Same l.initial.theirs l.theirs;
      first : Along j p l.orders l.initial.first l.initial.mine l.calls l.next-index l.first l.mine;
      second : Along k q l.orders l.initial.second l.initial.theirs l.calls l.next-index l.second l.theirs;
      together : Agrees (policy_of k q l.initial.second) (policy_of j p l.initial.first)
          → Agree (pair l.initial.first l.initial.mine l.initial.second l.initial.theirs)
          → Abreast j p k q l.orders l.calls l.next-index (pair l.initial.first l.initial.mine l.initial.second l.initial.theirs) (pair l.first l.mine l.second l.theirs);
    }
