-- Two books that are called alike: they go on agreeing, call by call.
use Rattle.std.proofs.Common.{◌≡◌, ℕ, ◌+◌, ◌<◌, List, ◌++◌, length, get_or, drop, sym, ap, ◌∙◌, subst}
use Rattle.std.proofs.lemmas.List.{drop_more}
use Rattle.meaning.specs.declared.order.Order.{Order}
use Rattle.journal.specs.declared.journal.Journal as journal
use Rattle.policy.specs.declared.policy.Policy as policy
use Rattle.steps.specs.Written.{entries_of, records_of}
use Rattle.book.specs.States.{policy_of}
use Rattle.promise.specs.declared.call.Call.{Call}
use Rattle.promise.specs.Made.{world_of}
use Rattle.promise.specs.Pairs.{Pair, Agree, CallsBoth, Together}
use Rattle.promise.specs.Worlds.{World, next, adds}

module _ {J P K Q : Type 0} (j : journal.Ghosts J) (p : policy.Ghosts P) (k : journal.Ghosts K) (q : policy.Ghosts Q) (os : List Order) where
  -- books that agree are in one state, and their desks are alike
  one_world : (u : Pair j p k q) → Agree u → world_of k q u.second u.theirs ≡ world_of j p u.first u.mine
  one_world u A = λ i. record {
    state = record { journal = records_of (A.entries i); moment = A.moment i; spare = A.spare i };
    told = A.desks.told i;
    answers = A.desks.answers i;
    lapses = A.desks.lapses i;
    bytes = A.desks.bytes i;
  }

  agree_more : (c : Call) (u v : Pair j p k q) → policy_of k q u.second ≡ policy_of j p u.first → Agree u → CallsBoth os c u v → Agree v
  agree_more c u v same A M =
      let was = one_world u A in
      let equal : world_of k q v.second v.theirs ≡ world_of j p v.first v.mine = M.second.world ∙ ((λ i. next (same i) os (was i) c) ∙ sym M.first.world) in
      record {
        entries = M.second.wrote.entries ∙ ((λ i. A.entries i ++ entries_of (adds (same i) os (was i) c)) ∙ sym M.first.wrote.entries);
        spare = ap (λ (w : World). w.state.spare) equal;
        moment = ap (λ (w : World). w.state.moment) equal;
        reading = M.second.reading ∙ (A.reading ∙ sym M.first.reading);
        desks = record { told = ap (λ (w : World). w.told) equal; answers = ap (λ (w : World). w.answers) equal; lapses = ap (λ (w : World). w.lapses) equal; bytes = ap (λ (w : World). w.bytes) equal };
      }

  -- after i of the calls: the two agree, and what the others lead to from here, all of them do from the start
  pub record Abreast (cs : List Call) (i : ℕ) (u v : Pair j p k q) : Type 0 where
    pub agree : Agree v
    pub leads : (w : Pair j p k q) → Together os (drop i cs) v w → Together os cs u w

  pub abreast_more : (cs : List Call) (i : ℕ) (o : Call) (u v w : Pair j p k q) → i < length cs → policy_of k q v.second ≡ policy_of j p v.first → Abreast cs i u v → CallsBoth os (get_or cs i o) v w → Abreast cs (i + 1) u w
  abreast_more cs i o u v w lt same B M = record {
    agree = agree_more (get_or cs i o) v w same B.agree M;
    leads = λ end rest. B.leads end (subst (λ ds. Together os ds v end) (sym (drop_more cs i o lt)) (B.agree, (w, (M, rest))));
  }
