-- A book that takes over from a past that began with nothing.
use Rattle.std.proofs.Common.{◌≡◌, List, [], ◌++◌, Result, Ok, sym, refl, ap, ◌∙◌, subst}
use Rattle.meaning.specs.declared.answers.Moved.{Moved}
use Rattle.meaning.specs.declared.order.Order.{Order}
use Rattle.meaning.specs.declared.refusal.Refusal.{Refusal}
use Rattle.meaning.specs.Calls.{State}
use Rattle.meaning.specs.Reading.{reading as reading_of}
use Rattle.journal.specs.declared.journal.Journal as journal
use Rattle.policy.specs.declared.policy.Policy as policy
use Rattle.steps.specs.Written.{journal_of, entries_of}
use Rattle.promise.specs.declared.call.Call.{Call}
use Rattle.promise.specs.declared.desk.Desk.{Desk}
use Rattle.promise.specs.Made.{with_desk}
use Rattle.promise.specs.Histories.{point, History}
use Rattle.promise.specs.Pairs.{Alike, Pair}
use Rattle.promise.specs.Takeovers.{beginning, Point, then_is, Fits, Meets, TakenOver}
use Rattle.promise.specs.Worlds.{World}
use Rattle.promise.proofs.Living.{same-final, same-adds}
use Rattle.clients.specs.Handed.{HandedOver}
use Rattle.clients.specs.Seasons.{season, before_all, season_was, season_wrote, season_point}
use Rattle.clients.proofs.Starting.{at_first, begins}

module _ {J P K Q : Type 0} (j : journal.Ghosts J) (p : policy.Ghosts P) (k : journal.Ghosts K) (q : policy.Ghosts Q) (x : J) (y : P) (empty : j.entries x ≡ []) (room : j.spare x ≡ 256) (is : p.admits y ≡ season)
    (x' : K) (y' : Q) (same : q.admits y' ≡ season) (os : List Order) (past further : List Call) (list : k.entries x' ≡ season_wrote os past) (spare : k.spare x' ≡ (season_was os past).spare)
    (before mine theirs before' : Desk) (v : Pair j p k q) (r : Result Moved Refusal) (new : with_desk (beginning j (p.admits y) x) before ≡ at_first (beginning j (p.admits y) x))
    (h : History (p.admits y) os x past further before mine x' y' theirs before' v r) where
  start : with_desk (beginning j (p.admits y) x) before ≡ before_all
  start = new ∙ (ap (λ a. at_first (beginning j a x)) is ∙ begins j x empty room)

  came_to : (point j (p.admits y) os x past before).state ≡ season_was os past
  came_to = ap (λ (w : World). w.state) (same-final is start os past)

  through : reading_of (p.admits y) (journal_of j x) ≡ Ok tt
  through = sym h.reading ∙ (h.from_nothing empty).0

  stood : point j (p.admits y) os x past before ≡ season_point os past
  stood = λ i. record {
    admits = is i;
    reading = through i;
    state = came_to i;
    entries = empty i ++ entries_of (same-adds is start os past i);
  }

  fits : Fits k q (season_point os past) x' y'
  fits = record { through = refl; policy = λ k m dp dq cp cq in_bounds. ap (λ says. says k m dp dq cp cq) same; entries = list; spare = spare }

  taken_over : TakenOver (season_point os past) os further mine x' y' theirs v r
  taken_over = subst (λ at. TakenOver at os further mine x' y' theirs v r) stood h.second

  met : Meets k q (season_point os past) x' y' r v.second
  met = taken_over.meets fits

  pub hands_over : HandedOver os past further mine theirs v r
  hands_over = record {
    told = h.first_told ∙ ap (λ at. then_is at os further mine) stood;
    keeps = h.keeps through;
    arrival = met.arrival;
    second_told = taken_over.second_told ∙ same-final same (ap (λ s. with_desk s theirs) met.there) os further;
    taken = x';
    entries = list;
    with_policy = y';
    meets = met;
    twin = taken_over.twin fits;
    together = λ alike. let t = h.together (subst (λ at. Fits k q at x' y') (sym stood) fits) alike in (t.0, (ap (λ (w : World). w.state) t.1.1 ∙ came_to, t.1.2));
  }
