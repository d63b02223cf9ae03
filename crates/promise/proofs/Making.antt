-- What a call makes of book and desk, put together from what its parts gave.
use Rattle.std.proofs.Common.{◌≡◌, ℕ, ◌+◌, ◌-◌, true, leb, List, [], ◌++◌, length, take, drop, set, sym, refl, ap, ◌∙◌, subst, arith}
use borrow.Rule.Slice.PartMut.{put_mid}
use Rattle.std.proofs.lemmas.List.{length-drop, length-take-le}
use Rattle.std.proofs.lemmas.Slice.{put_mid-paste}
use Rattle.std.proofs.lemmas.List.Edits.{paste_all}
use Rattle.std.proofs.lemmas.Bool.{cond-true, and_parts, leb-true}
use Rattle.meaning.specs.declared.order.Order.{Order}
use Rattle.meaning.specs.declared.record.Record.{Record}
use Rattle.journal.specs.declared.journal.Journal as journal
use Rattle.policy.specs.declared.policy.Policy as policy
use Rattle.steps.specs.Written.{Wrote}
use Rattle.book.specs.declared.book.Book.{Book}
use Rattle.book.specs.States.{policy_of, state_of, After}
use Rattle.promise.specs.declared.call.Call.{Call}
use Rattle.promise.specs.declared.call.Span.{Span}
use Rattle.promise.specs.declared.desk.Desk.{Desk}
use Rattle.promise.specs.Made.{world_of, Calls}
use Rattle.promise.specs.Spans.{inside, part, lay}
use Rattle.promise.specs.Worlds.{World, after, proper, tells, writes, comes_to, answers_after, lapses_after, bytes_after, made}

-- something else laid into a span
pub laid : {X : Type 0} (s : Span) (xs ys zs : List X) → inside s (length xs) ≡ true → length ys ≡ length (part s xs) → ys ≡ zs → put_mid s.from (s.to - s.from) xs ys ≡ lay s zs xs
laid s xs ys zs h n e =
    let b = and_parts (leb s.from s.to) (leb s.to (length xs)) h in
    let lo = leb-true s.from s.to b.0 in
    let hi = leb-true s.to (length xs) b.1 in
    let k : s.from + (s.to - s.from) ≡ s.to = omega arith in
    let long : length ys ≡ s.to - s.from = n ∙ length-take-le (s.to - s.from) (drop s.from xs) (omega (arith, length-drop s.from xs)) in
    put_mid-paste s.from (s.to - s.from) xs ys ys (s.to - s.from) refl refl (sym long) ∙ (paste_all xs s.from ys (s.to - s.from) (sym long)
    ∙ (ap (λ i. take s.from xs ++ (ys ++ drop i xs)) k ∙ ap (λ new. take s.from xs ++ (new ++ drop s.to xs)) e))

module _ {J P : Type 0} (j : journal.Ghosts J) (p : policy.Ghosts P) (os : List Order) (b : Book J P j p) (d : Desk) where
  abbrev here : World
  here = world_of j p b d

  state_after : (new : List Record) (t : ℕ) (b' : Book J P j p) → After j p b new t b' → state_of j p b' ≡ after (state_of j p b) new t
  state_after new t b' A = λ i. record { journal = A.journal.records i; moment = A.moment i; spare = A.journal.spare i }

  -- a call whose lists are on the desk
  pub made_by : (c : Call) (b' : Book J P j p) (d' : Desk) → proper (policy_of j p b) os here c.ask ≡ true → After j p b (writes (policy_of j p b) os here c.ask) (comes_to (policy_of j p b) os here c.ask) b'
      → d'.told.now ≡ set d.told.now c.at (tells (policy_of j p b) os here c.ask) → d'.answers.now ≡ answers_after (policy_of j p b) os here c.ask → d'.lapses.now ≡ lapses_after (policy_of j p b) os here c.ask
      → d'.bytes.now ≡ bytes_after (policy_of j p b) os here c.ask → Calls j p os b d c b' d'
  made_by c b' d' fits A told answers lapses bytes =
      let new = writes (policy_of j p b) os here c.ask in
      let st = state_after new (comes_to (policy_of j p b) os here c.ask) b' A in
      let reached : world_of j p b' d' ≡ made (policy_of j p b) os here c = λ i. record { state = st i; told = told i; answers = answers i; lapses = lapses i; bytes = bytes i } in
      record {
        world = reached ∙ sym (cond-true (proper (policy_of j p b) os here c.ask) (made (policy_of j p b) os here c) here fits);
        wrote = subst (λ xs. Wrote j b.journal xs b'.journal) (sym (cond-true (proper (policy_of j p b) os here c.ask) new [] fits)) A.journal;
        policy = A.policy;
        reading = A.reading;
      }
