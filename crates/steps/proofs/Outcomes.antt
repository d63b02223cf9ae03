-- What a finished chain comes to, case by case.
use Rattle.std.proofs.Common.{◌≡◌, ℕ, zero, suc, ◌<◌, ◌≤◌, false, List, [], ◌∷◌, length, set, replicate, Option, sym, refl, ap, ◌∙◌, subst, arith, Ok, Err}
use Rattle.std.proofs.lemmas.Bool.{lt-ltb, le-ltb}
use Rattle.meaning.specs.declared.order.Order.{Order}
use Rattle.meaning.specs.declared.refusal.Refusal.{Refusal}
use Rattle.meaning.specs.declared.refusal.Refusal.TheVariants.{ChainTooLong, ChainOverSpare}
use Rattle.meaning.specs.Basics.{sum_of}
use Rattle.meaning.specs.declared.answers.Stop.{Stop}
use Rattle.meaning.specs.Batches.{unfinished, first_refused, Outcome, all_are, by_legs, chain, grown, is_taken, taken, Answer}
use Rattle.meaning.specs.Given.{Journal}
use Rattle.meaning.specs.Rules.{Policy}
use Rattle.journal.specs.declared.journal.Journal as journal
use Rattle.balances.specs.declared.balances.Balances.{Balances}
use Rattle.balances.specs.Books.{books_of}
use Rattle.laws.specs.Steps.{Ready, Fronted}
use Rattle.laws.proofs.Writings.{Inside, inside, ready, chain_read}
use Rattle.image.specs.Image.{image_of}
use Rattle.steps.specs.Chained.{Tied, Chained}
use Rattle.steps.specs.Written.{journal_of, Wrote}
use Rattle.steps.proofs.Writes.{wrote_none}

pub none_taken : (n : ℕ) (r : Refusal) → sum_of is_taken (replicate n (Err r)) ≡ 0
none_taken zero r = refl
none_taken (suc n) r = omega (arith, none_taken n r)

pub all_taken : (n : ℕ) → sum_of is_taken (replicate n (Ok tt)) ≡ n
all_taken zero = refl
all_taken (suc n) = omega (arith, all_taken n)

-- one more refusal among refusals
pub still_none : (ans : List Answer) (i : ℕ) (r : Refusal) → sum_of is_taken ans ≡ 0 → sum_of is_taken (set ans i (Err r)) ≡ 0
still_none [] i r e = refl
still_none (a ∷ ans) zero r e = omega arith
still_none (a ∷ ans) (suc i) r e = omega (arith, still_none ans i r (omega arith))

module _ (policy : Policy) (J : Journal) (T spare : ℕ) (os : List Order) (u : unfinished os ≡ false) where
  pub too_long : 16 < length os → chain policy J T spare os ≡ all_are (Err ChainTooLong) os
  too_long lt = let l = lt-ltb 16 (length os) lt in rw (u, l)

  pub over_spare : length os ≤ 16 → spare < length os → chain policy J T spare os ≡ all_are (Err ChainOverSpare) os
  over_spare le lt = let l = le-ltb 16 (length os) le in let s = lt-ltb spare (length os) lt in rw (u, l, s)

  pub by_legs_lem : length os ≤ 16 → length os ≤ spare → (s : Option Stop) → first_refused policy J T os ≡ s → chain policy J T spare os ≡ by_legs T os s
  by_legs_lem le fits s e = let l = le-ltb 16 (length os) le in let r = le-ltb spare (length os) fits in rw (u, l, r, e)

module _ {J : Type 0} (j : journal.Ghosts J) (policy : Policy) (T : ℕ) (x : J) where
  -- a chain that wrote nothing leaves what was tied tied
  pub unchanged : (out : Outcome) (n : ℕ) (told : List Answer) (b b' : Balances) → Tied j policy T b x → books_of b' ≡ books_of b → out.entries ≡ [] → n ≡ taken out → told ≡ out.answers → Chained j policy T x out n told b' x
  unchanged out n told b b' t same none count answers = record {
    count = count;
    answers = answers;
    wrote = subst (λ new. Wrote j x new x) (sym none) (wrote_none j x);
    tied = record { ready = t.ready; tables = same ∙ t.tables; bounded = t.bounded };
  }

  -- a chain that is written out is tied as well
  pub written_out : (spare : ℕ) (os : List Order) (out : Outcome) (n : ℕ) (told : List Answer) (b b' : Balances) (x' : J) → Tied j policy T b x → Fronted os → chain policy (journal_of j x) T spare os ≡ out → Wrote j x out.entries x'
      → books_of b' ≡ image_of (grown (journal_of j x) out.entries) T → n ≡ taken out → told ≡ out.answers → Chained j policy T x out n told b' x'
  written_out spare os out n told b b' x' t front is w shown count answers =
      let K = journal_of j x in
      let after = ready policy _ T (subst (λ (o : Outcome). Inside policy (grown K o.entries) T 0) is (chain_read policy T K (inside policy K T t.ready) spare os front)) in
      record {
        count = count;
        answers = answers;
        wrote = w;
        tied = record { ready = subst (λ L. Ready policy L T) (sym w.records) after; tables = shown ∙ ap (λ L. image_of L T) (sym w.records); bounded = t.bounded };
      }

-- what holds of an outcome holds of a chain that comes to it
pub came_to : {J : Type 0} (j : journal.Ghosts J) (policy : Policy) (T : ℕ) (x x' : J) (out out' : Outcome) (n : ℕ) (told : List Answer) (b' : Balances) → out ≡ out' → Chained j policy T x out' n told b' x' → Chained j policy T x out n told b' x'
came_to j policy T x x' out out' n told b' e h = subst (λ (o : Outcome). Chained j policy T x o n told b' x') (sym e) h
