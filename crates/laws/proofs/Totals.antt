-- The totals after one more entry, and at a later moment.
use Rattle.std.proofs.Common.{◌≡◌, ℕ, ◌+◌, ◌<◌, ◌≤◌, Bool, true, eqb, ◌∷◌, Some, None, refl, ap, ◌∙◌, arith}
use Rattle.meaning.specs.declared.content.Content.{Content}
use Rattle.meaning.specs.declared.content.Content.TheVariants.{Account, Transfer, Reserve, Post, Void}
use Rattle.meaning.specs.declared.fate.Fate.TheVariants.{Live}
use Rattle.meaning.specs.Basics.{at}
use Rattle.meaning.specs.Given.{Journal, Reserved, reservations, the_reservation, fate, is_live, ended, Side, pick, through, pending, Movement, with_post, movements, posted, highest}
use Rattle.meaning.specs.Rules.{Policy, number_refused, refused}
use Rattle.laws.specs.Steps.{Reads, Step, falling, Stepwise}
use Rattle.laws.proofs.Finds.{Distinct, sum_add, sum_less, find_key}
use Rattle.laws.proofs.Passes.{both_none, reserve_passes, post_open, void_open}
use Rattle.laws.proofs.Numbered.{key, entry, Numbered, numbered}

-- what a post or a void takes from what is pending
module _ (J : Journal) (T : ℕ) (s : Side) (a n : ℕ) (l : Bool) (t r : ℕ) (R : Reserved) (fall : Distinct key (reservations J)) (is : the_reservation J r ≡ Some R) (alive : is_live (fate J T R) ≡ true) where
  abbrev part : Journal → Reserved → ℕ
  part K Q = at (eqb (pick s Q.debit Q.credit) a) (at (is_live (fate K T Q)) Q.amount)

  pending_post : (z : ℕ) → pending J T s a ≡ pending (entry n l t (Post r z) ∷ J) T s a + at (eqb (pick s R.debit R.credit) a) R.amount
  pending_post z =
      let kr : R.number ≡ r = find_key key r (reservations J) R is in
      sum_less key r (part J) (part (entry n l t (Post r z) ∷ J)) (reservations J) R fall is (λ Q ne. grind arith) (grind arith) ∙ grind arith

  pending_void : pending J T s a ≡ pending (entry n l t (Void r) ∷ J) T s a + at (eqb (pick s R.debit R.credit) a) R.amount
  pending_void =
      let kr : R.number ≡ r = find_key key r (reservations J) R is in
      sum_less key r (part J) (part (entry n l t (Void r) ∷ J)) (reservations J) R fall is (λ Q ne. grind arith) (grind arith) ∙ grind arith

module _ (policy : Policy) (J : Journal) (T n : ℕ) (l : Bool) (t : ℕ) where
  pub step : (k : Content) → Numbered J → refused policy J T n k ≡ None → Step J T k (pending (entry n l t k ∷ J) T) (posted (entry n l t k ∷ J))
  step (Account x y z w) S e = λ s a. (refl, refl)
  step (Transfer d c z) S e = λ s a. (refl, omega arith)
  step (Reserve d c z u) S e =
      let lt : highest J < n = (reserve_passes policy J T n d c z u e).above in
      let o : ended J n ≡ Live = S.unclosed n lt in
      λ s a. (grind arith, refl)
  step (Post r z) S e =
      let p = post_open policy J T z (the_reservation J r) (both_none (number_refused (highest J) n) _ e).1 in
      (p.0, record { found = p.1; live = p.2 }, p.3, λ s a. (pending_post J T s a n l t r p.0 S.distinct p.1 p.2 z, ap (λ o. through (λ (M : Movement). M.debit) (λ M. M.credit) (λ M. M.amount) (with_post o z (movements J)) s a) p.1 ∙ omega arith))
  step (Void r) S e =
      let p = void_open policy J T (the_reservation J r) (both_none (number_refused (highest J) n) _ e).1 in
      (p.0, record { found = p.1; live = p.2 }, λ s a. (pending_void J T s a n l t r p.0 S.distinct p.1 p.2, refl))

pub lapse : (J : Journal) (T T' : ℕ) → T ≤ T' → (s : Side) (a : ℕ) → pending J T s a ≡ pending J T' s a + falling J T T' s a
lapse J T T' le s a = sum_add _ _ _ (reservations J) (λ R. grind arith)

pub stepwise : (policy : Policy) (J : Journal) → Reads policy J → (T : ℕ) → Stepwise policy J T
stepwise policy J h T = record { by_entry = λ e q. step policy J T e.number e.linked e.moment e.content (numbered policy J h) q; by_time = lapse J T }
