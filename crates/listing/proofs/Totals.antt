-- The totals of a journal's accounts are small, where tables hold them.
use Rattle.std.proofs.Common.{◌≡◌, ℕ, ◌^◌, ◌<◌, List, [], ◌∷◌, ◌++◌, map, subst, arith}
use Rattle.std.specs.List.{AllByRecursion as All}
use Rattle.meaning.specs.declared.account.Account.{Account}
use Rattle.meaning.specs.Given.{Journal, accounts}
use Rattle.meaning.specs.declared.standing.Standing.{Standing}
use Rattle.meaning.specs.Questions.{standing}
use Rattle.meaning.specs.Rows.{standing_of}
use Rattle.ordered.specs.Items.{items}
use Rattle.balances.specs.declared.balances.Balances.{Balances}
use Rattle.balances.specs.Books.{Books, books_of}
use Rattle.image.specs.Image.{oldest, image_of}

pub record Small (s : Standing) : Type 0 where
  pub debits_pending : s.debits_pending < 2 ^ 56
  pub debits_posted : s.debits_posted < 2 ^ 56
  pub credits_pending : s.credits_pending < 2 ^ 56
  pub credits_posted : s.credits_posted < 2 ^ 56

all_small : (as' : List Account) → All Small (map standing_of as')
all_small [] = tt
all_small (a ∷ as') =
    let d = a.totals.debits.fits in
    let c = a.totals.credits.fits in
    (record { debits_pending = omega arith; debits_posted = omega arith; credits_pending = omega arith; credits_posted = omega arith }, all_small as')

module _ {X : Type 0} (P : X → Type 0) where
  all_parts : (xs ys : List X) → All P (xs ++ ys) → All P xs × All P ys
  all_parts [] ys h = (tt, h)
  all_parts (x ∷ xs) ys h = let r = all_parts xs ys h.1 in ((h.0, r.0), r.1)

  all_of_oldest : {Y : Type 0} (f : Y → X) (ys : List Y) → All P (oldest f ys) → All (λ y. P (f y)) ys
  all_of_oldest f [] h = tt
  all_of_oldest f (y ∷ ys) h = let r = all_parts (oldest f ys) (f y ∷ []) h in (r.1.0, all_of_oldest f ys r.0)

pub small : (b : Balances) (J : Journal) (T : ℕ) → books_of b ≡ image_of J T → All (λ A. Small (standing J T A)) (accounts J)
small b J T e = all_of_oldest Small (standing J T) (accounts J) (subst (λ (k : Books). All Small k.rows) e (all_small (items b.tables.accounts)))
