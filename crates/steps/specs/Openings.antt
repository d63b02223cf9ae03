-- What a taken opening leaves.
use Rattle.std.specs.Prelude.{◌≡◌, ℕ, ◌^◌, ◌<◌, ◌≤◌, Bool, true, cond, ◌∷◌, is_ok, Result}
use Rattle.std.specs.Result.{result_err}
use Rattle.meaning.specs.declared.opening.Opening.{Opening}
use Rattle.meaning.specs.declared.refusal.Refusal.{Refusal}
use Rattle.meaning.specs.Given.{Journal}
use Rattle.meaning.specs.declared.standing.Standing.{Standing}
use Rattle.meaning.specs.Rules.{Policy, opening_refused, opening_writes}
use Rattle.meaning.specs.Sound.{last, sound}
use Rattle.balances.specs.declared.balances.Balances.{Balances}
use Rattle.balances.specs.Books.{books_of}
use Rattle.image.specs.Image.{image_of}

-- an account to which nothing has happened
abbrev pub at_zero : Opening → Standing
at_zero A = record { account = A; debits_pending = 0; debits_posted = 0; credits_pending = 0; credits_posted = 0 }

-- what the types say of an opening's numbers
pub record Narrowed (A : Opening) : Type 0 where
  pub number : A.number < 2 ^ 32
  pub ledger : A.ledger < 2 ^ 16
  pub class : A.class < 2 ^ 8

-- refused as the rules say, or the tables show J with the opening's entry, which keeps the rules
pub record Opens (policy : Policy) (J : Journal) (T : ℕ) (full : Bool) (A : Opening) (r : Result (Unit {0}) Refusal) (after : Balances) : Type 0 where
  pub answer : result_err r ≡ opening_refused policy J full A
  pub tables : books_of after ≡ cond (is_ok r) (image_of (opening_writes T A ∷ J) T) (image_of J T)
  pub sound : is_ok r ≡ true → T ≤ last → sound (opening_writes T A) ≡ true
