-- Tables that show a journal at a moment.
use Rattle.std.specs.Prelude.{◌≡◌, ℕ, ◌≤◌, Bool, true, cond, ◌∷◌, is_ok, Result}
use Rattle.std.specs.Result.{result_err}
use Rattle.meaning.specs.declared.content.Content.{Content}
use Rattle.meaning.specs.declared.refusal.Refusal.{Refusal}
use Rattle.meaning.specs.Given.{Journal}
use Rattle.meaning.specs.Rules.{Policy, refused}
use Rattle.meaning.specs.Sound.{last, sound}
use Rattle.balances.specs.declared.balances.Balances.{Balances}
use Rattle.balances.specs.Books.{books_of}
use Rattle.laws.specs.Steps.{Reads}
use Rattle.image.specs.Image.{image_of, entry}

-- each entry of J passed its rules, and the tables hold what J and T give
pub record Shown (policy : Policy) (J : Journal) (T : ℕ) (b : Balances) : Type 0 where
  pub reads : Reads policy J
  pub tables : books_of b ≡ image_of J T

-- a leg of this number and content: refused as the rules say, or the tables show J with its entry, which keeps the rules
pub record Stepped (policy : Policy) (J : Journal) (T n : ℕ) (content : Content) (r : Result (Unit {0}) Refusal) (after : Balances) : Type 0 where
  pub answer : result_err r ≡ refused policy J T n content
  pub tables : (linked : Bool) → books_of after ≡ cond (is_ok r) (image_of (entry n linked T content ∷ J) T) (image_of J T)
  pub sound : is_ok r ≡ true → T ≤ last → (linked : Bool) → sound (entry n linked T content) ≡ true
