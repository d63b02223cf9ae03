-- The laws of a policy, when two are the same, and what the four policies admit.
use Rattle.std.specs.Prelude.{◌≡◌, ℕ, ◌+◌, ◌-◌, ◌^◌, ◌≤◌, Bool, true, cond, ◌&&◌, nat_le, nat_lt}
use Rattle.meaning.specs.Rules.{Policy}
use Rattle.meaning.specs.Sound.{top}

-- the numbers that an account can have: a class to 255, a limit to the top, and each side's sum to the top
abbrev pub in_bounds : (class limit dp dq cp cq : ℕ) → Bool
in_bounds k m dp dq cp cq =
    nat_lt k (2 ^ 8) && (nat_le m top && (nat_le (dp + dq) top && nat_le (cp + cq) top))

-- what is said of these numbers; any others are not admitted, and never asked about
abbrev pub bounded : Policy → Policy
bounded says k m dp dq cp cq = in_bounds k m dp dq cp cq && says k m dp dq cp cq

-- two policies that say the same of all that an account can have
abbrev pub Agrees : Policy → Policy → Type 0
Agrees p q = (k m dp dq cp cq : ℕ) → in_bounds k m dp dq cp cq ≡ true → p k m dp dq cp cq ≡ q k m dp dq cp cq

-- What a policy owes: it admits nothing but what an account can have, and there it keeps two laws: what is pending may go,
-- and as much of it or less be posted.
pub record Lawful (policy : Policy) : Type 0 where
  pub within : (k m dp dq cp cq : ℕ) → policy k m dp dq cp cq ≡ true → in_bounds k m dp dq cp cq ≡ true
  pub debit_law : (k m dp dq cp cq x y : ℕ) → policy k m dp dq cp cq ≡ true → y ≤ x → x ≤ dp → policy k m (dp - x) (dq + y) cp cq ≡ true
  pub credit_law : (k m dp dq cp cq x y : ℕ) → policy k m dp dq cp cq ≡ true → y ≤ x → x ≤ cp → policy k m dp dq (cp - x) (cq + y) ≡ true

abbrev pub open_to_all : Policy
open_to_all = bounded (λ class limit dp dq cp cq. true)

-- what is drawn, pending or posted, stays within what has come in and the limit
abbrev pub floor : Policy
floor = bounded (λ class limit dp dq cp cq. nat_le (dp + dq) (cq + limit))

-- what comes in, pending or posted, stays within what was drawn and the limit
abbrev pub ceiling : Policy
ceiling = bounded (λ class limit dp dq cp cq. nat_le (cp + cq) (dq + limit))

-- one policy below a class, another from it on
abbrev pub by_class : ℕ → Policy → Policy → Policy
by_class from below above class limit dp dq cp cq = cond (nat_lt class from) (below class limit dp dq cp cq) (above class limit dp dq cp cq)
