-- Two lawful policies that say the same of all that an account can have are the same.
use Rattle.std.proofs.Common.{◌≡◌, ℕ, Bool, true, false, refl, sym, ◌∙◌}
use Rattle.std.proofs.lemmas.Bool.{both_ways}
use Rattle.meaning.specs.Policies.{in_bounds, Agrees, Lawful}
use Rattle.meaning.specs.Rules.{Policy}

-- what an account can't have is not admitted
not_beyond : (policy : Policy) → Lawful policy → (k m dp dq cp cq : ℕ) → in_bounds k m dp dq cp cq ≡ false → policy k m dp dq cp cq ≡ false
not_beyond policy law k m dp dq cp cq out = go (policy k m dp dq cp cq) refl
  where
    go : (b : Bool) → policy k m dp dq cp cq ≡ b → b ≡ false
    go true e = absurd (both_ways _ out (law.within k m dp dq cp cq e))
    go false e = refl

pub same_policy : (p q : Policy) → Lawful p → Lawful q → Agrees p q → p ≡ q
same_policy p q of_p of_q agrees = λ i k m dp dq cp cq. go k m dp dq cp cq (in_bounds k m dp dq cp cq) refl i
  where
    go : (k m dp dq cp cq : ℕ) (b : Bool) → in_bounds k m dp dq cp cq ≡ b → p k m dp dq cp cq ≡ q k m dp dq cp cq
    go k m dp dq cp cq true is = agrees k m dp dq cp cq is
    go k m dp dq cp cq false is = not_beyond p of_p k m dp dq cp cq is ∙ sym (not_beyond q of_q k m dp dq cp cq is)
