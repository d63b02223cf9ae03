-- In each ledger debits equal credits, since all that moves is between two accounts of one ledger.
use Rattle.std.proofs.Common.{◌≡◌, ℕ, eqb, List, [], ◌∷◌, Some, refl, ap, arith}
use Rattle.std.specs.List.{AllByRecursion as All}
use Rattle.meaning.specs.declared.opening.Opening.{Opening}
use Rattle.meaning.specs.Basics.{at, sum_of}
use Rattle.meaning.specs.Given.{Journal, Reserved, accounts, reservations, fate, is_live, debits, credits, through, Movement, movements}
use Rattle.meaning.specs.Rules.{Policy}
use Rattle.laws.specs.Steps.{Reads}
use Rattle.laws.specs.Kept.{Balanced}
use Rattle.laws.proofs.Finds.{Distinct, sum_less, sum_add, sum_zero, find_key, find_by}
use Rattle.laws.proofs.Known.{akey, Pair, known}

module _ (As : List Opening) (apart : Distinct akey As) (L : ℕ) where
  -- one amount at one account
  sum_one : (d z : ℕ) (D : Opening) → find_by akey d As ≡ Some D → sum_of (λ A. at (eqb A.ledger L) (at (eqb d A.number) z)) As ≡ at (eqb D.ledger L) z
  sum_one d z D is =
      let k : D.number ≡ d = find_key akey d As D is in
      let h = sum_less akey d (λ A. at (eqb A.ledger L) (at (eqb d A.number) z)) (λ A. 0) As D apart is (λ A ne. grind arith) refl in
      let o = sum_zero As in
      grind arith

  module _ {X : Type 0} (dr cr w : X → ℕ) where
    balance : (xs : List X) → All (λ x. Pair As (dr x) (cr x)) xs → sum_of (λ A. at (eqb A.ledger L) (through dr cr w xs debits A.number)) As ≡ sum_of (λ A. at (eqb A.ledger L) (through dr cr w xs credits A.number)) As
    balance [] h = refl
    balance (x ∷ xs) h =
        let ih = balance xs h.1 in
        let d = sum_add (λ A. at (eqb A.ledger L) (through dr cr w (x ∷ xs) debits A.number)) (λ A. at (eqb A.ledger L) (at (eqb (dr x) A.number) (w x))) (λ A. at (eqb A.ledger L) (through dr cr w xs debits A.number)) As (λ A. grind arith) in
        let c = sum_add (λ A. at (eqb A.ledger L) (through dr cr w (x ∷ xs) credits A.number)) (λ A. at (eqb A.ledger L) (at (eqb (cr x) A.number) (w x))) (λ A. at (eqb A.ledger L) (through dr cr w xs credits A.number)) As (λ A. grind arith) in
        let od = sum_one (dr x) (w x) h.0.D h.0.is_d in
        let oc = sum_one (cr x) (w x) h.0.C h.0.is_c in
        let same = ap (λ y. at (eqb y L) (w x)) h.0.one_ledger in
        omega arith

pub balanced : (policy : Policy) (J : Journal) → Reads policy J → (T : ℕ) → Balanced J T
balanced policy J h T =
    let K = known policy J h in
    record {
      by_pending = λ L. balance (accounts J) K.apart L (λ (R : Reserved). R.debit) (λ R. R.credit) (λ R. at (is_live (fate J T R)) R.amount) (reservations J) K.of_reservations;
      by_posted = λ L. balance (accounts J) K.apart L (λ (M : Movement). M.debit) (λ M. M.credit) (λ M. M.amount) (movements J) K.of_movements;
    }
