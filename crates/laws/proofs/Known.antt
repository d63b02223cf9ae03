-- The accounts of a journal that reads differ, and what is reserved or moved is between two of one ledger.
use Rattle.std.proofs.Common.{◌≡◌, ℕ, Bool, true, false, cond, eqb, List, [], ◌∷◌, Some, None, sym, refl, ap, subst, arith}
use Rattle.std.specs.List.{AllByRecursion as All}
use Rattle.std.proofs.ByRecursion.{All-weaker}
use Rattle.meaning.specs.declared.content.Content.{Content}
use Rattle.meaning.specs.declared.content.Content.TheVariants.{Account, Transfer, Reserve, Post, Void}
use Rattle.meaning.specs.declared.opening.Opening.{Opening}
use Rattle.meaning.specs.Basics.{at}
use Rattle.meaning.specs.Given.{Journal, accounts, reservations, the_reservation, Side, debits, credits, pick, through, with_post, movements, highest}
use Rattle.meaning.specs.Rules.{Policy, number_refused, refused}
use Rattle.laws.specs.Steps.{Reads}
use Rattle.laws.proofs.Finds.{Distinct, find_all, find_none, find_by}
use Rattle.laws.proofs.Passes.{both_none, Passes, movement_passes, reserve_passes, post_open, opening_passes, reads_prefix, reads_rules}
use Rattle.laws.proofs.Numbered.{key, entry}

abbrev pub akey : Opening → ℕ
akey A = A.number

-- two accounts of one ledger
pub record Pair (As : List Opening) (d c : ℕ) : Type 0 where
  pub D : Opening
  pub C : Opening
  pub is_d : find_by akey d As ≡ Some D
  pub is_c : find_by akey c As ≡ Some C
  pub one_ledger : D.ledger ≡ C.ledger

pub record Known (J : Journal) : Type 0 where
  pub of_reservations : All (λ R. Pair (accounts J) R.debit R.credit) (reservations J)
  pub of_movements : All (λ M. Pair (accounts J) M.debit M.credit) (movements J)
  pub apart : Distinct akey (accounts J)

-- what an opened account leaves as it was
find_kept : (As : List Opening) (A B : Opening) (a : ℕ) → find_by akey A.number As ≡ None → find_by akey a As ≡ Some B → find_by akey a (A ∷ As) ≡ Some B
find_kept As A B a h e = go (eqb A.number a) refl
  where
    go : (b : Bool) → eqb A.number a ≡ b → cond b (Some A) (find_by akey a As) ≡ Some B
    go true q = let v : A.number ≡ a = grind arith in let w = ap (λ x. find_by akey x As) v in cc
    go false q = e

pair_kept : (As : List Opening) (A : Opening) (d c : ℕ) → find_by akey A.number As ≡ None → Pair As d c → Pair (A ∷ As) d c
pair_kept As A d c h P = record { D = P.D; C = P.C; is_d = find_kept As A P.D d h P.is_d; is_c = find_kept As A P.C c h P.is_c; one_ledger = P.one_ledger }

module _ (policy : Policy) (J : Journal) (n : ℕ) (l : Bool) (t : ℕ) where
  pair : (d c p q : ℕ) → Passes policy J t n d c p q → Pair (accounts J) d c
  pair d c p q m = record { D = m.debit; C = m.credit; is_d = m.is_debit; is_c = m.is_credit; one_ledger = m.moves.one_ledger }

  known_more : (k : Content) → Known J → refused policy J t n k ≡ None → Known (entry n l t k ∷ J)
  known_more (Account x y z w) K e =
      let A : Opening = record { number = n; ledger = x; class = y; limit = z; label = w } in
      let f = (opening_passes policy J false A e).free in
      record {
        of_reservations = All-weaker (λ R. Pair (accounts J) R.debit R.credit) (λ R. Pair (A ∷ accounts J) R.debit R.credit) (λ R. pair_kept (accounts J) A R.debit R.credit f) (reservations J) K.of_reservations;
        of_movements = All-weaker (λ R. Pair (accounts J) R.debit R.credit) (λ R. Pair (A ∷ accounts J) R.debit R.credit) (λ R. pair_kept (accounts J) A R.debit R.credit f) (movements J) K.of_movements;
        apart = (find_none akey n (accounts J) f, K.apart);
      }
  known_more (Transfer d c z) K e = record { of_reservations = K.of_reservations; of_movements = (pair d c 0 z (movement_passes policy J t n d c 0 z e), K.of_movements); apart = K.apart }
  known_more (Reserve d c z u) K e = record { of_reservations = (pair d c z 0 (reserve_passes policy J t n d c z u e), K.of_reservations); of_movements = K.of_movements; apart = K.apart }
  known_more (Post q z) K e =
      let p = post_open policy J t z (the_reservation J q) (both_none (number_refused (highest J) n) _ e).1 in
      let w = find_all key q (λ R. Pair (accounts J) R.debit R.credit) (reservations J) p.0 K.of_reservations p.1 in
      record { of_reservations = K.of_reservations; of_movements = subst (λ o. All (λ M. Pair (accounts J) M.debit M.credit) (with_post o z (movements J))) (sym p.1) (w, K.of_movements); apart = K.apart }
  known_more (Void q) K e = record { of_reservations = K.of_reservations; of_movements = K.of_movements; apart = K.apart }

pub known : (policy : Policy) (J : Journal) → Reads policy J → Known J
known policy [] h = record { of_reservations = tt; of_movements = tt; apart = tt }
known policy (e ∷ J) h =
    known_more policy J e.number e.linked e.moment e.content (known policy J (reads_prefix policy e J h)) (reads_rules policy e J h)

-- nothing goes through an account that is not there
module _ {X : Type 0} (As : List Opening) (dr cr w : X → ℕ) (a : ℕ) (free : find_by akey a As ≡ None) where
  pub through_none : (s : Side) (xs : List X) → All (λ x. Pair As (dr x) (cr x)) xs → through dr cr w xs s a ≡ 0
  through_none s [] h = refl
  through_none s (x ∷ xs) h = omega (arith, through_none s xs h.1, none_of s)
    where
      elsewhere : (d : ℕ) (D : Opening) → find_by akey d As ≡ Some D → d ≡ a → ⊥
      elsewhere d D e v = let q = ap (λ y. find_by akey y As) v in let z : ◌≡◌ {A = ℕ} 0 1 = cc in omega arith

      none_of : (s : Side) → at (eqb (pick s (dr x) (cr x)) a) (w x) ≡ 0
      none_of debits = let ne = elsewhere (dr x) h.0.D h.0.is_d in grind arith
      none_of credits = let ne = elsewhere (cr x) h.0.C h.0.is_c in grind arith
