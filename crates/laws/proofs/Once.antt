-- Each reservation is closed at most once, in time, and for no more than was reserved.
use Rattle.std.proofs.Common.{◌≡◌, ℕ, ◌+◌, ◌≤◌, Bool, true, eqb, List, [], ◌∷◌, Some, None, refl, subst, arith}
use Rattle.std.specs.List.{AllByRecursion as All}
use Rattle.meaning.specs.declared.content.Content.{Content}
use Rattle.meaning.specs.declared.content.Content.TheVariants.{Account, Transfer, Reserve, Post, Void}
use Rattle.meaning.specs.declared.fate.Fate.TheVariants.{Live}
use Rattle.meaning.specs.Basics.{at, sum_of}
use Rattle.meaning.specs.Fates.{decided}
use Rattle.meaning.specs.Given.{Journal, Reserved, reservations, the_reservation, fate, is_live, ended_by, ended, highest}
use Rattle.meaning.specs.Rules.{Policy, number_refused, refused}
use Rattle.laws.specs.Steps.{Reads}
use Rattle.laws.specs.Kept.{names, closers, reservers, Open, Once}
use Rattle.laws.proofs.Finds.{Distinct, find_key}
use Rattle.laws.proofs.Passes.{both_none, post_open, void_open, reads_prefix, reads_rules}
use Rattle.laws.proofs.Numbered.{key, entry, Numbered, numbered}

-- what no post or void has closed, none names
unnamed : (J : Journal) (r : ℕ) → ended J r ≡ Live → closers J r ≡ 0
unnamed [] r h = refl
unnamed (e ∷ J) r h = go e.content h (unnamed J r)
  where
    go : (k : Content) → decided (ended_by r k) (ended J r) ≡ Live → (ended J r ≡ Live → closers J r ≡ 0) → at (names r k) 1 + closers J r ≡ 0
    go (Account x y z w) h ih = omega (arith, ih h)
    go (Transfer d c z) h ih = omega (arith, ih h)
    go (Reserve d c z u) h ih = omega (arith, ih h)
    go (Post q z) h ih = grind (arith, ih)
    go (Void q) h ih = grind (arith, ih)

stays_open : (J : Journal) (t r : ℕ) (R : Reserved) → the_reservation J r ≡ Some R → is_live (fate J t R) ≡ true → Open J t r R
stays_open J t r R is h =
    let w : R.number ≡ r = find_key key r (reservations J) R is in
    let c : ended J R.number ≡ Live = grind arith in
    record { stands = is; unclosed = unnamed J r (subst (λ v. ended J v ≡ Live) w c); in_time = λ p. grind arith }

counted_none : (r : ℕ) (xs : List Reserved) → All (λ R. R.number ≡ r → ⊥) xs → sum_of (λ (R : Reserved). at (eqb R.number r) 1) xs ≡ 0
counted_none r [] a = refl
counted_none r (R ∷ xs) a = let h = counted_none r xs a.1 in let ne = a.0 in grind arith

counted_one : (r : ℕ) (xs : List Reserved) → Distinct key xs → sum_of (λ (R : Reserved). at (eqb R.number r) 1) xs ≤ 1
counted_one r [] a = omega arith
counted_one r (R ∷ xs) a =
    let h = counted_one r xs a.1 in
    let z : R.number ≡ r → sum_of (λ (R : Reserved). at (eqb R.number r) 1) xs ≡ 0 = λ e. counted_none r xs (subst (λ v. All (λ Q. Q.number ≡ v → ⊥) xs) e a.0) in
    grind arith

reservers_one : (J : Journal) → Numbered J → (r : ℕ) → reservers J r ≤ 1
reservers_one J S r = counted_one r (reservations J) S.distinct

module _ (policy : Policy) (J : Journal) (n : ℕ) (l : Bool) (t : ℕ) (before : Once J) where
  -- one more closer of a reservation that had none
  closed_once : (q : ℕ) → closers J q ≡ 0 → (r : ℕ) → at (eqb q r) 1 + closers J r ≤ 1
  closed_once q none r = let b = before.one_close r in let w : q ≡ r → closers J r ≡ 0 = λ v. subst (λ x. closers J x ≡ 0) v none in grind arith

  once_more : (k : Content) → Numbered (entry n l t k ∷ J) → refused policy J t n k ≡ None → Once (entry n l t k ∷ J)
  once_more (Account x y z w) S e = record { one_reserve = reservers_one _ S; one_close = λ r. omega (arith, before.one_close r); well = (before.well, tt) }
  once_more (Transfer d c z) S e = record { one_reserve = reservers_one _ S; one_close = λ r. omega (arith, before.one_close r); well = (before.well, tt) }
  once_more (Reserve d c z u) S e = record { one_reserve = reservers_one _ S; one_close = λ r. omega (arith, before.one_close r); well = (before.well, tt) }
  once_more (Post q z) S e =
      let p = post_open policy J t z (the_reservation J q) (both_none (number_refused (highest J) n) _ e).1 in
      let o = stays_open J t q p.0 p.1 p.2 in
      record { one_reserve = reservers_one _ S; one_close = closed_once q o.unclosed; well = (before.well, (p.0, o, p.3)) }
  once_more (Void q) S e =
      let p = void_open policy J t (the_reservation J q) (both_none (number_refused (highest J) n) _ e).1 in
      let o = stays_open J t q p.0 p.1 p.2 in
      record { one_reserve = reservers_one _ S; one_close = closed_once q o.unclosed; well = (before.well, (p.0, o)) }

pub once : (policy : Policy) (J : Journal) → Reads policy J → Once J
once policy [] h = record { one_reserve = λ r. omega arith; one_close = λ r. omega arith; well = tt }
once policy (e ∷ J) h =
    once_more policy J e.number e.linked e.moment (once policy J (reads_prefix policy e J h)) e.content (numbered policy (e ∷ J) h) (reads_rules policy e J h)
