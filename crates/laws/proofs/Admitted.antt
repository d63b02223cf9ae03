-- A lawful policy admits every account of a journal that reads, at its last moment and later.
use Rattle.std.proofs.Common.{◌≡◌, ℕ, ◌+◌, ◌-◌, ◌≤◌, Bool, true, false, cond, eqb, List, [], ◌∷◌, Some, None, sym, refl, ap, ◌∙◌, subst, arith}
use Rattle.std.proofs.ByRecursion.{All-weaker}
use Rattle.meaning.specs.declared.content.Content.{Content}
use Rattle.meaning.specs.declared.content.Content.TheVariants.{Account, Transfer, Reserve, Post, Void}
use Rattle.meaning.specs.declared.opening.Opening.{Opening}
use Rattle.meaning.specs.Basics.{at}
use Rattle.meaning.specs.Given.{Journal, Reserved, accounts, reservations, the_account, fate, is_live, due, Side, debits, credits, pending, Movement, movements, posted, latest}
use Rattle.meaning.specs.Rules.{Policy, refused}
use Rattle.laws.specs.Steps.{Reads, falling}
use Rattle.meaning.specs.Policies.{Lawful}
use Rattle.laws.specs.Kept.{Holds, Admitted}
use Rattle.laws.proofs.Finds.{find_key, find_by, finds_each}
use Rattle.laws.proofs.Passes.{Moves, movement_passes, reserve_passes, opening_passes, reads_prefix, reads_rules, reads_moment}
use Rattle.laws.proofs.Numbered.{entry, Numbered, numbered}
use Rattle.laws.proofs.Known.{akey, Known, known, through_none}
use Rattle.laws.proofs.Totals.{step, lapse}

-- the account that is found under a number, as it stands at T
abbrev Found : Policy → Journal → ℕ → Type 0
Found policy J T =
    (a : ℕ) (A : Opening) → the_account J a ≡ Some A → Holds policy A (pending J T debits a) (posted J debits a) (pending J T credits a) (posted J credits a)

module _ (policy : Policy) (law : Lawful policy) where
  debit_law : (k m dp dq cp cq x y : ℕ) → policy k m (dp + x) dq cp cq ≡ true → y ≤ x → policy k m dp (dq + y) cp cq ≡ true
  debit_law k m dp dq cp cq x y h le = let q = law.debit_law k m (dp + x) dq cp cq x y h le (omega arith) in let e : dp + x - x ≡ dp = omega arith in rw e at q

  credit_law : (k m dp dq cp cq x y : ℕ) → policy k m dp dq (cp + x) cq ≡ true → y ≤ x → policy k m dp dq cp (cq + y) ≡ true
  credit_law k m dp dq cp cq x y h le = let q = law.credit_law k m dp dq (cp + x) cq x y h le (omega arith) in let e : cp + x - x ≡ cp = omega arith in rw e at q

  -- x and y leave what is pending, and v and w of them come to what is posted
  holds_less : {A : Opening} {dp dq cp cq dp' dq' cp' cq' : ℕ} (x v y w : ℕ) → Holds policy A dp dq cp cq → dp ≡ dp' + x → dq' ≡ dq + v → v ≤ x → cp ≡ cp' + y → cq' ≡ cq + w → w ≤ y → Holds policy A dp' dq' cp' cq'
  holds_less {A} {dp} {dq} {cp} {cq} {dp'} {dq'} {cp'} {cq'} x v y w H e1 e2 le e3 e4 le' =
      let a : policy A.class A.limit (dp' + x) dq cp cq ≡ true = rw e1 at H.admits in
      let b : policy A.class A.limit dp' (dq + v) (cp' + y) cq ≡ true = rw e3 at (debit_law A.class A.limit dp' dq cp cq x v a le) in
      let c = credit_law A.class A.limit dp' (dq + v) cp' cq y w b le' in
      record { admits = cc; debits_fit = omega (arith, H.debits_fit); credits_fit = omega (arith, H.credits_fit) }

  holds_same : {A : Opening} {dp dq cp cq dp' dq' cp' cq' : ℕ} → Holds policy A dp dq cp cq → dp ≡ dp' → dq ≡ dq' → cp ≡ cp' → cq ≡ cq' → Holds policy A dp' dq' cp' cq'
  holds_same H e1 e2 e3 e4 = let m = H.admits in record { admits = cc; debits_fit = omega (arith, H.debits_fit); credits_fit = omega (arith, H.credits_fit) }

  admitted_later : (J : Journal) (T T' : ℕ) → T ≤ T' → Found policy J T → Found policy J T'
  admitted_later J T T' le H a A is =
      holds_less (falling J T T' debits a) 0 (falling J T T' credits a) 0 (H a A is) (lapse J T T' le debits a) (omega arith) (omega arith) (lapse J T T' le credits a) (omega arith) (omega arith)

  module _ (As : List Opening) (P Q : Side → ℕ → ℕ) (p q d c : ℕ) (D C : Opening) (M : Moves policy P Q p q D C) (is_d : find_by akey d As ≡ Some D) (is_c : find_by akey c As ≡ Some C) where
    holds_move : (a : ℕ) (A : Opening) → find_by akey a As ≡ Some A → Holds policy A (P debits a) (Q debits a) (P credits a) (Q credits a) → Holds policy A (P debits a + at (eqb d a) p) (Q debits a + at (eqb d a) q) (P credits a + at (eqb c a) p) (Q credits a + at (eqb c a) q)
    holds_move a A is_a H = go (eqb d a) refl (eqb c a) refl
      where
        go : (b : Bool) → eqb d a ≡ b → (b' : Bool) → eqb c a ≡ b' → Holds policy A (P debits a + at b p) (Q debits a + at b q) (P credits a + at b' p) (Q credits a + at b' q)
        go true e true e' =
            let kd = find_key akey d As D is_d in
            let kc = find_key akey c As C is_c in
            absurd (M.apart (grind arith))
        go true e false e' =
            let v : d ≡ a = grind arith in
            let f = ap (λ x. find_by akey x As) v in
            let DA : D ≡ A = cc in
            let n : D.number ≡ a = find_key akey d As D is_d ∙ v in
            let z1 : P credits a + 0 ≡ P credits a = omega arith in
            let z2 : Q credits a + 0 ≡ Q credits a = omega arith in
            let m = M.debit_admits in
            let g : P debits D.number ≡ P debits a = cc in
            let g' : Q debits D.number ≡ Q debits a = cc in
            record { admits = cc; debits_fit = omega (arith, M.debit_fits); credits_fit = omega (arith, H.credits_fit) }
        go false e true e' =
            let v : c ≡ a = grind arith in
            let f = ap (λ x. find_by akey x As) v in
            let CA : C ≡ A = cc in
            let n : C.number ≡ a = find_key akey c As C is_c ∙ v in
            let z1 : P debits a + 0 ≡ P debits a = omega arith in
            let z2 : Q debits a + 0 ≡ Q debits a = omega arith in
            let m = M.credit_admits in
            let g : P credits C.number ≡ P credits a = cc in
            let g' : Q credits C.number ≡ Q credits a = cc in
            record { admits = cc; debits_fit = omega (arith, H.debits_fit); credits_fit = omega (arith, M.credit_fits) }
        go false e false e' =
            let z1 : P debits a + 0 ≡ P debits a = omega arith in
            let z2 : Q debits a + 0 ≡ Q debits a = omega arith in
            let z3 : P credits a + 0 ≡ P credits a = omega arith in
            let z4 : Q credits a + 0 ≡ Q credits a = omega arith in
            let m = H.admits in
            record { admits = cc; debits_fit = omega (arith, H.debits_fit); credits_fit = omega (arith, H.credits_fit) }

  module _ (J : Journal) (n : ℕ) (l : Bool) (t : ℕ) (N : Numbered J) (K : Known J) (H : Found policy J t) where
    admitted_more : (k : Content) → refused policy J t n k ≡ None → Found policy (entry n l t k ∷ J) t
    admitted_more (Account x y z w) e a A is = go (eqb n a) refl is
      where
        B : Opening
        B = record { number = n; ledger = x; class = y; limit = z; label = w }

        go : (b : Bool) → eqb n a ≡ b → cond b (Some B) (the_account J a) ≡ Some A → Holds policy A (pending J t debits a) (posted J debits a) (pending J t credits a) (posted J credits a)
        go true q s =
            let BA : B ≡ A = cc in
            let O = opening_passes policy J false B e in
            let v : n ≡ a = grind arith in
            let g : the_account J a ≡ None = subst (λ m. the_account J m ≡ None) v O.free in
            let o : policy y z 0 0 0 0 ≡ true = O.zeros_admitted in
            let zp : (s : Side) → 0 ≡ pending J t s a = λ s. sym (through_none (accounts J) (λ (R : Reserved). R.debit) (λ R. R.credit) (λ R. at (is_live (fate J t R)) R.amount) a g s (reservations J) K.of_reservations) in
            let zq : (s : Side) → 0 ≡ posted J s a = λ s. sym (through_none (accounts J) (λ (M : Movement). M.debit) (λ M. M.credit) (λ M. M.amount) a g s (movements J) K.of_movements) in
            let Z : Holds policy A 0 0 0 0 = record { admits = cc; debits_fit = omega arith; credits_fit = omega arith } in
            holds_same Z (zp debits) (zq debits) (zp credits) (zq credits)
        go false q s = H a A s
    admitted_more (Transfer d c z) e a A is =
        let m = movement_passes policy J t n d c 0 z e in
        let st = step policy J t n l t (Transfer d c z) N e in
        holds_same (holds_move (accounts J) (pending J t) (posted J) 0 z d c m.debit m.credit m.moves m.is_debit m.is_credit a A is (H a A is)) (grind arith) (omega arith) (grind arith) (omega arith)
    admitted_more (Reserve d c z u) e a A is =
        let m = reserve_passes policy J t n d c z u e in
        let st = step policy J t n l t (Reserve d c z u) N e in
        let sd = (st debits a).0 in
        let sc = (st credits a).0 in
        holds_less (at (due u t) (at (eqb d a) z)) 0 (at (due u t) (at (eqb c a) z)) 0
        (holds_move (accounts J) (pending J t) (posted J) z 0 d c m.debit m.credit m.moves m.is_debit m.is_credit a A is (H a A is)) (grind arith) (grind arith) (omega arith) (grind arith) (grind arith) (omega arith)
    admitted_more (Post r z) e a A is =
        let st = step policy J t n l t (Post r z) N e in
        let R = st.0 in
        let d = st.3 debits a in
        let c = st.3 credits a in
        let le = st.2 in
        holds_less (at (eqb R.debit a) R.amount) (at (eqb R.debit a) z) (at (eqb R.credit a) R.amount) (at (eqb R.credit a) z) (H a A is) d.0 d.1 (grind arith) c.0 c.1 (grind arith)
    admitted_more (Void r) e a A is =
        let st = step policy J t n l t (Void r) N e in
        let R = st.0 in
        let d = st.2 debits a in
        let c = st.2 credits a in
        holds_less (at (eqb R.debit a) R.amount) 0 (at (eqb R.credit a) R.amount) 0 (H a A is) d.0 (omega arith) (omega arith) c.0 (omega arith) (omega arith)

  found_admitted : (J : Journal) → Reads policy J → (T : ℕ) → latest J ≤ T → Found policy J T
  found_admitted [] h T le = λ a A e. absurd (grind arith)
  found_admitted (e ∷ J) h T le =
      let before = reads_prefix policy e J h in
      admitted_later (e ∷ J) e.moment T le (admitted_more J e.number e.linked e.moment (numbered policy J before) (known policy J before) (found_admitted J before e.moment (reads_moment policy e J h)) e.content (reads_rules policy e J h))

  -- each account is found under its number
  pub admitted : (J : Journal) → Reads policy J → (T : ℕ) → latest J ≤ T → Admitted policy J T
  admitted J h T le = All-weaker (λ A. the_account J A.number ≡ Some A) _ (λ A. found_admitted J h T le A.number A) (accounts J) (finds_each akey (accounts J) (known policy J h).apart)
