-- What a closed reservation leaves: its two rows, its own place, and the queue.
use Rattle.std.proofs.Common.{◌≡◌, ℕ, ◌+◌, ◌-◌, ◌≤◌, min, Bool, true, false, cond, eqb, List, [], ◌∷◌, map, Some, sym, refl, ap, ◌∙◌, arith}
use Rattle.std.specs.List.{AllByRecursion as All, filter}
use Rattle.std.proofs.ByRecursion.{All-weaker}
use Rattle.std.proofs.lemmas.Bool.{eqb-true, eqb-false, eq-eqb, ne_eqb}
use Rattle.std.proofs.lemmas.Bool.Decides.{nat_tests}
use Rattle.meaning.specs.declared.opening.Opening.{Opening}
use Rattle.meaning.specs.Basics.{at}
use Rattle.meaning.specs.Given.{Reserved}
use Rattle.meaning.specs.declared.standing.Standing.{Standing}
use Rattle.meaning.specs.Rows.{debit_released, credit_released}
use Rattle.ordered.specs.Orders.{due_before}
use Rattle.ordered.specs.Rows.{apart, without}
use Rattle.ordered.specs.Keyed.{due_of}
use Rattle.balances.specs.Books.{no_row}
use Rattle.laws.proofs.Finds.{Distinct, find_by}
use Rattle.laws.proofs.Numbered.{key}
use Rattle.image.proofs.Asked.{skey}
use Rattle.image.proofs.Oldest.{changed_if}

-- an amount that leaves what is pending, with a part of it posted
release : (n d a b p q p' q' : ℕ) → p ≡ p' + at (eqb d n) a → q' ≡ q + at (eqb d n) b → b ≤ a → (t : Bool) → eqb n d ≡ t → (cond t (p - a) p ≡ p') × (cond t (q + min b (min a p)) q ≡ q')
release n d a b p q p' q' ep eq le true e =
    let is : eqb d n ≡ true = eq-eqb d n (sym (eqb-true n d e)) in
    let ea : at (eqb d n) a ≡ a = ap (λ t. at t a) is in
    let eb : at (eqb d n) b ≡ b = ap (λ t. at t b) is in
    (omega arith, omega arith)
release n d a b p q p' q' ep eq le false e =
    let no : eqb d n ≡ false = ne_eqb d n (λ x. eqb-false n d e (sym x)) in
    let ea : at (eqb d n) a ≡ 0 = ap (λ t. at t a) no in
    let eb : at (eqb d n) b ≡ 0 = ap (λ t. at t b) no in
    (omega arith, omega arith)

module _ (A : Opening) (dp dq cp cq dp' dq' cp' cq' d c a b : ℕ) (le : b ≤ a) (e1 : dp ≡ dp' + at (eqb d A.number) a) (e2 : dq' ≡ dq + at (eqb d A.number) b) (e3 : cp ≡ cp' + at (eqb c A.number) a) (e4 : cq' ≡ cq + at (eqb c A.number) b) where
  abbrev row : (dp dq cp cq : ℕ) → Standing
  row w x y z = record { account = A; debits_pending = w; debits_posted = x; credits_pending = y; credits_posted = z }

  on_debit : (t : Bool) → cond t (debit_released a b (row dp dq cp cq)) (row dp dq cp cq) ≡ row (cond t (dp - a) dp) (cond t (dq + min b (min a dp)) dq) cp cq
  on_debit true = refl
  on_debit false = refl

  on_credit : (t : Bool) → cond t (credit_released a b (row dp' dq' cp cq)) (row dp' dq' cp cq) ≡ row dp' dq' (cond t (cp - a) cp) (cond t (cq + min b (min a cp)) cq)
  on_credit true = refl
  on_credit false = refl

  pub released_row : changed_if skey c no_row (credit_released a b) (changed_if skey d no_row (debit_released a b) (row dp dq cp cq)) ≡ row dp' dq' cp' cq'
  released_row =
      let x = release A.number d a b dp dq dp' dq' e1 e2 le (eqb A.number d) refl in
      let y = release A.number c a b cp cq cp' cq' e3 e4 le (eqb A.number c) refl in
      ap (changed_if skey c no_row (credit_released a b)) (on_debit (eqb A.number d) ∙ (λ i. row (x.0 i) (x.1 i) cp cq))
      ∙ (on_credit (eqb A.number c) ∙ (λ i. row dp' dq' (y.0 i) (y.1 i)))

-- among distinct keys, the one that is found is the only one of its key
pub found_only : {X : Type 0} (k : X → ℕ) (n : ℕ) (xs : List X) (x : X) → Distinct k xs → find_by k n xs ≡ Some x → All (λ y. k y ≡ n → y ≡ x) xs
found_only k n [] x dist e = tt
found_only {X} k n (y ∷ xs) x dist e = go (eqb (k y) n) refl e (λ q. found_only k n xs x dist.1 q)
  where
    go : (b : Bool) → eqb (k y) n ≡ b → cond b (Some y) (find_by k n xs) ≡ Some x → (find_by k n xs ≡ Some x → All (λ z. k z ≡ n → z ≡ x) xs) → (k y ≡ n → y ≡ x) × All (λ z. k z ≡ n → z ≡ x) xs
    go true q s ih =
        let is : k y ≡ n = eqb-true (k y) n q in
        let here : y ≡ x = cc in
        ((λ _. here), All-weaker (λ z. k z ≡ k y → ⊥) (λ z. k z ≡ n → z ≡ x) (λ z ne v. absurd (ne (v ∙ sym is))) xs dist.0)
    go false q s ih = ((λ v. absurd (eqb-false (k y) n q v)), ih s)

-- keys of different numbers are apart
apart_numbers : (R Q : Reserved) → (Q.number ≡ R.number → ⊥) → apart due_before (due_of R) (due_of Q) ≡ true
apart_numbers R Q ne = grind (arith, nat_tests)

pub not_apart : (R : Reserved) → apart due_before (due_of R) (due_of R) ≡ false
not_apart R = grind (arith, nat_tests)

-- where tests agree, they keep the same
pub filter-same : {X : Type 0} (p q : X → Bool) (xs : List X) → All (λ x. p x ≡ q x) xs → filter p xs ≡ filter q xs
filter-same p q [] h = refl
filter-same p q (x ∷ xs) h = ap (λ b. cond b (x ∷ filter p xs) (filter p xs)) h.0 ∙ ap (λ ys. cond (q x) (x ∷ ys) ys) (filter-same p q xs h.1)

-- no key of another number is taken out
keeps_others : (R : Reserved) (p : Reserved → Bool) (xs : List Reserved) → All (λ Q. Q.number ≡ R.number → ⊥) xs → without due_before (due_of R) (map due_of (filter p xs)) ≡ map due_of (filter p xs)
keeps_others R p [] h = refl
keeps_others R p (Q ∷ xs) h = go (p Q) (keeps_others R p xs h.1)
  where
    go : (b : Bool) → without due_before (due_of R) (map due_of (filter p xs)) ≡ map due_of (filter p xs) → without due_before (due_of R) (map due_of (cond b (Q ∷ filter p xs) (filter p xs))) ≡ map due_of (cond b (Q ∷ filter p xs) (filter p xs))
    go true ih = ap (λ b. cond b (due_of Q ∷ without due_before (due_of R) (map due_of (filter p xs))) (map due_of (filter p xs))) (apart_numbers R Q h.0) ∙ ap (λ ks. due_of Q ∷ ks) ih
    go false ih = ih

-- p before and q after R is closed: they agree on the others, and q lets R go
module _ (R : Reserved) (p q : Reserved → Bool) (gone : q R ≡ false) (others : (Q : Reserved) → (Q.number ≡ R.number → ⊥) → p Q ≡ q Q) where
  pub taken_out : (xs : List Reserved) → Distinct key xs → All (λ Q. Q.number ≡ R.number → Q ≡ R) xs → without due_before (due_of R) (map due_of (filter p xs)) ≡ map due_of (filter q xs)
  taken_out [] dist only = refl
  taken_out (Q ∷ xs) dist only = go (eqb Q.number R.number) refl (taken_out xs dist.1 only.1)
    where
      go : (b : Bool) → eqb Q.number R.number ≡ b → without due_before (due_of R) (map due_of (filter p xs)) ≡ map due_of (filter q xs) → without due_before (due_of R) (map due_of (cond (p Q) (Q ∷ filter p xs) (filter p xs))) ≡ map due_of (cond (q Q) (Q ∷ filter q xs) (filter q xs))
      go true e ih =
          let is : Q.number ≡ R.number = eqb-true Q.number R.number e in
          let here : Q ≡ R = only.0 is in
          let rest : All (λ Z. Z.number ≡ R.number → ⊥) xs = All-weaker (λ Z. key Z ≡ key Q → ⊥) (λ Z. Z.number ≡ R.number → ⊥) (λ Z ne v. ne (v ∙ sym is)) xs dist.0 in
          let same : filter p xs ≡ filter q xs = filter-same p q xs (All-weaker (λ Z. Z.number ≡ R.number → ⊥) (λ Z. p Z ≡ q Z) (λ Z ne. others Z ne) xs rest) in
          first (p Q) here rest
          ∙ (ap (map due_of) same ∙ sym (ap (λ b. map due_of (cond b (Q ∷ filter q xs) (filter q xs))) (ap q here ∙ gone)))
        where
          first : (b : Bool) → Q ≡ R → All (λ Z. Z.number ≡ R.number → ⊥) xs → without due_before (due_of R) (map due_of (cond b (Q ∷ filter p xs) (filter p xs))) ≡ map due_of (filter p xs)
          first true here rest = ap (λ b. cond b (due_of Q ∷ without due_before (due_of R) (map due_of (filter p xs))) (map due_of (filter p xs))) (ap (λ (Z : Reserved). apart due_before (due_of R) (due_of Z)) here ∙ not_apart R)
          first false here rest = keeps_others R p xs rest
      go false e ih =
          let ne = eqb-false Q.number R.number e in
          second (p Q) ne ih ∙ ap (λ b. map due_of (cond b (Q ∷ filter q xs) (filter q xs))) (others Q ne)
        where
          second : (b : Bool) → (Q.number ≡ R.number → ⊥) → without due_before (due_of R) (map due_of (filter p xs)) ≡ map due_of (filter q xs) → without due_before (due_of R) (map due_of (cond b (Q ∷ filter p xs) (filter p xs))) ≡ map due_of (cond b (Q ∷ filter q xs) (filter q xs))
          second true ne ih = ap (λ b. cond b (due_of Q ∷ without due_before (due_of R) (map due_of (filter p xs))) (map due_of (filter p xs))) (apart_numbers R Q ne) ∙ ap (λ ks. due_of Q ∷ ks) ih
          second false ne ih = ih
