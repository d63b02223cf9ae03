-- Lists that rise and have the same members are the same.
use Rattle.std.proofs.Common.{◌≡◌, ℕ, zero, suc, ◌+◌, ◌<◌, Bool, true, false, cond, ◌&&◌, eqb, ◌⊎◌, inl, inr, ⊎_elim, List, [], ◌∷◌, ◌++◌, map, sym, refl, ap, ◌∙◌, subst, arith, rules}
use Rattle.std.specs.List.{AllByRecursion as All, AllPairs, Contains, filter, flat_map, sum_by}
use Rattle.std.specs.List.Sorted.{IsPermutation, IsStrictlyIncreasing}
use Rattle.std.proofs.lemmas.Bool.{both_ways, and_parts, and_from, eqb-true, eq-eqb}
use Rattle.std.proofs.lemmas.List.Elements.{recursion_from_All}
use Rattle.std.proofs.lemmas.List.Kept.{AllPairs-from_increasing}
use Rattle.std.proofs.lemmas.List.Sums.{sum_by-cons}
use Rattle.std.proofs.lemmas.List.Sorted.{sum_by-IsPermutation}
use Rattle.meaning.specs.declared.opening.Opening.{Opening}
use Rattle.meaning.specs.Basics.{at}
use Rattle.meaning.specs.Given.{Journal}
use Rattle.meaning.specs.Questions.{standing}
use Rattle.meaning.specs.Listing.{earlier, account_line}
use Rattle.laws.proofs.Ranking.{never_itself, one_comes_first, Rising}

module _ {X : Type 0} (R : X → X → Type 0) where
  head_pairs : (x : X) (xs : List X) → AllPairs R (x ∷ xs) → All (R x) xs
  head_pairs x xs h = recursion_from_All (R x) xs (λ k d lt. h 0 (suc k) d (omega arith) (omega arith))

  tail_pairs : (x : X) (xs : List X) → AllPairs R (x ∷ xs) → AllPairs R xs
  tail_pairs x xs h = λ i j d l k. h (suc i) (suc j) d (omega arith) (omega arith)

pub rising_from_pairs : (As : List Opening) → AllPairs (λ A B. earlier B A ≡ false) As → Rising As
rising_from_pairs [] h = tt
rising_from_pairs (A ∷ As) h = (head_pairs (λ A B. earlier B A ≡ false) A As h, rising_from_pairs As (tail_pairs (λ A B. earlier B A ≡ false) A As h))

-- Numbers that rise.

abbrev Up : List ℕ → Type 0
Up [] = Unit {0}
Up (x ∷ xs) = All (λ y. x < y) xs × Up xs

up : (xs : List ℕ) → AllPairs (λ x y. x < y) xs → Up xs
up [] h = tt
up (x ∷ xs) h = (head_pairs (λ x y. x < y) x xs h, up xs (tail_pairs (λ x y. x < y) x xs h))

abbrev In : ℕ → List ℕ → Type 0
In x [] = ⊥
In x (y ∷ ys) = (y ≡ x) ⊎ In x ys

is_in : (x : ℕ) (ys : List ℕ) → Contains ys x → In x ys
is_in x [] (k, lt, e) = absurd (omega arith)
is_in x (y ∷ ys) (zero, lt, e) = inl e
is_in x (y ∷ ys) (suc k, lt, e) = inr (is_in x ys (k, omega arith, e))

contained : (x : ℕ) (ys : List ℕ) → In x ys → Contains ys x
contained x [] h = absurd h
contained x (y ∷ ys) h = ⊎_elim (λ e. (0, omega arith, e)) (λ r. let C = contained x ys r in (suc C.0, omega (arith, C.1), C.2)) h

in_all : (P : ℕ → Type 0) (x : ℕ) (ys : List ℕ) → All P ys → In x ys → P x
in_all P x [] a h = absurd h
in_all P x (y ∷ ys) a h = ⊎_elim (λ e. subst P e a.0) (λ r. in_all P x ys a.1 r) h

same_members : (xs ys : List ℕ) → Up xs → Up ys → ((x : ℕ) → In x xs → In x ys) → ((x : ℕ) → In x ys → In x xs) → xs ≡ ys
same_members [] [] u v f g = refl
same_members [] (y ∷ ys) u v f g = absurd (g y (inl refl))
same_members (x ∷ xs) [] u v f g = absurd (f x (inl refl))
same_members (x ∷ xs) (y ∷ ys) u v f g =
    λ i. heads i ∷ same_members xs ys u.1 v.1 (λ z h. narrowed x xs ys z u.0 (subst (λ w. (w ≡ z) ⊎ In z ys) (sym heads) (f z (inr h))) h) (λ z h. narrowed y ys xs z v.0 (subst (λ w. (w ≡ z) ⊎ In z xs) heads (g z (inr h))) h) i
  where
    heads : x ≡ y
    heads = ⊎_elim (λ e. sym e) (λ r. ⊎_elim (λ e. e) (λ s. let a : y < x = in_all (λ z. y < z) x ys v.0 r in let b : x < y = in_all (λ z. x < z) y xs u.0 s in omega arith) (g y (inl refl))) (f x (inl refl))

    narrowed : (x : ℕ) (xs ys : List ℕ) (z : ℕ) → All (λ y. x < y) xs → (x ≡ z) ⊎ In z ys → In z xs → In z ys
    narrowed x xs ys z a e h = let lt : x < z = in_all (λ y. x < y) z xs a h in ⊎_elim (λ e. absurd (omega arith)) (λ r. r) e

pub same_numbers : (xs ys : List ℕ) → IsStrictlyIncreasing xs → IsStrictlyIncreasing ys → ((x : ℕ) → Contains xs x → Contains ys x) → ((x : ℕ) → Contains ys x → Contains xs x) → xs ≡ ys
same_numbers xs ys u v f g =
    same_members xs ys (up xs (AllPairs-from_increasing xs u)) (up ys (AllPairs-from_increasing ys v)) (λ x h. is_in x ys (f x (contained x xs h))) (λ x h. is_in x xs (g x (contained x ys h)))

-- Accounts that rise.

-- they have one place in the order
abbrev alike : Opening → Opening → Bool
alike A B = eqb A.ledger B.ledger && (eqb A.label B.label && eqb A.number B.number)

-- what a line shows of an account, beside its totals
abbrev pub bare : Opening → Opening
bare A = record { number = A.number; ledger = A.ledger; class = 0; limit = 0; label = A.label }

abbrev count : Opening → List Opening → ℕ
count A As = sum_by (λ B. at (alike A B) 1) As

record Tie (A B : Opening) : Type 0 where
  ledger : A.ledger ≡ B.ledger
  label : A.label ≡ B.label
  number : A.number ≡ B.number

one_ledger : (A B : Opening) → earlier A B ≡ false → earlier B A ≡ false → A.ledger ≡ B.ledger
one_ledger = search rules

one_label : (A B : Opening) → earlier A B ≡ false → earlier B A ≡ false → A.label ≡ B.label
one_label = search rules

tie : (A B : Opening) → earlier A B ≡ false → earlier B A ≡ false → Tie A B
tie A B e f = record { ledger = one_ledger A B e f; label = one_label A B e f; number = one_comes_first A B e f }

tie_from : (A B : Opening) → alike A B ≡ true → Tie A B
tie_from A B h =
    let p = and_parts (eqb A.ledger B.ledger) _ h in
    let q = and_parts (eqb A.label B.label) _ p.1 in
    record { ledger = eqb-true A.ledger B.ledger p.0; label = eqb-true A.label B.label q.0; number = eqb-true A.number B.number q.1 }

alike_itself : (A : Opening) → alike A A ≡ true
alike_itself A =
    and_from (eqb A.ledger A.ledger) _ (eq-eqb A.ledger A.ledger refl) (and_from (eqb A.label A.label) _ (eq-eqb A.label A.label refl) (eq-eqb A.number A.number refl))

bare_alike : (A B : Opening) → Tie A B → bare A ≡ bare B
bare_alike A B t = λ i. record { number = t.number i; ledger = t.ledger i; class = 0; limit = 0; label = t.label i }

counts_alike : (A B C : Opening) → Tie A B → alike C A ≡ alike C B
counts_alike A B C t = λ i. eqb C.ledger (t.ledger i) && (eqb C.label (t.label i) && eqb C.number (t.number i))

-- what comes before A has another place than those that don't
apart : (A B C : Opening) → earlier B A ≡ true → earlier C A ≡ false → alike B C ≡ false
apart A B C e f = go (alike B C) refl
  where
    go : (b : Bool) → alike B C ≡ b → alike B C ≡ false
    go true h = let t = tie_from B C h in absurd (both_ways (earlier C A) f ((λ i. earlier (record C { ledger = sym t.ledger i; label = sym t.label i; number = sym t.number i }) A) ∙ e))
    go false h = h

none_alike : (A B : Opening) (As : List Opening) → earlier B A ≡ true → All (λ C. earlier C A ≡ false) As → count B As ≡ 0
none_alike A B [] e h = refl
none_alike A B (C ∷ As) e h = sum_by-cons (λ D. at (alike B D) 1) C As ∙ (ap (λ b. at b 1 + count B As) (apart A B C e h.0) ∙ omega (arith, none_alike A B As e h.1))

one_more : (A B : Opening) (As : List Opening) → count A (B ∷ As) ≡ at (alike A B) 1 + count A As
one_more A B As = sum_by-cons (λ C. at (alike A C) 1) B As

-- the first of the one list is not earlier than the first of the other
not_earlier : (A B : Opening) (As Bs : List Opening) → Rising (A ∷ As) → count B (A ∷ As) ≡ count B (B ∷ Bs) → earlier B A ≡ false
not_earlier A B As Bs r e = go (earlier B A) refl
  where
    go : (b : Bool) → earlier B A ≡ b → earlier B A ≡ false
    go true h =
        let none = none_alike A B (A ∷ As) h (never_itself A, r.0) in
        let some : count B (B ∷ Bs) ≡ 1 + count B Bs = one_more B B Bs ∙ ap (λ b. at b 1 + count B Bs) (alike_itself B) in
        absurd (omega arith)
    go false h = h

same_bare : (As Bs : List Opening) → Rising As → Rising Bs → ((C : Opening) → count C As ≡ count C Bs) → map bare As ≡ map bare Bs
same_bare [] [] r s h = refl
same_bare [] (B ∷ Bs) r s h = let some = one_more B B Bs ∙ ap (λ b. at b 1 + count B Bs) (alike_itself B) in let e : 0 ≡ count B (B ∷ Bs) = h B in absurd (omega arith)
same_bare (A ∷ As) [] r s h = let some = one_more A A As ∙ ap (λ b. at b 1 + count A As) (alike_itself A) in let e : count A (A ∷ As) ≡ 0 = h A in absurd (omega arith)
same_bare (A ∷ As) (B ∷ Bs) r s h =
    let t : Tie A B = tie A B (not_earlier B A Bs As s (sym (h A))) (not_earlier A B As Bs r (h B)) in
    let rest : (C : Opening) → count C As ≡ count C Bs = λ C. fewer C (ap (λ b. at b 1) (counts_alike A B C t)) in
    λ i. bare_alike A B t i ∷ same_bare As Bs r.1 s.1 rest i
  where
    fewer : (C : Opening) → at (alike C A) 1 ≡ at (alike C B) 1 → count C As ≡ count C Bs
    fewer C e = let p = one_more C A As in let q = one_more C B Bs in let w = h C in omega arith

pub same_accounts : (As Bs : List Opening) → Rising As → Rising Bs → IsPermutation As Bs → map bare As ≡ map bare Bs
same_accounts As Bs r s p =
    same_bare As Bs r s (λ C. sym (sum_by-IsPermutation (λ B. at (alike C B) 1) As Bs p))

-- Their lines.

module _ (J : Journal) (T : ℕ) where
  abbrev line : Opening → List ℕ
  line A = account_line (standing J T A)

  abbrev pub lines_of : ℕ → List Opening → List ℕ
  lines_of L As = flat_map line (filter (λ A. eqb A.ledger L) As)

  line_bare : (A : Opening) → line A ≡ line (bare A)
  unfolding account_line
  line_bare A = refl

  lines_bare : (L : ℕ) (As : List Opening) → lines_of L As ≡ lines_of L (map bare As)
  lines_bare L [] = refl
  lines_bare L (A ∷ As) = go (eqb A.ledger L) (lines_bare L As)
    where
      go : (b : Bool) → lines_of L As ≡ lines_of L (map bare As) → flat_map line (cond b (A ∷ filter (λ A. eqb A.ledger L) As) (filter (λ A. eqb A.ledger L) As)) ≡ flat_map line (cond b (bare A ∷ filter (λ A. eqb A.ledger L) (map bare As)) (filter (λ A. eqb A.ledger L) (map bare As)))
      go true e = λ i. line_bare A i ++ e i
      go false e = e

  pub same_lines : (L : ℕ) (As Bs : List Opening) → map bare As ≡ map bare Bs → lines_of L As ≡ lines_of L Bs
  same_lines L As Bs e = lines_bare L As ∙ (ap (lines_of L) e ∙ sym (lines_bare L Bs))
