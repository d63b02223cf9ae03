-- Accounts in the order of a listing: each is there, and none is earlier than one before it.
use Rattle.std.proofs.Common.{◌≡◌, ◌≢◌, ◌≤◌, Bool, true, false, cond, eqb, List, [], ◌∷◌, get_or, refl, arith, rules}
use Rattle.std.specs.List.{AllByRecursion as All, AllPairs}
use Rattle.std.specs.List.Sorted.{IsPermutation}
use Rattle.std.proofs.ByRecursion.{All-weaker}
use Rattle.std.proofs.lemmas.Bool.{both_ways, eqb-false, ne_eqb}
use Rattle.std.proofs.lemmas.List.Elements.{All-from_recursion}
use Rattle.std.proofs.lemmas.List.Kept.{AllPairs-cons}
use Rattle.std.proofs.lemmas.List.Sorted.{IsPermutation-refl, IsPermutation-trans, IsPermutation-cons, IsPermutation-middle}
use Rattle.std.proofs.lemmas.Map.Keys.{apart_from_distinct, IsDistinct-from_apart, IsDistinct-IsPermutation}
use Rattle.meaning.specs.declared.opening.Opening.{Opening}
use Rattle.meaning.specs.Basics.{put, in_order}
use Rattle.meaning.specs.Listing.{earlier}

-- The order.

pub never_itself : (A : Opening) → earlier A A ≡ false
never_itself = search rules

goes_on : (A B C : Opening) → earlier A B ≡ true → earlier B C ≡ true → earlier A C ≡ true
goes_on = search rules

pub one_comes_first : (A B : Opening) → earlier A B ≡ false → earlier B A ≡ false → A.number ≡ B.number
one_comes_first = search rules

pub ledger_first : (A B : Opening) → earlier B A ≡ false → A.ledger ≤ B.ledger
ledger_first A B h = grind arith

-- what is not earlier than C is not earlier than what comes before C
not_before : (A B C : Opening) → earlier A C ≡ true → earlier B C ≡ false → earlier B A ≡ false
not_before A B C e f = go (earlier B A) refl
  where
    go : (b : Bool) → earlier B A ≡ b → earlier B A ≡ false
    go true h = absurd (both_ways (earlier B C) f (goes_on B A C h e))
    go false h = h

-- Lists in order.

abbrev pub Rising : List Opening → Type 0
Rising [] = Unit {0}
Rising (A ∷ As) = All (λ B. earlier B A ≡ false) As × Rising As

all_put : (P : Opening → Type 0) (A : Opening) (As : List Opening) → P A → All P As → All P (put earlier A As)
all_put P A [] here rest = (here, tt)
all_put P A (B ∷ As) here rest =
    let r = all_put P A As here rest.1 in
    elim (earlier A B) as (λ b. All P (cond b (A ∷ (B ∷ As)) (B ∷ put earlier A As))) [ true ↦ (here, rest) | false ↦ (rest.0, r) ]

put_rising : (A : Opening) (As : List Opening) → Rising As → Rising (put earlier A As)
put_rising A [] h = (tt, tt)
put_rising A (B ∷ As) h = go (earlier A B) refl (put_rising A As h.1)
  where
    go : (b : Bool) → earlier A B ≡ b → Rising (put earlier A As) → Rising (cond b (A ∷ (B ∷ As)) (B ∷ put earlier A As))
    go true e r =
        ((not_before A B B e (never_itself B), All-weaker (λ C. earlier C B ≡ false) (λ C. earlier C A ≡ false) (λ C f. not_before A C B e f) As h.0), h)
    go false e r = (all_put (λ C. earlier C B ≡ false) A As e h.0, r)

pub in_order_rising : (As : List Opening) → Rising (in_order earlier As)
in_order_rising [] = tt
in_order_rising (A ∷ As) = put_rising A (in_order earlier As) (in_order_rising As)

put_permutes : (A : Opening) (As : List Opening) → IsPermutation (A ∷ As) (put earlier A As)
put_permutes A [] = IsPermutation-refl (A ∷ [])
put_permutes A (B ∷ As) = go (earlier A B) (put_permutes A As)
  where
    go : (b : Bool) → IsPermutation (A ∷ As) (put earlier A As) → IsPermutation (A ∷ (B ∷ As)) (cond b (A ∷ (B ∷ As)) (B ∷ put earlier A As))
    go true h = IsPermutation-refl (A ∷ (B ∷ As))
    go false h =
        IsPermutation-trans (A ∷ (B ∷ As)) (B ∷ (A ∷ As)) (B ∷ put earlier A As)
        (IsPermutation-middle (A ∷ []) B As)
        (IsPermutation-cons B (A ∷ As) (put earlier A As) h)

pub in_order_permutes : (As : List Opening) → IsPermutation As (in_order earlier As)
in_order_permutes [] = IsPermutation-refl []
in_order_permutes (A ∷ As) =
    IsPermutation-trans (A ∷ As) (A ∷ in_order earlier As) (put earlier A (in_order earlier As)) (IsPermutation-cons A As (in_order earlier As) (in_order_permutes As)) (put_permutes A (in_order earlier As))

pub rising_pairs : (As : List Opening) → Rising As → AllPairs (λ A B. earlier B A ≡ false) As
rising_pairs [] h = λ i j d l k. absurd (omega arith)
rising_pairs (A ∷ As) h =
    AllPairs-cons (λ A B. earlier B A ≡ false) A As (All-from_recursion (λ B. earlier B A ≡ false) As h.0) (rising_pairs As h.1)

-- where no two numbers are the same

both_alike : (A B : Opening) → eqb A.number B.number ≡ eqb B.number A.number
both_alike A B = grind arith

comes_first : (A B : Opening) → earlier B A ≡ false → eqb A.number B.number ≡ false → earlier A B ≡ true
comes_first A B h ne = go (earlier A B) refl
  where
    go : (b : Bool) → earlier A B ≡ b → earlier A B ≡ true
    go true e = e
    go false e = absurd (eqb-false A.number B.number ne (one_comes_first A B e h))

pub strictly_pairs : (As Bs : List Opening) → IsPermutation As Bs → AllPairs (λ A B. earlier B A ≡ false) Bs → AllPairs (λ A B. A.number ≢ B.number) As → AllPairs (λ A B. earlier A B ≡ true) Bs
strictly_pairs As Bs same rising differ =
    let E = λ (A B : Opening). eqb A.number B.number in
    let dist = IsDistinct-from_apart E As (λ i j d l k. ne_eqb _ _ (differ i j d l k)) in
    let still = IsDistinct-IsPermutation E both_alike As Bs same dist in
    λ i j d l k. comes_first (get_or Bs i d) (get_or Bs j d) (rising i j d l k) (apart_from_distinct E Bs i j d still l k)
