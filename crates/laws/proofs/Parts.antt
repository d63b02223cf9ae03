-- A listing is its ledgers' parts, one after the other.
use Rattle.std.proofs.Common.{◌≡◌, ℕ, zero, suc, ◌+◌, ◌<◌, ◌≤◌, Bool, true, false, cond, eqb, List, [], ◌∷◌, ◌++◌, map, length, sym, refl, ap, ◌∙◌, subst, arith, add-one, append_assoc}
use Rattle.std.specs.List.{AllByRecursion as All, Any, Contains, filter, flat_map}
use Rattle.std.specs.List.Sorted.{IsPermutation, IsStrictlyIncreasing}
use Rattle.std.proofs.ByRecursion.{All-weaker}
use Rattle.std.proofs.lemmas.Bool.{eqb-true, eqb-false, eq-eqb, ne_eqb, not-false, not-true}
use Rattle.std.proofs.lemmas.List.Elements.{All-from_recursion, All-contains}
use Rattle.std.proofs.lemmas.List.Sorted.{IsPermutation-sym, IsPermutation-trans, All-permutation, Contains-permutation}
use Rattle.meaning.specs.declared.opening.Opening.{Opening}
use Rattle.meaning.specs.Basics.{in_order}
use Rattle.meaning.specs.Given.{Journal, accounts}
use Rattle.meaning.specs.Questions.{standing}
use Rattle.meaning.specs.Listing.{earlier, account_line, sum_line, last_of_ledger, lines, listing}
use Rattle.laws.specs.Listed.{ledger_part, IsListing, HasListing, RisesStrictly}
use Rattle.laws.proofs.Ranking.{Rising, ledger_first, in_order_rising, in_order_permutes, rising_pairs, strictly_pairs}
use Rattle.laws.proofs.Ordering.{same_numbers, rising_from_pairs, bare, same_accounts, same_lines}

-- the ledgers of accounts that are in order, each once
abbrev pub ledgers_of : List Opening → List ℕ
ledgers_of [] = []
ledgers_of (A ∷ As) = cond (last_of_ledger A.ledger As) (A.ledger ∷ ledgers_of As) (ledgers_of As)

-- no ledger is below one before it
abbrev pub Level : List Opening → Type 0
Level [] = Unit {0}
Level (A ∷ As) = All (λ B. A.ledger ≤ B.ledger) As × Level As

pub level : (As : List Opening) → Rising As → Level As
level [] h = tt
level (A ∷ As) h = (All-weaker (λ B. earlier B A ≡ false) (λ B. A.ledger ≤ B.ledger) (λ B e. ledger_first A B e) As h.0, level As h.1)

all_ledgers : (P : ℕ → Type 0) (As : List Opening) → All (λ A. P A.ledger) As → All P (ledgers_of As)
all_ledgers P [] h = tt
all_ledgers P (A ∷ As) h =
    let r = all_ledgers P As h.1 in
    elim (last_of_ledger A.ledger As) as (λ b. All P (cond b (A.ledger ∷ ledgers_of As) (ledgers_of As))) [ true ↦ (h.0, r) | false ↦ r ]

-- behind the last account of a ledger all are of higher ones
higher : (A : Opening) (As : List Opening) → Level (A ∷ As) → last_of_ledger A.ledger As ≡ true → All (λ B. A.ledger < B.ledger) As
higher A [] h e = tt
higher A (B ∷ As) h e =
    let ne : (B.ledger ≡ A.ledger) → ⊥ = eqb-false B.ledger A.ledger (not-true _ e) in
    let first : A.ledger ≤ B.ledger = h.0.0 in
    let up : A.ledger < B.ledger = omega arith in
    (up, All-weaker (λ C. B.ledger ≤ C.ledger) (λ C. A.ledger < C.ledger) (λ C le. omega arith) As h.1.0)

-- the first ledger, and higher ones
pub record Heads (A : Opening) (Ls : List ℕ) : Type 0 where
  pub rest : List ℕ
  pub is : Ls ≡ A.ledger ∷ rest
  pub above : All (λ L. A.ledger < L) rest

heads : (A : Opening) (As : List Opening) → Level (A ∷ As) → Heads A (ledgers_of (A ∷ As))
heads A [] h = record { rest = []; is = refl; above = tt }
heads A (B ∷ As) h = go (last_of_ledger A.ledger (B ∷ As)) refl (heads B As h.1)
  where
    go : (b : Bool) → last_of_ledger A.ledger (B ∷ As) ≡ b → Heads B (ledgers_of (B ∷ As)) → Heads A (cond b (A.ledger ∷ ledgers_of (B ∷ As)) (ledgers_of (B ∷ As)))
    go true e H = record { rest = ledgers_of (B ∷ As); is = refl; above = all_ledgers (λ L. A.ledger < L) (B ∷ As) (higher A (B ∷ As) h e) }
    go false e H =
        let same : B.ledger ≡ A.ledger = eqb-true B.ledger A.ledger (not-false _ e) in
        record { rest = H.rest; is = H.is ∙ ap (λ L. L ∷ H.rest) same; above = subst (λ m. All (λ L. m < L) H.rest) same H.above }

-- The parts.

module _ (J : Journal) (T : ℕ) where
  abbrev line : Opening → List ℕ
  line A = account_line (standing J T A)

  abbrev of_ledger : ℕ → List Opening → List Opening
  of_ledger L As = filter (λ A. eqb A.ledger L) As

  none_of : (L : ℕ) (As : List Opening) → All (λ A. L < A.ledger) As → of_ledger L As ≡ []
  none_of L [] h = refl
  none_of L (A ∷ As) h =
      let lt : L < A.ledger = h.0 in
      ap (λ b. cond b (A ∷ of_ledger L As) (of_ledger L As)) (ne_eqb A.ledger L (λ e. omega arith)) ∙ none_of L As h.1

  -- an account of another ledger changes no part
  same_parts : (A : Opening) (As : List Opening) (Ls : List ℕ) → All (λ L. A.ledger < L) Ls → flat_map (ledger_part J T (A ∷ As)) Ls ≡ flat_map (ledger_part J T As) Ls
  same_parts A As [] h = refl
  same_parts A As (L ∷ Ls) h =
      let lt : A.ledger < L = h.0 in
      let e : of_ledger L (A ∷ As) ≡ of_ledger L As = ap (λ b. cond b (A ∷ of_ledger L As) (of_ledger L As)) (ne_eqb A.ledger L (λ e. omega arith)) in
      λ i. (flat_map line (e i) ++ sum_line J T L) ++ same_parts A As Ls h.1 i

  -- one of its own comes first there
  own_part : (A : Opening) (As : List Opening) (L : ℕ) → A.ledger ≡ L → ledger_part J T (A ∷ As) L ≡ line A ++ ledger_part J T As L
  own_part A As L e =
      ap (λ b. flat_map line (cond b (A ∷ of_ledger L As) (of_ledger L As)) ++ sum_line J T L) (eq-eqb A.ledger L e) ∙ append_assoc (line A) (flat_map line (of_ledger L As)) (sum_line J T L)

  abbrev parts : (shown : List Opening) → List ℕ → List ℕ
  parts shown Ls = flat_map (ledger_part J T shown) Ls

  last_of_its_own : (A : Opening) (As : List Opening) → Level (A ∷ As) → last_of_ledger A.ledger As ≡ true → lines J T As ≡ parts As (ledgers_of As) → line A ++ (sum_line J T A.ledger ++ lines J T As) ≡ parts (A ∷ As) (A.ledger ∷ ledgers_of As)
  last_of_its_own A As h e rest =
      let up = higher A As h e in
      let sums = sum_line J T A.ledger in
      let own : ledger_part J T (A ∷ As) A.ledger ≡ line A ++ sums = own_part A As A.ledger refl ∙ ap (λ Bs. line A ++ (flat_map line Bs ++ sums)) (none_of A.ledger As up) in
      let others : parts (A ∷ As) (ledgers_of As) ≡ lines J T As = same_parts A As (ledgers_of As) (all_ledgers (λ L. A.ledger < L) As up) ∙ sym rest in
      sym ((λ i. own i ++ others i) ∙ append_assoc (line A) sums (lines J T As))

  more_of_its_own : (A B : Opening) (As : List Opening) → Level (A ∷ (B ∷ As)) → last_of_ledger A.ledger (B ∷ As) ≡ false → lines J T (B ∷ As) ≡ parts (B ∷ As) (ledgers_of (B ∷ As)) → line A ++ lines J T (B ∷ As) ≡ parts (A ∷ (B ∷ As)) (ledgers_of (B ∷ As))
  more_of_its_own A B As h e rest =
      let same : B.ledger ≡ A.ledger = eqb-true B.ledger A.ledger (not-false _ e) in
      let H = heads B As h.1 in
      let Bs = B ∷ As in
      let others : parts (A ∷ Bs) H.rest ≡ parts Bs H.rest = same_parts A Bs H.rest (subst (λ m. All (λ L. m < L) H.rest) same H.above) in
      let own : ledger_part J T (A ∷ Bs) B.ledger ≡ line A ++ ledger_part J T Bs B.ledger = own_part A Bs B.ledger (sym same) in
      ap (λ bs. line A ++ bs) (rest ∙ ap (parts Bs) H.is) ∙ (sym ((λ i. own i ++ others i) ∙ append_assoc (line A) (ledger_part J T Bs B.ledger) (parts Bs H.rest)) ∙ sym (ap (parts (A ∷ Bs)) H.is))

  pub in_parts : (As : List Opening) → Level As → lines J T As ≡ flat_map (ledger_part J T As) (ledgers_of As)
  in_parts [] h = refl
  in_parts (A ∷ []) h = last_of_its_own A [] h refl refl
  in_parts (A ∷ (B ∷ As)) h = go (last_of_ledger A.ledger (B ∷ As)) refl (in_parts (B ∷ As) h.1)
    where
      go : (b : Bool) → last_of_ledger A.ledger (B ∷ As) ≡ b → lines J T (B ∷ As) ≡ parts (B ∷ As) (ledgers_of (B ∷ As)) → line A ++ (cond b (sum_line J T A.ledger) [] ++ lines J T (B ∷ As)) ≡ parts (A ∷ (B ∷ As)) (cond b (A.ledger ∷ ledgers_of (B ∷ As)) (ledgers_of (B ∷ As)))
      go true e r = last_of_its_own A (B ∷ As) h e r
      go false e r = more_of_its_own A B As h e r

-- The ledgers.

abbrev Strict : List ℕ → Type 0
Strict [] = Unit {0}
Strict (L ∷ Ls) = All (λ M. L < M) Ls × Strict Ls

strict : (As : List Opening) → Level As → Strict (ledgers_of As)
strict [] h = tt
strict (A ∷ As) h = go (last_of_ledger A.ledger As) refl (strict As h.1)
  where
    go : (b : Bool) → last_of_ledger A.ledger As ≡ b → Strict (ledgers_of As) → Strict (cond b (A.ledger ∷ ledgers_of As) (ledgers_of As))
    go true e r = (all_ledgers (λ L. A.ledger < L) As (higher A As h e), r)
    go false e r = r

rises : (Ls : List ℕ) → Strict Ls → IsStrictlyIncreasing Ls
rises [] h k lt = absurd (omega arith)
rises (L ∷ []) h k lt = absurd (omega arith)
rises (L ∷ (M ∷ Ls)) h zero lt = h.0.0
rises (L ∷ (M ∷ Ls)) h (suc k) lt = rw add-one (let up : k + 1 < length (M ∷ Ls) = omega arith in rw add-one at (rises (M ∷ Ls) h.1 k up))

any_later : {X : Type 0} (P : X → Type 0) (x : X) (xs : List X) → Any P xs → Any P (x ∷ xs)
any_later P x xs A = (suc A.0, A.1, omega (arith, A.2), A.3, A.4)

all_any : (As : List Opening) → All (λ L. Any (λ A. A.ledger ≡ L) As) (ledgers_of As)
all_any [] = tt
all_any (A ∷ As) = go (last_of_ledger A.ledger As) (All-weaker (λ L. Any (λ B. B.ledger ≡ L) As) (λ L. Any (λ B. B.ledger ≡ L) (A ∷ As)) (λ L. any_later (λ B. B.ledger ≡ L) A As) (ledgers_of As) (all_any As))
  where
    go : (b : Bool) → All (λ L. Any (λ B. B.ledger ≡ L) (A ∷ As)) (ledgers_of As) → All (λ L. Any (λ B. B.ledger ≡ L) (A ∷ As)) (cond b (A.ledger ∷ ledgers_of As) (ledgers_of As))
    go true r = ((0, A, omega arith, refl, refl), r)
    go false r = r

later : (L x : ℕ) (Ls : List ℕ) → Contains Ls x → Contains (L ∷ Ls) x
later L x Ls C = (suc C.0, omega (arith, C.1), C.2)

all_contained : (As : List Opening) → All (λ A. Contains (ledgers_of As) A.ledger) As
all_contained [] = tt
all_contained (A ∷ As) = (own As (all_contained As), All-weaker (λ B. Contains (ledgers_of As) B.ledger) (λ B. Contains (ledgers_of (A ∷ As)) B.ledger) (λ B. still (last_of_ledger A.ledger As) B.ledger) As (all_contained As))
  where
    still : (b : Bool) (x : ℕ) → Contains (ledgers_of As) x → Contains (cond b (A.ledger ∷ ledgers_of As) (ledgers_of As)) x
    still true x C = later A.ledger x (ledgers_of As) C
    still false x C = C

    own : (Bs : List Opening) → All (λ B. Contains (ledgers_of Bs) B.ledger) Bs → Contains (ledgers_of (A ∷ Bs)) A.ledger
    own [] r = (0, omega arith, refl)
    own (B ∷ Bs) r = go (last_of_ledger A.ledger (B ∷ Bs)) refl
      where
        go : (b : Bool) → last_of_ledger A.ledger (B ∷ Bs) ≡ b → Contains (cond b (A.ledger ∷ ledgers_of (B ∷ Bs)) (ledgers_of (B ∷ Bs))) A.ledger
        go true e = (0, omega arith, refl)
        go false e = subst (Contains (ledgers_of (B ∷ Bs))) (eqb-true B.ledger A.ledger (not-false _ e)) r.0

-- What is said of every listing.

module _ (J : Journal) (T : ℕ) where
  abbrev pub shown : List Opening
  shown = in_order earlier (accounts J)

  abbrev permuted : IsPermutation (accounts J) shown
  permuted = in_order_permutes (accounts J)

  has_account : (L : ℕ) → Contains (ledgers_of shown) L → Any (λ A. A.ledger ≡ L) (accounts J)
  has_account L C =
      let A = All-contains (λ M. Any (λ A. A.ledger ≡ M) shown) (ledgers_of shown) L (All-from_recursion (λ M. Any (λ A. A.ledger ≡ M) shown) (ledgers_of shown) (all_any shown)) C in
      let D = Contains-permutation shown (accounts J) A.1 (IsPermutation-sym (accounts J) shown permuted) (A.0, A.2, A.3) in
      (D.0, A.1, D.1, D.2, A.4)

  its_ledger : (L : ℕ) → Any (λ A. A.ledger ≡ L) (accounts J) → Contains (ledgers_of shown) L
  its_ledger L A =
      let here = All-permutation (λ B. Contains (ledgers_of shown) B.ledger) shown (accounts J) (IsPermutation-sym (accounts J) shown permuted) (All-from_recursion (λ B. Contains (ledgers_of shown) B.ledger) shown (all_contained shown)) in
      subst (Contains (ledgers_of shown)) A.4 (All-contains (λ B. Contains (ledgers_of shown) B.ledger) (accounts J) A.1 here (A.0, A.2, A.3))

  pub is_listing : IsListing J T (listing J T)
  is_listing =
      let low = level shown (in_order_rising (accounts J)) in
      record {
        shown = shown;
        each_account = permuted;
        rising = rising_pairs shown (in_order_rising (accounts J));
        ledgers = ledgers_of shown;
        each_ledger = λ L. (has_account L, its_ledger L);
        ledgers_rise = rises (ledgers_of shown) (strict shown low);
        parts = in_parts J T shown low;
      }

  pub its_ledgers : (bytes : List ℕ) (X : IsListing J T bytes) → X.ledgers ≡ ledgers_of shown
  unfolding is_listing
  its_ledgers bytes X =
      let Y = is_listing in
      same_numbers X.ledgers Y.ledgers X.ledgers_rise Y.ledgers_rise (λ L C. (Y.each_ledger L).1 ((X.each_ledger L).0 C)) (λ L C. (X.each_ledger L).1 ((Y.each_ledger L).0 C))

  -- other bytes are none
  pub only_listing : (bytes : List ℕ) → IsListing J T bytes → bytes ≡ listing J T
  unfolding is_listing
  only_listing bytes X =
      let both : IsPermutation X.shown shown = IsPermutation-trans X.shown (accounts J) shown (IsPermutation-sym (accounts J) X.shown X.each_account) permuted in
      let As : map bare X.shown ≡ map bare shown = same_accounts X.shown shown (rising_from_pairs X.shown X.rising) (in_order_rising (accounts J)) both in
      let Ls = its_ledgers bytes X in
      X.parts ∙ ((λ i. flat_map (λ L. same_lines J T L X.shown shown As i ++ sum_line J T L) (Ls i)) ∙ sym is_listing.parts)

  pub has_listing : HasListing J T
  has_listing bytes = (only_listing bytes, λ e. subst (IsListing J T) (sym e) is_listing)

  pub rises_strictly : RisesStrictly J T
  rises_strictly bytes X = strictly_pairs (accounts J) X.shown X.each_account X.rising
