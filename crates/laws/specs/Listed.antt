-- What a listing is: for each ledger, the lines of its accounts and then its sum line.
use Rattle.std.specs.Prelude.{◌≡◌, ℕ, ◌+◌, ◌≢◌, ◌↔◌, true, false, IsTrue, List, ◌++◌, length, AllPairs, Any, Contains, filter, flat_map, IsPermutation, ◌==◌}
use Rattle.std.specs.List.{AllByRecursion, count_by, sum_by}
use Rattle.std.specs.List.Sorted.{IsStrictlyIncreasing}
use Rattle.meaning.specs.declared.opening.Opening.{Opening}
use Rattle.meaning.specs.Given.{Journal, accounts, of_ledger}
use Rattle.meaning.specs.Labels.{is_label}
use Rattle.meaning.specs.Questions.{standing}
use Rattle.meaning.specs.Listing.{earlier, account_line, sum_line, listing}

-- no two of these accounts have one number
abbrev pub NumbersDiffer : List Opening → Type 0
NumbersDiffer As = AllPairs (λ A B. A.number ≢ B.number) As

-- each of these accounts has a label
abbrev pub Labelled : List Opening → Type 0
Labelled As = AllByRecursion (λ A. IsTrue (is_label A.label)) As

module _ (J : Journal) (T : ℕ) where
  abbrev pub line_of : Opening → List ℕ
  line_of A = account_line (standing J T A)

  -- a ledger's part of a listing that shows these accounts in turn
  abbrev pub ledger_part : List Opening → ℕ → List ℕ
  ledger_part As L = flat_map line_of (filter (λ A. A.ledger == L) As) ++ sum_line J T L

  -- these bytes are the parts of the ledgers that have an account, one after the other
  pub record IsListing (bytes : List ℕ) : Type 0 where
    -- the accounts of J, by ledger, then label, then number
    pub shown : List Opening
    pub each_account : IsPermutation (accounts J) shown
    pub rising : AllPairs (λ A B. earlier B A ≡ false) shown
    -- their ledgers, the lowest first
    pub ledgers : List ℕ
    pub each_ledger : (L : ℕ) → Contains ledgers L ↔ Any (λ A. A.ledger ≡ L) (accounts J)
    pub ledgers_rise : IsStrictlyIncreasing ledgers
    pub parts : bytes ≡ flat_map (ledger_part shown) ledgers

  -- the listing is such bytes, and no others are
  abbrev pub HasListing : Type 0
  HasListing = (bytes : List ℕ) → IsListing bytes ↔ (bytes ≡ listing J T)

  -- each account it shows is earlier than those behind it, if no two have one number
  abbrev pub RisesStrictly : Type 0
  RisesStrictly =
      (bytes : List ℕ) (parts : IsListing bytes)
      → NumbersDiffer (accounts J) → AllPairs (λ A B. earlier A B ≡ true) parts.shown

  -- what a sum line adds up of a ledger is what the lines in front of it show
  abbrev pub SumsItsLines : Type 0
  SumsItsLines =
      (bytes : List ℕ) (parts : IsListing bytes) (L : ℕ) (f : ℕ → ℕ)
      → of_ledger J L f ≡ sum_by (λ A. f A.number) (filter (λ A. A.ledger == L) parts.shown)

  -- it has a line for each account and for each ledger, if the accounts have labels
  abbrev pub LinesCounted : Type 0
  LinesCounted =
      (bytes : List ℕ) (parts : IsListing bytes) → Labelled (accounts J)
      → count_by (λ b. b == 10) bytes ≡ length (accounts J) + length parts.ledgers
