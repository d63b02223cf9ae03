-- The listing as bytes: a line for each account, by ledger, label and number, and a sum line after each ledger.
use Rattle.std.specs.Prelude.{ℕ, Bool, true, cond, not, ◌&&◌, ◌||◌, List, [], ◌∷◌, ◌++◌, length, decimal, flat_map, Option, ◌==◌, nat_lt}
use Rattle.std.specs.List.{filter}
use Rattle.std.specs.Int.{w64, to_be_bytes}
use Rattle.meaning.specs.declared.opening.Opening.{Opening}
use Rattle.meaning.specs.declared.refusal.Refusal.{Refusal}
use Rattle.meaning.specs.Numbers.{refusal}
use Rattle.meaning.specs.declared.standing.Standing.{Standing}
use Rattle.meaning.specs.Basics.{in_order, first_of}
use Rattle.meaning.specs.Given.{Journal, accounts, debits, credits, pending, posted, of_ledger}
use Rattle.meaning.specs.Questions.{standing}

-- by ledger, then label, then number
abbrev pub earlier : Opening → Opening → Bool
earlier A B =
    nat_lt A.ledger B.ledger || (A.ledger == B.ledger && (nat_lt A.label B.label || (A.label == B.label && nat_lt A.number B.number)))

-- a space and a number, for each of the numbers
abbrev pub fields : List ℕ → List ℕ
fields ns = flat_map (λ n. 32 ∷ decimal n) ns

-- the bytes of a label that are not filling
unfoldable pub letters_in : List ℕ → List ℕ
letters_in bs = filter (λ b. not (b == 32)) bs

-- a ledger, a name, numbers and the end of the line
abbrev pub line_bytes : ℕ → (name numbers : List ℕ) → List ℕ
line_bytes L name ns = decimal L ++ (32 ∷ (name ++ (fields ns ++ (10 ∷ []))))

-- as `7 MILL 2 0 250 0 900`
unfoldable pub account_line : Standing → List ℕ
account_line s =
    line_bytes s.account.ledger (letters_in (to_be_bytes w64 s.account.label)) (s.account.number ∷ s.debits_pending ∷ s.debits_posted ∷ s.credits_pending ∷ s.credits_posted ∷ [])

-- as `7 = 3 0 1150 0 1150`; 61 is the equals sign
abbrev pub sum_line : Journal → ℕ → ℕ → List ℕ
sum_line J T L =
    line_bytes L (61 ∷ []) (of_ledger J L (λ a. 1) ∷ of_ledger J L (pending J T debits) ∷ of_ledger J L (posted J debits) ∷ of_ledger J L (pending J T credits) ∷ of_ledger J L (posted J credits) ∷ [])

-- no account of the ledger comes next
abbrev pub last_of_ledger : ℕ → List Opening → Bool
last_of_ledger L [] = true
last_of_ledger L (A ∷ As) = not (A.ledger == L)

abbrev pub lines : Journal → ℕ → List Opening → List ℕ
lines J T [] = []
lines J T (A ∷ As) = account_line (standing J T A) ++ (cond (last_of_ledger A.ledger As) (sum_line J T A.ledger) [] ++ lines J T As)

abbrev pub listing : Journal → ℕ → List ℕ
listing J T = lines J T (in_order earlier (accounts J))

-- why a report into so many bytes is refused, if it is
abbrev pub report_refused : Journal → (T bytes : ℕ) → Option Refusal
report_refused J T bytes = first_of ((nat_lt bytes (length (listing J T)), refusal 56) ∷ [])
