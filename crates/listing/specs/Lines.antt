-- The lines of a listing, over their keys.
use Rattle.std.specs.Prelude.{ℕ, Bool, true, cond, not, List, [], ◌∷◌, ◌++◌, ◌==◌}
use Rattle.std.specs.Option.{option_map_or}
use Rattle.meaning.specs.Listing.{line_bytes, account_line}
use Rattle.ordered.specs.declared.line.Line.{Line}
use Rattle.balances.specs.Books.{Books, row_asked}
use Rattle.listing.specs.declared.sums.Sums.{Sums}
use Rattle.listing.specs.Sums.{sums_of}

-- as `7 = 3 0 1150 0 1150`; 61 is the equals sign
unfoldable pub sum_bytes : ℕ → Sums → List ℕ
sum_bytes L s =
    line_bytes L (61 ∷ []) (s.accounts ∷ s.debits_pending ∷ s.debits_posted ∷ s.credits_pending ∷ s.credits_posted ∷ [])

-- the line of a key's account
abbrev pub key_bytes : Books → Line → List ℕ
key_bytes k l = option_map_or account_line (row_asked k l.number) []

-- no key of the ledger comes next
abbrev pub ends_in : ℕ → List Line → Bool
ends_in L [] = true
ends_in L (l ∷ ls) = not (l.ledger == L)

abbrev pub end_bytes : Books → ℕ → List Line → List ℕ
end_bytes k L ls = cond (ends_in L ls) (sum_bytes L (sums_of k L)) []

abbrev pub keys_bytes : Books → List Line → List ℕ
keys_bytes k [] = []
keys_bytes k (l ∷ ls) = key_bytes k l ++ (end_bytes k l.ledger ls ++ keys_bytes k ls)
