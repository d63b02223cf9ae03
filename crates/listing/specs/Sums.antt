-- The sums of a ledger's accounts, over the keys of the listing's lines.
use Rattle.std.specs.Prelude.{ℕ, cond, List, [], ◌∷◌, Some, None, Option, ◌==◌}
use Rattle.meaning.specs.declared.standing.Standing.{Standing}
use Rattle.ordered.specs.declared.line.Line.{Line}
use Rattle.balances.specs.Books.{Books, row_asked}
use Rattle.balances.specs.Judged.{sum}
use Rattle.listing.specs.declared.sums.Sums.{Sums}

abbrev pub no_sums : Sums
no_sums = record { accounts = 0; debits_pending = 0; debits_posted = 0; credits_pending = 0; credits_posted = 0 }

-- one account more
abbrev pub plus : Standing → Sums → Sums
plus a s = record {
  accounts = sum s.accounts 1;
  debits_pending = sum s.debits_pending a.debits_pending;
  debits_posted = sum s.debits_posted a.debits_posted;
  credits_pending = sum s.credits_pending a.credits_pending;
  credits_posted = sum s.credits_posted a.credits_posted;
}

abbrev pub plus_if : Option Standing → Sums → Sums
plus_if None s = s
plus_if (Some a) s = plus a s

-- the account of a key more, if it is of the ledger
abbrev pub plus_key : Books → ℕ → Line → Sums → Sums
plus_key k L l s = cond (l.ledger == L) (plus_if (row_asked k l.number) s) s

abbrev pub plus_keys : Books → ℕ → List Line → Sums → Sums
plus_keys k L [] s = s
plus_keys k L (l ∷ ls) s = plus_keys k L ls (plus_key k L l s)

unfoldable pub sums_of : Books → ℕ → Sums
sums_of k L = plus_keys k L k.lines no_sums
