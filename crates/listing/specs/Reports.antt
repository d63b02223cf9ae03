-- What a report of J at T answers, and what it leaves in the buffer.
use Rattle.std.specs.Prelude.{◌≡◌, ℕ, List, length, Result}
use Rattle.meaning.specs.declared.refusal.Refusal.{Refusal}
use Rattle.meaning.specs.Given.{Journal}
use Rattle.meaning.specs.Listing.{listing, report_refused}
use Rattle.meaning.specs.Calls.{answered, unless, over}

pub record Reports (J : Journal) (T : ℕ) (bs : List ℕ) (r : Result ℕ Refusal) (bs' : List ℕ) : Type 0 where
  pub answer : r ≡ answered (report_refused J T (length bs)) (length (listing J T))
  pub buffer : bs' ≡ unless (report_refused J T (length bs)) (over (listing J T) bs) bs
