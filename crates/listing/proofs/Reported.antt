-- What a report is, where the buffer is too short and where it is not.
use Rattle.std.proofs.Common.{◌≡◌, ℕ, ◌-◌, ◌^◌, ◌<◌, ◌≤◌, min, cond, List, length, take, Some, None, Ok, Err, ap, ◌∙◌, arith}
use Rattle.std.proofs.lemmas.Bool.{lt-ltb, le-ltb}
use Rattle.meaning.specs.declared.refusal.Refusal.TheVariants.{BufferTooShort}
use Rattle.meaning.specs.Given.{Journal}
use Rattle.meaning.specs.Listing.{listing, report_refused}
use Rattle.meaning.specs.Calls.{over}
use Rattle.listing.specs.Reports.{Reports}
use Rattle.listing.proofs.Room.{over_whole}

-- n is how long the lines are, as far as a number of 64 bits says it
module _ (J : Journal) (T : ℕ) (bs lines : List ℕ) (same : lines ≡ listing J T) (n : ℕ) (is : n ≡ min (length lines) (2 ^ 64 - 1)) where
  pub too_short : length bs < n → Reports J T bs (Err BufferTooShort) bs
  too_short short =
      let e : report_refused J T (length bs) ≡ Some BufferTooShort = ap (λ b. cond b (Some BufferTooShort) None) (lt-ltb (length bs) (length (listing J T)) (omega (arith, ap length same))) in
      record { answer = rw e; buffer = rw e }

  pub with_room : n ≤ length bs → length bs < 2 ^ 64 - 1 → (bs' : List ℕ) (r : ℕ) → r ≡ min (length lines) (2 ^ 64 - 1) → bs' ≡ take (length bs) (over lines bs) → Reports J T bs (Ok r) bs'
  with_room room fits bs' r long bytes =
      let none : report_refused J T (length bs) ≡ None = ap (λ b. cond b (Some BufferTooShort) None) (le-ltb (length bs) (length (listing J T)) (omega (arith, ap length same))) in
      let answer : r ≡ length (listing J T) = omega (arith, ap length same) in
      record { answer = rw none (ap (λ m. Ok m) answer); buffer = rw none (bytes ∙ over_whole lines bs (omega arith) ∙ ap (λ ls. over ls bs) same) }
