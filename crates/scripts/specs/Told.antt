-- What a call is told, as bytes: its code, its answer, and every place of its list. Numbers have their byte of most
-- weight first.
use Rattle.std.specs.Prelude.{ℕ, List, [], ◌∷◌, ◌++◌, map, length, Some, None, Ok, Err, Option, Result, flat_map}
use Rattle.std.specs.Int.{w16, w32, w64, to_be_bytes}
use Rattle.meaning.specs.declared.answers.Moved.{Moved}
use Rattle.meaning.specs.declared.answers.Stop.{Stop}
use Rattle.meaning.specs.declared.entry.Entry.{Entry}
use Rattle.meaning.specs.declared.fate.Fate.{Fate}
use Rattle.meaning.specs.declared.fate.Fate.TheVariants.{Live, Posted, Voided, Lapsed}
use Rattle.meaning.specs.declared.refusal.Refusal.{Refusal}
use Rattle.meaning.specs.declared.reservation.Reservation.{Reservation}
use Rattle.layout.specs.Layout.{bytes_of}
use Rattle.meaning.specs.Batches.{Answer}
use Rattle.meaning.specs.Numbers.{answer_of, number_of}
use Rattle.meaning.specs.declared.standing.Standing.{Standing}

abbrev pub as_2 : ℕ → List ℕ
as_2 = to_be_bytes w16

abbrev pub as_4 : ℕ → List ℕ
as_4 = to_be_bytes w32

abbrev pub as_8 : ℕ → List ℕ
as_8 = to_be_bytes w64

-- a part of an answer, 0 where it is a refusal
abbrev pub or_0 : {X : Type 0} → (X → ℕ) → Result X Refusal → ℕ
or_0 f (Ok x) = f x
or_0 f (Err r) = 0

abbrev pub told_opened : Answer → List ℕ
told_opened r = 1 ∷ answer_of r ∷ []

abbrev pub told_ran : Result ℕ Refusal → List Answer → List ℕ
told_ran r answers = 2 ∷ answer_of r ∷ (as_8 (or_0 (λ n. n) r) ++ map answer_of answers)

abbrev pub told_moved : Result Moved Refusal → List ℕ → List ℕ
told_moved r lapses = 3 ∷ answer_of r ∷ (as_8 (or_0 (λ (m : Moved). m.lapsed) r) ++ (as_8 (or_0 (λ (m : Moved). m.next_deadline) r) ++ flat_map as_4 lapses))

abbrev pub told_reported : Result ℕ Refusal → List ℕ → List ℕ
told_reported r bytes = 4 ∷ answer_of r ∷ (as_8 (or_0 (λ n. n) r) ++ bytes)

abbrev pub told_account : Option Standing → List ℕ
told_account None = 5 ∷ 0 ∷ []
told_account (Some s) =
    5 ∷ 1 ∷ (as_4 s.account.number ++ (as_2 s.account.ledger ++ (s.account.class ∷ (as_8 s.account.limit ++ (as_8 s.account.label ++ (as_8 s.debits_pending ++ (as_8 s.debits_posted ++ (as_8 s.credits_pending ++ as_8 s.credits_posted))))))))

abbrev pub fate_number : Fate → ℕ
fate_number Live = 0
fate_number Posted = 1
fate_number Voided = 2
fate_number Lapsed = 3

abbrev pub told_reservation : Option Reservation → List ℕ
told_reservation None = 6 ∷ 0 ∷ []
told_reservation (Some r) =
    6 ∷ 1 ∷ (as_4 r.number ++ (as_4 r.debit ++ (as_4 r.credit ++ (as_8 r.amount ++ (as_8 r.deadline ++ (fate_number r.fate ∷ []))))))

abbrev pub told_moment : ℕ → List ℕ
told_moment t = 7 ∷ as_8 t

abbrev pub told_reading : Result (Unit {0}) Stop → List ℕ
told_reading (Ok x) = 8 ∷ 0 ∷ as_8 0
told_reading (Err s) = 8 ∷ number_of s.refusal ∷ as_8 s.place

-- the journal at the end: its entries and its spare
abbrev pub told_journal : List Entry → ℕ → List ℕ
told_journal es spare = 255 ∷ (as_8 (length es) ++ (as_8 spare ++ flat_map bytes_of es))
