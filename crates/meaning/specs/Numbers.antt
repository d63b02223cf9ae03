-- The number of each refusal, the refusal of a number, and the number of an answer. Rules name a refusal by its number.
use Rattle.std.specs.Prelude.{◌≡◌, ℕ, List, [], ◌∷◌, Ok, Err, Result, find, ◌==◌}
use Rattle.std.specs.List.{AllByRecursion}
use Rattle.std.specs.Option.{unwrap_or}
use Rattle.meaning.specs.declared.refusal.Refusal.{Refusal}
use Rattle.meaning.specs.declared.refusal.Refusal.TheVariants.{ReadingStopped, ChainRefused, ChainUnfinished, ChainTooLong, ChainOverSpare, AnswersTooShort, ChainMoment, OrderNumber, Amount, DebitUnknown, CreditUnknown, SameAccount, LedgersDiffer, TopPassed, DebitNotAdmitted, CreditNotAdmitted, ReservationsFull, ReservationUnknown, AlreadyPosted, AlreadyVoided, AlreadyLapsed, PostAmount, AccountNumber, Ledger, Limit, LabelMalformed, AccountsFull, JournalFull, AccountNotAdmitted, MomentTooLate, MomentEarlier, LapsesTooShort, BufferTooShort}

abbrev pub number_of : Refusal → ℕ
number_of ReadingStopped = 10
number_of ChainRefused = 11
number_of ChainUnfinished = 12
number_of ChainTooLong = 13
number_of ChainOverSpare = 14
number_of AnswersTooShort = 15
number_of ChainMoment = 16
number_of OrderNumber = 21
number_of Amount = 22
number_of DebitUnknown = 23
number_of CreditUnknown = 24
number_of SameAccount = 25
number_of LedgersDiffer = 26
number_of TopPassed = 27
number_of DebitNotAdmitted = 28
number_of CreditNotAdmitted = 29
number_of ReservationsFull = 30
number_of ReservationUnknown = 31
number_of AlreadyPosted = 32
number_of AlreadyVoided = 33
number_of AlreadyLapsed = 34
number_of PostAmount = 35
number_of AccountNumber = 41
number_of Ledger = 42
number_of Limit = 43
number_of LabelMalformed = 44
number_of AccountsFull = 45
number_of JournalFull = 46
number_of AccountNotAdmitted = 47
number_of MomentTooLate = 51
number_of MomentEarlier = 52
number_of LapsesTooShort = 53
number_of BufferTooShort = 56

-- every refusal
abbrev pub refusals : List Refusal
refusals =
    ReadingStopped ∷ ChainRefused ∷ ChainUnfinished ∷ ChainTooLong ∷ ChainOverSpare ∷
    AnswersTooShort ∷ ChainMoment ∷ OrderNumber ∷ Amount ∷ DebitUnknown ∷ CreditUnknown ∷
    SameAccount ∷ LedgersDiffer ∷ TopPassed ∷ DebitNotAdmitted ∷ CreditNotAdmitted ∷
    ReservationsFull ∷ ReservationUnknown ∷ AlreadyPosted ∷ AlreadyVoided ∷ AlreadyLapsed ∷
    PostAmount ∷ AccountNumber ∷ Ledger ∷ Limit ∷ LabelMalformed ∷ AccountsFull ∷
    JournalFull ∷ AccountNotAdmitted ∷ MomentTooLate ∷ MomentEarlier ∷ LapsesTooShort ∷
    BufferTooShort ∷ []

-- the refusal that has a number
abbrev pub refusal : ℕ → Refusal
refusal n = unwrap_or (find (λ r. number_of r == n) refusals) ReadingStopped

-- the numbers that the rules name
abbrev pub numbers : List ℕ
numbers =
    10 ∷ 11 ∷ 12 ∷ 13 ∷ 14 ∷ 15 ∷ 16 ∷ 21 ∷ 22 ∷ 23 ∷ 24 ∷ 25 ∷ 26 ∷ 27 ∷ 28 ∷ 29 ∷ 30 ∷ 31 ∷ 32 ∷ 33 ∷ 34 ∷ 35 ∷
    41 ∷ 42 ∷ 43 ∷ 44 ∷ 45 ∷ 46 ∷ 47 ∷ 51 ∷ 52 ∷ 53 ∷ 56 ∷ []

-- each of them is a refusal's, and the refusal of a refusal's number is that refusal
pub record NumbersStand : Type 0 where
  pub named : AllByRecursion (λ n. number_of (refusal n) ≡ n) numbers
  pub back : (r : Refusal) → refusal (number_of r) ≡ r

-- 0 for what was taken
abbrev pub answer_of : {X : Type 0} → Result X Refusal → ℕ
answer_of (Ok x) = 0
answer_of (Err r) = number_of r
