-- What is told, put together from its parts.
use Rattle.std.proofs.Common.{◌≡◌, ℕ, ◌+◌, ◌*◌, Result, List, [], ◌∷◌, ◌++◌, length, Some, refl, ◌∙◌, arith}
use Rattle.std.specs.Prelude.{flat_map}
use Rattle.std.proofs.lemmas.List.{append-nil}
use Rattle.meaning.specs.declared.answers.Moved.{Moved}
use Rattle.meaning.specs.declared.entry.Entry.{Entry}
use Rattle.layout.specs.Layout.{bytes_of}
use Rattle.layout.proofs.Records.{length-bytes}
use Rattle.meaning.specs.declared.refusal.Refusal.{Refusal}
use Rattle.meaning.specs.declared.reservation.Reservation.{Reservation}
use Rattle.meaning.specs.Numbers.{answer_of}
use Rattle.meaning.specs.declared.standing.Standing.{Standing}
use Rattle.scripts.specs.Told.{as_2, as_4, as_8, or_0, fate_number, told_moved, told_journal, told_account, told_reservation}

pub held_in_parts : (r : Reservation) (n d c a u : List ℕ) (f : ℕ) → n ≡ as_4 r.number → d ≡ as_4 r.debit → c ≡ as_4 r.credit → a ≡ as_8 r.amount → u ≡ as_8 r.deadline → f ≡ fate_number r.fate
    → 6 ∷ 1 ∷ (n ++ (d ++ (c ++ (a ++ (u ++ (f ∷ [])))))) ≡ told_reservation (Some r)
held_in_parts r n d c a u f en ed ec ea eu ef = rw (en, ed, ec, ea, eu, ef) refl

pub account_in_parts : (s : Standing) (n l m b p q v w : List ℕ) → n ≡ as_4 s.account.number → l ≡ as_2 s.account.ledger → m ≡ as_8 s.account.limit → b ≡ as_8 s.account.label → p ≡ as_8 s.debits_pending → q ≡ as_8 s.debits_posted → v ≡ as_8 s.credits_pending → w ≡ as_8 s.credits_posted
    → 5 ∷ 1 ∷ (n ++ (l ++ (s.account.class ∷ (m ++ (b ++ (p ++ (q ++ (v ++ (w ++ []))))))))) ≡ told_account (Some s)
account_in_parts s n l m b p q v w en el em eb ep eq ev ew = rw (en, el, em, eb, ep, eq, ev, ew) refl

pub moved_in_parts : (r : Result Moved Refusal) (lapses a b xs : List ℕ) → a ≡ as_8 (or_0 (λ (m : Moved). m.lapsed) r) → b ≡ as_8 (or_0 (λ (m : Moved). m.next_deadline) r) → xs ≡ flat_map as_4 lapses
    → 3 ∷ answer_of r ∷ (a ++ (b ++ (xs ++ []))) ≡ told_moved r lapses
moved_in_parts r lapses a b xs ea eb ex = rw (ea, eb, ex, append-nil (flat_map as_4 lapses)) refl

pub entries_long : (es : List Entry) → length (flat_map bytes_of es) ≡ length es * 48
entries_long [] = refl
entries_long (e ∷ es) = length-bytes e (flat_map bytes_of es) ∙ omega (arith, entries_long es)

pub journal_long : (es : List Entry) (spare : ℕ) → length (told_journal es spare) ≡ length es * 48 + 17
journal_long es spare = omega (arith, entries_long es)

pub journal_in_parts : (es : List Entry) (spare : ℕ) (a b : List ℕ) → a ≡ as_8 (length es) → b ≡ as_8 spare → (255 ∷ (a ++ (b ++ []))) ++ flat_map bytes_of es ≡ told_journal es spare
journal_in_parts es spare a b ea eb = rw (ea, eb) refl
