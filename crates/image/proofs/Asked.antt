-- Questions on the image are answered as journal and moment do.
use Rattle.std.proofs.Common.{ℕ, refl, ◌∙◌}
use Rattle.meaning.specs.declared.reservation.Reservation.{Reservation}
use Rattle.meaning.specs.Given.{Journal, accounts, reservations}
use Rattle.meaning.specs.Rules.{Policy}
use Rattle.meaning.specs.declared.standing.Standing.{Standing}
use Rattle.meaning.specs.Questions.{standing, with_fate}
use Rattle.laws.specs.Steps.{Reads}
use Rattle.laws.proofs.Numbered.{key, numbered}
use Rattle.laws.proofs.Known.{akey, known}
use Rattle.image.specs.Image.{oldest, Asks}
use Rattle.image.proofs.Oldest.{asked_found, find-oldest}

abbrev pub skey : Standing → ℕ
skey s = s.account.number

abbrev pub hkey : Reservation → ℕ
hkey r = r.number

pub asks : (policy : Policy) (J : Journal) → Reads policy J → (T : ℕ) → Asks J T
asks policy J h T = record {
  account = λ a. asked_found skey a (oldest (standing J T) (accounts J)) ∙ find-oldest (standing J T) akey skey (λ x. refl) a (accounts J) (known policy J h).apart;
  reservation = λ r. asked_found hkey r (oldest (with_fate J T) (reservations J)) ∙ find-oldest (with_fate J T) key hkey (λ x. refl) r (reservations J) (numbered policy J h).distinct;
}
