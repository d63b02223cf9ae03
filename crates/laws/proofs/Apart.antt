-- The numbers of the accounts of a journal that reads differ, and so do those of its reservations.
use Rattle.meaning.specs.Given.{Journal, accounts, reservations}
use Rattle.meaning.specs.Rules.{Policy}
use Rattle.laws.specs.Steps.{Reads}
use Rattle.laws.specs.Kept.{Apart}
use Rattle.laws.proofs.Finds.{differ}
use Rattle.laws.proofs.Numbered.{key, numbered}
use Rattle.laws.proofs.Known.{akey, known}

pub apart : (policy : Policy) (J : Journal) → Reads policy J → Apart J
apart policy J h = record {
  accounts_differ = differ akey (accounts J) (known policy J h).apart;
  reservations_differ = differ key (reservations J) (numbered policy J h).distinct;
}
