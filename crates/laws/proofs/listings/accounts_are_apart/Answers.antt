use Rattle.laws.proofs.Differing.{accounts_differ}
use Rattle.laws.proofs.Counting.{labelled}
use Rattle.laws.proofs.listings.accounts_are_apart.Goals as goal

pub returns : goal.returns
returns c = record { differ = accounts_differ; labelled = labelled }
