use Rattle.std.proofs.Common.{refl}
use Rattle.laws.proofs.Passes.{reads_prefix}
use Rattle.laws.proofs.Totals.{stepwise}
use Rattle.laws.proofs.Fates.{fates_go_on}
use Rattle.laws.proofs.Once.{once}
use Rattle.laws.proofs.Balanced.{balanced}
use Rattle.laws.proofs.Admitted.{admitted}
use Rattle.laws.proofs.Writings.{opening_read, batch_read}
use Rattle.laws.proofs.Fits.{batch-fits}
use Rattle.laws.proofs.laws_hold.Goals as goal

pub returns : goal.returns
returns c = record {
  prefix = reads_prefix;
  totals = stepwise;
  fates = fates_go_on;
  once = once;
  balance = balanced;
  admitted = λ policy law. admitted policy law;
  writings = λ policy. record { by_nothing = refl; by_opening = opening_read policy; by_batch = λ J T spare os. batch_read policy T J spare os };
  fits = batch-fits;
}
