use Rattle.std.proofs.Common.{refl}
use Rattle.meaning.specs.Labels.{is_label}
use Rattle.meaning.proofs.label.Label.unused.Goals as goal

pub invariant_of-result : goal.invariant_of-result
unfolding is_label
invariant_of-result c = record { ok = refl }
