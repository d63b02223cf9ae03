use Rattle.laws.proofs.Joining.{fall}
use Rattle.laws.proofs.chains.orders_fall_into_chains.Goals as goal

pub returns : goal.returns
returns c = fall
