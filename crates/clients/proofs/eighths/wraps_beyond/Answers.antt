use Rattle.std.proofs.Common.{◌^◌, refl, arith}
use Rattle.std.proofs.lemmas.Bool.{both_ways}
use Rattle.clients.proofs.eighths.wraps_beyond.Goals as goal

-- eight times 2^61 wraps to 0, and is admitted; half of it is not
pub returns-clause-beyond : goal.returns-clause-beyond
returns-clause-beyond c = λ law. both_ways _ refl (law 0 0 (2 ^ 61) 0 0 0 (2 ^ 60) 0 refl (omega arith) (omega arith))
