use Rattle.laws.proofs.Batching.{is_whole, leaves_no_trace, is_cut}
use Rattle.laws.proofs.Settling.{has_outcome}
use Rattle.laws.proofs.chains.batches_go_by_chains.Goals as goal

pub returns : goal.returns
returns c = record { outcome = has_outcome; whole = is_whole; no_trace = leaves_no_trace; cut = is_cut }
