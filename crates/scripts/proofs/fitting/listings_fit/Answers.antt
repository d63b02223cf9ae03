use Rattle.scripts.proofs.Longest.{listing_fits}
use Rattle.scripts.proofs.fitting.listings_fit.Goals as goal

pub returns : goal.returns
returns c = listing_fits
